-- Runs of slabs, computed. Assumes nothing.
use mathlib.Core.Path.{◌≡◌, refl}
use mathlib.Core.Bool.{true, false}
use mathlib.Core.List.{List, [], ◌∷◌}
use lib.IntN.{ℤ, pos}
use Rattle.thread.specs.Code.{ok, enomem, einval}
use Rattle.store.specs.Store.{Reply, refuse, accept, reply}
use Rattle.store.specs.History.{Step, Ran, ran, begun, made}
use Rattle.store.specs.History as history
use Rattle.mem_slab.specs.Slab.{Slab, alloc, free, fresh}
use Rattle.mem_slab.specs.Post.{slab, place, fit, led, Starts}
use Rattle.mem_slab.specs.Blocks.{Call, alloc_call, free_call, does, Calls, Runs, held}
use Rattle.mem_slab.specs.History.{free_list}
use Rattle.mem_slab.specs.HandOver.{Ask, allocates, releases, counts}
use Rattle.mem_slab.proofs.New.{starts}
use native.Mathlib.Omega.{arith}

abbrev saw : Call → ℤ → Step Call
saw k a = record { call = k; answer = a; out = [] }

-- three blocks: all go out; one comes back, twice is once too often; the last that came back goes out first. The last call in front
abbrev steps : List (Step Call)
steps =
    saw (free_call 2) ok ∷ saw (free_call 0) ok ∷ saw (free_call 3) einval ∷ saw alloc_call (pos 1) ∷ saw (free_call 1) einval ∷ saw (free_call 1) ok
    ∷ saw alloc_call enomem ∷ saw alloc_call (pos 2) ∷ saw alloc_call (pos 1) ∷ saw alloc_call (pos 0) ∷ []

abbrev now : Slab
now = record { blocks = 3; size = 16; used = 1; next = 2; link = 1 ∷ 0 ∷ 1 ∷ [] }

pub happened : Ran does (fresh 16 3) steps now
happened =
    ran {k = free_call 2} [] [] (ran {k = free_call 0} [] [] (ran {k = free_call 3} [] [] (ran {k = alloc_call} [] [] (ran {k = free_call 1} [] []
    (ran {k = free_call 1} [] [] (ran {k = alloc_call} [] [] (ran {k = alloc_call} [] [] (ran {k = alloc_call} [] [] (ran {k = alloc_call} [] []
    history.fresh refl) refl) refl) refl) refl) refl) refl) refl) refl) refl

pub free_are : free_list now ≡ 2 ∷ 0 ∷ []
free_are = refl

-- in memory: init, an alloc, a free; a fifth word and a third link are not the slab's
pub inited : Starts 16 2 (9 ∷ 9 ∷ 9 ∷ 9 ∷ 9 ∷ []) (9 ∷ 9 ∷ 9 ∷ []) ok (2 ∷ 16 ∷ 0 ∷ 0 ∷ 9 ∷ []) (2 ∷ 1 ∷ 9 ∷ [])
inited = starts 16 2 (9 ∷ 9 ∷ 9 ∷ 9 ∷ 9 ∷ []) (9 ∷ 9 ∷ 9 ∷ []) (omega arith) (omega arith) (omega arith) (omega arith) (2 ∷ 1 ∷ 9 ∷ []) refl

pub gave : Calls alloc_call (2 ∷ 16 ∷ 0 ∷ 0 ∷ 9 ∷ []) (2 ∷ 1 ∷ 9 ∷ []) (pos 0) (2 ∷ 16 ∷ 1 ∷ 1 ∷ 9 ∷ []) (0 ∷ 1 ∷ 9 ∷ [])
gave = record { code = refl; after = record { formed = refl; object = refl; beside = refl; rest = refl; long = (refl, refl) } }

pub took : Calls (free_call 0) (2 ∷ 16 ∷ 1 ∷ 1 ∷ 9 ∷ []) (0 ∷ 1 ∷ 9 ∷ []) ok (2 ∷ 16 ∷ 0 ∷ 0 ∷ 9 ∷ []) (2 ∷ 1 ∷ 9 ∷ [])
took = record { code = refl; after = record { formed = refl; object = refl; beside = refl; rest = refl; long = (refl, refl) } }

pub made-two : Runs (2 ∷ 16 ∷ 0 ∷ 0 ∷ 9 ∷ []) (2 ∷ 1 ∷ 9 ∷ []) (saw (free_call 0) ok ∷ saw alloc_call (pos 0) ∷ []) (2 ∷ 16 ∷ 0 ∷ 0 ∷ 9 ∷ []) (2 ∷ 1 ∷ 9 ∷ [])
made-two = made [] [] (made [] [] begun gave refl) took refl

pub held-now : (held (saw alloc_call (pos 0) ∷ []) 0 ≡ true) × (held (saw (free_call 0) ok ∷ saw alloc_call (pos 0) ∷ []) 0 ≡ false)
held-now = (refl, refl)

-- links that nobody made: block 0 names itself. It goes out once; then the slab is malformed, and all is refused
abbrev first-call : Reply Slab
first-call = reply place (led alloc) (2 ∷ 16 ∷ 0 ∷ 0 ∷ []) (1 ∷ 1 ∷ [])

pub once-only : first-call ≡ accept (slab (2 ∷ 16 ∷ 1 ∷ 0 ∷ []) (0 ∷ 1 ∷ [])) (pos 0) []
once-only = refl

pub then-refused : (fit (2 ∷ 16 ∷ 1 ∷ 0 ∷ []) (0 ∷ 1 ∷ []) ≡ false) × (reply place (led (free 0)) (2 ∷ 16 ∷ 1 ∷ 0 ∷ []) (0 ∷ 1 ∷ []) ≡ refuse einval)
then-refused = (refl, refl)

-- one block, two that want it: the second waits, and has the block when it comes back
abbrev asks : List Ask
asks = allocates false ∷ allocates false ∷ []

pub second-waits : counts 1 asks ≡ record { out = 1; waiting = 1 }
second-waits = refl

pub handed-over : counts 1 (releases ∷ asks) ≡ record { out = 1; waiting = 0 }
handed-over = refl

pub refused-not : counts 1 (allocates true ∷ asks) ≡ record { out = 1; waiting = 1 }
refused-not = refl
