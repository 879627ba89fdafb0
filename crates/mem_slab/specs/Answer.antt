-- The numbers of a slab that is as it should be; and what is decided: the number that C is told, and how many blocks are out then, of used.
use Rattle.std.specs.Prelude.{cond, List, ℕ, ℤ, get_or, Result, Ok, Err}
use Rattle.thread.specs.Code.{ok}
use Rattle.thread.specs.declared.Errno.{Errno}
use Rattle.thread.specs.declared.Errno.TheVariants.{EINVAL}
use Rattle.mem_slab.specs.declared.Numbers.{Numbers}
use Rattle.mem_slab.specs.declared.AllocDecision.{AllocDecision}
use Rattle.mem_slab.specs.declared.AllocDecision.TheVariants as to_alloc
use Rattle.mem_slab.specs.declared.FreeDecision.{FreeDecision}
use Rattle.mem_slab.specs.declared.FreeDecision.TheVariants as to_free
use Rattle.mem_slab.specs.Slab.{waits, woke}
use Rattle.mem_slab.specs.Post.{fit}

abbrev pub numbers : List ℕ → List ℕ → Result Numbers Errno
numbers h l = cond (fit h l) (Ok (record { blocks = get_or h 0 0; size = get_or h 1 0; used = get_or h 2 0; next = get_or h 3 0 })) (Err EINVAL)

abbrev pub alloc_number : AllocDecision → ℤ
alloc_number (to_alloc.Alloc n) = ok
alloc_number to_alloc.Pend = waits

abbrev pub alloc_used : ℕ → AllocDecision → ℕ → ℕ
alloc_used used (to_alloc.Alloc n) m = n
alloc_used used to_alloc.Pend m = used

abbrev pub free_number : FreeDecision → ℤ
free_number (to_free.Free n) = ok
free_number to_free.WakeThread = woke

abbrev pub free_used : ℕ → FreeDecision → ℕ → ℕ
free_used used (to_free.Free n) m = n
free_used used to_free.WakeThread m = used
