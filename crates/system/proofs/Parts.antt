-- An object of a part of the system does what its kind says. Assumes nothing.
use mathlib.Core.Path.{◌≡◌, refl, ap, ◌∙◌}
use mathlib.Core.Bool.{Bool, true, false, cond}
use mathlib.Core.List.{List, map}
use Prim.Native.Nat.{ℕ}
use lib.IntN.{ℤ, pos, negsuc}
use Rattle.seq.specs.List.{any}
use Rattle.thread.specs.Code.{einval}
use Rattle.store.specs.Store.{Reply, refuse, accept, carry, asked}
use Rattle.wait_queue.specs.Queue.{entry, ident}
use Rattle.wait_queue.specs.Turn.{parked}
use Rattle.kind.specs.Verdict.{keep, park, wake, Verdict, deny, allow}
use Rattle.kind.specs.Kind.{Kind}
use Rattle.kind.specs.Object.{Object, queued, Caller, named, thread, name, code, carried, joins, fine, call}
use Rattle.system.specs.Part.{Part}
use Rattle.system.specs.Sum.{mapped}
use Rattle.system.proofs.Sheets.{Fits}

-- the same object, its numbers those of an object of the system
abbrev pub recast : {M N : Type 0} → (M → N) → Object M → Object N
recast f s = record { num = f s.num; queue = s.queue }

abbrev pub wrapped : {M N : Type 0} → (M → N) → Reply (Object M) → Reply (Object N)
wrapped f y = carry (recast f) y

queued_as : {M N : Type 0} (f : M → N) (m : M) (y : Reply (List ℕ)) → queued (f m) y ≡ wrapped f (queued m y)
queued_as f m (refuse r) = refl
queued_as f m (accept q r o) = refl

joins_as : {M N : Type 0} (f : M → N) (w : Caller) (m : M) (s : Object M) → joins w (f m) (recast f s) ≡ wrapped f (joins w m s)
joins_as f (named i) m s = refl
joins_as f (thread i p st) m s = queued_as f m (parked (entry p i) s.queue)

carried_as : {M N X Y : Type 0} (f : M → N) (g : X → Y) (w : Caller) (d : Verdict M X) (s : Object M)
    → carried w (mapped f g d) (recast f s) ≡ wrapped f (carried w d s)
carried_as f g w (deny r) s = refl
carried_as f g w (allow m keep r) s = refl
carried_as f g w (allow m (park x) r) s = joins_as f w m s
carried_as f g w (allow m (wake p h) r) s = refl

asked_as : {M N : Type 0} (f : M → N) (b : Bool) (c : ℤ) (x : Reply (Object N)) (y : Reply (Object M)) → x ≡ wrapped f y
    → cond b (asked c x) (refuse einval) ≡ wrapped f (cond b (asked c y) (refuse einval))
asked_as f true (pos c) x y z = z
asked_as f true (negsuc c) x y z = refl
asked_as f false c x y z = refl

pub call-part : {A K : Kind} (P : Part A K) → Fits P → (v : ℕ → K.Wish) (w : Caller) (k : A.Call) (s : Object A.Num)
    → call K v w (P.call k) (recast P.num s) ≡ wrapped P.num (call A (λ t. P.seen (v t)) w k s)
call-part {A} {K} P h v w k s =
    rw (h.formed s.num (any s.queue))
    (asked_as P.num (fine A s) (code w) _ _
    (ap (λ (d : Verdict K.Num K.Wish). carried w d (recast P.num s)) (h.decides s.num v (map ident s.queue) (name w) k)
    ∙ carried_as P.num P.wish w (A.decide s.num (λ t. P.seen (v t)) (map ident s.queue) (name w) k) s))
