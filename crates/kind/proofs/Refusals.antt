-- What is said of refusals alone. Assumes nothing.
use mathlib.Core.Path.{◌≡◌, refl, sym, subst}
use mathlib.Core.Bool.{Bool, true, false, cond}
use mathlib.Core.List.{[], map}
use Prim.Native.Nat.{ℕ}
use lib.Dec.{ltb}
use lib.IntN.{ℤ, pos, negsuc}
use lib.ListN.{length}
use Rattle.thread.specs.Code.{enomem, ebusy, einval}
use Rattle.store.specs.Store.{Reply, refuse, accept, asked, Refused, Signed}
use Rattle.wait_queue.specs.Queue.{max_waiters, entry, ident, holds, joined}
use Rattle.wait_queue.specs.Turn.{waits}
use Rattle.kind.specs.Verdict.{Verdict, deny, allow, keep, park, wake}
use Rattle.kind.specs.Kind.{Kind, Lawful, Booked}
use Rattle.kind.specs.Object.{Object, queued, Caller, named, thread, name, code, carried, fine, call}
use Rattle.kind.proofs.Picks.{any-map}

-- an answer of 0 or more is none
pub served : (P : Type 0) (n : ℕ) (r : ℤ) → r ≡ pos n → Refused r P
served P n r e = subst (λ (x : ℤ). Refused x P) (sym e) tt

pub because : {P : Type 0} (r : ℤ) → P → Refused r P
because (pos n) p = tt
because (negsuc n) p = p

-- a call of a lawful kind
module _ (K : Kind) (law : Lawful K) (v : ℕ → K.Wish) (s : Object K.Num) where
  by-verdict : (w : Caller) (k : K.Call) (d : Verdict K.Num K.Wish) → Booked K s.num (map ident s.queue) (name w) k d → Signed (carried w d s)
  by-verdict w k (deny (pos r)) b = b
  by-verdict w k (deny (negsuc r)) b = tt
  by-verdict w k (allow m keep (pos r)) b = tt
  by-verdict w k (allow m keep (negsuc r)) b = b
  by-verdict (named i) k (allow m (park x) r) b = tt
  by-verdict (thread i p st) k (allow m (park x) r) b = go (holds (ident (entry p i)) s.queue) (ltb (length s.queue) max_waiters)
    where
      go : (a c : Bool) → Signed (queued m (cond a (refuse ebusy) (cond c (accept (joined (entry p i) s.queue) waits []) (refuse enomem))))
      go true c = tt
      go false true = tt
      go false false = tt
  by-verdict w k (allow m (wake p g) (pos r)) b = tt
  by-verdict w k (allow m (wake p g) (negsuc r)) b = b

  pub signed : (w : Caller) (k : K.Call) → Signed (call K v w k s)
  signed w k = go (fine K s) refl
    where
      barred : (z : ℤ) (y : Reply (Object K.Num)) → Signed y → Signed (asked z y)
      barred (pos c) y h = h
      barred (negsuc c) y h = tt

      go : (b : Bool) → fine K s ≡ b → Signed (cond b (asked (code w) (carried w (K.decide s.num v (map ident s.queue) (name w) k) s)) (refuse einval))
      go true f =
          barred (code w) _
          (by-verdict w k (K.decide s.num v (map ident s.queue) (name w) k) (law.booked s.num v (map ident s.queue) (name w) k (rw (any-map ident s.queue) f)))
      go false f = tt
