-- The futex is a lawful kind. Assumes nothing.
use mathlib.Core.Path.{◌≡◌, refl}
use mathlib.Core.Bool.{Bool, true, false, cond}
use mathlib.Core.List.{List, [], ◌∷◌}
use Prim.Native.Nat.{ℕ}
use lib.Dec.{eqb}
use Rattle.thread.specs.Code.{ok, eagain}
use Rattle.wait_queue.specs.Turn.{waits}
use Rattle.kind.specs.Verdict.{park, deny, allow}
use Rattle.kind.specs.Kind.{Lawful, Sound, Right, Booked}
use Rattle.kind.proofs.Picks.{all_of}
use Rattle.kind.specs.Object.{Object}
use Rattle.futex.specs.Futex.{Futex, Call, wait, wake_one, wake_all, set, decide, futex_kind}

abbrev pub mk : ℕ → Futex
mk x = record { val = x }

abbrev pub obj : ℕ → List ℕ → Object Futex
obj x q = record { num = mk x; queue = q }

sound : (x : ℕ) (v : ℕ → Unit {0}) (q : List ℕ) (w : ℕ) (k : Call) → Sound futex_kind q (decide (mk x) v q w k)
sound x v q w (wait y) = go (eqb x y)
  where
    go : (b : Bool) → Sound futex_kind q (cond b (allow (mk x) (park tt) waits) (deny eagain))
    go true = refl
    go false = tt
sound x v [] w wake_one = refl
sound x v (t ∷ q) w wake_one = refl
sound x v q w wake_all = refl
sound x v q w (set y) = refl

right : (x : ℕ) (v : ℕ → Unit {0}) (q : List ℕ) (w : ℕ) (k : Call) → Right futex_kind v q w k (decide (mk x) v q w k)
right x v q w (wait y) = go (eqb x y)
  where
    go : (b : Bool) → Right futex_kind v q w (wait y) (cond b (allow (mk x) (park tt) waits) (deny eagain))
    go true = (tt, all_of (λ t. Unit {0}) (λ t. tt) q)
    go false = tt
right x v [] w wake_one = tt
right x v (t ∷ q) w wake_one = (all_of (λ t. Unit {0}) (λ t. tt) q, (refl, tt))
right x v q w wake_all = (tt, all_of (λ t. ok ≡ ok) (λ t. refl) q)
right x v q w (set y) = all_of (λ t. Unit {0}) (λ t. tt) q

booked : (x : ℕ) (v : ℕ → Unit {0}) (q : List ℕ) (w : ℕ) (k : Call) → Booked futex_kind (mk x) q w k (decide (mk x) v q w k)
booked x v q w (wait y) = go (eqb x y) refl
  where
    go : (b : Bool) → eqb x y ≡ b → Booked futex_kind (mk x) q w (wait y) (cond b (allow (mk x) (park tt) waits) (deny eagain))
    go true z = rw z
    go false z = tt
booked x v [] w wake_one = refl
booked x v (t ∷ q) w wake_one = refl
booked x v q w wake_all = refl
booked x v q w (set y) = refl

pub futex_lawful : Lawful futex_kind
futex_lawful =
    record {
      sound = λ n v q w k f. sound n.val v q w k;
      right = λ n v q w k f d r. right n.val v q w k;
      fewer = λ n f. refl;
      made = λ n e. refl;
      booked = λ n v q w k f. booked n.val v q w k;
    }
