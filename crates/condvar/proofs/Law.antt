-- The condition variable is a lawful kind. Assumes nothing.
use mathlib.Core.Path.{◌≡◌, refl}
use mathlib.Core.List.{List, [], ◌∷◌}
use Prim.Native.Nat.{ℕ}
use Rattle.thread.specs.Code.{ok}
use Rattle.kind.specs.Kind.{Lawful, Sound, Right, Booked}
use Rattle.kind.proofs.Picks.{all_of}
use Rattle.condvar.specs.Condvar.{Call, signal, broadcast, wait, try_wait, decide, condvar_kind}

sound : (v : ℕ → Unit {0}) (q : List ℕ) (w : ℕ) (k : Call) → Sound condvar_kind q (decide tt v q w k)
sound v [] w signal = refl
sound v (t ∷ q) w signal = refl
sound v q w broadcast = refl
sound v q w wait = refl
sound v q w try_wait = tt

right : (v : ℕ → Unit {0}) (q : List ℕ) (w : ℕ) (k : Call) → Right condvar_kind v q w k (decide tt v q w k)
right v [] w signal = tt
right v (t ∷ q) w signal = (all_of (λ t. Unit {0}) (λ t. tt) q, (refl, tt))
right v q w broadcast = (tt, all_of (λ t. ok ≡ ok) (λ t. refl) q)
right v q w wait = (tt, all_of (λ t. Unit {0}) (λ t. tt) q)
right v q w try_wait = tt

booked : (v : ℕ → Unit {0}) (q : List ℕ) (w : ℕ) (k : Call) → Booked condvar_kind tt q w k (decide tt v q w k)
booked v [] w signal = refl
booked v (t ∷ q) w signal = refl
booked v q w broadcast = refl
booked v q w wait = refl
booked v q w try_wait = tt

pub condvar_lawful : Lawful condvar_kind
condvar_lawful =
    record {
      sound = λ n v q w k f. sound v q w k;
      right = λ n v q w k f d r. right v q w k;
      fewer = λ n f. refl;
      made = λ n e. refl;
      booked = λ n v q w k f. booked v q w k;
    }
