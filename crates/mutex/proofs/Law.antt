-- The mutex is a lawful kind. Assumes nothing.
use mathlib.Core.Path.{◌≡◌, refl, sym}
use mathlib.Core.Bool.{Bool, true, false, cond, not}
use mathlib.Core.List.{List, [], ◌∷◌}
use Prim.Native.Nat.{ℕ, suc, ◌-◌, ◌<◌}
use native.Mathlib.Omega.{arith}
use lib.Dec.{ltb, eqb}
use borrow.Author.Tests.{lt-ltb, ltb-true, eq-eqb, eqb-true, eqb-false}
use Rattle.seq.specs.List.{any, All}
use Rattle.seq.proofs.Order.{clash}
use Rattle.thread.specs.Code.{ok, eperm, ebusy, edeadlk, eoverflow}
use Rattle.wait_queue.specs.Turn.{waits}
use Rattle.kind.specs.Verdict.{keep, park, Verdict, deny, allow}
use Rattle.kind.specs.Kind.{Lawful, Rightly, Distinct, Sound, Right}
use Rattle.mutex.specs.Mutex.{Owner, nobody, thread, Mutex, Call, lock, try_lock, unlock, release, held, Another, formed, max_count, released, locks, passes, unlocks, decide, Owed, new, mutex_kind}
use Rattle.mutex.proofs.Books.{books-right}
pub use Rattle.mutex.proofs.Books.{mk}

-- the numbers
pub free-fine : (c : ℕ) (w : Bool) → c ≡ 0 → w ≡ false → formed (mk nobody c) w ≡ true
free-fine c w h k = rw (eq-eqb c 0 h, k) refl

pub free-empty : (c : ℕ) (w : Bool) → formed (mk nobody c) w ≡ true → (c ≡ 0) × (w ≡ false)
free-empty c w f = go (eqb c 0) w refl f
  where
    go : (a b : Bool) → eqb c 0 ≡ a → cond a (not b) false ≡ true → (c ≡ 0) × (b ≡ false)
    go true true z h = clash (sym h)
    go true false z h = (eqb-true c 0 z, refl)
    go false b z h = clash (sym h)

-- nobody waits wrongly where nobody waits
none_right : (o : Owner) (q : List ℕ) → any q ≡ false → All (λ t. Another o t) q
none_right o [] e = tt
none_right o (t ∷ q) e = clash e

-- whether a lock is sound and right hangs on the verdict d on another's mutex
module _ (v : ℕ → Unit {0}) (q : List ℕ) (w : ℕ) where
  locks-sound : (o : Owner) (c : ℕ) (d : Verdict Mutex (Unit {0})) → formed (mk o c) (any q) ≡ true → Sound mutex_kind q d
      → Sound mutex_kind q (locks (mk o c) w d)
  locks-sound nobody c d f s = refl
  locks-sound (thread i) c d f s = go (eqb i w) (ltb c max_count)
    where
      go : (a b : Bool) → Sound mutex_kind q (cond a (cond b (allow (mk (thread i) (suc c)) keep ok) (deny eoverflow)) d)
      go true true = lt-ltb 0 (suc c) (omega arith)
      go true false = tt
      go false b = s

  locks-right : (k : Call) (o : Owner) (c : ℕ) (d : Verdict Mutex (Unit {0})) → formed (mk o c) (any q) ≡ true → Rightly mutex_kind (mk o c) v q
      → (Another o w → Right mutex_kind v q w k d) → Right mutex_kind v q w k (locks (mk o c) w d)
  locks-right k nobody c d f r s = none_right (thread w) q (free-empty c (any q) f).1
  locks-right k (thread i) c d f r s = go (eqb i w) (ltb c max_count) refl
    where
      go : (a b : Bool) → eqb i w ≡ a → Right mutex_kind v q w k (cond a (cond b (allow (mk (thread i) (suc c)) keep ok) (deny eoverflow)) d)
      go true true z = r
      go true false z = tt
      go false b z = s (eqb-false i w z)

-- the last unlock
passes-sound : (q : List ℕ) → Sound mutex_kind q (passes q)
passes-sound [] = refl
passes-sound (t ∷ q) = refl

passes-right : (v : ℕ → Unit {0}) (q : List ℕ) (w : ℕ) (k : Call) → Distinct q → Owed k ok → Right mutex_kind v q w k (passes q)
passes-right v [] w k a e = tt
passes-right v (t ∷ q) w k a e = (a.0, (e, tt))

module _ (v : ℕ → Unit {0}) (q : List ℕ) (w : ℕ) where
  unlocks-sound : (o : Owner) (c : ℕ) (d : Verdict Mutex (Unit {0})) → (1 < c → Sound mutex_kind q d) → Sound mutex_kind q (unlocks (mk o c) w q d)
  unlocks-sound nobody c d s = tt
  unlocks-sound (thread i) c d s = go (eqb i w) (ltb 1 c) refl
    where
      go : (a b : Bool) → ltb 1 c ≡ b → Sound mutex_kind q (cond a (cond b d (passes q)) (deny eperm))
      go true true z = s (ltb-true 1 c z)
      go true false z = passes-sound q
      go false b z = tt

  unlocks-right : (k : Call) → Distinct q → Owed k ok → (o : Owner) (c : ℕ) (d : Verdict Mutex (Unit {0})) → Right mutex_kind v q w k d
      → Right mutex_kind v q w k (unlocks (mk o c) w q d)
  unlocks-right k a e nobody c d s = tt
  unlocks-right k a e (thread i) c d s = go (eqb i w) (ltb 1 c)
    where
      go : (a b : Bool) → Right mutex_kind v q w k (cond a (cond b d (passes q)) (deny eperm))
      go true true = s
      go true false = passes-right v q w k a e
      go false b = tt

sound : (o : Owner) (c : ℕ) (v : ℕ → Unit {0}) (q : List ℕ) (w : ℕ) (k : Call) → formed (mk o c) (any q) ≡ true → Sound mutex_kind q (decide (mk o c) v q w k)
sound nobody c v q w lock f = refl
sound (thread i) c v q w lock f = locks-sound v q w (thread i) c (allow (mk (thread i) c) (park tt) waits) f f
sound o c v q w try_lock f = locks-sound v q w o c (deny ebusy) f tt
sound nobody c v q w unlock f = tt
sound (thread i) c v q w unlock f =
    unlocks-sound v q w (thread i) c (allow (mk (thread i) (c - 1)) keep released) (λ h. lt-ltb 0 (c - 1) (omega arith))
sound o c v q w release f = unlocks-sound v q w o c (deny edeadlk) (λ h. tt)

right : (o : Owner) (c : ℕ) (v : ℕ → Unit {0}) (q : List ℕ) (w : ℕ) (k : Call) → formed (mk o c) (any q) ≡ true → Distinct q → Rightly mutex_kind (mk o c) v q
    → Right mutex_kind v q w k (decide (mk o c) v q w k)
right o c v q w lock f a r = locks-right v q w lock o c (allow (mk o c) (park tt) waits) f r (λ e. (e, r))
right o c v q w try_lock f a r = locks-right v q w try_lock o c (deny ebusy) f r (λ e. tt)
right o c v q w unlock f a r = unlocks-right v q w unlock a refl o c (allow (mk o (c - 1)) keep released) r
right o c v q w release f a r = unlocks-right v q w release a refl o c (deny edeadlk) tt

nobody-waits : (o : Owner) (c : ℕ) → formed (mk o c) true ≡ true → formed (mk o c) false ≡ true
nobody-waits nobody c f = clash (free-empty c true f).1
nobody-waits (thread i) c f = f

made : (m : Mutex) → new m ≡ true → formed m false ≡ true
made m h = go m.owner (eqb m.count 0) refl h
  where
    go : (o : Owner) (b : Bool) → eqb m.count 0 ≡ b → cond (held o) false b ≡ true → formed (mk o m.count) false ≡ true
    go nobody true y z = rw y
    go nobody false y z = clash (sym z)
    go (thread i) b y z = clash (sym z)

pub mutex_lawful : Lawful mutex_kind
mutex_lawful =
    record {
      sound = λ n v q w k f. sound n.owner n.count v q w k f;
      right = λ n v q w k f a r. right n.owner n.count v q w k f a r;
      fewer = λ n f. nobody-waits n.owner n.count f;
      made = made;
      booked = λ n v q w k f. books-right n.owner n.count v q w k;
    }
