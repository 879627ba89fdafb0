-- The books of a mutex are right: what a call leaves is what its answer, and whom it woke, tell. Assumes nothing.
use mathlib.Core.Path.{◌≡◌, refl, subst}
use mathlib.Core.Bool.{Bool, true, false, cond}
use mathlib.Core.List.{List, [], ◌∷◌}
use Prim.Native.Nat.{ℕ, suc, ◌-◌, ◌≤◌}
use native.Mathlib.Omega.{arith}
use lib.Dec.{ltb, eqb}
use lib.IntN.{ℤ, pos, negsuc}
use borrow.Author.Tests.{ltb-true}
use Rattle.thread.specs.Code.{ok, eperm, ebusy, edeadlk, eoverflow}
use Rattle.wait_queue.specs.Turn.{waits}
use Rattle.kind.specs.Verdict.{keep, park, Verdict, deny, allow}
use Rattle.kind.specs.Kind.{Booked, balanced, impossible}
use Rattle.mutex.specs.Mutex.{Owner, nobody, thread, Mutex, Call, lock, try_lock, unlock, release, held, owns, max_count, released, free, taken, counting, locks, passes, unlocks, decide, locked_by, handed_to, unlocked_by, books, mutex_kind}

abbrev pub mk : Owner → ℕ → Mutex
mk o c = record { owner = o; count = c }

module _ (q : List ℕ) (w : ℕ) where
  -- a lock, with the verdict d on another's
  locks-booked : (k : Call) (o : Owner) (c : ℕ) (d : Verdict Mutex (Unit {0}))
      → (owns w o ≡ false → (i : ℕ) → o ≡ thread i → Booked mutex_kind (mk o c) q w k d)
      → (mutex_kind.books (mk o c) w k ok [] ≡ mutex_kind.books (mk o c) w lock ok []) → Booked mutex_kind (mk o c) q w k (locks (mk o c) w d)
  locks-booked k nobody c d h e = e
  locks-booked k (thread i) c d h e = go (eqb i w) (ltb c max_count) refl refl
    where
      go : (a b : Bool) → eqb i w ≡ a → ltb c max_count ≡ b
          → Booked mutex_kind (mk (thread i) c) q w k (cond a (cond b (allow (mk (thread i) (suc c)) keep ok) (deny eoverflow)) d)
      go true true y z = rw (e, y, z)
      go true false y z = tt
      go false b y z = h y i refl

  -- an unlock, with the verdict d on one that is locked more than once
  unlocks-booked : (k : Call) (o : Owner) (c : ℕ) (d : Verdict Mutex (Unit {0})) → (owns w o ≡ true → ltb 1 c ≡ true → Booked mutex_kind (mk o c) q w k d)
      → (owns w o ≡ true → Booked mutex_kind (mk o c) q w k (passes q)) → Booked mutex_kind (mk o c) q w k (unlocks (mk o c) w q d)
  unlocks-booked k nobody c d h p = tt
  unlocks-booked k (thread i) c d h p = go (eqb i w) (ltb 1 c) refl refl
    where
      go : (a b : Bool) → eqb i w ≡ a → ltb 1 c ≡ b → Booked mutex_kind (mk (thread i) c) q w k (cond a (cond b d (passes q)) (deny eperm))
      go true true y z = h y z
      go true false y z = p y
      go false b y z = tt

-- the last one
passed : (o : Owner) (c : ℕ) (q : List ℕ) (w : ℕ) → owns w o ≡ true
    → Booked mutex_kind (mk o c) q w unlock (passes q) × Booked mutex_kind (mk o c) q w release (passes q)
passed o c [] w e = (rw e, rw e)
passed o c (t ∷ q) w e = (rw e, rw e)

pub books-right : (o : Owner) (c : ℕ) (v : ℕ → Unit {0}) (q : List ℕ) (w : ℕ) (k : Call) → Booked mutex_kind (mk o c) q w k (decide (mk o c) v q w k)
books-right o c v q w lock =
    locks-booked q w lock o c (allow (mk o c) (park tt) waits) (λ e i z. rw (z, (rw z at e))) refl
books-right o c v q w try_lock = locks-booked q w try_lock o c (deny ebusy) (λ e i z. tt) refl
books-right o c v q w unlock =
    unlocks-booked q w unlock o c (allow (mk o (c - 1)) keep released) (λ y z. rw (y, z)) (λ y. (passed o c q w y).0)
books-right o c v q w release = unlocks-booked q w release o c (deny edeadlk) (λ y z. tt) (λ y. (passed o c q w y).1)

-- no more locks than there can be
module _ (m y : Mutex) (h : m.count ≤ max_count) where
  was : (n : Mutex) → n.count ≤ max_count → balanced n ≡ balanced y → y.count ≤ max_count
  was n l e = let z : n ≡ y = cc in subst (λ (x : Mutex). x.count ≤ max_count) z l

  never : impossible ≡ balanced y → y.count ≤ max_count
  never e = absurd (let z : ◌≡◌ {A = ℕ} 0 1 = cc in omega arith)

  locked-small : (w : ℕ) (r : ℤ) → locked_by m w r ≡ balanced y → y.count ≤ max_count
  locked-small w (negsuc r) e = never e
  locked-small w (pos r) e = go (held m.owner) (owns w m.owner) (eqb r 0) (ltb m.count max_count) refl e
    where
      go : (a b c d : Bool) → ltb m.count max_count ≡ d
          → cond a (cond b (cond c (cond d (balanced (counting (suc m.count) m)) impossible) impossible) (cond c impossible (balanced m)))
          (cond c (balanced (taken w)) impossible) ≡ balanced y
          → y.count ≤ max_count
      go true true true true z e = was (counting (suc m.count) m) (ltb-true m.count max_count z) e
      go true true true false z e = never e
      go true true false d z e = never e
      go true false true d z e = never e
      go true false false d z e = was m h e
      go false b true d z e = was (taken w) (omega arith) e
      go false b false d z e = never e

  handed-small : (l : List ℕ) → handed_to l ≡ balanced y → y.count ≤ max_count
  handed-small [] e = was free (omega arith) e
  handed-small (t ∷ l) e = was (taken t) (omega arith) e

  unlocked-small : (w : ℕ) (r : ℤ) (l : List ℕ) → unlocked_by m w r l ≡ balanced y → y.count ≤ max_count
  unlocked-small w (negsuc r) l e = never e
  unlocked-small w (pos r) l e = go (owns w m.owner) (eqb r 0) (ltb 1 m.count) e
    where
      go : (a b c : Bool) → cond a (cond b (cond c (balanced (counting (m.count - 1) m)) impossible) (handed_to l)) impossible ≡ balanced y
          → y.count ≤ max_count
      go true true true e = was (counting (m.count - 1) m) (omega arith) e
      go true true false e = never e
      go true false c e = handed-small l e
      go false b c e = never e

  pub books-small : (w : ℕ) (k : Call) (r : ℤ) (l : List ℕ) → books m w k r l ≡ balanced y → y.count ≤ max_count
  books-small w lock r l e = locked-small w r e
  books-small w try_lock r l e = locked-small w r e
  books-small w unlock r l e = unlocked-small w r l e
  books-small w release r l e = unlocked-small w r l e
