-- What the books keep holds of every object: a mutex is locked at most 2^32 - 1 times. Assumes nothing.
use mathlib.Core.Path.{◌≡◌, refl, sym, subst, ◌∙◌}
use mathlib.Core.Bool.{Bool, true, false, cond}
use mathlib.Core.Logic.{inl, inr}
use mathlib.Core.List.{List, [], ◌∷◌, ◌++◌, map}
use Prim.Native.Nat.{ℕ, ◌≤◌}
use native.Mathlib.Omega.{arith}
use lib.Dec.{eqb}
use lib.IntN.{ℤ}
use borrow.Author.Tests.{eqb-true}
use Rattle.seq.proofs.Order.{clash}
use Rattle.thread.specs.Code.{ok, einval}
use Rattle.kind.specs.Kind.{Kind, Lawful, Balance, balanced, impossible}
use Rattle.sem.specs.Sem.{sem_kind}
use Rattle.mutex.specs.Mutex.{Mutex, held, max_count, mutex_kind}
use Rattle.mutex.proofs.Books.{books-small}
use Rattle.system.specs.System as system
use Rattle.system.specs.System.{Slot, vacant, object, Sys, Op, invoke, both, dispatch, yield, expire, spawn, create, Answer, done, denied, Woken, Reply, accept, refuse, placed, step, after}
use Rattle.system.specs.Rules.{Start}
use Rattle.system.specs.Run.{Run, run}
use Rattle.system.specs.Ledger.{Note, made, called, settle, entered, ledger, noted, allowed, call_note, notes_of, notes}
use Rattle.system.specs.Sum.{Members, end, ◌&◌, balance, sum}
use Rattle.system.specs.Rtos.{kinds, rtos, a_mutex}
use Rattle.system.proofs.Rtos.{rtos_lawful}
use Rattle.system.proofs.Ledgers.{ledgers}

module _ (K : Kind) (Inv : K.Num → Type 0) (starts : (n : K.Num) → K.new n ≡ true → Inv n)
    (keeps : (n m : K.Num) (i : ℕ) (k : K.Call) (r : ℤ) (l : List ℕ) → Inv n → K.books n i k r l ≡ balanced m → Inv m) where
  abbrev Holds : Slot K.Num → Type 0
  Holds vacant = Unit {0}
  Holds (object n) = Inv n

  -- an object that is noted to be made may be made
  abbrev Sure : List (Note K) → Type 0
  Sure [] = Unit {0}
  Sure (made n ∷ l) = (K.new n ≡ true) × Sure l
  Sure (called i k r w ∷ l) = Sure l

  entered-holds : (i : ℕ) (k : K.Call) (r : ℤ) (w : List ℕ) (x : Slot K.Num) → Holds x → Holds (entered (λ n. K.books n i k r w) x)
  entered-holds i k r w vacant h = tt
  entered-holds i k r w (object n) h = go (K.books n i k r w) refl
    where
      go : (b : Balance K.Num) → K.books n i k r w ≡ b → Holds (settle b)
      go (balanced m) e = keeps n m i k r w h e
      go impossible e = tt

  ledger-holds : (l m : List (Note K)) → Sure l → Holds (ledger m) → Holds (ledger (l ++ m))
  ledger-holds [] m s h = h
  ledger-holds (made n ∷ l) m s h = starts n s.0
  ledger-holds (called i k r w ∷ l) m s h = entered-holds i k r w (ledger (l ++ m)) (ledger-holds l m s h)

  sure_both : (l m : List (Note K)) → Sure l → Sure m → Sure (l ++ m)
  sure_both [] m a b = b
  sure_both (made n ∷ l) m a b = (a.0, sure_both l m a.1 b)
  sure_both (called i k r w ∷ l) m a b = sure_both l m a b

  module _ (s : Sys K) (b : Start s) (o : ℕ) where
    abbrev R : Run K
    R = run step s

    call_sure : (past : List (Op K)) (i a : ℕ) (k : K.Call) → Sure (call_note R o past i a k)
    call_sure past i a k = go (eqb a o) (R.answer past (invoke i a k)) (map (λ (w : Woken). w.thread) (R.woken past (invoke i a k)))
      where
        go : (c : Bool) (z : Answer) (w : List ℕ) → Sure (cond c (noted {K = K} z (λ r. called i k r w)) [])
        go true (done r) w = tt
        go true (denied r) w = tt
        go false z w = tt

    notes_sure : (past : List (Op K)) (x : Op K) → Sure (notes_of R o past x)
    notes_sure past (invoke i a k) = call_sure past i a k
    notes_sure past (both i a j d k) = go (R.answer past (both i a j d k))
      where
        go : (z : Answer) → Sure (allowed z (call_note R o (invoke i a j ∷ past) i d k ++ call_note R o past i a j))
        go (done r) = sure_both (call_note R o (invoke i a j ∷ past) i d k) (call_note R o past i a j) (call_sure (invoke i a j ∷ past) i d k)
            (call_sure past i a j)
        go (denied r) = tt
    notes_sure past (dispatch i) = tt
    notes_sure past (yield i) = tt
    notes_sure past (expire i) = tt
    notes_sure past (spawn i p) = tt
    notes_sure past (create a n) = go (eqb a o) (system.free ((after s past).slot a)) (K.new n) refl
      where
        go : (c x y : Bool) → K.new n ≡ y
            → Sure (cond c (noted {K = K} (cond {A = Reply K} x (cond y (accept (placed (after s past) a n) ok) (refuse (after s past) einval))
            (refuse (after s past) einval)).1 (λ r. made n)) [])
        go true true true e = (e, tt)
        go true true false e = tt
        go true false y e = tt
        go false x y e = tt

    held_always : (past : List (Op K)) → Holds (ledger (notes R o past))
    held_always [] = tt
    held_always (x ∷ past) = ledger-holds (notes_of R o past x) (notes R o past) (notes_sure past x) (held_always past)

  pub always_holds : Lawful K → (s : Sys K) → Start s → (past : List (Op K)) (o : ℕ) (n : K.Num) → (after s past).slot o ≡ object n → Inv n
  always_holds law s b past o n h = subst Holds (sym (ledgers law s b past o) ∙ h) (held_always s b o past)

-- of a mutex
abbrev Small : rtos.Num → Type 0
Small (inl n) = Unit {0}
Small (inr (inl m)) = m.count ≤ max_count
Small (inr (inr n)) = Unit {0}

-- the kinds behind semaphores and mutexes
abbrev behind : Members → Members
behind end = end
behind (A & l) = l

abbrev others : Kind
others = (sum (behind (behind kinds))).kind

small-new : (n : rtos.Num) → rtos.new n ≡ true → Small n
small-new (inl n) e = tt
small-new (inr (inl m)) e = go (held m.owner) (eqb m.count 0) refl e
  where
    go : (a b : Bool) → eqb m.count 0 ≡ b → cond a false b ≡ true → m.count ≤ max_count
    go true b y z = clash (sym z)
    go false true y z = omega (arith, eqb-true m.count 0 y)
    go false false y z = clash (sym z)
small-new (inr (inr n)) e = tt

never : {n : rtos.Num} → impossible ≡ balanced n → Small n
never e = absurd (let z : ◌≡◌ {A = ℕ} 0 1 = cc in omega arith)

small_as : (m n : rtos.Num) → Small m → balanced m ≡ balanced n → Small n
small_as m n h e = let z : m ≡ n = cc in subst Small z h

deep : {N L : Type 0} (f : N → L) (g : L → rtos.Num) → ((n : N) → Small (g (f n))) → (x : Balance N) (m : rtos.Num)
    → balance g (balance f x) ≡ balanced m → Small m
deep f g h (balanced y) m e = small_as (g (f y)) m (h y) e
deep f g h impossible m e = never e

small-books : (n m : rtos.Num) (i : ℕ) (k : rtos.Call) (r : ℤ) (l : List ℕ) → Small n → rtos.books n i k r l ≡ balanced m → Small m
small-books (inl n) m i (inl k) r l h e = go (sem_kind.books n i k r l) e
  where
    go : (x : Balance sem_kind.Num) → balance inl x ≡ balanced m → Small m
    go (balanced y) e = small_as (inl y) m tt e
    go impossible e = never e
small-books (inl n) m i (inr k) r l h e = never e
small-books (inr n) m i (inl k) r l h e = never e
small-books (inr (inl n)) m i (inr (inl k)) r l h e = go (mutex_kind.books n i k r l) refl e
  where
    go : (x : Balance Mutex) → mutex_kind.books n i k r l ≡ x → balance {N = rtos.Num} inr (balance inl x) ≡ balanced m → Small m
    go (balanced y) z e = small_as (inr (inl y)) m (books-small n y h i k r l z) e
    go impossible z e = never e
small-books (inr (inl n)) m i (inr (inr k)) r l h e = never e
small-books (inr (inr n)) m i (inr (inl k)) r l h e = never e
small-books (inr (inr n)) m i (inr (inr k)) r l h e = deep inr inr (λ n. tt) (others.books n i k r l) m e

pub mutex-limit : (s : Sys rtos) → Start s → (past : List (Op rtos)) (o : ℕ) (m : Mutex) → (after s past).slot o ≡ object (a_mutex m) → m.count ≤ max_count
mutex-limit s b past o m h = always_holds rtos Small small-new small-books rtos_lawful s b past o (a_mutex m) h
