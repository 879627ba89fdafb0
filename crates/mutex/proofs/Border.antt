-- What the decide functions refuse follows from their contracts. Assumes nothing.
use mathlib.Core.Path.{◌≡◌, refl, sym, ◌∙◌}
use mathlib.Core.Bool.{Bool, true, false}
use mathlib.Core.Logic.{◌⊎◌, inl, inr}
use mathlib.Core.List.{[]}
use Prim.Native.Nat.{ℕ, ◌≤◌, ◌<◌}
use native.Mathlib.Omega.{arith}
use lib.Dec.{ltb}
use lib.IntN.{ℤ}
use borrow.Author.Tests.{lt-ltb, le-ltb, ltb-true, ltb-false}
use Rattle.seq.proofs.Order.{clash}
use Rattle.thread.specs.Code.{einval, eoverflow}
use Rattle.store.specs.Store.{Refused}
use Rattle.kind.proofs.Refusals.{served, because}
use Rattle.mutex.specs.Mutex.{max_count}
use Rattle.mutex.specs.Post.{LockDecided, UnlockDecided}
use Rattle.mutex.specs.Border.{Demands, LockReason, LockRefuses, UnlockRefuses, Border}
use Rattle.mutex.proofs.Upstream.{lock_decide_lem, lock-decide-refuses, unlock_decide_lem, unlock-decide-refuses}

-- what is not as upstream demands is one of two
malformed : (c : ℕ) (n : Bool) → (Demands c n → ⊥) → ((n ≡ true) × (0 < c)) ⊎ ((n ≡ false) × (c ≡ 0))
malformed c n d = go n (ltb 0 c) refl refl
  where
    go : (m b : Bool) → n ≡ m → ltb 0 c ≡ b → ((n ≡ true) × (0 < c)) ⊎ ((n ≡ false) × (c ≡ 0))
    go true true p q = inl (p, ltb-true 0 c q)
    go true false p q = absurd (d (record { free = λ z. omega (arith, ltb-false 0 c q); owned = λ z. clash (sym p ∙ z) }))
    go false true p q = absurd (d (record { free = λ z. clash (sym z ∙ p); owned = λ z. ltb-true 0 c q }))
    go false false p q = inr (p, omega (arith, ltb-false 0 c q))

past : (c : ℕ) (n u w : Bool) (r : ℤ) → LockDecided c n u w r → n ≡ false → u ≡ true → max_count ≤ c → r ≡ eoverflow
past c true u w r d p q k = clash p
past c false false w r d p q k = clash (sym q)
past c false true true r d p q k = d 0 1 [] (λ z. absurd (omega arith)) refl ∙ rw (lt-ltb 0 c (omega arith), le-ltb c max_count k)
past c false true false r d p q k = d 0 1 [] (λ z. absurd (omega arith)) refl ∙ rw (lt-ltb 0 c (omega arith), le-ltb c max_count k)

locks : (c : ℕ) (n u w : Bool) (r : ℤ) → LockDecided c n u w r → LockRefuses c n u w r
locks c n u w r d =
    record {
      ownerless = λ p k. lock-decide-refuses c n u w r (inl (p, k)) d;
      countless = λ p k. lock-decide-refuses c n u w r (inr (p, k)) d;
      overflow = past c n u w r d;
      busy = λ p k. (lock_decide_lem c n u w r (λ z. clash (sym z ∙ p)) (λ z. k) d).blocks p;
      only = by n u w d (ltb 0 c) (ltb c max_count) refl refl;
      outside = λ o. lock-decide-refuses c n u w r (malformed c n o) d;
    }
  where
    by : (m v x : Bool) → LockDecided c m v x r → (y z : Bool) → ltb 0 c ≡ y → ltb c max_count ≡ z → Refused r (LockReason c m v x)
    by true v x e true z p q = because r (inl (refl, ltb-true 0 c p))
    by true v x e false z p q = served _ 0 r ((lock_decide_lem c true v x r (λ i. omega (arith, ltb-false 0 c p)) (λ i. clash i) e).acquires refl)
    by false v x e false z p q = because r (inr (inl (refl, omega (arith, ltb-false 0 c p))))
    by false true x e true false p q = because r (inr (inr (inl (refl, refl, ltb-false c max_count q))))
    by false true x e true true p q =
        served _ 2 r ((lock_decide_lem c false true x r (λ i. clash (sym i)) (λ i. ltb-true 0 c p) e).enters refl refl (ltb-true c max_count q))
    by false false true e true z p q = because r (inr (inr (inr (refl, refl, refl))))
    by false false false e true z p q = served _ 1 r ((lock_decide_lem c false false false r (λ i. clash (sym i)) (λ i. ltb-true 0 c p) e).pends refl refl refl)

unlocks : (c : ℕ) (n u : Bool) (r : ℤ) → UnlockDecided c n u r → UnlockRefuses c n u r
unlocks c n u r d =
    record {
      nobodys = nobody;
      countless = empty n d;
      anothers = λ p k. (unlock_decide_lem c n u r (λ z. k) d).other p;
      only = by n u d (ltb 0 c) (ltb 1 c) refl refl;
      outside = λ o. away (malformed c n o);
    }
  where
    nobody : n ≡ true → r ≡ einval
    nobody p = (unlock_decide_lem c n u r (λ z. clash (sym p ∙ z)) d).free p

    empty : (m : Bool) → UnlockDecided c m u r → m ≡ false → c ≡ 0 → r ≡ einval
    empty true e p k = clash p
    empty false e p k = unlock-decide-refuses c u r k e

    away : ((n ≡ true) × (0 < c)) ⊎ ((n ≡ false) × (c ≡ 0)) → r ≡ einval
    away (inl z) = nobody z.0
    away (inr z) = empty n d z.0 z.1

    by : (m v : Bool) → UnlockDecided c m v r → (y z : Bool) → ltb 0 c ≡ y → ltb 1 c ≡ z → Refused r ((m ≡ true) ⊎ (c ≡ 0) ⊎ (v ≡ false))
    by true v e y z p q = because r (inl refl)
    by false v e false z p q = because r (inr (inl (omega (arith, ltb-false 0 c p))))
    by false false e true z p q = because r (inr (inr refl))
    by false true e true true p q = served _ 0 r ((unlock_decide_lem c false true r (λ i. ltb-true 0 c p) e).nested refl refl (ltb-true 1 c q))
    by false true e true false p q = served _ 1 r ((unlock_decide_lem c false true r (λ i. ltb-true 0 c p) e).last refl refl (ltb-false 1 c q))

pub border : Border
border = record { lock_decide = locks; unlock_decide = unlocks }
