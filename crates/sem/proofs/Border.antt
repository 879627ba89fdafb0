-- What the decide functions refuse follows from their contracts. Assumes nothing.
use mathlib.Core.Path.{◌≡◌, refl, sym}
use mathlib.Core.Bool.{Bool, true, false}
use mathlib.Core.Logic.{inl, inr}
use Prim.Native.Nat.{ℕ, ◌<◌}
use native.Mathlib.Omega.{arith}
use lib.Dec.{ltb, leb}
use lib.IntN.{ℤ}
use borrow.Author.Tests.{ltb-true, ltb-false, leb-true, leb-false}
use Rattle.seq.proofs.Order.{clash}
use Rattle.thread.specs.Code.{einval}
use Rattle.store.specs.Store.{Refused}
use Rattle.kind.proofs.Refusals.{served, because}
use Rattle.sem.specs.Post.{GiveDecided, TakeDecided}
use Rattle.sem.specs.Upstream.{GiveDecide}
use Rattle.sem.specs.Border.{GiveDemands, GiveReason, GiveRefuses, TakeRefuses, Border}
use Rattle.sem.proofs.Law.{no_limit, over, mixed}
use Rattle.sem.proofs.Upstream.{give_decide_lem, decide-refuses, take_decide_lem}

gives : (c l : ℕ) (w : Bool) (r : ℤ) → GiveDecided c l w r → GiveRefuses c l w r
gives c l w r d =
    record {
      unlimited = none;
      over = above;
      idle = crowded w d;
      only = by w d (ltb 0 l) (leb c l) (ltb 0 c) refl refl refl;
      outside = λ n. away n (ltb 0 l) (leb c l) refl refl;
    }
  where
    none : l ≡ 0 → r ≡ einval
    none z = decide-refuses c l w r (no_limit c l w z) d

    above : l < c → r ≡ einval
    above z = decide-refuses c l w r (over c l w z) d

    crowded : (u : Bool) → GiveDecided c l u r → u ≡ true → 0 < c → r ≡ einval
    crowded true e q z = decide-refuses c l true r (mixed c l z) e
    crowded false e q z = clash (sym q)

    away : (GiveDemands c l → ⊥) → (x y : Bool) → ltb 0 l ≡ x → leb c l ≡ y → r ≡ einval
    away n false y p q = none (omega (arith, ltb-false 0 l p))
    away n true false p q = above (leb-false c l q)
    away n true true p q = absurd (n (record { limited = ltb-true 0 l p; under = leb-true c l q }))

    by : (u : Bool) → GiveDecided c l u r → (x y z : Bool) → ltb 0 l ≡ x → leb c l ≡ y → ltb 0 c ≡ z → Refused r (GiveReason c l u)
    by u e false y z p q s = because r (inl (omega (arith, ltb-false 0 l p)))
    by u e true false z p q s = because r (inr (inl (leb-false c l q)))
    by true e true true true p q s = because r (inr (inr (refl, ltb-true 0 c s)))
    by true e true true false p q s =
        served _ 0 r ((give_decide_lem c l true r (ltb-true 0 l p) (leb-true c l q) (λ i. omega (arith, ltb-false 0 c s)) e).wakes refl)
    by false e true true z p q s = room (ltb c l) refl
      where
        g : GiveDecide c l false r
        g = give_decide_lem c l false r (ltb-true 0 l p) (leb-true c l q) (λ j. clash (sym j)) e

        room : (b : Bool) → ltb c l ≡ b → Refused r (GiveReason c l false)
        room true i = served _ 1 r (g.increments refl (ltb-true c l i))
        room false i = served _ 2 r (g.saturates refl (ltb-false c l i))

takes : (c : ℕ) (w : Bool) (r : ℤ) → TakeDecided c w r → TakeRefuses c w r
takes c w r d = let t = take_decide_lem c w r d in record { busy = t.blocks; only = by w d (ltb 0 c) refl; outside = t.acquires }
  where
    by : (u : Bool) → TakeDecided c u r → (z : Bool) → ltb 0 c ≡ z → Refused r ((c ≡ 0) × (u ≡ true))
    by u e true s = served _ 0 r ((take_decide_lem c u r e).acquires (ltb-true 0 c s))
    by true e false s = because r (omega (arith, ltb-false 0 c s), refl)
    by false e false s = served _ 1 r ((take_decide_lem c false r e).pends (omega (arith, ltb-false 0 c s)) refl)

pub border : Border
border = record { give_decide = gives; take_decide = takes }
