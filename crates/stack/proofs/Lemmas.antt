-- Upstream's lemmas. Assumes nothing.
use mathlib.Core.Path.{◌≡◌, refl, ap}
use mathlib.Core.List.{List, [], ◌∷◌}
use Prim.Native.Nat.{ℕ, suc, ◌-◌, ◌≤◌, ◌<◌}
use native.Mathlib.Omega.{arith}
use lib.Signed.{mag}
use lib.ListN.{length, drop}
use borrow.Author.Tests.{lt-ltb}
use Rattle.stack.specs.History.{Call, pushing, popping, next}
use Rattle.stack.specs.Upstream.{Inv, Inductive, PushPop, Conservation, FullRejects, EmptyRejects, PopPush}
use Rattle.stack.proofs.Memory.{may-is}
use Rattle.stack.proofs.Calls.{mk, push-some, push-none, pop-some, which}
use Rattle.stack.proofs.Upstream.{push-does, pop-does}

inv-next : (c : ℕ) (l p : List ℕ) (k : Call) → Inv (mk c l p) → Inv (next (mk c l p) k)
inv-next c l p (pushing x) i = (push-does i (which c l p (pushing x))).inv
inv-next c l p popping i = (pop-does i (which c l p popping)).inv

pub invariant_inductive : Inductive
invariant_inductive =
    record {
      init = λ c w e. record { some_room = (may-is c w e).0; within = omega arith };
      calls = λ s k i. inv-next s.capacity s.held s.spare k i;
    }

module _ (c : ℕ) (l p : List ℕ) where
  pub push-pop_roundtrip : (x : ℕ) → length l < c → PushPop (mk c l p) x
  push-pop_roundtrip x b =
      record {
        count = rw (lt-ltb (length l) c b, lt-ltb 0 (suc (length l)) (omega arith)) (omega arith);
        word = rw (push-some c l p x b, pop-some c l (drop 1 p) x);
        held = rw (push-some c l p x b, pop-some c l (drop 1 p) x);
      }

  pub capacity_conservation : length l ≤ c → Conservation (mk c l p)
  capacity_conservation b =
      record { sum = omega arith; answers = λ f u d y z v. omega (arith, ap mag y, ap mag z, ap mag v) }

  pub full_rejects_push : (x : ℕ) → length l ≡ c → FullRejects (mk c l p) x
  full_rejects_push x e = record { over = omega arith; refused = push-none c l p x (omega arith) }

pub empty_rejects_pop : (c : ℕ) (l p : List ℕ) → length l ≡ 0 → EmptyRejects (mk c l p)
empty_rejects_pop c [] p e = record { none_held = refl; refused = refl }
empty_rejects_pop c (y ∷ l) p e = absurd (omega arith)

pub pop-push_roundtrip : (c x : ℕ) (l p : List ℕ) → length (x ∷ l) ≤ c → PopPush (mk c (x ∷ l) p) x
pop-push_roundtrip c x l p b =
    record {
      count = let e : suc (length l) - 1 ≡ length l = omega arith in rw (lt-ltb 0 (suc (length l)) (omega arith), e, lt-ltb (length l) c b);
      same = rw (pop-some c l p x, push-some c l (x ∷ p) x b);
    }
