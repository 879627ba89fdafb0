-- Upstream's init, the functions that only read, and the decide functions. Assumes nothing.
use mathlib.Core.Path.{◌≡◌, refl, sym, subst, ◌∙◌}
use mathlib.Core.Bool.{Bool, true, false, cond}
use mathlib.Core.Logic.{inl, inr}
use mathlib.Core.List.{List}
use Prim.Native.Nat.{ℕ, ◌≤◌, ◌<◌}
use native.Mathlib.Omega.{arith}
use native.Mathlib.Numerals.{add-one}
use lib.Dec.{eqb, ltb, leb}
use lib.IntN.{ℤ, pos}
use lib.ListN.{length, get_or}
use borrow.Author.Tests.{eqb-true, eqb-false, le-leb, ltb-true, ltb-false}
use Rattle.seq.proofs.Order.{cond_same}
use Rattle.thread.specs.Upstream.{Tells}
use Rattle.thread.specs.Code.{einval, ok}
use Rattle.store.specs.Store.{looks}
use Rattle.store.proofs.Laws.{decided, declined, looks-is, looks_bad, no_code}
use Rattle.stack.specs.Stack.{Stack, used, free, size, full, empty, right, may}
use Rattle.stack.specs.Post.{PushDecided, PopDecided, Starts, CountsFree, CountsUsed, GetsCapacity, SaysFull, SaysEmpty, place}
use Rattle.stack.specs.History.{depth}
use Rattle.stack.specs.Upstream.{Inv, Housed, NumFree, NumUsed, IsFull, IsEmpty, Capacity, Init, PushDecide, PopDecide}
use Rattle.stack.proofs.Numbers.{push-wakes, push-full, push-stores, pop-takes, pop-busy, pop-pends}
use Rattle.stack.proofs.Upstream.{inv-formed}

-- upstream is lent no memory: here there has to be a header and memory for all
module _ (h w : List ℕ) (c : ℕ) (r : ℤ) (h' : List ℕ) (s : Starts c h w r h') where
  pub stack-init : 2 ≤ length h → c ≤ length w → Init c r (place.object h' w)
  stack-init a b = go (ltb 0 c) refl
    where
      go : (t : Bool) → ltb 0 c ≡ t → Init c r (place.object h' w)
      go true e =
          let k : r ≡ ok = s.code ∙ rw (le-leb 2 (length h) a, e, le-leb c (length w) b) in
          let o = (s.made k).object in
          subst (λ (t : Stack). Init c r t) (sym o)
          (record {
            inv = λ z. record { some_room = ltb-true 0 c e; within = omega arith };
            count = λ z. refl;
            room = λ z. refl;
            code = λ f. absurd (f k);
            refused = λ f. absurd (f k);
          })
      go false e =
          let k : r ≡ einval = s.code ∙ rw (le-leb 2 (length h) a, e) in
          record {
            inv = λ z. absurd (no_code (sym z ∙ k));
            count = λ z. absurd (no_code (sym z ∙ k));
            room = λ z. absurd (no_code (sym z ∙ k));
            code = λ f. k;
            refused = λ f. omega (arith, ltb-false 0 c e);
          }

  pub init-refuses : may c w ≡ false → (r ≡ einval) × (h' ≡ h)
  init-refuses e =
      let k : r ≡ einval = s.code ∙ rw e (cond_same (leb 2 (length h)) einval) in
      (k, (s.kept 21 k).0)

-- on plain numbers
module _ (n c m : ℕ) (r : ℤ) (m' : ℕ) where
  pub push_decide_lem : (b : Bool) → 0 < c → n ≤ c → (b ≡ true → n ≡ 0) → PushDecided n c b m r m' → PushDecide n c b m r m'
  push_decide_lem b a k z d =
      record {
        wakes = λ e. (decided (push-wakes n c b a e (z e)) d).0;
        wakes_count = λ e. (decided (push-wakes n c b a e (z e)) d).1;
        stores = λ e f. (decided (push-stores n c b a e f) d).0;
        stores_count = λ e f. (decided (push-stores n c b a e f) d).1 ∙ sym (add-one n);
        full = λ e f. (declined (push-full n c b a e (omega arith)) d).0;
        full_count = λ e f g. (declined (push-full n c b a e (omega arith)) d).1 ∙ g;
      }

  -- a capacity of 0, a count above it, or somebody that waits while there is a word
  pub push-decide-refuses : (b : Bool) → right n c b ≡ false → PushDecided n c b m r m' → (r ≡ einval) × (m' ≡ m)
  push-decide-refuses b e d = declined {a = einval} (rw e) d

  pub pop_decide_lem : (b : Bool) → PopDecided n b m r m' → PopDecide n b m r m'
  pop_decide_lem b d =
      record {
        takes = λ e. (decided (pop-takes n b e) d).0;
        takes_count = λ e. (decided (pop-takes n b e) d).1;
        busy = λ e f. (declined (pop-busy n b f e) d).0;
        busy_count = λ e f g. (declined (pop-busy n b f e) d).1 ∙ g ∙ e;
        pends = λ e f. (decided (pop-pends n b f e) d).0;
        pends_count = λ e f. (decided (pop-pends n b f e) d).1;
      }

-- functions that only read
pub get-refuses : (f : Stack → ℤ) (h w : List ℕ) (r : ℤ) → place.formed h w ≡ false → r ≡ looks place f h w → r ≡ einval
get-refuses f h w r e d = d ∙ looks_bad place h w f e

module _ (h w : List ℕ) (r : ℤ) (k : Housed h w) (i : Inv (place.object h w)) where
  seen : (f : Stack → ℤ) → r ≡ looks place f h w → r ≡ f (place.object h w)
  seen f d = d ∙ looks-is place h w f (inv-formed h w k i)

  pub num_free_lem : CountsFree h w r → NumFree (place.object h w) r
  num_free_lem d = seen free d

  pub num_used_lem : CountsUsed h w r → NumUsed (place.object h w) r
  num_used_lem d = seen used d

  pub capacity-is : GetsCapacity h w r → Capacity (place.object h w) r
  capacity-is d = seen size d

  tells : (m n : ℕ) → r ≡ cond (eqb m n) (pos 1) (pos 0) → Tells (pos 1) (pos 0) r (m ≡ n)
  tells m n d = go (eqb m n) refl
    where
      go : (b : Bool) → eqb m n ≡ b → Tells (pos 1) (pos 0) r (m ≡ n)
      go true e = inl (rw e at d, eqb-true m n e)
      go false e = inr (rw e at d, eqb-false m n e)

  pub is_full_lem : SaysFull h w r → IsFull (place.object h w) r
  is_full_lem d = tells (depth (place.object h w)) (get_or h 0 0) (seen full d)

  pub is_empty_lem : SaysEmpty h w r → IsEmpty (place.object h w) r
  is_empty_lem d = tells (depth (place.object h w)) 0 (seen empty d)
