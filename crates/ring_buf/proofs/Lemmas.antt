-- Upstream's decide functions, and its lemmas. Assumes nothing.
use mathlib.Core.Path.{◌≡◌, refl, sym, ap, ◌∙◌}
use mathlib.Core.Bool.{Bool, true, false}
use mathlib.Core.Logic.{◌⊎◌, inl, inr}
use mathlib.Core.List.{List, [], ◌∷◌, ◌++◌, append_assoc, append-nil}
use Prim.Native.Nat.{ℕ, ◌+◌, ◌-◌, ◌%◌, ◌≤◌, ◌<◌, min}
use native.Mathlib.Omega.{arith}
use native.Mathlib.Decide.{ℕ_discrete}
use native.Mathlib.Nat.{mod-lt, mod-eq_of_lt, mod-eq-sub-mod}
use borrow.Author.Tests.{leb-true, leb-false, le-leb, lt-leb}
use lib.Dec.{leb}
use lib.IntN.{pos}
use lib.Signed.{mag}
use lib.ListN.{length, drop, length-append}
use Rattle.store.specs.Store.{left, out}
use Rattle.ring_buf.specs.Ring.{Ring, wrap}
use Rattle.ring_buf.specs.Bytes.{new}
use Rattle.ring_buf.specs.Counters.{difference, offset}
use Rattle.ring_buf.specs.History.{does}
use Rattle.ring_buf.specs.Post.{ClaimDecided, FinishDecided, SpaceGetDecided, SizeGetDecided}
use Rattle.ring_buf.specs.Upstream.{RingBuf, shown, Inv, WrappingSub, ClaimDecide, FinishDecide, SpaceGetDecide, SizeGetDecide, Whole, Inductive, PutGet, RingConsistency, Conservation, ResetEmpties, filled, drained, after, FillDrain}
use Rattle.ring_buf.proofs.Rings.{by-lt, wrap-low, wrap-high, length-turn}
use Rattle.ring_buf.proofs.Counting.{offset-none, offset-is, claimed-none, claimed-is}
use Rattle.ring_buf.proofs.Calls.{mk, Fits, acts_fit, new-fits, which}
use Rattle.ring_buf.proofs.Upstream.{inv}

-- ---- the decide functions

module _ (a b : ℕ) (f : a < 4294967296) (g : b < 4294967296) where
  pub difference_wraps : WrappingSub a b (difference a b)
  difference_wraps =
      by-lt a b
      (λ h. let z : a + 4294967296 - b + b ≡ a + 4294967296 = omega arith in
      rw (lt-leb b a h)
      (record { low = omega arith; sum = ap (λ (x : ℕ). x % 4294967296) z ∙ mod-eq-sub-mod (omega arith) ∙ ap (λ (x : ℕ). x % 4294967296) (omega arith) ∙ mod-eq_of_lt f }))
      (λ h. let z : a - b + b ≡ a = omega arith in rw (le-leb b a h) (record { low = omega arith; sum = ap (λ (x : ℕ). x % 4294967296) z ∙ mod-eq_of_lt f }))

  -- there is no other
  only_wraps : (d : ℕ) → WrappingSub a b d → d ≡ difference a b
  only_wraps d w =
      by-lt (d + b) 4294967296
      (λ h. let e : d + b ≡ a = sym (mod-eq_of_lt h) ∙ w.sum in rw (le-leb b a (omega arith)) (omega arith))
      (λ h. let z : (d + b - 4294967296) % 4294967296 ≡ d + b - 4294967296 = mod-eq_of_lt (omega (arith, w.low)) in
      let e : d + b - 4294967296 ≡ a = sym (mod-eq-sub-mod h ∙ z) ∙ w.sum in
      rw (lt-leb b a (omega (arith, w.low))) (omega arith))

  pub finish_decide_lem : (n : ℕ) (r : Bool) → FinishDecided a b n r → FinishDecide a b n r
  finish_decide_lem n r e d w = go (leb n (difference a b)) refl
    where
      x : d ≡ difference a b
      x = only_wraps d w

      go : (t : Bool) → leb n (difference a b) ≡ t → ((r ≡ true) × (n ≤ d)) ⊎ ((r ≡ false) × (n ≤ d → ⊥))
      go true k = inl (e ∙ k, omega (arith, x, leb-true n (difference a b) k))
      go false k = inr (e ∙ k, λ h. omega (arith, x, leb-false n (difference a b) k))

  pub size_get_decide_lem : (r : ℕ) → SizeGetDecided a b r → SizeGetDecide a b r
  size_get_decide_lem r e = rw e difference_wraps

pub claim_decide_lem : (head base n asked r o : ℕ) → ClaimDecided head base n asked r o → ClaimDecide n asked r o
claim_decide_lem head base n asked r o (x, y) = go (ℕ_discrete n 0)
  where
    go : Dec (n ≡ 0) → ClaimDecide n asked r o
    go (yes z) =
        let a : r ≡ 0 = x ∙ sym (claimed-none head base n asked z) in
        let b : o ≡ 0 = y ∙ sym (offset-none head base n z) in
        record { none_claim = λ f. a; none_offset = λ f. b; within = λ f. absurd (omega arith); asked = omega arith; fits = omega arith }
    go (no z) =
        let a : r ≡ min asked (n - offset head base n) = x ∙ sym (claimed-is head base n z asked (offset head base n) (min asked (n - offset head base n)) refl refl) in
        let b : o ≡ difference head base % n = y ∙ sym (offset-is head base n z) in
        record {
          none_claim = λ f. absurd (z f);
          none_offset = λ f. absurd (z f);
          within = λ f. omega (arith, mod-lt (difference head base) {m = n} f);
          asked = omega arith;
          fits = omega arith;
        }

pub space_get_decide_lem : (putHead getTail n r : ℕ) → SpaceGetDecided putHead getTail n r → SpaceGetDecide n r
space_get_decide_lem putHead getTail n r e = let d = difference putHead getTail in record { none_free = λ z. omega arith; fits = omega arith }

-- ---- the lemmas

-- upstream's invariant, and that each place is held or free
fits-inv : (r : Ring ℕ) → Fits r → Inv (shown r) × Whole r
fits-inv r f = (inv r.capacity r.start (length r.held) f.below (omega (arith, f.whole)), f.whole)

pub invariant_inductive : Inductive
invariant_inductive =
    record {
      init = λ c b m. fits-inv (new c b) (new-fits c b m);
      calls = λ s k i w. let o = out (does k s) ++ drop (length (out (does k s))) [] in
          fits-inv (left (does k s) s) (acts_fit (which s.capacity s.start s.held s.spare k [] o refl) (record { whole = w; below = i.head })).0;
    }

pub put-get_roundtrip : (c t : ℕ) (l p : List ℕ) (x : ℕ) → Whole (mk c t l p) → length l < c → PutGet (mk c t l p) x
put-get_roundtrip c t l [] x w f = absurd (omega arith)
put-get_roundtrip c t [] (y ∷ p) x w f = record { size = refl; order = refl }
put-get_roundtrip c t (z ∷ l) (y ∷ p) x w f = record { size = length-append l (x ∷ []) ∙ omega arith; order = refl }

pub ring_consistency : (v : RingBuf) → Inv v → RingConsistency v
ring_consistency v i =
    record {
      consistent = i.consistent;
      within = i.tail;
      only = by-lt (v.head + v.size) v.capacity
          (λ f. i.consistent.low f ∙ sym (wrap-low (v.head + v.size) v.capacity f))
          (λ f. i.consistent.high f ∙ sym (wrap-high (v.head + v.size) v.capacity f));
    }

pub conservation : (s : Ring ℕ) → Whole s → Conservation s
conservation s w = record { sum = omega arith; answers = λ f n c x y z. omega (arith, ap mag x, ap mag y, ap mag z) }

pub reset_empties : (s : Ring ℕ) → Whole s → ResetEmpties s
reset_empties s w =
    let l = length-append s.held s.spare in
    record {
      least = omega arith;
      none_held = refl;
      all_free = ap pos (length-turn (s.capacity - s.start) (s.held ++ s.spare) (omega arith) ∙ l ∙ w);
      refused = refl;
    }

module _ (c : ℕ) where
  filled_is : (t : ℕ) (h l p : List ℕ) → length l ≤ length p → filled (mk c t h p) l ≡ mk c t (h ++ l) (drop (length l) p)
  filled_is t h [] p f = ap (λ (q : List ℕ). mk c t q p) (sym (append-nil h))
  filled_is t h (x ∷ l) [] f = absurd (omega arith)
  filled_is t h (x ∷ l) (y ∷ p) f = filled_is t (h ++ x ∷ []) l p (omega arith) ∙ ap (λ (q : List ℕ). mk c t q (drop (length l) p)) (append_assoc h (x ∷ []) l)

  drained-is : (t : ℕ) (h p : List ℕ) → (drained (mk c t h p) (length h) ≡ h) × ((after (mk c t h p) (length h)).held ≡ [])
  drained-is t [] p = (refl, refl)
  drained-is t (x ∷ h) p = let i = drained-is (wrap (t + 1) c) h (p ++ x ∷ []) in (ap (λ (q : List ℕ). x ∷ q) i.0, i.1)

  pub fill-drain_symmetric : (t : ℕ) (p l : List ℕ) → length p ≡ c → length l ≤ c → FillDrain (mk c t [] p) l
  fill-drain_symmetric t p l w f =
      let e = filled_is t [] l p (omega arith) in
      let d = drained-is t l (drop (length l) p) in
      record { full = λ g. ap (λ (r : Ring ℕ). length r.held) e ∙ g; empty = rw e d.1; order = rw e d.0 }
