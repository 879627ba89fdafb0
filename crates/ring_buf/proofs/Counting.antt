-- Counters that run freely: what is decided on them, and when it agrees with the ring. Assumes nothing.
use mathlib.Core.Path.{◌≡◌, refl, sym, ap, ◌∙◌}
use mathlib.Core.Logic.{⊎_elim}
use Prim.Native.Nat.{ℕ, ◌+◌, ◌-◌, ◌%◌, ◌<◌, min}
use native.Mathlib.Omega.{arith}
use native.Mathlib.Nat.{mod-lt, mod-eq_of_lt, mod-eq-sub-mod, mod-add-mod, mod-mod_of_dvd, dvd_of_mod-eq-zero}
use borrow.Author.Tests.{le-leb, lt-leb, eq-eqb, ne_eqb}
use lib.ListN.{length}
use Rattle.ring_buf.specs.Ring.{Ring, wrap, tail}
use Rattle.ring_buf.specs.Counters.{difference, offset, claimed, low, Counted, Exact, Agrees}
use Rattle.ring_buf.proofs.Rings.{by-lt, wrap-low, wrap-high}

-- ---- on plain numbers

module _ (head base n : ℕ) where
  pub offset-none : n ≡ 0 → 0 ≡ offset head base n
  offset-none e = rw (eq-eqb n 0 e) refl

  pub claimed-none : (asked : ℕ) → n ≡ 0 → 0 ≡ claimed head base n asked
  claimed-none asked e = rw (eq-eqb n 0 e) refl

  module _ (f : n ≡ 0 → ⊥) where
    pub offset-is : difference head base % n ≡ offset head base n
    offset-is = rw (ne_eqb n 0 f) refl

    pub claimed-is : (asked a m : ℕ) → a ≡ offset head base n → m ≡ min asked (n - a) → m ≡ claimed head base n asked
    claimed-is asked a m e g = g ∙ ap (λ (x : ℕ). min asked (n - x)) e ∙ rw (ne_eqb n 0 f) refl

-- ---- with the ring

pub difference_low : (g n : ℕ) → n < 4294967296 → difference (low (g + n)) (low g) ≡ n
difference_low g n f =
    let x = low g in
    let b : x < 4294967296 = mod-lt g (omega arith) in
    let e : low (g + n) ≡ (x + n) % 4294967296 = sym (mod-add-mod g 4294967296 n) in
    by-lt (x + n) 4294967296
    (λ h. let y : low (g + n) ≡ x + n = e ∙ mod-eq_of_lt h in rw y (rw (le-leb x (x + n) (omega arith)) (omega arith)))
    (λ h. let z : (x + n - 4294967296) % 4294967296 ≡ x + n - 4294967296 = mod-eq_of_lt (omega arith) in
    let y : low (g + n) ≡ x + n - 4294967296 = e ∙ mod-eq-sub-mod h ∙ z in
    rw y (rw (lt-leb x (x + n - 4294967296) (omega arith)) (omega arith)))

pub wrap_mod : (x c : ℕ) → x < c + c → wrap x c ≡ x % c
wrap_mod x c h =
    by-lt x c (λ f. wrap-low x c f ∙ sym (mod-eq_of_lt f)) (λ f. wrap-high x c f ∙ sym (mod-eq-sub-mod f ∙ mod-eq_of_lt (omega arith)))

low_mod : (x c : ℕ) → Exact x c → low x % c ≡ x % c
low_mod x c = ⊎_elim (λ f. ap (λ (y : ℕ). y % c) (mod-eq_of_lt f)) (λ e. mod-mod_of_dvd c x (dvd_of_mod-eq-zero c e))

module _ (p g : ℕ) (r : Ring ℕ) (k : Counted p g r) where
  place : (x : ℕ) → Exact x r.capacity → offset (low x) 0 r.capacity ≡ x % r.capacity
  place x e =
      let s : r.capacity ≡ 0 → ⊥ = λ z. omega (arith, k.some) in
      sym (offset-is (low x) 0 r.capacity s) ∙ ap (λ (y : ℕ). y % r.capacity) (rw (le-leb 0 (low x) (omega arith)) (omega arith)) ∙ low_mod x r.capacity e

  tail_mod : tail r ≡ p % r.capacity
  tail_mod =
      let b = mod-lt g {m = r.capacity} k.some in
      wrap_mod (r.start + length r.held) r.capacity (omega (arith, k.start, k.whole, b)) ∙ ap (λ (x : ℕ). (x + length r.held) % r.capacity) k.start
      ∙ mod-add-mod g r.capacity (length r.held) ∙ ap (λ (x : ℕ). x % r.capacity) (sym k.size)

  claims : (x a n m : ℕ) → a ≡ x % r.capacity → Exact x r.capacity → m ≡ min n (r.capacity - a) → claimed (low x) 0 r.capacity n ≡ m
  claims x a n m q e f =
      let s : r.capacity ≡ 0 → ⊥ = λ z. omega (arith, k.some) in
      sym (claimed-is (low x) 0 r.capacity s n a m (q ∙ sym (place x e)) f)

  pub agrees : Agrees p g r
  agrees =
      let d : difference (low p) (low g) ≡ length r.held =
      ap (λ (x : ℕ). difference (low x) (low g)) k.size ∙ difference_low g (length r.held) (omega (arith, k.whole, k.small)) in
      record {
        amount_is = d;
        room_is = ap (λ (x : ℕ). r.capacity - x) d ∙ omega (arith, k.whole);
        tail_is = λ e. place p e ∙ sym tail_mod;
        start_is = λ e. place g e ∙ sym k.start;
        claim_is = λ n e f h. claims p (tail r) n (min n (length r.spare)) tail_mod e (omega arith);
        claim_cut = λ n e f. claims p (tail r) n (r.capacity - tail r) tail_mod e (omega arith);
        got_is = λ n e f h. claims g r.start n (min n (length r.held)) k.start e (omega arith);
        got_cut = λ n e f. claims g r.start n (r.capacity - r.start) k.start e (omega arith);
      }
