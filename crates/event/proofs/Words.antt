-- The operations on words are those on flags. Assumes nothing.
use mathlib.Core.Path.{◌≡◌, refl, sym, ap, ap₂, ◌∙◌}
use mathlib.Core.Bool.{Bool, true, false, cond, not, ◌&&◌, ◌||◌}
use Prim.Native.Nat.{ℕ, ◌-◌, ◌<◌}
use lib.Bits.{bit_and, bit_or, and_lt, or_lt}
use lib.Dec.{eqb}
use lib.Pow.{ones_sub-lt}
use Rattle.seq.specs.Bits.{bit}
use Rattle.seq.proofs.Bits.{bits_of, by_bits}
use Rattle.seq.proofs.Masks.{bit-and, bit-or, bit_not}
use Rattle.seq.proofs.Tests.{bits-zero, bits-all}
use Rattle.event.specs.Event.{width, posted, masked, cleared, any_there, all_there, matching}

chosen : (m x e : Bool) → e && not m || x && m ≡ cond m x e
chosen true true true = refl
chosen true true false = refl
chosen true false true = refl
chosen true false false = refl
chosen false true true = refl
chosen false true false = refl
chosen false false true = refl
chosen false false false = refl

back_and_forth : (b : Bool) → not (not b) ≡ b
back_and_forth true = refl
back_and_forth false = refl

module _ (x e : ℕ) (hx : x < 4294967296) (he : e < 4294967296) where
  pub or_is : bit_or e x ≡ posted x e
  or_is = by_bits width (bit_or e x) _ (or_lt width e x he hx) (λ i h. bit-or i e x)

  pub and_is : bit_and e x ≡ matching x e
  and_is = by_bits width (bit_and e x) _ (and_lt width e x he hx) (λ i h. bit-and i e x)

  bit-clear : (i : ℕ) → i < width → bit i (bit_and e (4294967295 - x)) ≡ bit i e && not (bit i x)
  bit-clear i h = bit-and i e (4294967295 - x) ∙ ap (λ (b : Bool). bit i e && b) (bit_not width i x hx h)

  clear_lt : bit_and e (4294967295 - x) < 4294967296
  clear_lt = and_lt width e (4294967295 - x) he (ones_sub-lt width x)

  pub and_not-is : bit_and e (4294967295 - x) ≡ cleared x e
  and_not-is = by_bits width (bit_and e (4294967295 - x)) _ clear_lt bit-clear

  -- whether one of the flags x is among e, and whether each is
  pub any_is : not (eqb (bit_and e x) 0) ≡ any_there x e
  any_is = ap (λ (y : ℕ). not (eqb y 0)) and_is ∙ ap not (bits-zero width (λ i. bit i e && bit i x)) ∙ back_and_forth (any_there x e)

  pub all_is : eqb (bit_and e x) x ≡ all_there x e
  all_is = ap₂ eqb and_is (sym (bits_of width x hx)) ∙ bits-all width (λ i. bit i x) (λ i. bit i e)

pub replaced_is : (x m e : ℕ) → x < 4294967296 → m < 4294967296 → e < 4294967296
    → bit_or (bit_and e (4294967295 - m)) (bit_and x m) ≡ masked x m e
replaced_is x m e hx hm he =
    by_bits width (bit_or (bit_and e (4294967295 - m)) (bit_and x m)) _ (or_lt width _ _ (clear_lt m e hm he) (and_lt width x m hx hm))
    (λ i h.
    bit-or i (bit_and e (4294967295 - m)) (bit_and x m) ∙ ap₂ (λ (a b : Bool). a || b) (bit-clear m e hm he i h) (bit-and i x m)
    ∙ chosen (bit i m) (bit i x) (bit i e))
