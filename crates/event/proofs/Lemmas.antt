-- Upstream's lemmas. Assumes nothing.
use mathlib.Core.Path.{◌≡◌, refl, sym, ap, ◌∙◌}
use mathlib.Core.Bool.{Bool, true, false, cond, not, ◌&&◌, ◌||◌}
use Prim.Native.Nat.{ℕ}
use native.Mathlib.Omega.{arith}
use lib.Bits.{bit_and, bit_or, and_lt, or_lt}
use Rattle.seq.specs.Bits.{bit}
use Rattle.seq.proofs.Bits.{bit-bits, bits_lt, bits-same, by_bits, same_bits}
use Rattle.seq.proofs.Masks.{bit-and, bit-or, bit-none}
use Rattle.seq.proofs.Tests.{has-bit}
use Rattle.event.specs.Event.{width, posted, cleared}
use Rattle.event.specs.History.{Call, posting, setting, setting_masked, clearing, next}
use Rattle.event.specs.Upstream.{Inv, Words, Inductive, Monotonic, SetClear, AllAny, Idempotent, MaskedFull, MaskedZero}
use Rattle.event.proofs.Words.{or_is, and_not-is, replaced_is}
use Rattle.event.proofs.Histories.{all-masked}
use Rattle.event.proofs.Conditions.{conditions}

keeps-inv : (e : ℕ) (k : Call) → Inv e → Words k → Inv (next e k)
keeps-inv e (posting x) i w = bits_lt width _
keeps-inv e (setting x) i w = w
keeps-inv e (setting_masked x m) i w = bits_lt width _
keeps-inv e (clearing x) i w = bits_lt width _

pub invariant_inductive : Inductive
invariant_inductive = record { init = omega arith; calls = keeps-inv }

absorbed : (b c : Bool) → (b || c) && b ≡ b
absorbed true c = refl
absorbed false true = refl
absorbed false false = refl

twice : (b c : Bool) → b || c || c ≡ b || c
twice true c = refl
twice false true = refl
twice false false = refl

none_left : (b : Bool) → b && not b ≡ false
none_left true = refl
none_left false = refl

module _ (e x : ℕ) (he : Inv e) (hx : Inv x) where
  pub post-monotonic : Monotonic e x
  post-monotonic =
      record {
        words =
            same_bits width (bit_and (bit_or e x) e) e (and_lt width (bit_or e x) e (or_lt width e x he hx) he) he
            (λ i h. bit-and i (bit_or e x) e ∙ ap (λ (b : Bool). b && bit i e) (bit-or i e x) ∙ absorbed (bit i e) (bit i x));
        call = λ i h p. bit-bits width i _ h ∙ (rw p);
      }

  cleared-all : cleared x x ≡ 0
  cleared-all = sym (by_bits width 0 _ (omega arith) (λ i h. bit-none i ∙ sym (none_left (bit i x))))

  pub set-clear_roundtrip : SetClear e x
  set-clear_roundtrip = record { words = and_not-is x x hx hx ∙ cleared-all; call = cleared-all }

  posted-twice : posted x (posted x e) ≡ posted x e
  posted-twice =
      bits-same width _ _ (λ i h. ap (λ (b : Bool). b || bit i x) (bit-bits width i _ h) ∙ twice (bit i e) (bit i x))

  pub post_idempotent : Idempotent e x
  post_idempotent =
      let p = or_is x e hx he in
      record { words = ap (λ (y : ℕ). bit_or y x) p ∙ or_is x (posted x e) hx (bits_lt width _) ∙ posted-twice ∙ sym p; call = posted-twice }

  pub set-masked-full : MaskedFull e x
  set-masked-full =
      let p = sym (all-masked e x hx).sets in
      record { words = replaced_is x 4294967295 e hx (omega arith) he ∙ p; call = p }

  pub set-masked-zero : MaskedZero e x
  set-masked-zero =
      let p = sym (by_bits width e (λ i. cond (bit i 0) (bit i x) (bit i e)) he (λ i h. rw (bit-none i))) in
      record { words = replaced_is x 0 e hx (omega arith) he ∙ p; call = p }

  -- x is desired
  pub wait-conditions_correct : (x ≡ 0 → ⊥) → AllAny e x
  wait-conditions_correct n =
      record {
        words = λ p q. n (sym p ∙ q);
        call = λ a. let s = has-bit width x hx n in (conditions x e).any_is s.at s.below ((conditions x e).all_has a s.at s.below s.holds) s.holds;
      }
