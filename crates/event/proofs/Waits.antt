-- What a post and a clear do to a wait. Assumes nothing.
use mathlib.Core.Path.{◌≡◌, refl, sym, ◌∙◌}
use mathlib.Core.Bool.{Bool, true, false, cond, not, ◌&&◌, ◌||◌}
use Prim.Native.Nat.{ℕ, ◌<◌}
use native.Mathlib.Omega.{arith}
use lib.Dec.{eqb}
use Rattle.seq.specs.Bits.{bit}
use Rattle.seq.proofs.Bits.{bit-bits}
use Rattle.seq.proofs.Order.{clash}
use Rattle.seq.proofs.Tests.{any_found, none_any, has-bit}
use Rattle.event.specs.Event.{width, posted, cleared, any_there, all_there, met}
use Rattle.event.specs.Waiting.{Calls}
use Rattle.event.proofs.Conditions.{conditions}

and_true : (b c : Bool) → b && c ≡ true → (b ≡ true) × (c ≡ true)
and_true true c e = (refl, e)
and_true false c e = clash (sym e)

-- more flags end no condition
grows : (t d e f : ℕ) → ((i : ℕ) → i < width → bit i e ≡ true → bit i f ≡ true) → met t d e ≡ true → met t d f ≡ true
grows t d e f g = go (eqb t 1)
  where
    go : (a : Bool) → cond a (all_there d e) (any_there d e) ≡ true → cond a (all_there d f) (any_there d f) ≡ true
    go true p = (conditions d f).all_is (λ i h q. g i h ((conditions d e).all_has p i h q))
    go false p =
        let s = any_found width _ p in
        let q = and_true (bit s.at e) (bit s.at d) s.holds in
        (conditions d f).any_is s.at s.below (g s.at s.below q.0) q.1

pub calls : (e d : ℕ) → Calls e d
calls e d =
    record {
      post_keeps = λ t x p. grows t d e (posted x e) (λ i h q. bit-bits width i _ h ∙ (rw q)) p;
      clear_keeps = λ t x p. unmet p (grows t d (cleared x e) e (λ i h q. (and_true (bit i e) _ (sym (bit-bits width i _ h) ∙ q)).0));
      post_all = (conditions d (posted d e)).all_is posted_too;
      post_any = λ b k. let s = has-bit width d k (λ z. omega arith) in (conditions d (posted d e)).any_is s.at s.below (posted_too s.at s.below s.holds) s.holds;
      clear_any = none_any width _ (λ i h. rw (bit-bits width i (λ j. bit j e && not (bit j d)) h) (gone (bit i e) (bit i d)));
    }
  where
    unmet : {b c : Bool} → b ≡ false → (c ≡ true → b ≡ true) → c ≡ false
    unmet {c = true} p f = clash (sym (f refl) ∙ p)
    unmet {c = false} p f = refl

    or_true : (b c : Bool) → c ≡ true → b || c ≡ true
    or_true true c p = refl
    or_true false c p = p

    posted_too : (i : ℕ) → i < width → bit i d ≡ true → bit i (posted d e) ≡ true
    posted_too i h p = bit-bits width i _ h ∙ or_true (bit i e) (bit i d) p

    gone : (b c : Bool) → b && not c && c ≡ false
    gone true true = refl
    gone true false = refl
    gone false c = refl
