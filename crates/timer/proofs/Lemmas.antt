-- Our contracts imply Gale's: the function on plain numbers, and the lemmas. Assumes nothing.
use mathlib.Core.Path.{◌≡◌, refl, sym, ap, ◌∙◌}
use mathlib.Core.List.{[]}
use mathlib.Core.Logic.{inl, inr}
use Prim.Native.Nat.{ℕ, suc, ◌<◌}
use native.Mathlib.Omega.{arith}
use native.Mathlib.Numerals.{add-one}
use lib.IntN.{ℤ, pos, negsuc}
use borrow.Author.Tests.{lt-ltb}
use Rattle.thread.specs.Upstream.{Tells}
use Rattle.store.proofs.Laws.{less, decided, declined}
use Rattle.store.proofs.Histories.{done}
use Rattle.timer.specs.Timer.{most}
use Rattle.timer.specs.Post.{ExpireDecided, place}
use Rattle.timer.specs.History.{does}
use Rattle.timer.specs.Upstream.{ExpireDecide, Inductive, Roundtrip, StartResets, StopClears, OverflowRejected, Classified}
use Rattle.timer.proofs.Answers.{decide-most, decide-once, decide-again}

module _ (s p m : ℕ) (r : ℤ) (m' : ℕ) (d : ExpireDecided s p m r m') where
  pub expire_decide_lem : ExpireDecide s p m r m'
  expire_decide_lem =
      record {
        counted = λ b. (told b).0 ∙ sym (add-one s);
        stayed = λ e f. (declined (decide-most s p e) d).1 ∙ f ∙ e;
        periodic = λ b. (told b).1;
      }
    where
      told : s < most → (m' ≡ suc s) × Tells (pos 1) (pos 0) r (0 < p)
      told b =
          less 0 p (λ k. let y = decided (decide-again s p b (λ e. omega arith)) d in (y.1, inl (y.0, k)))
          (λ k. let y = decided (decide-once s p b (omega arith)) d in (y.1, inr (y.0, λ e. omega arith)))

  pub expire-decide-refuses : s ≡ most → (r ≡ negsuc 138) × (m' ≡ m)
  expire-decide-refuses e = declined (decide-most s p e) d

pub invariant_inductive : Inductive
invariant_inductive = record { init = λ p h h' s. (s.made refl).formed; calls = λ k h h' r e d. (done place (does k) h [] e d).0 }

pub expire-status-get_roundtrip : (s p x : ℕ) → s < most → Roundtrip s p x
expire-status-get_roundtrip s p x b =
    record {
      number = rw (lt-ltb s most b) (sym (add-one s));
      told = rw (lt-ltb s most b) (ap pos (sym (add-one s)));
      cleared = refl;
    }

pub start-resets-status : StartResets
start-resets-status t = refl

pub stop-clears-state : StopClears
stop-clears-state t = (refl, refl)

pub overflow_rejected : OverflowRejected
overflow_rejected p x = refl

pub period_classification : (p : ℕ) → Classified p
period_classification p =
    record {
      either = less 0 p (λ k. inr k) (λ k. inl (omega arith));
      once = λ e s b. decide-once s p b e;
      again = λ e s b. decide-again s p b (λ z. omega arith);
    }
