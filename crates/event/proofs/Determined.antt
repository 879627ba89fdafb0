-- The contracts of event flags leave nothing open. Assumes nothing.
use mathlib.Core.Path.{refl, ◌≡◌, sym, ◌∙◌}
use mathlib.Core.Bool.{true, cond}
use mathlib.Core.List.{[], ◌∷◌}
use lib.Dec.{eqb}
use lib.IntN.{ℤ, pos}
use lib.Signed.{mag}
use Rattle.seq.proofs.Only.{said, back_alike}
use Rattle.thread.proofs.Determined.{tells-by}
use Rattle.store.specs.Determined.{Faithful}
use Rattle.store.proofs.Determined.{reads_only, starts_only, decided-only}
use Rattle.event.specs.Event.{post, set, set_masked, clear, waits, decision_number, decided, its_flags}
use Rattle.event.specs.Post.{place}
use Rattle.event.specs.Determined.{Determined}
use Rattle.event.specs.declared.WaitDecision.{WaitDecision}
use Rattle.event.specs.declared.WaitDecision.TheVariants as waiting

-- the one word is the flags
faithful : Faithful place
faithful = record { header = λ h b h' b' f f' e. back_alike 1 h h' (λ i. e i ∷ []); buffer = λ h b b' f f' e. refl }

-- which decision has a number
a_wait : ℤ → WaitDecision
a_wait z = cond (eqb (mag z) 0) waiting.Matched waiting.Pend

a_wait-told : (d : WaitDecision) → a_wait (decision_number d) ≡ d
unfolding a_wait
a_wait-told waiting.Matched = refl
a_wait-told waiting.Pend = refl

wait-number : (d : WaitDecision) → decision_number d ≡ pos (mag (decision_number d))
wait-number waiting.Matched = refl
wait-number waiting.Pend = refl

pub determined : Determined
determined =
    record {
      init = λ h. starts_only faithful h [] true 0;
      post = λ new h. reads_only faithful h [] (post new);
      set = λ new h. reads_only faithful h [] (set new);
      set_masked = λ new mask h. reads_only faithful h [] (set_masked new mask);
      clear = λ gone h. reads_only faithful h [] (clear gone);
      wait_check_any = λ desired h. said _;
      wait_check_all = λ desired h. said _;
      events_get = λ h. said _;
      wait_decide = λ e desired type no_wait. decided-only (waits e desired type no_wait);
      post_decide = λ e new mask. said _;
      wait_answer =
          tells-by decided (λ x. wait-number x.decision) its_flags (λ x y e k.
          let d : x.decision ≡ y.decision = sym (a_wait-told x.decision) ∙ (λ i. a_wait (e i)) ∙ a_wait-told y.decision in
          λ i. record { decision = d i; matched_events = k 0 i });
    }
