-- The timeout's contracts leave nothing open. Assumes nothing.
use mathlib.Core.Path.{refl, ◌≡◌, sym, ◌∙◌}
use mathlib.Core.List.{[], ◌∷◌}
use mathlib.Core.Bool.{Bool, true, false}
use lib.Dec.{eqb}
use lib.IntN.{pos}
use lib.Signed.{mag}
use Rattle.seq.proofs.Only.{said, back_alike}
use Rattle.thread.specs.Answer.{truth}
use Rattle.thread.proofs.Determined.{tells-by}
use Rattle.store.specs.Determined.{Faithful}
use Rattle.store.proofs.Determined.{reads_only, hands_only, tells_only, starts_only, decided-only}
use Rattle.timeout.specs.Timeout.{add_decide, announce_decide, add, add_absolute, add_forever, add_no_wait, abort, announce, remaining, expires, clock_now, timepoint_calc, timepoint_timeout, fresh, may, decided, its_tick}
use Rattle.timeout.specs.Post.{place}
use Rattle.timeout.specs.Determined.{Determined}

-- the three words are the timeout
faithful : Faithful place
faithful =
    record {
      header = λ h b h' b' f f' e. back_alike 3 h h' (λ i. (e i).clock ∷ (e i).active ∷ (e i).deadline ∷ []);
      buffer = λ h b b' f f' e. refl;
    }

-- the number of a test is that of one answer
test-told : (b : Bool) → eqb (mag (truth b)) 1 ≡ b
test-told true = refl
test-told false = refl

test-number : (b : Bool) → truth b ≡ pos (mag (truth b))
test-number true = refl
test-number false = refl

pub determined : Determined
determined =
    record {
      add_decide = λ clock duration. decided-only (add_decide clock duration);
      abort_decide = λ active. said _;
      announce_decide = λ clock ticks deadline active. decided-only (announce_decide active deadline clock ticks);
      init = λ clock h. starts_only faithful h [] (may clock) (fresh clock);
      add = λ duration h. hands_only faithful h [] (add duration);
      add_absolute = λ deadline h. reads_only faithful h [] (add_absolute deadline);
      add_forever = λ h. reads_only faithful h [] add_forever;
      add_no_wait = λ h. reads_only faithful h [] add_no_wait;
      abort = λ h. reads_only faithful h [] abort;
      announce = λ ticks h. reads_only faithful h [] (announce ticks);
      remaining = λ h. tells_only faithful h [] remaining;
      expires = λ h. tells_only faithful h [] expires;
      is_active = λ h. said _;
      is_forever = λ h. said _;
      is_no_wait = λ h. said _;
      now = λ h. tells_only faithful h [] clock_now;
      timepoint_calc = λ duration h. tells_only faithful h [] (timepoint_calc duration);
      timepoint_timeout = λ timepoint h. tells_only faithful h [] (timepoint_timeout timepoint);
      announce_answer =
          tells-by decided (λ x. test-number x.fired) its_tick (λ x y e k.
          let d : x.fired ≡ y.fired = sym (test-told x.fired) ∙ (λ i. eqb (mag (e i)) 1) ∙ test-told y.fired in
          λ i. record { new_tick = k 0 i; fired = d i });
    }
