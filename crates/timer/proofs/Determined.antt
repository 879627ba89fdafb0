-- The timer's contracts leave nothing open. Assumes nothing.
use mathlib.Core.Path.{refl, ◌≡◌, sym, ◌∙◌}
use mathlib.Core.Bool.{true, Bool, false}
use mathlib.Core.List.{[], ◌∷◌}
use lib.Dec.{eqb}
use lib.IntN.{pos}
use lib.Signed.{mag}
use Rattle.seq.proofs.Only.{said, back_alike}
use Rattle.thread.specs.Answer.{truth}
use Rattle.thread.proofs.Determined.{tells-by}
use Rattle.store.specs.Determined.{Faithful}
use Rattle.store.proofs.Determined.{reads_only, starts_only, decided-only}
use Rattle.timer.specs.Timer.{expire_decide, start, stop, expire, status_get, fresh, decided, its_status}
use Rattle.timer.specs.Post.{place}
use Rattle.timer.specs.Determined.{Determined}

-- the three words are the timer
faithful : Faithful place
faithful =
    record {
      header = λ h b h' b' f f' e. back_alike 3 h h' (λ i. (e i).running ∷ (e i).period ∷ (e i).status ∷ []);
      buffer = λ h b b' f f' e. refl;
    }

-- the number of a test is that of one answer
test-told : (b : Bool) → eqb (mag (truth b)) 1 ≡ b
test-told true = refl
test-told false = refl

test-number : (b : Bool) → truth b ≡ pos (mag (truth b))
test-number true = refl
test-number false = refl

pub determined : Determined
determined =
    record {
      expire_decide = λ status period. decided-only (expire_decide status period);
      init = λ period h. starts_only faithful h [] true (fresh period);
      start = λ h. reads_only faithful h [] start;
      stop = λ h. reads_only faithful h [] stop;
      expire = λ h. reads_only faithful h [] expire;
      status_get = λ h. reads_only faithful h [] status_get;
      status_peek = λ h. said _;
      period_get = λ h. said _;
      is_running = λ h. said _;
      expire_answer =
          tells-by decided (λ x. test-number x.is_periodic) its_status (λ x y e k.
          let d : x.is_periodic ≡ y.is_periodic = sym (test-told x.is_periodic) ∙ (λ i. eqb (mag (e i)) 1) ∙ test-told y.is_periodic in
          λ i. record { new_status = k 0 i; is_periodic = d i });
    }
