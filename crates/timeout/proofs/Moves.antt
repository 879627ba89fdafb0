-- What upstream's contracts say of an abort and an announcement, of the definitions. Assumes nothing.
use mathlib.Core.Path.{◌≡◌, refl, sym, subst, ◌∙◌}
use mathlib.Core.Bool.{false}
use mathlib.Core.Logic.{inr, ⊎_elim}
use Prim.Native.Nat.{ℕ, ◌+◌, ◌≤◌, ◌<◌}
use native.Mathlib.Omega.{arith}
use borrow.Author.Tests.{ltb-true, lt-ltb}
use Rattle.seq.proofs.Order.{clash}
use Rattle.store.specs.Store.{Reply, answer, left}
use Rattle.store.proofs.Laws.{less, no_code, not-one}
use Rattle.timeout.specs.Timeout.{Timeout, never, is_active, fires, abort, announce}
use Rattle.timeout.specs.Upstream.{Inv, Abort, Announce}
use Rattle.timeout.proofs.Numbers.{fires-due, fires-is, fires-not}
use Rattle.timeout.proofs.Whole.{abort_no, abort-is, by-announce}

-- what is active and does not fire is ahead
pub still_ahead : (t : Timeout) (n : ℕ) → t.clock + n < never → fires (is_active t) t.deadline (t.clock + n) ≡ false → 0 < t.active
    → t.clock + n ≤ t.deadline
still_ahead t n k g j =
    ⊎_elim (λ e. clash (sym (lt-ltb 0 t.active j) ∙ e)) (λ w. ⊎_elim (λ e. omega arith) (λ e. omega arith) w)
    (fires-not (is_active t) t.deadline (t.clock + n) g)

module _ (t : Timeout) where
  pub aborts : Inv t → Abort t (answer (abort t)) (left (abort t) t)
  aborts i =
      less 0 t.active
      (λ k.
      subst upstream (sym (abort-is t k))
      (record {
        inv = record { tick = i.tick; ahead = λ j. absurd (omega arith) };
        clock = refl;
        aborted = λ z. refl;
        inactive = λ z. refl;
        nothing = λ z. absurd (omega arith);
        inactive_still = λ z. refl;
        deadline = λ z. refl;
      }))
      (λ k.
      subst upstream (sym (abort_no t (omega arith)))
      (record {
        inv = i;
        clock = refl;
        aborted = λ z. absurd (omega arith);
        inactive = λ z. absurd (omega arith);
        nothing = λ z. refl;
        inactive_still = λ z. z;
        deadline = λ z. refl;
      }))
    where
      upstream : Reply Timeout → Type 0
      upstream y = Abort t (answer y) (left y t)

  pub announces : (n : ℕ) → Announce n t (answer (announce n t)) (left (announce n t) t)
  announces n =
      by-announce t n (λ y. Announce n t (answer y) (left y t))
      (λ k.
      record {
        inv = λ r. ⊎_elim (λ e. no_code (sym e)) (λ e. no_code (sym e)) r;
        moved = λ r. ⊎_elim (λ e. no_code (sym e)) (λ e. no_code (sym e)) r;
        was_active = λ r. no_code (sym r);
        due = λ r. no_code (sym r);
        finite = λ r. no_code (sym r);
        inactive = λ r. no_code (sym r);
        deadline = λ r. no_code (sym r);
        active_stays = λ r. refl;
        deadline_stays = λ r. refl;
        code = λ f. refl;
        over = λ f. k;
        stays = λ f. refl;
        fires = λ b. absurd (omega arith);
      })
      (λ k g.
      record {
        inv = λ r. record { tick = k; ahead = λ j. inr (still_ahead t n k g j) };
        moved = λ r. refl;
        was_active = λ r. not-one r;
        due = λ r. not-one r;
        finite = λ r. not-one r;
        inactive = λ r. not-one r;
        deadline = λ r. not-one r;
        active_stays = λ r. refl;
        deadline_stays = λ r. refl;
        code = λ f. absurd (f.0 refl);
        over = λ f. absurd (f.0 refl);
        stays = λ f. absurd (f.0 refl);
        fires = λ b j z. clash (sym (fires-due (is_active t) t.deadline (t.clock + n) (lt-ltb 0 t.active j) (omega arith) z) ∙ g);
      })
      (λ k g.
      let z = fires-is (is_active t) t.deadline (t.clock + n) g in
      record {
        inv = λ r. record { tick = k; ahead = λ j. absurd (omega arith) };
        moved = λ r. refl;
        was_active = λ r. ltb-true 0 t.active z.0;
        due = λ r. z.2;
        finite = λ r e. omega (arith, z.1);
        inactive = λ r. refl;
        deadline = λ r. refl;
        active_stays = λ r. not-one (sym r);
        deadline_stays = λ r. refl;
        code = λ f. absurd (f.1 refl);
        over = λ f. absurd (f.1 refl);
        stays = λ f. absurd (f.1 refl);
        fires = λ b j z. refl;
      })
