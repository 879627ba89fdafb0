-- What upstream's contracts say of setting a deadline, of the definitions. Assumes nothing.
use mathlib.Core.Path.{◌≡◌, refl, sym, subst}
use mathlib.Core.List.{[]}
use mathlib.Core.Logic.{◌⊎◌, inl, inr}
use Prim.Native.Nat.{ℕ, ◌+◌, ◌≤◌, ◌<◌}
use native.Mathlib.Omega.{arith}
use Rattle.thread.specs.Code.{ok, einval}
use Rattle.store.specs.Store.{Reply, refuse, accept, answer, left, out, first}
use Rattle.store.proofs.Laws.{less, no_code}
use Rattle.timeout.specs.Timeout.{Timeout, never, arm, add, add_absolute}
use Rattle.timeout.specs.Upstream.{Add, AddAbsolute, AddFixed}
use Rattle.timeout.proofs.Numbers.{add_in_time, add-late, absolute-behind, absolute_far, absolute-is}
use Rattle.timeout.proofs.Whole.{set_no, set_is}

module _ (t : Timeout) (k : t.clock < never) (z : t.active ≡ 0) where
  pub fixed : (x : ℕ) → (x ≡ 0) ⊎ (t.clock ≤ x) → AddFixed x t (left (arm (accept x ok []) t) t)
  fixed x f =
      subst (λ (y : Reply Timeout). AddFixed x t (left y t)) (sym (set_is t (accept x ok []) z refl))
      (record { inv = record { tick = k; ahead = λ j. f }; active = omega arith; deadline = refl; clock = refl })

  pub adds : (n m : ℕ) → Add n t (answer (add n t)) (first m (out (add n t))) (left (add n t) t)
  adds n m =
      less (t.clock + n) never
      (λ e.
      subst upstream (sym (set_is t _ z (add_in_time t.clock n e)))
      (record {
        clock = refl;
        inv = λ r. record { tick = k; ahead = λ j. inr (omega arith) };
        active = λ r. omega arith;
        sum = λ r. refl;
        told = λ r. refl;
        ahead = λ r. omega arith;
        code = λ f. absurd (f.0 refl);
        over = λ f. absurd (f.0 refl);
        active_stays = λ f. absurd (f.0 refl);
        deadline_stays = λ f. absurd (f.0 refl);
      }))
      (λ e.
      subst upstream (sym (set_no t _ z (add-late t.clock n e)))
      (record {
        clock = refl;
        inv = λ r. no_code (sym r);
        active = λ r. no_code (sym r);
        sum = λ r. no_code (sym r);
        told = λ r. no_code (sym r);
        ahead = λ r. no_code (sym r);
        code = λ f. refl;
        over = λ f. e;
        active_stays = λ f. refl;
        deadline_stays = λ f. refl;
      }))
    where
      upstream : Reply Timeout → Type 0
      upstream y = Add n t (answer y) (first m (out y)) (left y t)

  pub adds-absolute : (x : ℕ) → AddAbsolute x t (answer (add_absolute x t)) (left (add_absolute x t) t)
  adds-absolute x =
      less x t.clock (λ e. subst upstream (sym (set_no t _ z (absolute-behind x t.clock e))) (no (inl e)))
      (λ e. less x never (yes e) (λ f. subst upstream (sym (set_no t _ z (absolute_far x t.clock f))) (no (inr f))))
    where
      upstream : Reply Timeout → Type 0
      upstream y = AddAbsolute x t (answer y) (left y t)

      no : (x < t.clock) ⊎ (never ≤ x) → upstream (refuse einval)
      no w =
          record {
            clock = refl;
            inv = λ r. no_code (sym r);
            active = λ r. no_code (sym r);
            is = λ r. no_code (sym r);
            ahead = λ r. no_code (sym r);
            finite = λ r. no_code (sym r);
            code = λ f. refl;
            wrong = λ f. w;
            active_stays = λ f. refl;
            deadline_stays = λ f. refl;
          }

      yes : t.clock ≤ x → x < never → upstream (add_absolute x t)
      yes e f =
          subst upstream (sym (set_is t _ z (absolute-is x t.clock e f)))
          (record {
            clock = refl;
            inv = λ r. record { tick = k; ahead = λ j. inr e };
            active = λ r. omega arith;
            is = λ r. refl;
            ahead = λ r. e;
            finite = λ r. f;
            code = λ g. absurd (g.0 refl);
            wrong = λ g. absurd (g.0 refl);
            active_stays = λ g. absurd (g.0 refl);
            deadline_stays = λ g. absurd (g.0 refl);
          })
