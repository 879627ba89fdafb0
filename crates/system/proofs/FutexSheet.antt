-- The data sheet of a futex holds of our step, and of no other kernel. Assumes nothing.
use mathlib.Core.Path.{◌≡◌, refl, sym, ap, subst, ◌∙◌}
use mathlib.Core.Logic.{⊎_elim}
use mathlib.Core.List.{[], ◌∷◌, map}
use Prim.Native.Nat.{ℕ}
use lib.Dec.{eqb}
use lib.IntN.{pos}
use lib.ListN.{length}
use borrow.Author.Tests.{eq-eqb, ne_eqb, lt-ltb, ltb-true}
use Rattle.thread.specs.Code.{ok, eagain}
use Rattle.wait_queue.specs.Queue.{ident}
use Rattle.wait_queue.specs.Turn as turn
use Rattle.kind.specs.Verdict.{up_to, everybody, keep, park, wake, Verdict, deny, allow}
use Rattle.kind.specs.Kind.{Kind}
use Rattle.futex.specs.Futex.{Futex, Call, wait, wake_one, wake_all, set, decide, futex_kind}
use Rattle.futex.proofs.Law.{futex_lawful}
use Rattle.system.specs.System.{running, object, Sys, invoke, Kernel, verdict, step}
use Rattle.system.specs.Part.{Part}
use Rattle.system.specs.Sum.{mapped}
use Rattle.system.specs.Rules.{Fine}
use Rattle.system.specs.FutexRules.{FutexRules}
use Rattle.system.specs.Rtos.{futexes}
use Rattle.system.proofs.Effects as effects
use Rattle.system.proofs.Same.{alike, one-wait, one-wake}
use Rattle.system.proofs.Bests.{Turnwise, in_turn}
use Rattle.system.proofs.Sheets.{Fits, Sheet}

module _ {K : Kind} (P : Part futex_kind K) (h : Fits P) (s : Sys K) (g : Fine s) (i o : ℕ) (n : Futex) (e : s.slot o ≡ object (P.num n))
    (r : s.state i ≡ running) where
  -- what it decides, in words of the system
  says : (k : Call) (d : Verdict Futex (Unit {0})) → decide n (λ t. P.seen (s.wish t)) (map ident (s.queue o)) i k ≡ d
      → verdict s i o (P.call k) (P.num n) ≡ mapped P.num P.wish d
  says k d z = h.decides n s.wish (map ident (s.queue o)) i k ∙ ap (mapped P.num P.wish) z

  pub futex-keeps : FutexRules P step s i o n
  futex-keeps =
      record {
        waits =
            effects.waits s g i o (P.call (wait n.val)) (P.num n) e r (P.wish tt) turn.waits
            (says (wait n.val) (allow n (park tt) turn.waits) (rw (eq-eqb n.val n.val refl)));
        differs = λ x z. effects.denies s g i o (P.call (wait x)) (P.num n) e r 10 (says (wait x) (deny eagain) (rw (ne_eqb n.val x z)));
        wakes =
            record {
              first = λ x q z. effects.passes-one s g i o (P.call wake_one) (P.num n) e r 1 x q z
                  (says wake_one (allow n (wake (up_to 1) (λ t. ok)) (pos 1)) (rw z));
              alone = λ z. effects.stays s g i o (P.call wake_one) (P.num n) e r 0 (says wake_one (allow n keep (pos 0)) (rw z));
            };
        wakes_all =
            effects.frees_all s g i o (P.call wake_all) (P.num n) e r ok
            (says wake_all (allow n (wake everybody (λ t. ok)) (pos (length (map ident (s.queue o))))) refl);
        sets = λ x. effects.keeps s g i o (P.call (set x)) (P.num n) e r (P.num (record { val = x })) 0
            (says (set x) (allow (record { val = x }) keep ok) refl);
      }

futex_fixes : {K : Kind} (P : Part futex_kind K) (f g : Kernel K) (s : Sys K) (i o : ℕ) (n : Futex) (k : Call) → FutexRules P f s i o n → FutexRules P g s i o n
    → f s (invoke i o (P.call k)) ≡ g s (invoke i o (P.call k))
futex_fixes P f g s i o n (wait x) a b =
    ⊎_elim
    (λ e.
    subst (λ (z : ℕ). f s (invoke i o (P.call (wait z))) ≡ g s (invoke i o (P.call (wait z)))) e
    (one-wait f g s i o (P.call (wait n.val)) (P.wish tt) a.waits b.waits))
    (λ e. a.differs x e ∙ sym (b.differs x e))
    (alike n.val x)
futex_fixes P f g s i o n wake_one a b = one-wake f g s i o (P.call wake_one) (pos 1) (λ x y. x ∙ sym y) a.wakes b.wakes
futex_fixes P f g s i o n wake_all a b = a.wakes_all ∙ sym b.wakes_all
futex_fixes P f g s i o n (set x) a b = a.sets x ∙ sym (b.sets x)

-- it wakes from the front
turnwise : Turnwise futex_kind
turnwise n v q w (wait x) = in_turn (eqb n.val x) _ _ tt tt
turnwise n v [] w wake_one = tt
turnwise n v (t ∷ q) w wake_one = tt
turnwise n v q w wake_all = tt
turnwise n v q w (set x) = tt

pub futex_sheet : Sheet futexes
futex_sheet =
    record {
      lawful = futex_lawful;
      turnwise = turnwise;
      makes = λ n e. lt-ltb n.val 4294967296 e;
      made = λ n e. ltb-true n.val 4294967296 e;
      foreign = λ n v q w k e. absurd e;
      keeps = futex-keeps;
      fixes = λ P f g s i o n k w a b e. futex_fixes P f g s i o n k a b;
    }
