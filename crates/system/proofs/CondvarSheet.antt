-- The data sheet of a condition variable holds of our step, and of no other kernel. Assumes nothing.
use mathlib.Core.Path.{◌≡◌, refl, sym, ap, ◌∙◌}
use mathlib.Core.List.{[], ◌∷◌, map}
use Prim.Native.Nat.{ℕ}
use lib.IntN.{pos}
use lib.ListN.{length}
use Rattle.thread.specs.Code.{ok, eagain}
use Rattle.wait_queue.specs.Queue.{ident}
use Rattle.wait_queue.specs.Turn as turn
use Rattle.kind.specs.Verdict.{up_to, everybody, keep, park, wake, Verdict, deny, allow}
use Rattle.kind.specs.Kind.{Kind}
use Rattle.condvar.specs.Condvar.{Call, signal, broadcast, wait, try_wait, decide, condvar_kind}
use Rattle.condvar.proofs.Law.{condvar_lawful}
use Rattle.system.specs.System.{running, object, Sys, invoke, Kernel, verdict, step}
use Rattle.system.specs.Part.{Part}
use Rattle.system.specs.Sum.{mapped}
use Rattle.system.specs.Rules.{Fine}
use Rattle.system.specs.CondvarRules.{CondvarRules}
use Rattle.system.specs.Rtos.{condvars}
use Rattle.system.proofs.Effects as effects
use Rattle.system.proofs.Same.{one-wait, one-wake}
use Rattle.system.proofs.Bests.{Turnwise}
use Rattle.system.proofs.Sheets.{Fits, Sheet}

module _ {K : Kind} (P : Part condvar_kind K) (h : Fits P) (s : Sys K) (g : Fine s) (i o : ℕ) (n : Unit {0}) (e : s.slot o ≡ object (P.num n))
    (r : s.state i ≡ running) where
  -- what it decides, in words of the system
  says : (k : Call) (d : Verdict (Unit {0}) (Unit {0})) → decide n (λ t. P.seen (s.wish t)) (map ident (s.queue o)) i k ≡ d
      → verdict s i o (P.call k) (P.num n) ≡ mapped P.num P.wish d
  says k d z = h.decides n s.wish (map ident (s.queue o)) i k ∙ ap (mapped P.num P.wish) z

  pub condvar_keeps : CondvarRules P step s i o
  condvar_keeps =
      record {
        signals =
            record {
              first = λ x q z. effects.passes-one s g i o (P.call signal) (P.num n) e r 1 x q z
                  (says signal (allow n (wake (up_to 1) (λ t. ok)) (pos 1)) (rw z));
              alone = λ z. effects.stays s g i o (P.call signal) (P.num n) e r 0 (says signal (allow n keep (pos 0)) (rw z));
            };
        broadcasts =
            effects.frees_all s g i o (P.call broadcast) (P.num n) e r ok
            (says broadcast (allow n (wake everybody (λ t. ok)) (pos (length (map ident (s.queue o))))) refl);
        waits = effects.waits s g i o (P.call wait) (P.num n) e r (P.wish tt) turn.waits (says wait (allow n (park tt) turn.waits) refl);
        tries = effects.denies s g i o (P.call try_wait) (P.num n) e r 10 (says try_wait (deny eagain) refl);
      }

condvar_fixes : {K : Kind} (P : Part condvar_kind K) (f g : Kernel K) (s : Sys K) (i o : ℕ) (k : Call) → CondvarRules P f s i o → CondvarRules P g s i o
    → f s (invoke i o (P.call k)) ≡ g s (invoke i o (P.call k))
condvar_fixes P f g s i o signal a b = one-wake f g s i o (P.call signal) (pos 1) (λ x y. x ∙ sym y) a.signals b.signals
condvar_fixes P f g s i o broadcast a b = a.broadcasts ∙ sym b.broadcasts
condvar_fixes P f g s i o wait a b = one-wait f g s i o (P.call wait) (P.wish tt) a.waits b.waits
condvar_fixes P f g s i o try_wait a b = a.tries ∙ sym b.tries

-- it wakes from the front
turnwise : Turnwise condvar_kind
turnwise n v [] w signal = tt
turnwise n v (t ∷ q) w signal = tt
turnwise n v q w broadcast = tt
turnwise n v q w wait = tt
turnwise n v q w try_wait = tt

pub condvar_sheet : Sheet condvars
condvar_sheet =
    record {
      lawful = condvar_lawful;
      turnwise = turnwise;
      makes = λ n e. refl;
      made = λ n e. tt;
      foreign = λ n v q w k e. absurd e;
      keeps = condvar_keeps;
      fixes = λ P f g s i o n k w a b e. condvar_fixes P f g s i o k a b;
    }
