-- What holds of semaphores in any system that has them. Assumes nothing.
use mathlib.Core.Path.{◌≡◌, refl, sym, ap, ◌∙◌}
use mathlib.Core.Bool.{Bool, true, false}
use mathlib.Core.Logic.{⊎_elim}
use mathlib.Core.List.{List, []}
use Prim.Native.Nat.{ℕ, ◌-◌, ◌<◌}
use native.Mathlib.Omega.{arith}
use lib.IntN.{pos}
use lib.ListN.{length}
use borrow.Author.Tests.{eq-eqb}
use Rattle.seq.specs.List.{any}
use Rattle.thread.specs.Code.{ok}
use Rattle.wait_queue.specs.Queue.{max_waiters}
use Rattle.kind.specs.Kind.{Kind, Lawful}
use Rattle.kind.proofs.Picks.{none_any}
use Rattle.sem.specs.Sem.{Sem, Call, take, try_take, sem_kind}
use Rattle.sem.proofs.Law as law
use Rattle.system.specs.System.{object, Sys, Op, invoke, done, Reply, step, after}
use Rattle.system.specs.Part.{Part}
use Rattle.system.specs.Rules.{Fine, Start}
use Rattle.system.specs.Effect.{Waits}
use Rattle.system.specs.SemRules.{Takes}
use Rattle.system.specs.Run.{run}
use Rattle.system.specs.Theorems.{Semaphores}
use Rattle.system.proofs.Steps.{always}
use Rattle.system.proofs.Same.{under}
use Rattle.system.proofs.Runners.{refused, done-runs}
use Rattle.system.proofs.Sheets.{Fits}
use Rattle.system.proofs.SemSheet.{sem_keeps}

pub waits-not : {A : Type 0} → done (pos 1) ≡ done ok → A
waits-not h = absurd (let z : pos 1 ≡ ok = cc in let y : ◌≡◌ {A = ℕ} 0 1 = cc in omega arith)

module _ {K : Kind} (P : Part sem_kind K) (h : Fits P) (s : Sys K) (g : Fine s) (o : ℕ) (n : Sem) (e : s.slot o ≡ object (P.num n)) where
  fine : law.Fine n.count n.limit (any (s.queue o))
  fine = law.is-fine n.count n.limit (any (s.queue o)) (sym (h.formed n (any (s.queue o))) ∙ g.formed o (P.num n) e)

  none : 0 < n.count → s.queue o ≡ []
  none c = none_any (s.queue o) (go (any (s.queue o)) refl)
    where
      go : (b : Bool) → any (s.queue o) ≡ b → any (s.queue o) ≡ false
      go true z = absurd (omega (arith, c, fine.empty z))
      go false z = z

  -- who is answered 0 had one, if at 0 nobody is answered 0
  one : (i : ℕ) (k : Call) {E : Type 0} → Takes P step s i o n k E → (E → (step s (invoke i o (P.call k))).1 ≡ done ok → ⊥)
      → (step s (invoke i o (P.call k))).1 ≡ done ok
      → (0 < n.count) × ((step s (invoke i o (P.call k))).0.slot o ≡ object (P.num (record { count = n.count - 1; limit = n.limit })))
  one i k t off z =
      ⊎_elim (λ l. (l, ap (λ (x : Reply K). x.0.slot o) (t.there l) ∙ rw (eq-eqb o o refl))) (λ l. absurd (off (t.empty (omega arith)) z))
      (under 0 n.count)

  waited : (i : ℕ) → Waits step s i o (P.call take) (P.wish tt) → (step s (invoke i o (P.call take))).1 ≡ done ok → ⊥
  waited i w z =
      ⊎_elim (λ l. waits-not (sym (ap (λ (x : Reply K). x.1) (w.joins l)) ∙ z)) (λ l. refused (sym z ∙ ap (λ (x : Reply K). x.1) (w.full l)))
      (under (length (s.queue o)) max_waiters)

  took : (i : ℕ) → (step s (invoke i o (P.call take))).1 ≡ done ok
      → (0 < n.count) × ((step s (invoke i o (P.call take))).0.slot o ≡ object (P.num (record { count = n.count - 1; limit = n.limit })))
  took i z = one i take (sem_keeps P h s g i o n e (done-runs s g i o (P.call take) (P.num n) ok e z)).takes (waited i) z

  tried : (i : ℕ) → (step s (invoke i o (P.call try_take))).1 ≡ done ok
      → (0 < n.count) × ((step s (invoke i o (P.call try_take))).0.slot o ≡ object (P.num (record { count = n.count - 1; limit = n.limit })))
  tried i z =
      one i try_take (sem_keeps P h s g i o n e (done-runs s g i o (P.call try_take) (P.num n) ok e z)).tries
      (λ w y. refused (sym y ∙ ap (λ (x : Reply K). x.1) w)) z

pub semaphores : {K : Kind} → Lawful K → (P : Part sem_kind K) → Fits P → (s : Sys K) → Start s → (past : List (Op K)) → Semaphores P (run step s) past
semaphores l P h s b past =
    record {
      limited = λ o n e. (fine P h (after s past) (always l s b past) o n e).under;
      empty = λ o n e. none P h (after s past) (always l s b past) o n e;
      took = λ i o n e z. took P h (after s past) (always l s b past) o n e i z;
      tried = λ i o n e z. tried P h (after s past) (always l s b past) o n e i z;
    }
