-- What holds of mutexes in any system that has them. Assumes nothing.
use mathlib.Core.Path.{◌≡◌, refl, sym, ap, ◌∙◌}
use mathlib.Core.Bool.{true, false}
use mathlib.Core.Logic.{⊎_elim}
use mathlib.Core.List.{List, []}
use Prim.Native.Nat.{ℕ, suc, ◌<◌}
use native.Mathlib.Omega.{arith}
use lib.ListN.{length}
use borrow.Author.Tests.{eq-eqb, ltb-true}
use Rattle.seq.specs.List.{any}
use Rattle.thread.specs.Code.{ok}
use Rattle.wait_queue.specs.Queue.{max_waiters}
use Rattle.kind.specs.Kind.{Kind, Lawful}
use Rattle.kind.proofs.Picks.{none_any}
use Rattle.mutex.specs.Mutex.{Owner, nobody, thread, Mutex, Call, lock, try_lock, max_count, formed, mutex_kind}
use Rattle.mutex.proofs.Law.{free-empty}
use Rattle.system.specs.System.{waiting, object, Sys, Op, invoke, done, Reply, step, after}
use Rattle.system.specs.Part.{Part}
use Rattle.system.specs.Rules.{Fine, Start}
use Rattle.system.specs.Effect.{Waits}
use Rattle.system.specs.MutexRules.{Locks}
use Rattle.system.specs.Run.{run}
use Rattle.system.specs.Theorems.{Owns, Mutexes}
use Rattle.system.proofs.Steps.{always}
use Rattle.system.proofs.Same.{under, alike}
use Rattle.system.proofs.Lives.{owed}
use Rattle.system.proofs.Runners.{refused, done-runs}
use Rattle.system.proofs.Sheets.{Fits}
use Rattle.system.proofs.MutexSheet.{mutex-keeps}
use Rattle.system.proofs.SemTheorems.{waits-not}
use Rattle.system.proofs.Bests.{held_of}

module _ {K : Kind} (P : Part mutex_kind K) (h : Fits P) (s : Sys K) (g : Fine s) (o : ℕ) (m : Mutex) (e : s.slot o ≡ object (P.num m)) where
  fine : formed m (any (s.queue o)) ≡ true
  fine = sym (h.formed m (any (s.queue o))) ∙ g.formed o (P.num m) e

  locked : (i : ℕ) → m.owner ≡ thread i → 0 < m.count
  locked i z = ltb-true 0 m.count (rw z at fine)

  idle : m.owner ≡ nobody → (m.count ≡ 0) × (s.queue o ≡ [])
  idle z = let w : (m.count ≡ 0) × (any (s.queue o) ≡ false) = free-empty m.count (any (s.queue o)) (rw z at fine) in (w.0, none_any (s.queue o) w.1)

  -- who waits there waits for another
  apart : (i : ℕ) → m.owner ≡ thread i → s.state i ≡ waiting o → ⊥
  apart i z w =
      let b : mutex_kind.Blocked m i (P.seen (s.wish i)) =
      h.blocks m i (s.wish i) (owed (λ t. K.Blocked (P.num m) t (s.wish t)) i (s.queue o)
      (held_of i (s.queue o) (g.placed o i ∙ rw (w, eq-eqb o o refl))) (g.kept o (P.num m) e)) in
      (rw z at b) refl

  -- whose lock is answered 0 owns it, if nobody is answered 0 where another owns it
  one : (i : ℕ) (k : Call) {E : Type 0} → Locks P step s i o m k E → (E → (step s (invoke i o (P.call k))).1 ≡ done ok → ⊥)
      → (step s (invoke i o (P.call k))).1 ≡ done ok
      → Owns P (step s (invoke i o (P.call k))).0 o i
  one i k l off z = go m.owner refl
    where
      owns : (c : ℕ) → 0 < c → (step s (invoke i o (P.call k))).0.slot o ≡ object (P.num (record { owner = thread i; count = c }))
          → Owns P (step s (invoke i o (P.call k))).0 o i
      owns c y x = record { locks = c; is = x; least = y }

      go : (w : Owner) → m.owner ≡ w → Owns P (step s (invoke i o (P.call k))).0 o i
      go nobody y = owns 1 (omega arith) (ap (λ (x : Reply K). x.0.slot o) (l.free y) ∙ rw (eq-eqb o o refl))
      go (thread j) y =
          ⊎_elim
          (λ v.
          let own : m.owner ≡ thread i = y ∙ ap thread v in
          ⊎_elim (λ c. owns (suc m.count) (omega arith) (ap (λ (x : Reply K). x.0.slot o) (l.again own c) ∙ rw (eq-eqb o o refl)))
          (λ c. refused (sym z ∙ ap (λ (x : Reply K). x.1) (l.often own c))) (under m.count max_count))
          (λ v. absurd (off (l.theirs j y v) z))
          (alike j i)

  waited : (i : ℕ) → Waits step s i o (P.call lock) (P.wish tt) → (step s (invoke i o (P.call lock))).1 ≡ done ok → ⊥
  waited i w z =
      ⊎_elim (λ l. waits-not (sym (ap (λ (x : Reply K). x.1) (w.joins l)) ∙ z)) (λ l. refused (sym z ∙ ap (λ (x : Reply K). x.1) (w.full l)))
      (under (length (s.queue o)) max_waiters)

  got : (i : ℕ) → (step s (invoke i o (P.call lock))).1 ≡ done ok → Owns P (step s (invoke i o (P.call lock))).0 o i
  got i z = one i lock (mutex-keeps P h s g i o m e (done-runs s g i o (P.call lock) (P.num m) ok e z)).locks (waited i) z

  tried : (i : ℕ) → (step s (invoke i o (P.call try_lock))).1 ≡ done ok → Owns P (step s (invoke i o (P.call try_lock))).0 o i
  tried i z = one i try_lock (mutex-keeps P h s g i o m e (done-runs s g i o (P.call try_lock) (P.num m) ok e z)).tries
      (λ w y. refused (sym y ∙ ap (λ (x : Reply K). x.1) w)) z

pub mutexes : {K : Kind} → Lawful K → (P : Part mutex_kind K) → Fits P → (s : Sys K) → Start s → (past : List (Op K)) → Mutexes P (run step s) past
mutexes l P h s b past =
    record {
      locked = λ o i m e z. locked P h (after s past) (always l s b past) o m e i z;
      idle = λ o m e z. idle P h (after s past) (always l s b past) o m e z;
      apart = λ o i m e z w. apart P h (after s past) (always l s b past) o m e i z w;
      got = λ i o m e z. got P h (after s past) (always l s b past) o m e i z;
      tried = λ i o m e z. tried P h (after s past) (always l s b past) o m e i z;
    }
