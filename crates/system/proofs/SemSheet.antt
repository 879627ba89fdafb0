-- The data sheet of a semaphore holds of our step, and of no other kernel. Assumes nothing.
use mathlib.Core.Path.{◌≡◌, refl, sym, ap, ◌∙◌}
use mathlib.Core.Bool.{Bool, true, false, cond}
use mathlib.Core.Logic.{⊎_elim}
use mathlib.Core.List.{[], ◌∷◌, map}
use Prim.Native.Nat.{ℕ, suc, ◌-◌}
use native.Mathlib.Omega.{arith}
use lib.Dec.{ltb, leb}
use lib.IntN.{pos}
use lib.ListN.{length}
use borrow.Author.Tests.{lt-ltb, le-ltb, le-leb, ltb-true, leb-true}
use Rattle.seq.proofs.Order.{clash}
use Rattle.thread.specs.Code.{ok, eagain, ebusy}
use Rattle.wait_queue.specs.Queue.{ident}
use Rattle.wait_queue.specs.Turn as turn
use Rattle.kind.specs.Verdict.{up_to, everybody, keep, park, wake, Verdict, deny, allow}
use Rattle.kind.specs.Kind.{Kind}
use Rattle.sem.specs.Sem.{Sem, Call, give, take, try_take, reset, woke, incremented, saturated, counting, new, decide, sem_kind}
use Rattle.sem.proofs.Law.{sem_lawful}
use Rattle.system.specs.System.{running, object, Sys, invoke, Kernel, verdict, step}
use Rattle.system.specs.Part.{Part}
use Rattle.system.specs.Sum.{mapped}
use Rattle.system.specs.Rules.{Fine}
use Rattle.system.specs.SemRules.{SemMakes, counted, Takes, SemRules}
use Rattle.system.specs.Rtos.{sems}
use Rattle.system.proofs.Effects as effects
use Rattle.system.proofs.Same.{under, one-wait, one-wake}
use Rattle.system.proofs.Bests.{Turnwise, in_turn}
use Rattle.system.proofs.Sheets.{Fits, Sheet}

makes : (n : Sem) → SemMakes n → new n ≡ true
makes n e = rw (lt-ltb n.limit 4294967296 e.1, lt-ltb 0 n.limit e.0, le-leb n.count n.limit e.2)

made : (n : Sem) → new n ≡ true → SemMakes n
made n e = go (ltb n.limit 4294967296) (ltb 0 n.limit) (leb n.count n.limit) refl refl refl e
  where
    go : (a b c : Bool) → ltb n.limit 4294967296 ≡ a → ltb 0 n.limit ≡ b → leb n.count n.limit ≡ c
        → cond a (cond b (cond c true false) false) false ≡ true → SemMakes n
    go true true true x y z e = (ltb-true 0 n.limit y, ltb-true n.limit 4294967296 x, leb-true n.count n.limit z)
    go true true false x y z e = clash (sym e)
    go true false c x y z e = clash (sym e)
    go false b c x y z e = clash (sym e)

module _ {K : Kind} (P : Part sem_kind K) (h : Fits P) (s : Sys K) (g : Fine s) (i o : ℕ) (n : Sem) (e : s.slot o ≡ object (P.num n))
    (r : s.state i ≡ running) where
  -- what it decides, in words of the system
  says : (k : Call) (d : Verdict Sem (Unit {0})) → decide n (λ t. P.seen (s.wish t)) (map ident (s.queue o)) i k ≡ d
      → verdict s i o (P.call k) (P.num n) ≡ mapped P.num P.wish d
  says k d z = h.decides n s.wish (map ident (s.queue o)) i k ∙ ap (mapped P.num P.wish) z

  pub sem_keeps : SemRules P step s i o n
  sem_keeps =
      record {
        gives =
            record {
              first = λ x q z. effects.passes-one s g i o (P.call give) (P.num n) e r 0 x q z (says give (allow n (wake (up_to 1) (λ t. ok)) woke) (rw z));
              alone =
                  λ z.
                  record {
                    below = λ l. effects.keeps s g i o (P.call give) (P.num n) e r (counted P step s i o n (suc n.count)) 1
                        (says give (allow (counting (suc n.count) n) keep incremented) (rw (z, lt-ltb n.count n.limit l)));
                    full = λ l. effects.stays s g i o (P.call give) (P.num n) e r 2
                        (says give (allow n keep saturated) (rw (z, le-ltb n.count n.limit l)));
                  };
            };
        takes =
            record {
              there = λ l. effects.keeps s g i o (P.call take) (P.num n) e r (counted P step s i o n (n.count - 1)) 0
                  (says take (allow (counting (n.count - 1) n) keep ok) (rw (lt-ltb 0 n.count l)));
              empty = λ z. effects.waits s g i o (P.call take) (P.num n) e r (P.wish tt) turn.waits (says take (allow n (park tt) turn.waits) (rw z));
            };
        tries =
            record {
              there = λ l. effects.keeps s g i o (P.call try_take) (P.num n) e r (counted P step s i o n (n.count - 1)) 0
                  (says try_take (allow (counting (n.count - 1) n) keep ok) (rw (lt-ltb 0 n.count l)));
              empty = λ z. effects.denies s g i o (P.call try_take) (P.num n) e r 15 (says try_take (deny ebusy) (rw z));
            };
        clears = effects.wakes-all s g i o (P.call reset) (P.num n) e r (counted P step s i o n 0) eagain
            (says reset (allow (counting 0 n) (wake everybody (λ t. eagain)) (pos (length (map ident (s.queue o))))) refl);
      }

module _ {K : Kind} (P : Part sem_kind K) (f g : Kernel K) (s : Sys K) (i o : ℕ) (n : Sem) where
  one-take : (k : Call) {E F : Type 0} → (E → F → f s (invoke i o (P.call k)) ≡ g s (invoke i o (P.call k))) → Takes P f s i o n k E → Takes P g s i o n k F
      → f s (invoke i o (P.call k)) ≡ g s (invoke i o (P.call k))
  one-take k t a b = ⊎_elim (λ l. a.there l ∙ sym (b.there l)) (λ l. let z : n.count ≡ 0 = omega arith in t (a.empty z) (b.empty z)) (under 0 n.count)

  sem_fixes : (k : Call) → SemRules P f s i o n → SemRules P g s i o n → f s (invoke i o (P.call k)) ≡ g s (invoke i o (P.call k))
  sem_fixes give a b =
      one-wake f g s i o (P.call give) (pos 0)
      (λ x y. ⊎_elim (λ l. x.below l ∙ sym (y.below l)) (λ l. x.full l ∙ sym (y.full l)) (under n.count n.limit)) a.gives b.gives
  sem_fixes take a b = one-take take (one-wait f g s i o (P.call take) (P.wish tt)) a.takes b.takes
  sem_fixes try_take a b = one-take try_take (λ x y. x ∙ sym y) a.tries b.tries
  sem_fixes reset a b = a.clears ∙ sym b.clears

-- it wakes from the front
turnwise : Turnwise sem_kind
turnwise n v [] w give = in_turn (ltb n.count n.limit) _ _ tt tt
turnwise n v (t ∷ q) w give = tt
turnwise n v q w take = in_turn (ltb 0 n.count) _ _ tt tt
turnwise n v q w try_take = in_turn (ltb 0 n.count) _ _ tt tt
turnwise n v q w reset = tt

pub sem_sheet : Sheet sems
sem_sheet =
    record {
      lawful = sem_lawful;
      turnwise = turnwise;
      makes = makes;
      made = made;
      foreign = λ n v q w k e. absurd e;
      keeps = sem_keeps;
      fixes = λ P f g s i o n k w a b e. sem_fixes P f g s i o n k a b;
    }
