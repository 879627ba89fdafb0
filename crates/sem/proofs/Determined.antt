-- The semaphore's contracts leave nothing open. Assumes nothing.
use mathlib.Core.Path.{◌≡◌, refl, sym, ◌∙◌}
use mathlib.Core.Bool.{Bool, true, false, cond}
use mathlib.Core.List.{[], ◌∷◌}
use Prim.Native.Nat.{ℕ, suc}
use native.Mathlib.Omega.{arith}
use lib.IntN.{ℤ, pos}
use lib.ListN.{length}
use lib.Dec.{eqb}
use lib.Signed.{mag}
use borrow.Author.Tests.{lt-ltb, le-leb}
use Rattle.seq.specs.Only.{Only}
use Rattle.seq.proofs.Only.{said, back_alike}
use Rattle.thread.proofs.Determined.{tells, tells-by}
use Rattle.store.proofs.Determined.{did_only, reads_only, hands_only, fills_only}
use Rattle.kind.specs.Determined.{Legible}
use Rattle.kind.proofs.Determined.{faithful, opened-only, audited_only}
use Rattle.sem.specs.Sem.{formed, sem_kind, decision, gave, handed}
use Rattle.sem.specs.Post.{layout, give_out, try_take_out, take_out, reset_out, GiveDecided, TakeDecided}
use Rattle.sem.specs.Determined.{Determined}
use Rattle.sem.specs.declared.GiveDecision.{GiveDecision}
use Rattle.sem.specs.declared.GiveDecision.TheVariants as decided
use Rattle.sem.specs.declared.GiveResult.{GiveResult}
use Rattle.sem.specs.declared.GiveResult.TheVariants as given

-- the three words are the count, the limit and the length of the queue
legible : Legible layout
legible h h' n l = back_alike 3 h h' (λ i. l i ∷ (n i).limit ∷ (n i).count ∷ [])

-- there is a queue in which somebody waits, and one in which nobody does
give-only : (count limit : ℕ) (waits : Bool) → Only (λ (r : ℤ). GiveDecided count limit waits r)
give-only count limit true x y m k = m (0 ∷ []) refl ∙ sym (k (0 ∷ []) refl)
give-only count limit false x y m k = m [] refl ∙ sym (k [] refl)

-- and every count has a limit
take-only : (count : ℕ) (no_wait : Bool) → Only (λ (r : ℤ). TakeDecided count no_wait r)
take-only count no_wait x y m k =
    let f : formed (record { count = count; limit = suc count }) false ≡ true =
    rw (lt-ltb 0 (suc count) (omega arith), le-leb count (suc count) (omega arith)) in
    m (suc count) [] f ∙ sym (k (suc count) [] f)

-- which decision has a number
a_decision : ℤ → GiveDecision
a_decision z = cond (eqb (mag z) 0) decided.WakeThread (cond (eqb (mag z) 1) decided.Increment decided.Saturated)

a_decision-told : (d : GiveDecision) → a_decision (decision d) ≡ d
unfolding a_decision
a_decision-told decided.WakeThread = refl
a_decision-told decided.Increment = refl
a_decision-told decided.Saturated = refl

decision-number : (d : GiveDecision) → decision d ≡ pos (mag (decision d))
decision-number decided.WakeThread = refl
decision-number decided.Increment = refl
decision-number decided.Saturated = refl

-- and what a give did that has a number, and handed out a word
a_give : ℤ → ℕ → GiveResult
a_give z w = cond (eqb (mag z) 0) (given.WokeThread w) (cond (eqb (mag z) 1) given.Incremented given.Saturated)

a_give-told : (d : GiveResult) → a_give (gave d) (handed d 0) ≡ d
unfolding a_give
a_give-told (given.WokeThread w) = refl
a_give-told given.Incremented = refl
a_give-told given.Saturated = refl

gave-number : (d : GiveResult) → gave d ≡ pos (mag (gave d))
gave-number (given.WokeThread w) = refl
gave-number given.Incremented = refl
gave-number given.Saturated = refl

pub determined : Determined
determined =
    record {
      give_decide = give-only;
      take_decide = take-only;
      init = λ count limit h. opened-only sem_kind layout (record { count = count; limit = limit }) h legible;
      give = λ h e. hands_only (faithful layout legible) h e give_out;
      try_take = λ h e. reads_only (faithful layout legible) h e try_take_out;
      take_blocking = λ i p st h e. did_only (faithful layout legible) h e (take_out i p st);
      reset = λ h e out. fills_only (faithful layout legible) h e (reset_out (length out)) out;
      count_get = λ h e. said _;
      limit_get = λ h e. said _;
      num_waiters = λ h e. said _;
      audit = audited_only sem_kind layout;
      give_decide_answer = tells decision decision-number (λ x y e. sym (a_decision-told x) ∙ (λ i. a_decision (e i)) ∙ a_decision-told y);
      give_answer = tells-by gave gave-number handed (λ x y e k. sym (a_give-told x) ∙ (λ i. a_give (e i) (k 0 i)) ∙ a_give-told y);
    }
