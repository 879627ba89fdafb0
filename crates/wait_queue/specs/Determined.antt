-- No contract of a public function leaves anything open: of two outcomes from the same memory and the same numbers that both meet it, the answers
-- are the same, and so is every word.
use Rattle.std.specs.Prelude.{Bool, List, ℕ, ℤ}
use Rattle.seq.specs.Only.{Only}
use Rattle.thread.specs.Answer.{Tells}
use Rattle.thread.specs.Post.{AnswersCaller}
use Rattle.wait_queue.specs.declared.Outcome.{Outcome}
use Rattle.wait_queue.specs.Turn.{outcome}
use Rattle.wait_queue.specs.Post.{SaysOver, SaysFits, Starts, GetsLen, SaysEmpty, SaysHolds, Enters, Pends, UnpendsFirst, UnpendsAll, Removes, Audits}

pub record Determined : Type 0 where
  pub over : (n : ℕ) → Only (λ (r : Bool). SaysOver n r)
  pub fits : (n : ℕ) (e : List ℕ) → Only (λ (r : Bool). SaysFits n e r)
  pub caller : (p st : ℕ) → Only (λ (r : ℤ). AnswersCaller p st r)
  pub new : Only (λ (n' : ℕ). Starts n')
  pub len : (n : ℕ) (e : List ℕ) → Only (λ (r : ℤ). GetsLen n e r)
  pub is_empty : (n : ℕ) (e : List ℕ) → Only (λ (r : ℤ). SaysEmpty n e r)
  pub holds : (n i : ℕ) (e : List ℕ) → Only (λ (r : Bool). SaysHolds n i e r)
  pub enter : (i p n : ℕ) (e : List ℕ) → Only (λ ((r, n', e') : ℤ × ℕ × List ℕ). Enters i p n e r n' e')
  pub pend : (i p st n : ℕ) (e : List ℕ) → Only (λ ((r, n', e') : ℤ × ℕ × List ℕ). Pends i p st n e r n' e')
  pub unpend_first : (z : ℤ) (n : ℕ) (e : List ℕ) (w : ℕ) → Only (λ ((r, n', w') : ℤ × ℕ × ℕ). UnpendsFirst z n e w r n' w')
  pub unpend_all : (z : ℤ) (n : ℕ) (e out : List ℕ) → Only (λ ((r, n', out') : ℤ × ℕ × List ℕ). UnpendsAll z n e out r n' out')
  pub remove : (i n : ℕ) (e : List ℕ) → Only (λ ((r, n', e') : ℤ × ℕ × List ℕ). Removes i n e r n' e')
  pub audit : (n : ℕ) (e : List ℕ) → Only (λ (r : Bool). Audits n e r)
  -- the number tells the answer of a caller that may wait
  pub outcome_answer : Tells {T = Outcome} outcome
