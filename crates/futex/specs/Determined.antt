-- No contract of a public function leaves anything open: of two outcomes from the same memory and the same numbers that both meet it, the answers
-- are the same, and so is every word.
use Rattle.std.specs.Prelude.{Bool, List, ℕ, ℤ}
use Rattle.seq.specs.Only.{Only}
use Rattle.thread.specs.Answer.{TellsBy}
use Rattle.futex.specs.Post.{Starts, Waits, Wakes, SetsVal, GetsVal, CountsWaiters, Audits, WaitDecided, WakeDecided}
use Rattle.futex.specs.Decision.{woken, remaining}
use Rattle.futex.specs.declared.WakeDecision.{WakeDecision}

pub record Determined : Type 0 where
  pub wait_decide : (val expected : ℕ) → Only (λ (r : ℤ). WaitDecided val expected r)
  pub wake_decide : (n : ℕ) (all : Bool) (m : ℕ) → Only (λ ((r, m') : ℤ × ℕ). WakeDecided n all m r m')
  pub init : (val : ℕ) (h : List ℕ) → Only (λ ((r, h') : ℤ × List ℕ). Starts val h r h')
  pub wait : (expected i p st : ℕ) (h e : List ℕ) → Only (λ ((r, h', e') : ℤ × List ℕ × List ℕ). Waits expected i p st h e r h' e')
  pub wake : (all : Bool) (h e out : List ℕ) → Only (λ ((r, h', out') : ℤ × List ℕ × List ℕ). Wakes all h e out r h' out')
  pub val_set : (val : ℕ) (h e : List ℕ) → Only (λ ((r, h') : ℤ × List ℕ). SetsVal val h e r h')
  pub val_get : (h e : List ℕ) → Only (λ (r : ℤ). GetsVal h e r)
  pub num_waiters : (h e : List ℕ) → Only (λ (r : ℤ). CountsWaiters h e r)
  pub audit : (h e : List ℕ) → Only (λ (r : Bool). Audits h e r)
  -- the number and the words tell which answer it is
  pub wake_answer : TellsBy {T = WakeDecision} woken remaining
