-- No contract of a public function leaves anything open: of two outcomes from the same memory and the same numbers that both meet it, the answers
-- are the same, and so is every word.
use Rattle.std.specs.Prelude.{List, ℕ, ℤ}
use Rattle.seq.specs.Only.{Only}
use Rattle.thread.specs.Answer.{TellsBy}
use Rattle.timer.specs.Post.{ExpireDecided, Starts, StartsRunning, Stops, Expires, GetsStatus, PeeksStatus, GetsPeriod, SaysRunning}
use Rattle.timer.specs.Timer.{decided, its_status}
use Rattle.timer.specs.declared.ExpireDecideResult.{ExpireDecideResult}

pub record Determined : Type 0 where
  pub expire_decide : (status period n : ℕ) → Only (λ ((r, n') : ℤ × ℕ). ExpireDecided status period n r n')
  pub init : (period : ℕ) (h : List ℕ) → Only (λ ((r, h') : ℤ × List ℕ). Starts period h r h')
  pub start : (h : List ℕ) → Only (λ ((r, h') : ℤ × List ℕ). StartsRunning h r h')
  pub stop : (h : List ℕ) → Only (λ ((r, h') : ℤ × List ℕ). Stops h r h')
  pub expire : (h : List ℕ) → Only (λ ((r, h') : ℤ × List ℕ). Expires h r h')
  pub status_get : (h : List ℕ) → Only (λ ((r, h') : ℤ × List ℕ). GetsStatus h r h')
  pub status_peek : (h : List ℕ) → Only (λ (r : ℤ). PeeksStatus h r)
  pub period_get : (h : List ℕ) → Only (λ (r : ℤ). GetsPeriod h r)
  pub is_running : (h : List ℕ) → Only (λ (r : ℤ). SaysRunning h r)
  -- the number and the words tell which answer it is
  pub expire_answer : TellsBy {T = ExpireDecideResult} decided its_status
