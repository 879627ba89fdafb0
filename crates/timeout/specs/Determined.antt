-- No contract of a public function leaves anything open: of two outcomes from the same memory and the same numbers that both meet it, the answers
-- are the same, and so is every word.
use Rattle.std.specs.Prelude.{Bool, List, ℕ, ℤ}
use Rattle.seq.specs.Only.{Only}
use Rattle.thread.specs.Answer.{TellsBy}
use Rattle.timeout.specs.Post.{AddDecided, AbortDecided, AnnounceDecided, Starts, Adds, AddsAbsolute, AddsForever, AddsNoWait, Aborts, Announces, GetsRemaining, GetsExpiry, SaysActive, SaysForever, SaysNoWait, GetsNow, CalcsTimepoint, GetsTimepointTimeout}
use Rattle.timeout.specs.Timeout.{decided, its_tick}
use Rattle.timeout.specs.declared.AnnounceDecideResult.{AnnounceDecideResult}

pub record Determined : Type 0 where
  pub add_decide : (clock duration n : ℕ) → Only (λ ((r, n') : ℤ × ℕ). AddDecided clock duration n r n')
  pub abort_decide : (active : Bool) → Only (λ (r : Bool). AbortDecided active r)
  pub announce_decide : (clock ticks deadline : ℕ) (active : Bool) (n : ℕ) → Only (λ ((r, n') : ℤ × ℕ). AnnounceDecided clock ticks deadline active n r n')
  pub init : (clock : ℕ) (h : List ℕ) → Only (λ ((r, h') : ℤ × List ℕ). Starts clock h r h')
  pub add : (duration : ℕ) (h : List ℕ) (n : ℕ) → Only (λ ((r, h', n') : ℤ × List ℕ × ℕ). Adds duration h n r h' n')
  pub add_absolute : (deadline : ℕ) (h : List ℕ) → Only (λ ((r, h') : ℤ × List ℕ). AddsAbsolute deadline h r h')
  pub add_forever : (h : List ℕ) → Only (λ ((r, h') : ℤ × List ℕ). AddsForever h r h')
  pub add_no_wait : (h : List ℕ) → Only (λ ((r, h') : ℤ × List ℕ). AddsNoWait h r h')
  pub abort : (h : List ℕ) → Only (λ ((r, h') : ℤ × List ℕ). Aborts h r h')
  pub announce : (ticks : ℕ) (h : List ℕ) → Only (λ ((r, h') : ℤ × List ℕ). Announces ticks h r h')
  pub remaining : (h : List ℕ) (n : ℕ) → Only (λ ((r, n') : ℤ × ℕ). GetsRemaining h n r n')
  pub expires : (h : List ℕ) (n : ℕ) → Only (λ ((r, n') : ℤ × ℕ). GetsExpiry h n r n')
  pub is_active : (h : List ℕ) → Only (λ (r : ℤ). SaysActive h r)
  pub is_forever : (h : List ℕ) → Only (λ (r : ℤ). SaysForever h r)
  pub is_no_wait : (h : List ℕ) → Only (λ (r : ℤ). SaysNoWait h r)
  pub now : (h : List ℕ) (n : ℕ) → Only (λ ((r, n') : ℤ × ℕ). GetsNow h n r n')
  pub timepoint_calc : (duration : ℕ) (h : List ℕ) (n : ℕ) → Only (λ ((r, n') : ℤ × ℕ). CalcsTimepoint duration h n r n')
  pub timepoint_timeout : (timepoint : ℕ) (h : List ℕ) (n : ℕ) → Only (λ ((r, n') : ℤ × ℕ). GetsTimepointTimeout timepoint h n r n')
  -- the number and the words tell which answer it is
  pub announce_answer : TellsBy {T = AnnounceDecideResult} decided its_tick
