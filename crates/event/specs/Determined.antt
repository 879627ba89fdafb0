-- No contract of a public function leaves anything open: of two outcomes from the same memory and the same numbers that both meet it, the answers
-- are the same, and so is every word.
use Rattle.std.specs.Prelude.{Bool, List, ℕ, ℤ}
use Rattle.seq.specs.Only.{Only}
use Rattle.thread.specs.Answer.{TellsBy}
use Rattle.event.specs.Post.{Starts, Posts, Sets, SetsMasked, Clears, ChecksAny, ChecksAll, GetsEvents, WaitDecided, PostDecided}
use Rattle.event.specs.Event.{decided, its_flags}
use Rattle.event.specs.declared.WaitDecideResult.{WaitDecideResult}

pub record Determined : Type 0 where
  pub init : (h : List ℕ) → Only (λ ((r, h') : ℤ × List ℕ). Starts h r h')
  pub post : (new : ℕ) (h : List ℕ) → Only (λ ((r, h') : ℤ × List ℕ). Posts new h r h')
  pub set : (new : ℕ) (h : List ℕ) → Only (λ ((r, h') : ℤ × List ℕ). Sets new h r h')
  pub set_masked : (new mask : ℕ) (h : List ℕ) → Only (λ ((r, h') : ℤ × List ℕ). SetsMasked new mask h r h')
  pub clear : (gone : ℕ) (h : List ℕ) → Only (λ ((r, h') : ℤ × List ℕ). Clears gone h r h')
  pub wait_check_any : (desired : ℕ) (h : List ℕ) → Only (λ (r : ℤ). ChecksAny desired h r)
  pub wait_check_all : (desired : ℕ) (h : List ℕ) → Only (λ (r : ℤ). ChecksAll desired h r)
  pub events_get : (h : List ℕ) → Only (λ (r : ℤ). GetsEvents h r)
  pub wait_decide : (e desired type : ℕ) (no_wait : Bool) (n : ℕ) → Only (λ ((r, n') : ℤ × ℕ). WaitDecided e desired type no_wait n r n')
  pub post_decide : (e new mask : ℕ) → Only (λ (r : ℕ). PostDecided e new mask r)
  -- the number and the words tell which answer it is
  pub wait_answer : TellsBy {T = WaitDecideResult} decided its_flags
