-- No contract of a public function leaves anything open: of two outcomes from the same memory and the same numbers that both meet it, the answers
-- are the same, and so is every word. The number and the word that a clause names tell which answer it is.
use Rattle.std.specs.Prelude.{Bool, List, ℕ, ℤ}
use Rattle.seq.specs.Only.{Only}
use Rattle.thread.specs.Answer.{Tells, TellsBy}
use Rattle.mutex.specs.Answer.{to_lock, to_unlock, to_release, unlocking, heir}
use Rattle.mutex.specs.Post.{Starts, TriesLock, Locks, Passes, Unlocks, ReleaseDecided, SaysLocked, GetsLockCount, CountsWaiters, GetsOwner, Audits, LockDecided, UnlockDecided}
use Rattle.mutex.specs.declared.LockDecision.{LockDecision}
use Rattle.mutex.specs.declared.UnlockDecisionKind.{UnlockDecisionKind}
use Rattle.mutex.specs.declared.ReleaseDecision.{ReleaseDecision}
use Rattle.mutex.specs.declared.UnlockResult.{UnlockResult}

pub record Determined : Type 0 where
  pub lock_decide : (count : ℕ) (null current no_wait : Bool) → Only (λ (r : ℤ). LockDecided count null current no_wait r)
  pub unlock_decide : (count : ℕ) (null current : Bool) → Only (λ (r : ℤ). UnlockDecided count null current r)
  pub init : (h : List ℕ) → Only (λ ((r, h') : ℤ × List ℕ). Starts h r h')
  pub try_lock : (i : ℕ) (h e : List ℕ) → Only (λ ((r, h') : ℤ × List ℕ). TriesLock i h e r h')
  pub lock_blocking : (i p st : ℕ) (h e : List ℕ) → Only (λ ((r, h', e') : ℤ × List ℕ × List ℕ). Locks i p st h e r h' e')
  pub pass : (h e : List ℕ) (w : ℕ) → Only (λ ((r, h', w') : ℤ × List ℕ × ℕ). Passes h e w r h' w')
  pub unlock : (i : ℕ) (h e : List ℕ) (w : ℕ) → Only (λ ((r, h', w') : ℤ × List ℕ × ℕ). Unlocks i h e w r h' w')
  pub release_decide : (i p st : ℕ) (h e : List ℕ) → Only (λ (r : ℤ). ReleaseDecided i p st h e r)
  pub is_locked : (h e : List ℕ) → Only (λ (r : ℤ). SaysLocked h e r)
  pub lock_count_get : (h e : List ℕ) → Only (λ (r : ℤ). GetsLockCount h e r)
  pub num_waiters : (h e : List ℕ) → Only (λ (r : ℤ). CountsWaiters h e r)
  pub owner_get : (h e : List ℕ) → Only (λ (r : ℤ). GetsOwner h e r)
  pub audit : (h e : List ℕ) → Only (λ (r : Bool). Audits h e r)
  pub lock_decide_answer : Tells {T = LockDecision} to_lock
  pub unlock_decide_answer : Tells {T = UnlockDecisionKind} to_unlock
  pub release_decide_answer : Tells {T = ReleaseDecision} to_release
  pub unlock_answer : TellsBy {T = UnlockResult} unlocking heir
