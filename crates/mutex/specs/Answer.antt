-- The numbers of what a call decides or does, as C is told them, and the word for the thread that it makes the owner.
use Rattle.std.specs.Prelude.{ℕ, ℤ, pos}
use Rattle.thread.specs.Code.{ok}
use Rattle.wait_queue.specs.Turn.{waits}
use Rattle.mutex.specs.Mutex.{released, unlocked, transferred}
use Rattle.mutex.specs.declared.LockDecision.{LockDecision}
use Rattle.mutex.specs.declared.LockDecision.TheVariants as locking
use Rattle.mutex.specs.declared.UnlockDecisionKind.{UnlockDecisionKind}
use Rattle.mutex.specs.declared.UnlockDecisionKind.TheVariants as kinds
use Rattle.mutex.specs.declared.ReleaseDecision.{ReleaseDecision}
use Rattle.mutex.specs.declared.ReleaseDecision.TheVariants as releasing
use Rattle.mutex.specs.declared.UnlockResult.{UnlockResult}
use Rattle.mutex.specs.declared.UnlockResult.TheVariants as results

abbrev pub to_lock : LockDecision → ℤ
to_lock locking.Acquire = ok
to_lock locking.Pend = waits
to_lock locking.Reentrant = pos 2

abbrev pub to_unlock : UnlockDecisionKind → ℤ
to_unlock kinds.Released = released
to_unlock kinds.FullyUnlocked = unlocked

abbrev pub to_release : ReleaseDecision → ℤ
to_release releasing.Unlocked = unlocked
to_release releasing.Transferred = transferred

abbrev pub unlocking : UnlockResult → ℤ
unlocking results.Released = released
unlocking results.Unlocked = unlocked
unlocking (results.Transferred x) = transferred

-- what the word for the woken thread holds then, that held n
abbrev pub heir : UnlockResult → ℕ → ℕ
heir results.Released n = n
heir results.Unlocked n = n
heir (results.Transferred x) n = x
