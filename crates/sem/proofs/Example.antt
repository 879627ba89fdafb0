-- The worked run of document 01, computed. Assumes nothing.
use mathlib.Core.Path.{◌≡◌, refl}
use mathlib.Core.List.{[], ◌∷◌, map}
use native.Mathlib.Omega.{arith}
use Rattle.thread.specs.Code.{ok}
use Rattle.wait_queue.specs.Queue.{max_waiters, entry, ident, woken}
use Rattle.kind.specs.History.{leaves}
use Rattle.sem.specs.History.{after}
use Rattle.sem.specs.Worked.{taking, waiting_ids, count_at, wakes}

-- the queue is 3, 7, 9
pub queue-is : waiting_ids 0 ≡ 3 ∷ 7 ∷ 9 ∷ []
unfolding max_waiters
queue-is = refl

-- three gives wake 3, 7, 9, each with 0, and the count stays 0
pub gives-wake : (wakes 0 ≡ woken ok (entry 2 3) ∷ []) × (wakes 1 ≡ woken ok (entry 5 7) ∷ []) × (wakes 2 ≡ woken ok (entry 5 9) ∷ [])
unfolding max_waiters
gives-wake = (refl, refl, refl)

pub counts_stay : (count_at 0 ≡ 0) × (count_at 1 ≡ 0) × (count_at 2 ≡ 0) × (count_at 3 ≡ 0)
unfolding max_waiters
counts_stay = (refl, refl, refl, refl)

-- three more: 1, 2, 2
pub counts_rise : (count_at 4 ≡ 1) × (count_at 5 ≡ 2) × (count_at 6 ≡ 2)
unfolding max_waiters
counts_rise = (refl, refl, refl)

pub queue-ends : waiting_ids 3 ≡ []
unfolding max_waiters
queue-ends = refl

-- a thread that left and came again stands where it came last
pub comes_again : map ident (after 0 2 (taking 7 (omega arith) 5 ∷ leaves 7 ∷ taking 9 (omega arith) 5 ∷ taking 7 (omega arith) 5 ∷ [])).queue ≡ 9 ∷ 7 ∷ []
unfolding max_waiters
comes_again = refl
