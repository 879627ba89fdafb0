-- Runs of a mutex of the system, computed. First the thread 1 locks it twice, 2 waits on it, and 1 unlocks it and waits at a condition variable. Assumes nothing.
use mathlib.Core.Path.{◌≡◌, refl}
use mathlib.Core.List.{List, [], ◌∷◌}
use Prim.Native.Nat.{ℕ}
use Rattle.thread.specs.Code.{ok}
use Rattle.wait_queue.specs.Queue.{max_waiters, entry}
use Rattle.mutex.specs.Mutex.{thread, lock, unlock, release, free, taken}
use Rattle.condvar.specs.Condvar.{wait}
use Rattle.system.specs.System.{ready, waiting, Slot, object, Op, invoke, dispatch, spawn, create, both, step, after}
use Rattle.system.specs.Rtos.{rtos, bare, a_mutex, a_condvar, mutex_call, condvar_call}
use Rattle.system.specs.Run.{run}
use Rattle.system.specs.Ledger.{ledger, notes}

-- the thread i gives the mutex a back and waits at the condition variable b
abbrev waits_with : ℕ → ℕ → ℕ → Op rtos
waits_with i a b = both i a (mutex_call release) b (condvar_call wait)

-- what the ledger of the object o says
abbrev told : List (Op rtos) → ℕ → Slot rtos.Num
told past o = ledger (notes (run step bare) o past)

-- the newest operation in front
abbrev locked : List (Op rtos)
locked =
    invoke 2 7 (mutex_call lock) ∷ invoke 1 7 (mutex_call lock) ∷ invoke 1 7 (mutex_call lock) ∷ create 8 a_condvar ∷ create 7
    (a_mutex free) ∷ dispatch 2 ∷ spawn 2 3
    ∷ dispatch 1 ∷ spawn 1 5 ∷ []

abbrev passed : List (Op rtos)
passed = waits_with 1 7 8 ∷ invoke 1 7 (mutex_call unlock) ∷ locked

pub two : ((after bare locked).slot 7 ≡ object (a_mutex (record { owner = thread 1; count = 2 })))
    × (told locked 7 ≡ object (a_mutex (record { owner = thread 1; count = 2 }))) × ((after bare locked).state 2 ≡ waiting 7)
unfolding max_waiters
two = (refl, refl, refl)

-- the wait hands the mutex to 2, which has one lock
pub one : ((after bare passed).slot 7 ≡ object (a_mutex (taken 2))) × (told passed 7 ≡ object (a_mutex (taken 2)))
    × ((after bare passed).state 2 ≡ ready ok) × ((after bare passed).state 1 ≡ waiting 8)
unfolding max_waiters
one = (refl, refl, refl, refl)

-- the thread 4 (priority 5) waits at the condition variable, nobody wants the mutex; then 1 (5) has it, and 3 (5) and 2 (3) want it
abbrev alone : List (Op rtos)
alone =
    waits_with 4 7 8 ∷ invoke 4 7 (mutex_call lock) ∷ create 8 a_condvar ∷ create 7
    (a_mutex free) ∷ dispatch 4 ∷ dispatch 3 ∷ dispatch 2 ∷ dispatch 1 ∷ spawn 4 5 ∷ spawn 3 5
    ∷ spawn 2 3 ∷ spawn 1 5 ∷ []

abbrev wanted : List (Op rtos)
wanted = invoke 2 7 (mutex_call lock) ∷ invoke 3 7 (mutex_call lock) ∷ invoke 1 7 (mutex_call lock) ∷ alone

pub left-free : ((after bare alone).slot 7 ≡ object (a_mutex free)) × ((after bare alone).state 4 ≡ waiting 8)
unfolding max_waiters
left-free = (refl, refl)

-- the wait of 1 hands the mutex to 2; 3 waits on, and 1 stands behind 4
pub handed : ((after bare (waits_with 1 7 8 ∷ wanted)).slot 7 ≡ object (a_mutex (taken 2))) × ((after bare (waits_with 1 7 8 ∷ wanted)).state 2 ≡ ready ok)
    × ((after bare (waits_with 1 7 8 ∷ wanted)).queue 7 ≡ entry 5 3 ∷ []) × ((after bare (waits_with 1 7 8 ∷ wanted)).queue 8 ≡ entry 5 4 ∷ entry 5 1 ∷ [])
    × ((after bare (waits_with 1 7 8 ∷ wanted)).state 1 ≡ waiting 8)
unfolding max_waiters
handed = (refl, refl, refl, refl, refl)
