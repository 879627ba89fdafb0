-- The worked run of document 01 with its threads, computed. Assumes nothing.
use mathlib.Core.Path.{◌≡◌, refl}
use mathlib.Core.List.{List, [], ◌∷◌, map}
use Prim.Native.Nat.{ℕ, zero, suc}
use native.Mathlib.Omega.{arith}
use lib.IntN.{pos}
use Rattle.thread.specs.Code.{ok, eperm, eagain, ebusy, einval, edeadlk}
use Rattle.wait_queue.specs.Queue.{max_waiters, entry, ident}
use Rattle.sem.specs.Sem.{give, take, reset}
use Rattle.sem.specs.Post.{layout}
use Rattle.mutex.specs.Mutex as mutex
use Rattle.condvar.specs.Condvar as condvar
use Rattle.system.specs.System.{State, running, ready, waiting, Slot, object, Op, invoke, both, dispatch, expire, spawn, create, Answer, done, denied, step, after}
use Rattle.system.specs.Rules.{Fine}
use Rattle.system.specs.Rtos.{members, rtos, bare, a_sem, a_mutex, a_condvar, sem_call, mutex_call, condvar_call}
use Rattle.system.specs.Link.{Is}
use Rattle.system.proofs.Steps.{empty-start, always}
use Rattle.system.proofs.Rtos.{rtos_lawful}

-- the newest in front
abbrev begun : List (Op rtos)
begun =
    dispatch 1 ∷ dispatch 9 ∷ dispatch 3 ∷ dispatch 7 ∷ create 0 (a_sem (record { count = 0; limit = 2 })) ∷ spawn 1 0 ∷ spawn 9 5 ∷ spawn 3 2 ∷ spawn 7 5 ∷ []

abbrev taken : List (Op rtos)
taken = invoke 9 0 (sem_call take) ∷ invoke 3 0 (sem_call take) ∷ invoke 7 0 (sem_call take) ∷ begun

-- and then n gives
abbrev given : ℕ → List (Op rtos)
given zero = taken
given (suc n) = invoke 1 0 (sem_call give) ∷ given n

-- whatever is done, all that holds of threads and objects together holds
pub all-fine : (past : List (Op rtos)) → Fine (after bare past)
all-fine = always rtos_lawful bare (empty-start members.idle)

-- the queue is 3, 7, 9
pub queue-is : map ident ((after bare taken).queue 0) ≡ 3 ∷ 7 ∷ 9 ∷ []
unfolding max_waiters
queue-is = refl

-- the state of a thread, a semaphore of this count, and the answer to one more operation
abbrev at : List (Op rtos) → ℕ → State
at past t = (after bare past).state t

abbrev counted : ℕ → Slot rtos.Num
counted c = object (a_sem (record { count = c; limit = 2 }))

abbrev says : List (Op rtos) → Op rtos → Answer
says past x = (step (after bare past) x).1

-- a take is answered 1, and its thread waits
pub takers_wait : (says begun (invoke 7 0 (sem_call take)) ≡ done (pos 1)) × (at taken 7 ≡ waiting 0) × (at taken 3 ≡ waiting 0) × (at taken 9 ≡ waiting 0)
    × (at taken 1 ≡ running)
unfolding max_waiters
takers_wait = (refl, refl, refl, refl, refl)

-- three gives wake 3, 7, 9, one each
pub first-woken : (at (given 1) 3 ≡ ready ok) × (at (given 1) 7 ≡ waiting 0) × (at (given 1) 9 ≡ waiting 0)
unfolding max_waiters
first-woken = (refl, refl, refl)

pub second-woken : (at (given 2) 3 ≡ ready ok) × (at (given 2) 7 ≡ ready ok) × (at (given 2) 9 ≡ waiting 0)
unfolding max_waiters
second-woken = (refl, refl, refl)

pub third_woken : (at (given 3) 9 ≡ ready ok) × ((after bare (given 3)).queue 0 ≡ [])
unfolding max_waiters
third_woken = (refl, refl)

-- the count stays 0, and then is 1, 2, 2
pub counts_stay : ((after bare taken).slot 0 ≡ counted 0) × ((after bare (given 1)).slot 0 ≡ counted 0) × ((after bare (given 2)).slot 0 ≡ counted 0)
    × ((after bare (given 3)).slot 0 ≡ counted 0)
unfolding max_waiters
counts_stay = (refl, refl, refl, refl)

pub counts_rise : ((after bare (given 4)).slot 0 ≡ counted 1) × ((after bare (given 5)).slot 0 ≡ counted 2) × ((after bare (given 6)).slot 0 ≡ counted 2)
unfolding max_waiters
counts_rise = (refl, refl, refl)

-- what the gives are answered: somebody was woken, counted, at the limit
pub give-answers : (says (given 0) (invoke 1 0 (sem_call give)) ≡ done (pos 0)) × (says (given 3) (invoke 1 0 (sem_call give)) ≡ done (pos 1))
    × (says (given 5) (invoke 1 0 (sem_call give)) ≡ done (pos 2))
unfolding max_waiters
give-answers = (refl, refl, refl)

-- a woken thread gets 0 when it runs, and one whose time is over -11
pub results : (says (given 1) (dispatch 3) ≡ done ok) × (at (dispatch 3 ∷ given 1) 3 ≡ running)
    × (says (expire 7 ∷ given 1) (dispatch 7) ≡ done eagain) × (map ident ((after bare (expire 7 ∷ given 1)).queue 0) ≡ 9 ∷ [])
unfolding max_waiters
results = (refl, refl, refl, refl)

-- refused: a call by a thread that waits, by one that is ready, by one that is not there; of an object that is not there; of another kind
pub refusals : (says taken (invoke 7 0 (sem_call take)) ≡ denied ebusy) × (says (given 1) (invoke 3 0 (sem_call take)) ≡ denied einval)
    × (says taken (invoke 2 0 (sem_call take)) ≡ denied einval) × (says taken (invoke 1 5 (sem_call give)) ≡ denied einval)
    × (says taken (invoke 1 0 (mutex_call mutex.lock)) ≡ denied einval)
unfolding max_waiters
refusals = (refl, refl, refl, refl, refl)

-- and: a second thread of the same id, a priority that there is not, an object in a slot that is not vacant, a semaphore of limit 0; who waits
-- or runs already can't be made to run
pub refusals_too : (says taken (spawn 7 1) ≡ denied einval) × (says taken (spawn 8 32) ≡ denied einval) × (says taken (create 0 a_condvar) ≡ denied einval)
    × (says taken (create 1 (a_sem (record { count = 0; limit = 0 }))) ≡ denied einval) × (says taken (dispatch 7) ≡ denied einval)
    × (says taken (dispatch 1) ≡ denied einval)
unfolding max_waiters
refusals_too = (refl, refl, refl, refl, refl, refl)

-- a mutex 0 and a condition variable 1; the thread 7 (priority 5) has locked the mutex, and 3 (priority 2) runs
abbrev locked : List (Op rtos)
locked =
    invoke 7 0 (mutex_call mutex.lock) ∷ dispatch 3 ∷ dispatch 7 ∷ create 1 a_condvar ∷ create 0 (a_mutex mutex.free) ∷ spawn 3 2 ∷ spawn 7 5 ∷ []

-- a thread gives its mutex back and waits
abbrev awaits : ℕ → Op rtos
awaits i = both i 0 (mutex_call mutex.release) 1 (condvar_call condvar.wait)

-- 3 wants the mutex too
abbrev wanted : List (Op rtos)
wanted = invoke 3 0 (mutex_call mutex.lock) ∷ locked

-- the wait of 7 hands the mutex to 3
pub waited : (at (awaits 7 ∷ wanted) 3 ≡ ready ok) × ((after bare (awaits 7 ∷ wanted)).slot 0 ≡ object (a_mutex (mutex.taken 3)))
    × (at (awaits 7 ∷ wanted) 7 ≡ waiting 1) × (map ident ((after bare (awaits 7 ∷ wanted)).queue 1) ≡ 7 ∷ []) × (says wanted (awaits 7) ≡ done (pos 2))
unfolding max_waiters
waited = (refl, refl, refl, refl, refl)

-- 3 runs, signals and unlocks; 7 gets 0
abbrev signalled : List (Op rtos)
signalled = invoke 3 0 (mutex_call mutex.unlock) ∷ invoke 3 1 (condvar_call condvar.signal) ∷ dispatch 3 ∷ awaits 7 ∷ wanted

pub resumed : (says signalled (dispatch 7) ≡ done ok) × ((after bare signalled).slot 0 ≡ object (a_mutex mutex.free)) × ((after bare signalled).queue 1 ≡ [])
unfolding max_waiters
resumed = (refl, refl, refl)

-- both or neither: a wait with another's mutex, with one that is locked twice, and where there is no condition variable
pub neither : (says locked (awaits 3) ≡ denied eperm) × (at (awaits 3 ∷ locked) 3 ≡ running)
    × (says (invoke 7 0 (mutex_call mutex.lock) ∷ locked) (awaits 7) ≡ denied edeadlk)
    × (says locked (both 7 0 (mutex_call mutex.release) 2 (condvar_call condvar.wait)) ≡ denied einval)
    × ((after bare (both 7 0 (mutex_call mutex.release) 2 (condvar_call condvar.wait) ∷ locked)).slot 0 ≡ object (a_mutex (mutex.taken 7)))
unfolding max_waiters
neither = (refl, refl, refl, refl, refl)

-- the semaphore in memory: when it is made, and when the three wait
abbrev zeros : ℕ → List ℕ
zeros zero = []
zeros (suc n) = 0 ∷ zeros n

pub in_memory : Is layout a_sem (after bare begun) 0 (0 ∷ 2 ∷ 0 ∷ []) (zeros 64)
unfolding max_waiters
in_memory = record { words = omega arith; room = refl; slot = refl; queue = refl }

pub in_memory-taken : Is layout a_sem (after bare taken) 0 (0 ∷ 2 ∷ 3 ∷ []) (entry 5 9 ∷ entry 5 7 ∷ entry 2 3 ∷ zeros 61)
unfolding max_waiters
in_memory-taken = record { words = omega arith; room = refl; slot = refl; queue = refl }

-- a reset wakes all three, each with -11, and answers 3; with nobody waiting it answers 0
pub reset-all : ((after bare (invoke 1 0 (sem_call reset) ∷ taken)).state 3 ≡ ready eagain)
    × ((after bare (invoke 1 0 (sem_call reset) ∷ taken)).state 7 ≡ ready eagain)
    × ((after bare (invoke 1 0 (sem_call reset) ∷ taken)).state 9 ≡ ready eagain) × ((after bare (invoke 1 0 (sem_call reset) ∷ taken)).queue 0 ≡ [])
    × ((step (after bare taken) (invoke 1 0 (sem_call reset))).1 ≡ done (pos 3)) × ((step (after bare begun) (invoke 1 0 (sem_call reset))).1 ≡ done (pos 0))
unfolding max_waiters
reset-all = (refl, refl, refl, refl, refl, refl)
