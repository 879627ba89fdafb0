-- A run of a condition variable, computed: three threads wait, a signal, a broadcast; and what its mutex answers to a wait.
-- The last event is in front. Assumes nothing.
use mathlib.Core.Path.{◌≡◌, refl}
use mathlib.Core.List.{List, [], ◌∷◌, map}
use Prim.Native.Nat.{ℕ, ◌<◌}
use native.Mathlib.Omega.{arith}
use lib.IntN.{ℤ, pos}
use Rattle.thread.specs.Code.{ok, eperm, edeadlk}
use Rattle.thread.specs.Thread.{running}
use Rattle.store.specs.Store.{accept, answer, out}
use Rattle.wait_queue.specs.Queue.{max_waiters, entry, ident, woken}
use Rattle.kind.specs.Kind.{plain}
use Rattle.kind.specs.History.{Event, calls, asks, happens}
use Rattle.mutex.specs.Mutex.{thread}
use Rattle.mutex.specs.Post.{release_out}
use Rattle.condvar.specs.Condvar.{Call, signal, broadcast, wait, condvar_kind}
use Rattle.condvar.specs.History.{fresh, after}

abbrev waiting : (i : ℕ) → i < 4294967296 → ℕ → Event Call
waiting i h p = asks i p running h wait

abbrev three : List (Event Call)
three = waiting 9 (omega arith) 5 ∷ waiting 3 (omega arith) 2 ∷ waiting 7 (omega arith) 5 ∷ []

-- the queue is 3, 7, 9; a signal wakes 3, and then a broadcast 7 and 9
pub queue-is : map ident (after three).queue ≡ 3 ∷ 7 ∷ 9 ∷ []
unfolding max_waiters
queue-is = refl

pub signalled : out (happens condvar_kind plain (after three) (calls 1 signal)) ≡ woken ok (entry 2 3) ∷ []
unfolding max_waiters
signalled = refl

pub broadcasted : happens condvar_kind plain (after (calls 1 signal ∷ three)) (calls 1 broadcast)
    ≡ accept fresh (pos 2) (woken ok (entry 5 7) ∷ woken ok (entry 5 9) ∷ [])
unfolding max_waiters
broadcasted = refl

-- nobody waits: a signal is not kept
pub lost : (answer (happens condvar_kind plain (after []) (calls 1 signal)) ≡ pos 0) × ((after (calls 1 signal ∷ [])).queue ≡ [])
lost = (refl, refl)

-- what the mutex of the thread 7 answers to its wait: free, handed to the one that waits, held twice, and another's
abbrev answers : ℕ → ℕ → List ℕ → ℤ
answers i c q = answer (release_out 7 5 running (record { num = record { owner = thread i; count = c }; queue = q }))

pub releases : (answers 7 1 [] ≡ pos 1) × (answers 7 1 (entry 2 3 ∷ []) ≡ pos 2) × (answers 7 2 [] ≡ edeadlk) × (answers 8 1 [] ≡ eperm)
releases = (refl, refl, refl, refl)
