-- The worked run of document 01: a semaphore 0 of 2; threads 7 (priority 5), 3 (priority 2) and 9 (priority 5) take and wait; six gives by thread 1.
use Rattle.std.specs.Prelude.{List, [], ◌∷◌, ◌++◌, map, ℕ, zero, suc, ◌<◌}
use Rattle.std.proofs.Common.{arith}
use Rattle.thread.specs.Thread.{running}
use Rattle.wait_queue.specs.Queue.{ident}
use Rattle.kind.specs.Kind.{plain}
use Rattle.store.specs.Store.{out}
use Rattle.kind.specs.Object.{Object}
use Rattle.kind.specs.History.{Event, calls, asks, happens}
use Rattle.sem.specs.Sem.{Sem, Call, give, take, sem_kind}
use Rattle.sem.specs.History.{after}

-- the thread i of priority p takes
abbrev pub taking : (i : ℕ) → i < 4294967296 → ℕ → Event Call
taking i h p = asks i p running h take

-- the last in front
abbrev pub takes : List (Event Call)
takes = taking 9 (omega arith) 5 ∷ taking 3 (omega arith) 2 ∷ taking 7 (omega arith) 5 ∷ []

-- the three takes, then n gives
abbrev pub gives : ℕ → List (Event Call)
gives zero = []
gives (suc n) = calls 1 give ∷ gives n

abbrev pub worked : ℕ → Object Sem
worked n = after 0 2 (gives n ++ takes)

-- the threads that wait after n gives, the count, and the words of the threads that the next give wakes
abbrev pub waiting_ids : ℕ → List ℕ
waiting_ids n = map ident (worked n).queue

abbrev pub count_at : ℕ → ℕ
count_at n = (worked n).num.count

abbrev pub wakes : ℕ → List ℕ
wakes n = out (happens sem_kind plain (worked n) (calls 1 give))
