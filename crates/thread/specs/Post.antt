-- The contract of each public function: its numbers, its thread, and its answer.
use Rattle.std.specs.Prelude.{◌≡◌, Bool, ℕ, ℤ, Result}
use Rattle.thread.specs.Priority.{new_priority, priority_get, higher_than, higher_or_equal}
use Rattle.thread.specs.Caller.{caller_code}
use Rattle.thread.specs.Thread.{new_thread, dispatched, blocked_now, woken_with, is_blocked}
use Rattle.thread.specs.declared.Errno.{Errno}
use Rattle.thread.specs.declared.Priority.{Priority}
use Rattle.thread.specs.declared.Thread.{Thread}

-- a priority of that value
abbrev pub MakesPriority : ℕ → Result Priority Errno → Type 0
MakesPriority value r = r ≡ new_priority value

abbrev pub GetsPriority : ℕ → ℤ → Type 0
GetsPriority p r = r ≡ priority_get p

-- whether a is a higher priority than b
abbrev pub SaysHigherThan : ℕ → ℕ → ℤ → Type 0
SaysHigherThan a b r = r ≡ higher_than a b

-- or the same
abbrev pub SaysHigherOrEqual : ℕ → ℕ → ℤ → Type 0
SaysHigherOrEqual a b r = r ≡ higher_or_equal a b

-- a new thread, which is ready
abbrev pub MakesThread : ℕ → ℕ → Result Thread Errno → Type 0
MakesThread i p r = r ≡ new_thread i p

-- a thread that is ready runs
abbrev pub Dispatches : Thread → Result Thread Errno → Type 0
Dispatches t r = r ≡ dispatched t

-- one that runs waits
abbrev pub Blocks : Thread → Result Thread Errno → Type 0
Blocks t r = r ≡ blocked_now t

-- one that waits is ready, with a result
abbrev pub Wakes : ℤ → Thread → Result Thread Errno → Type 0
Wakes result t r = r ≡ woken_with result t

abbrev pub SaysBlocked : ℕ → Bool → Type 0
SaysBlocked st r = r ≡ is_blocked st

-- what the numbers of a thread that wants to wait are answered
abbrev pub AnswersCaller : ℕ → ℕ → ℤ → Type 0
AnswersCaller p st r = r ≡ caller_code p st
