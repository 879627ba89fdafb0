-- Priorities and threads as C holds them.
use Rattle.std.specs.Prelude.{◌≡◌, ℕ, ℤ, pos, Result, Ok, Err}
use Rattle.thread.specs.Code.{ok, code}
use Rattle.thread.specs.Answer.{told, kept, done, itself}
use Rattle.thread.specs.Priority.{new_priority}
use Rattle.thread.specs.Thread.{dispatched, blocked_now, woken_with}
use Rattle.thread.specs.declared.Errno.{Errno}
use Rattle.thread.specs.declared.Priority.{Priority}
use Rattle.thread.specs.declared.Thread.{Thread}

-- the value of a priority, or the code of a refusal
abbrev pub value_of : Result Priority Errno → ℤ
value_of = told (λ p. pos p.value)

abbrev pub code_of : Result Thread Errno → ℤ
code_of = told done

-- a refusal leaves the thread as it was
abbrev pub thread_of : Thread → Result Thread Errno → Thread
thread_of t r = kept itself r t

-- the call f on t is answered with r, and the thread is t' then
abbrev pub Did : (Thread → Result Thread Errno) → Thread → ℤ → Thread → Type 0
Did f t r t' = (r ≡ code_of (f t)) × (t' ≡ thread_of t (f t))

-- id, priority, state, result
abbrev pub thr : ℕ → ℕ → ℕ → ℤ → Thread
thr i p s x = record { id = i; priority = p; state = s; return_value = x }

-- of a thread of any id and result, whose priority is p and whose state goes from s to s'
abbrev pub Moves : (Thread → Result Thread Errno) → ℕ → ℕ → ℤ → ℕ → Type 0
Moves f p s r s' = (i : ℕ) (x : ℤ) → Did f (thr i p s x) r (thr i p s' x)

-- The contract of each exported function that has one of its own.

abbrev pub MakesPriority : ℕ → ℤ → Type 0
MakesPriority value r = r ≡ value_of (new_priority value)

abbrev pub Dispatches : ℕ → ℕ → ℤ → ℕ → Type 0
Dispatches p s r s' = Moves dispatched p s r s'

abbrev pub Blocks : ℕ → ℕ → ℤ → ℕ → Type 0
Blocks p s r s' = Moves blocked_now p s r s'

-- of a thread of any id, whose priority is p, whose state goes from s to s' and whose result goes from x to x'
abbrev pub Wakes : ℕ → ℤ → ℕ → ℤ → ℤ → ℕ → ℤ → Type 0
Wakes p result s x r s' x' = (i : ℕ) → Did (woken_with result) (thr i p s x) r (thr i p s' x')

-- the answer is told as r; state and result become those of its thread, or stay
abbrev pub Stored : Result Thread Errno → ℕ → ℤ → ℤ → ℕ → ℤ → Type 0
Stored (Ok t) s x r s' x' = (r ≡ ok) × (s' ≡ t.state) × (x' ≡ t.return_value)
Stored (Err e) s x r s' x' = (r ≡ code e) × (s' ≡ s) × (x' ≡ x)
