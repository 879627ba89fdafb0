-- What an object answers to a call, and what then happens to its queue.
use Rattle.std.specs.Prelude.{Bool, List, [], ℕ, ℤ, take, drop}
use Rattle.seq.specs.List.{chosen, others}

-- who is woken: the first n; everybody; the threads that pass a test
pub data Pick : Type 0 where
  up_to : ℕ → Pick
  everybody : Pick
  those : (ℕ → Bool) → Pick

-- of a queue in which x stands for the thread `name x`: those that are picked, and those that are not, each in the order of the queue
abbrev pub gone : (ℕ → ℕ) → Pick → List ℕ → List ℕ
gone name (up_to n) q = take n q
gone name everybody q = q
gone name (those f) q = chosen (λ x. f (name x)) q

abbrev pub spared : (ℕ → ℕ) → Pick → List ℕ → List ℕ
spared name (up_to n) q = drop n q
spared name everybody q = []
spared name (those f) q = others (λ x. f (name x)) q

-- what a call does to the queue: nothing; the caller waits, with its wish; some are woken, each with its result
pub data Act (W : Type 0) : Type 0 where
  keep : Act W
  park : W → Act W
  wake : Pick → (ℕ → ℤ) → Act W

-- no, with a code, and nothing changes; or the new numbers, what happens to the queue, and the caller's answer
pub data Verdict (N W : Type 0) : Type 0 where
  deny : ℤ → Verdict N W
  allow : N → Act W → ℤ → Verdict N W

-- the answer alone
abbrev pub ruling : {N W : Type 0} → Verdict N W → ℤ
ruling (deny r) = r
ruling (allow n a r) = r
