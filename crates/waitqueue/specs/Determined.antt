-- No contract of an exported function leaves anything open: of two outcomes from the same memory and the same numbers that both meet it, the answers
-- are the same, and so is every word. An exported function has the contract of the function that it calls, whose crate says so of it; here are those
-- that have one of their own, and whether a caller may wait, of which every function with a queue makes use.
use Rattle.std.specs.Prelude.{ℕ, ℤ}
use Rattle.seq.specs.Only.{Only}
use Rattle.thread.specs.Post.{AnswersCaller}
use Rattle.waitqueue.specs.Threads.{MakesPriority, Dispatches, Blocks, Wakes}

pub record Determined : Type 0 where
  pub may_wait : (p st : ℕ) → Only (λ (r : ℤ). AnswersCaller p st r)
  pub wq_priority_new : (value : ℕ) → Only (λ (r : ℤ). MakesPriority value r)
  pub wq_thread_dispatch : (p s : ℕ) → Only (λ ((r, s') : ℤ × ℕ). Dispatches p s r s')
  pub wq_thread_block : (p s : ℕ) → Only (λ ((r, s') : ℤ × ℕ). Blocks p s r s')
  pub wq_thread_wake : (p : ℕ) (z : ℤ) (s : ℕ) (x : ℤ) → Only (λ ((r, s', x') : ℤ × ℕ × ℤ). Wakes p z s x r s' x')
