-- No contract of a public function leaves anything open: of two outcomes from the same memory and the same numbers that both meet it, the answers
-- are the same, and so is every word.
use Rattle.std.specs.Prelude.{Bool, List, ℕ, ℤ}
use Rattle.seq.specs.Only.{Only}
use Rattle.thread.specs.Answer.{TellsBy}
use Rattle.stack.specs.Post.{PushDecided, PopDecided, Starts, Pushes, Pops, CountsFree, CountsUsed, GetsCapacity, SaysFull, SaysEmpty}
use Rattle.stack.specs.Answer.{push_number, push_count, pop_number, pop_count}
use Rattle.stack.specs.declared.PushDecision.{PushDecision}
use Rattle.stack.specs.declared.PopDecision.{PopDecision}

pub record Determined : Type 0 where
  pub push_decide : (count limit : ℕ) (waiter : Bool) (n : ℕ) → Only (λ ((r, n') : ℤ × ℕ). PushDecided count limit waiter n r n')
  pub pop_decide : (count : ℕ) (no_wait : Bool) (n : ℕ) → Only (λ ((r, n') : ℤ × ℕ). PopDecided count no_wait n r n')
  pub init : (c : ℕ) (h w : List ℕ) → Only (λ ((r, h') : ℤ × List ℕ). Starts c h w r h')
  pub push : (x : ℕ) (h w : List ℕ) → Only (λ ((r, h', w') : ℤ × List ℕ × List ℕ). Pushes x h w r h' w')
  pub pop : (h w : List ℕ) (x : ℕ) → Only (λ ((r, h', x') : ℤ × List ℕ × ℕ). Pops h w x r h' x')
  pub num_free : (h w : List ℕ) → Only (λ (r : ℤ). CountsFree h w r)
  pub num_used : (h w : List ℕ) → Only (λ (r : ℤ). CountsUsed h w r)
  pub capacity : (h w : List ℕ) → Only (λ (r : ℤ). GetsCapacity h w r)
  pub is_full : (h w : List ℕ) → Only (λ (r : ℤ). SaysFull h w r)
  pub is_empty : (h w : List ℕ) → Only (λ (r : ℤ). SaysEmpty h w r)
  -- the number and the words tell which answer it is
  pub push_answer : (count : ℕ) → TellsBy {T = PushDecision} push_number (push_count count)
  pub pop_answer : (count : ℕ) → TellsBy {T = PopDecision} pop_number (pop_count count)
