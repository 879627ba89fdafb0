-- No contract of a public function leaves anything open: of two outcomes from the same memory and the same numbers that both meet it, the answers
-- are the same, and so is every word.
use Rattle.std.specs.Prelude.{Bool, List, ℕ, ℤ}
use Rattle.seq.specs.Only.{Only}
use Rattle.thread.specs.Answer.{TellsBy}
use Rattle.mem_slab.specs.Post.{CountsUsed, CountsFree, CountsBlocks, GetsBlockSize, SaysFull, SaysEmpty, Allocs, Frees, Starts, AllocDecided, FreeDecided}
use Rattle.mem_slab.specs.Answer.{alloc_number, alloc_used, free_number, free_used}
use Rattle.mem_slab.specs.declared.AllocDecision.{AllocDecision}
use Rattle.mem_slab.specs.declared.FreeDecision.{FreeDecision}

pub record Determined : Type 0 where
  pub alloc_decide : (used blocks : ℕ) (no_wait : Bool) (n : ℕ) → Only (λ ((r, n') : ℤ × ℕ). AllocDecided used blocks no_wait n r n')
  pub free_decide : (used : ℕ) (waiter : Bool) (n : ℕ) → Only (λ ((r, n') : ℤ × ℕ). FreeDecided used waiter n r n')
  pub init : (size blocks : ℕ) (h l : List ℕ) → Only (λ ((r, h', l') : ℤ × List ℕ × List ℕ). Starts size blocks h l r h' l')
  pub alloc : (h l : List ℕ) → Only (λ ((r, h', l') : ℤ × List ℕ × List ℕ). Allocs h l r h' l')
  pub free : (block : ℕ) (h l : List ℕ) → Only (λ ((r, h', l') : ℤ × List ℕ × List ℕ). Frees block h l r h' l')
  pub num_used_get : (h l : List ℕ) → Only (λ (r : ℤ). CountsUsed h l r)
  pub num_free_get : (h l : List ℕ) → Only (λ (r : ℤ). CountsFree h l r)
  pub num_blocks_get : (h l : List ℕ) → Only (λ (r : ℤ). CountsBlocks h l r)
  pub block_size_get : (h l : List ℕ) → Only (λ (r : ℤ). GetsBlockSize h l r)
  pub is_full : (h l : List ℕ) → Only (λ (r : ℤ). SaysFull h l r)
  pub is_empty : (h l : List ℕ) → Only (λ (r : ℤ). SaysEmpty h l r)
  -- the number and the words tell which answer it is
  pub alloc_answer : (used : ℕ) → TellsBy {T = AllocDecision} alloc_number (alloc_used used)
  pub free_answer : (used : ℕ) → TellsBy {T = FreeDecision} free_number (free_used used)
