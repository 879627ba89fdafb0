-- No contract of a public function leaves anything open: of two outcomes from the same memory and the same numbers that both meet it, the answers
-- are the same, and so is every word.
use Rattle.std.specs.Prelude.{Bool, List, ℕ, ℤ}
use Rattle.seq.specs.Only.{Only}
use Rattle.thread.specs.Answer.{Tells, TellsBy}
use Rattle.sem.specs.Post.{Starts, Gives, TriesTake, Takes, Resets, GetsCount, GetsLimit, CountsWaiters, Audits, GiveDecided, TakeDecided}
use Rattle.sem.specs.Sem.{decision, gave, handed}
use Rattle.sem.specs.declared.GiveDecision.{GiveDecision}
use Rattle.sem.specs.declared.GiveResult.{GiveResult}

pub record Determined : Type 0 where
  pub give_decide : (count limit : ℕ) (waits : Bool) → Only (λ (r : ℤ). GiveDecided count limit waits r)
  pub take_decide : (count : ℕ) (no_wait : Bool) → Only (λ (r : ℤ). TakeDecided count no_wait r)
  pub init : (count limit : ℕ) (h : List ℕ) → Only (λ ((r, h') : ℤ × List ℕ). Starts count limit h r h')
  pub give : (h e : List ℕ) (w : ℕ) → Only (λ ((r, h', w') : ℤ × List ℕ × ℕ). Gives h e w r h' w')
  pub try_take : (h e : List ℕ) → Only (λ ((r, h') : ℤ × List ℕ). TriesTake h e r h')
  pub take_blocking : (i p st : ℕ) (h e : List ℕ) → Only (λ ((r, h', e') : ℤ × List ℕ × List ℕ). Takes i p st h e r h' e')
  pub reset : (h e out : List ℕ) → Only (λ ((r, h', out') : ℤ × List ℕ × List ℕ). Resets h e out r h' out')
  pub count_get : (h e : List ℕ) → Only (λ (r : ℤ). GetsCount h e r)
  pub limit_get : (h e : List ℕ) → Only (λ (r : ℤ). GetsLimit h e r)
  pub num_waiters : (h e : List ℕ) → Only (λ (r : ℤ). CountsWaiters h e r)
  pub audit : (h e : List ℕ) → Only (λ (r : Bool). Audits h e r)
  -- the number and the words tell which answer it is
  pub give_decide_answer : Tells {T = GiveDecision} decision
  pub give_answer : TellsBy {T = GiveResult} gave handed
