-- The counting semaphore: a count and its limit.
use Rattle.std.specs.Prelude.{◌≡◌, Bool, true, false, cond, List, ℕ, suc, ◌-◌, eqb, ltb, leb, ℤ, pos, negsuc, length}
use Rattle.seq.specs.List.{any}
use Rattle.thread.specs.Code.{ok, eagain, ebusy}
use Rattle.wait_queue.specs.Turn.{waits}
use Rattle.kind.specs.Verdict.{up_to, everybody, keep, park, wake, Verdict, deny, allow}
use Rattle.kind.specs.Kind.{Kind, Balance, balanced, impossible, small}
use Rattle.sem.specs.declared.GiveDecision.{GiveDecision}
use Rattle.sem.specs.declared.GiveDecision.TheVariants as decided
use Rattle.sem.specs.declared.GiveResult.{GiveResult}
use Rattle.sem.specs.declared.GiveResult.TheVariants.{WokeThread, Incremented, Saturated}

pub record Sem : Type 0 where
  pub count : ℕ
  pub limit : ℕ

pub data Call : Type 0 where
  give take try_take reset : Call

-- the limit is not 0, the count at most the limit, and nobody waits unless the count is 0
abbrev pub formed : Sem → Bool → Bool
formed s w = cond (ltb 0 s.limit) (cond (leb s.count s.limit) (cond w (eqb s.count 0) true) false) false

-- what a give answers
abbrev pub woke : ℤ
woke = pos 0

abbrev pub incremented : ℤ
incremented = pos 1

abbrev pub saturated : ℤ
saturated = pos 2

-- the number of what it decides, and of what it did
abbrev pub decision : GiveDecision → ℤ
decision decided.WakeThread = woke
decision decided.Increment = incremented
decision decided.Saturated = saturated

abbrev pub gave : GiveResult → ℤ
gave (WokeThread w) = woke
gave Incremented = incremented
gave Saturated = saturated

-- the word of the thread that it woke, if it woke one; else n
abbrev pub handed : GiveResult → ℕ → ℕ
handed (WokeThread w) n = w
handed Incremented n = n
handed Saturated n = n

abbrev pub counting : ℕ → Sem → Sem
counting c s = record { count = c; limit = s.limit }

abbrev pub decide : Sem → (ℕ → Unit {0}) → List ℕ → ℕ → Call → Verdict Sem (Unit {0})
-- the first that waits is woken with 0; else the count goes up, and at the limit nothing happens
decide s v q w give =
    cond (any q)
    (allow s (wake (up_to 1) (λ t. ok)) woke)
    (cond (ltb s.count s.limit) (allow (counting (suc s.count) s) keep incremented) (allow s keep saturated))
-- the count goes down; at 0 the caller waits
decide s v q w take = cond (ltb 0 s.count) (allow (counting (s.count - 1) s) keep ok) (allow s (park tt) waits)
-- the count goes down; at 0 it cannot be had
decide s v q w try_take = cond (ltb 0 s.count) (allow (counting (s.count - 1) s) keep ok) (deny ebusy)
-- the count is 0 and all are woken with -11; the answer is their number
decide s v q w reset = allow (counting 0 s) (wake everybody (λ t. eagain)) (pos (length q))

-- what a call owes to those that it wakes: take and try_take wake nobody
abbrev pub Owed : Call → ℤ → Type 0
Owed give r = r ≡ ok
Owed take r = ⊥
Owed try_take r = ⊥
Owed reset r = r ≡ eagain

-- of which numbers it can be made, in 32 bits
abbrev pub new : Sem → Bool
new s = cond (small s.limit) (formed s false) false

-- the books. A take or a try_take that is answered 0 had one; one that waits had none to take
abbrev pub took_one : Sem → ℤ → Balance Sem
took_one s (pos r) = cond (eqb r 0) (cond (ltb 0 s.count) (balanced (counting (s.count - 1) s)) impossible) (cond (ltb 0 s.count) impossible (balanced s))
took_one s (negsuc r) = impossible

-- a give that is answered 1 is counted, below the limit; 0 went to who waited, and 2 is lost, at the limit
abbrev pub gave_one : Sem → ℤ → List ℕ → Balance Sem
gave_one s (pos r) l =
    cond (eqb r 1)
    (cond (ltb s.count s.limit) (balanced (counting (suc s.count) s)) impossible)
    (cond (eqb r 0) (cond (eqb (length l) 1) (balanced s) impossible) (cond (ltb s.count s.limit) impossible (balanced s)))
gave_one s (negsuc r) l = impossible

abbrev pub books : Sem → ℕ → Call → ℤ → List ℕ → Balance Sem
books s w give r l = gave_one s r l
books s w take r l = took_one s r
books s w try_take r l = took_one s r
books s w reset r l = balanced (counting 0 s)

abbrev pub sem_kind : Kind
sem_kind =
    record {
      Num = Sem;
      Call = Call;
      Wish = Unit {0};
      formed = formed;
      decide = decide;
      Blocked = λ s t x. s.count ≡ 0;
      Owes = λ k x r. Owed k r;
      new = new;
      books = books;
    }
