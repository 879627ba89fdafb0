-- The futex: a value, which a wait compares with the one that it expects.
use Rattle.std.specs.Prelude.{◌≡◌, Bool, true, cond, List, ℕ, eqb, ℤ, pos, length}
use Rattle.seq.specs.List.{any}
use Rattle.thread.specs.Code.{ok, eagain}
use Rattle.wait_queue.specs.Turn.{waits}
use Rattle.kind.specs.Verdict.{up_to, everybody, keep, park, wake, Verdict, deny, allow}
use Rattle.kind.specs.Kind.{Kind, Balance, balanced, impossible, small}

pub record Futex : Type 0 where
  pub val : ℕ

pub data Call : Type 0 where
  wait : (expected : ℕ) → Call
  wake_one wake_all : Call
  set : (val : ℕ) → Call

-- every value is as it should be
abbrev pub formed : Futex → Bool → Bool
formed s w = true

abbrev pub decide : Futex → (ℕ → Unit {0}) → List ℕ → ℕ → Call → Verdict Futex (Unit {0})
-- the value is the expected one: the caller waits; else it is to try again
decide s v q w (wait x) = cond (eqb s.val x) (allow s (park tt) waits) (deny eagain)
-- the first is woken with 0, if there is one; the answer is how many
decide s v q w wake_one = cond (any q) (allow s (wake (up_to 1) (λ t. ok)) (pos 1)) (allow s keep (pos 0))
-- all are woken with 0
decide s v q w wake_all = allow s (wake everybody (λ t. ok)) (pos (length q))
-- another value; nobody is woken
decide s v q w (set x) = allow (record { val = x }) keep ok

-- what a call owes to those that it wakes: a wait and a set wake nobody
abbrev pub Owed : Call → ℤ → Type 0
Owed (wait x) r = ⊥
Owed wake_one r = r ≡ ok
Owed wake_all r = r ≡ ok
Owed (set x) r = ⊥

-- the books: the value is what was set last, and who waits found the value that it expected
abbrev pub books : Futex → ℕ → Call → ℤ → List ℕ → Balance Futex
books s w (wait x) r l = cond (eqb s.val x) (balanced s) impossible
books s w wake_one r l = balanced s
books s w wake_all r l = balanced s
books s w (set x) r l = balanced (record { val = x })

-- who waits, waits for a wake-up and not for a value: no value is what it waits for
abbrev pub futex_kind : Kind
futex_kind =
    record {
      Num = Futex;
      Call = Call;
      Wish = Unit {0};
      formed = formed;
      decide = decide;
      Blocked = λ s t x. Unit {0};
      Owes = λ k x r. Owed k r;
      new = λ s. small s.val;
      books = books;
    }
