-- The condition variable: a queue, and no number.
use Rattle.std.specs.Prelude.{◌≡◌, Bool, true, cond, List, ℕ, ℤ, pos, length}
use Rattle.seq.specs.List.{any}
use Rattle.thread.specs.Code.{ok, eagain}
use Rattle.wait_queue.specs.Turn.{waits}
use Rattle.kind.specs.Verdict.{up_to, everybody, keep, park, wake, Verdict, deny, allow}
use Rattle.kind.specs.Kind.{Kind, balanced}

pub data Call : Type 0 where
  signal broadcast wait try_wait : Call

abbrev pub formed : Unit {0} → Bool → Bool
formed n w = true

abbrev pub decide : Unit {0} → (ℕ → Unit {0}) → List ℕ → ℕ → Call → Verdict (Unit {0}) (Unit {0})
-- the first is woken with 0, if there is one; the answer is how many
decide n v q w signal = cond (any q) (allow n (wake (up_to 1) (λ t. ok)) (pos 1)) (allow n keep (pos 0))
-- all are woken with 0
decide n v q w broadcast = allow n (wake everybody (λ t. ok)) (pos (length q))
-- the caller waits
decide n v q w wait = allow n (park tt) waits
-- a wait that may not wait
decide n v q w try_wait = deny eagain

-- what a call owes to those that it wakes: a wait wakes nobody
abbrev pub Owed : Call → ℤ → Type 0
Owed signal r = r ≡ ok
Owed broadcast r = r ≡ ok
Owed wait r = ⊥
Owed try_wait r = ⊥

-- who waits, waits for a signal to come: none is kept
abbrev pub condvar_kind : Kind
condvar_kind =
    record {
      Num = Unit {0};
      Call = Call;
      Wish = Unit {0};
      formed = formed;
      decide = decide;
      Blocked = λ n t x. Unit {0};
      Owes = λ k x r. Owed k r;
      new = λ n. true;
      books = λ n w k r l. balanced n;
    }
