-- At the border to C, where nobody proves a precondition: what give_decide and take_decide refuse, on any numbers. They are lent nothing, so that
-- the answer is all that a call leaves.
use Rattle.std.specs.Prelude.{◌≡◌, Bool, true, ◌⊎◌, ℕ, ◌≤◌, ◌<◌, ℤ}
use Rattle.thread.specs.Code.{ok, ebusy, einval}
use Rattle.store.specs.Store.{Refused}
use Rattle.sem.specs.Post.{GiveDecided, TakeDecided}

-- what upstream demands of who calls give_decide
pub record GiveDemands (count limit : ℕ) : Type 0 where
  pub limited : 0 < limit
  pub under : count ≤ limit

-- why a give is refused: the first field to the third of GiveRefuses
abbrev pub GiveReason : ℕ → ℕ → Bool → Type 0
GiveReason count limit waiter = (limit ≡ 0) ⊎ (limit < count) ⊎ ((waiter ≡ true) × (0 < count))

pub record GiveRefuses (count limit : ℕ) (waiter : Bool) (r : ℤ) : Type 0 where
  -- a malformed semaphore is -22: limit 0, or a count above the limit
  pub unlimited : limit ≡ 0 → r ≡ einval
  pub over : limit < count → r ≡ einval
  -- or somebody waits while the count is above 0
  pub idle : waiter ≡ true → 0 < count → r ≡ einval
  -- nothing else is refused
  pub only : Refused r (GiveReason count limit waiter)
  -- all that upstream demands away is refused
  pub outside : (GiveDemands count limit → ⊥) → r ≡ einval

pub record TakeRefuses (count : ℕ) (no_wait : Bool) (r : ℤ) : Type 0 where
  -- without waiting, at 0, it would block: -16
  pub busy : count ≡ 0 → no_wait ≡ true → r ≡ ebusy
  -- nothing else is refused
  pub only : Refused r ((count ≡ 0) × (no_wait ≡ true))
  -- upstream demands nothing of take_decide, and of take_blocking that the count is 0: what is there is taken, as without waiting
  pub outside : 0 < count → r ≡ ok

pub record Border : Type 0 where
  pub give_decide : (count limit : ℕ) (waiter : Bool) (r : ℤ) → GiveDecided count limit waiter r → GiveRefuses count limit waiter r
  pub take_decide : (count : ℕ) (no_wait : Bool) (r : ℤ) → TakeDecided count no_wait r → TakeRefuses count no_wait r
