-- At the border to C, where nobody proves a precondition: what lock_decide and unlock_decide refuse, on any numbers. They are lent nothing, so that
-- the answer is all that a call leaves.
use Rattle.std.specs.Prelude.{◌≡◌, Bool, true, false, ◌⊎◌, ℕ, ◌≤◌, ◌<◌, ℤ}
use Rattle.thread.specs.Code.{eperm, ebusy, einval, eoverflow}
use Rattle.store.specs.Store.{Refused}
use Rattle.mutex.specs.Mutex.{max_count}
use Rattle.mutex.specs.Post.{LockDecided, UnlockDecided}

-- what upstream demands of a mutex: there is an owner exactly if the count is above 0
pub record Demands (count : ℕ) (null : Bool) : Type 0 where
  pub free : null ≡ true → count ≡ 0
  pub owned : null ≡ false → 0 < count

-- why a lock is refused: the first field to the fourth of LockRefuses
abbrev pub LockReason : ℕ → Bool → Bool → Bool → Type 0
LockReason count null current no_wait =
    ((null ≡ true) × (0 < count))
    ⊎ ((null ≡ false) × (count ≡ 0))
    ⊎ ((null ≡ false) × (current ≡ true) × (max_count ≤ count))
    ⊎ ((null ≡ false) × (current ≡ false) × (no_wait ≡ true))

pub record LockRefuses (count : ℕ) (null current no_wait : Bool) (r : ℤ) : Type 0 where
  -- a malformed mutex is -22: a count without an owner, or an owner without a count
  pub ownerless : null ≡ true → 0 < count → r ≡ einval
  pub countless : null ≡ false → count ≡ 0 → r ≡ einval
  -- its own, with a count of 2^32 - 1: overflow, -139
  pub overflow : null ≡ false → current ≡ true → max_count ≤ count → r ≡ eoverflow
  -- another's, without waiting: it would block, -16
  pub busy : null ≡ false → 0 < count → current ≡ false → no_wait ≡ true → r ≡ ebusy
  -- nothing else is refused
  pub only : Refused r (LockReason count null current no_wait)
  -- upstream demands nothing of lock_decide. All that it demands away of a mutex is refused; of a lock it demands a count below 2^32 - 1, too
  pub outside : (Demands count null → ⊥) → r ≡ einval

pub record UnlockRefuses (count : ℕ) (null current : Bool) (r : ℤ) : Type 0 where
  -- nobody's is -22, and so is an owner without a count
  pub nobodys : null ≡ true → r ≡ einval
  pub countless : null ≡ false → count ≡ 0 → r ≡ einval
  -- another's is -1
  pub anothers : null ≡ false → 0 < count → current ≡ false → r ≡ eperm
  -- nothing else is refused
  pub only : Refused r ((null ≡ true) ⊎ (count ≡ 0) ⊎ (current ≡ false))
  -- upstream demands nothing of unlock_decide. All that it demands away of a mutex is refused
  pub outside : (Demands count null → ⊥) → r ≡ einval

pub record Border : Type 0 where
  pub lock_decide : (count : ℕ) (null current no_wait : Bool) (r : ℤ) → LockDecided count null current no_wait r → LockRefuses count null current no_wait r
  pub unlock_decide : (count : ℕ) (null current : Bool) (r : ℤ) → UnlockDecided count null current r → UnlockRefuses count null current r
