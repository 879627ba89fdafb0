-- The contracts of Gale's pipe.rs, in our words: p is the pipe before a call, p' after it, r its answer. Upstream's text stands above each field.
-- Ok(n) is the answer n, and Err(e) the answer e, which is below 0.
use Rattle.std.specs.Prelude.{◌≡◌, true, false, [], ℕ, ◌+◌, ◌-◌, ◌≤◌, ◌<◌, eqb, ℤ, pos, length}
use Rattle.thread.specs.Code.{ok, einval, epipe, ecanceled}
use Rattle.store.specs.Store.{accept}
use Rattle.pipe.specs.Pipe.{Pipe, reset, close}
use Rattle.pipe.specs.Post.{is_open, is_resetting, flag, goes, write_decision, read_decision}
use Rattle.pipe.specs.HandOver.{used, flags}

abbrev pub size : Pipe → ℕ
size p = p.ring.capacity

-- Pipe::inv
pub record Inv (p : Pipe) : Type 0 where
  -- self.size > 0
  pub some : 0 < size p
  -- self.used <= self.size
  pub under : used p ≤ size p

-- result.is_err()
abbrev pub Err : ℤ → Type 0
Err r = (n : ℕ) → r ≡ pos n → ⊥

-- init
pub record Init (n : ℕ) (r : ℤ) (p' : Pipe) : Type 0 where
  -- Ok(p) => p.inv()
  pub inv : r ≡ ok → Inv p'
  -- and p.used == 0
  pub empty : r ≡ ok → used p' ≡ 0
  -- and p.size == size
  pub sized : r ≡ ok → size p' ≡ n
  -- and p.flags == FLAG_OPEN
  pub flagged : r ≡ ok → flags p' ≡ 1
  -- Err(e) => e == EINVAL
  pub code : (r ≡ ok → ⊥) → r ≡ einval
  -- and size == 0
  pub reason : (r ≡ ok → ⊥) → n ≡ 0

-- write_check, of n bytes
pub record WriteCheck (n : ℕ) (p : Pipe) (r : ℤ) (p' : Pipe) : Type 0 where
  -- self.inv()
  pub inv : Inv p'
  -- self.size == old(self).size
  pub sized : size p' ≡ size p
  -- !old(self).is_open_spec() ==> result.is_err()
  pub closed : p.opened ≡ false → Err r
  -- old(self).is_resetting_spec() ==> result.is_err()
  pub resetting : p.resetting ≡ true → Err r
  -- result.is_ok() ==> result.unwrap() > 0
  pub some : (k : ℕ) → r ≡ pos k → 0 < k
  -- and result.unwrap() <= request_len
  pub few : (k : ℕ) → r ≡ pos k → k ≤ n
  -- and self.used == old(self).used + result.unwrap()
  pub more : (k : ℕ) → r ≡ pos k → used p' ≡ used p + k
  -- and self.used <= self.size
  pub under : (k : ℕ) → r ≡ pos k → used p' ≤ size p'
  -- result.is_err() ==> self.used == old(self).used
  pub kept : Err r → used p' ≡ used p

-- read_check, of n bytes
pub record ReadCheck (n : ℕ) (p : Pipe) (r : ℤ) (p' : Pipe) : Type 0 where
  -- self.inv()
  pub inv : Inv p'
  -- self.size == old(self).size
  pub sized : size p' ≡ size p
  -- old(self).is_resetting_spec() ==> result.is_err()
  pub resetting : p.resetting ≡ true → Err r
  -- result.is_ok() ==> result.unwrap() > 0
  pub some : (k : ℕ) → r ≡ pos k → 0 < k
  -- and result.unwrap() <= request_len
  pub few : (k : ℕ) → r ≡ pos k → k ≤ n
  -- and self.used == old(self).used - result.unwrap()
  pub fewer : (k : ℕ) → r ≡ pos k → used p' + k ≡ used p
  -- result.is_err() ==> self.used == old(self).used
  pub kept : Err r → used p' ≡ used p

-- reset
pub record Reset (p p' : Pipe) : Type 0 where
  -- self.inv()
  pub inv : Inv p'
  -- self.size == old(self).size
  pub sized : size p' ≡ size p
  -- self.used == 0
  pub empty : used p' ≡ 0
  -- self.flags == old(self).flags | FLAG_RESET
  pub opened : p'.opened ≡ p.opened
  pub resetting : p'.resetting ≡ true

-- close
pub record Close (p p' : Pipe) : Type 0 where
  -- self.inv()
  pub inv : Inv p'
  -- self.size == old(self).size
  pub sized : size p' ≡ size p
  -- self.used == old(self).used
  pub kept : used p' ≡ used p
  -- self.flags == 0
  pub flagged : flags p' ≡ 0

-- clear_reset
pub record ClearReset (p p' : Pipe) : Type 0 where
  -- self.inv()
  pub inv : Inv p'
  -- self.size == old(self).size
  pub sized : size p' ≡ size p
  -- self.used == old(self).used
  pub kept : used p' ≡ used p
  -- self.flags == (old(self).flags & !FLAG_RESET)
  pub opened : p'.opened ≡ p.opened
  pub resetting : p'.resetting ≡ false

-- space_get: r == self.size - self.used
abbrev pub SpaceGet : Pipe → ℤ → Type 0
SpaceGet p r = r ≡ pos (size p - used p)

-- data_get: r == self.used
abbrev pub DataGet : Pipe → ℤ → Type 0
DataGet p r = r ≡ pos (used p)

-- is_empty: r == (self.used == 0), where 1 is true and 0 false
abbrev pub IsEmpty : Pipe → ℤ → Type 0
IsEmpty p r = r ≡ flag (eqb (used p) 0)

-- is_full: r == (self.used == self.size)
abbrev pub IsFull : Pipe → ℤ → Type 0
IsFull p r = r ≡ flag (eqb (used p) (size p))

-- is_open: r == (self.flags & FLAG_OPEN != 0)
abbrev pub IsOpen : Pipe → ℤ → Type 0
IsOpen p r = r ≡ flag p.opened

-- is_resetting: r == (self.flags & FLAG_RESET != 0)
abbrev pub IsResetting : Pipe → ℤ → Type 0
IsResetting p r = r ≡ flag p.resetting

-- size: r == self.size
abbrev pub SizeGet : Pipe → ℤ → Type 0
SizeGet p r = r ≡ pos (size p)

-- write_decide: WriteError with the code e is the answer e
pub record WriteDecide (f : ℕ) (r : ℤ) : Type 0 where
  -- (flags & FLAG_RESET) != 0 ==> WriteError, ECANCELED
  pub resetting : is_resetting f ≡ true → r ≡ ecanceled
  -- (flags & FLAG_RESET) == 0 && (flags & FLAG_OPEN) == 0 ==> WriteError, EPIPE
  pub closed : is_resetting f ≡ false → is_open f ≡ false → r ≡ epipe

-- read_decide
abbrev pub ReadDecide : ℕ → ℤ → Type 0
-- (flags & FLAG_RESET) != 0 ==> ReadError, ECANCELED
ReadDecide f r = is_resetting f ≡ true → r ≡ ecanceled

-- lemma_write_read_roundtrip
pub record Roundtrip (u s n : ℕ) : Type 0 where
  -- (used + n) - n == used
  pub back : u + n - n ≡ u
  -- its comment: write n, then read n
  pub write : write_decision u s 1 n false ≡ accept (record { actual = n; used = u + n }) goes []
  pub read : read_decision (u + n) s 1 n false ≡ accept (record { actual = n; used = u }) goes []

-- lemma_conservation: (size - used) + used == size; of a pipe, what is free and what is held
pub record Conservation (p : Pipe) : Type 0 where
  pub numbers : size p - used p + used p ≡ size p
  pub bytes : length p.ring.spare + length p.ring.held ≡ size p

-- lemma_reset_empties says that 0 <= size. What its comment says: a reset leaves nothing
pub record ResetEmpties (p : Pipe) : Type 0 where
  pub under : 0 ≤ size p
  pub after : Pipe
  pub done : reset p ≡ accept after ok []
  pub empty : used after ≡ 0

-- lemma_close_clears_flags says that 0 == 0. What its comment says: a close clears all flags
pub record CloseClears (p : Pipe) : Type 0 where
  pub after : Pipe
  pub done : close p ≡ accept after ok []
  pub cleared : flags after ≡ 0
