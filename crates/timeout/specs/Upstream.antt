-- The contracts of Gale's timeout.rs, in our words: t is the timeout before a call, t' after it, r its answer. Ok of a deadline, a timepoint or
-- ticks is the answer 0 and a number m', in a word that was m; Ok(true) is 1, Ok(false) is 0; Err is any other answer. Upstream's active is a
-- word that is not 0. Upstream's text stands above each field.
use Rattle.std.specs.Prelude.{◌≡◌, Bool, true, false, [], ◌∷◌, ◌⊎◌, ℕ, ◌+◌, ◌-◌, ◌≤◌, ◌<◌, ℤ, pos}
use Rattle.thread.specs.Code.{ok, einval}
use Rattle.thread.specs.Upstream.{Tells}
use Rattle.store.specs.Store.{accept, left}
use Rattle.timeout.specs.Timeout.{Timeout, timeout, never, at_once, later, add_decide, abort, announce, remaining, timepoint_calc, timepoint_timeout, add, fresh, may}
use Rattle.timeout.specs.History.{Call, does}

-- an answer that is no Ok
abbrev pub Err : ℤ → Type 0
Err r = (r ≡ ok → ⊥) × (r ≡ pos 1 → ⊥)

-- Timeout::inv
pub record Inv (t : Timeout) : Type 0 where
  -- self.current_tick < K_FOREVER_TICKS
  pub tick : t.clock < never
  -- self.active ==> self.deadline >= self.current_tick || self.deadline == K_NO_WAIT_TICKS
  pub ahead : 0 < t.active → (t.deadline ≡ at_once) ⊎ (t.clock ≤ t.deadline)

-- init
pub record Init (tick : ℕ) (t' : Timeout) : Type 0 where
  -- result.inv()
  pub inv : Inv t'
  -- result.active == false
  pub inactive : t'.active ≡ 0
  -- result.deadline == 0
  pub deadline : t'.deadline ≡ 0
  -- result.current_tick == current_tick
  pub clock : t'.clock ≡ tick

-- add: old(self).inv() and !old(self).active
pub record Add (n : ℕ) (t : Timeout) (r : ℤ) (m' : ℕ) (t' : Timeout) : Type 0 where
  -- self.current_tick == old(self).current_tick
  pub clock : t'.clock ≡ t.clock
  -- Ok(deadline) => self.inv()
  pub inv : r ≡ ok → Inv t'
  -- self.active == true
  pub active : r ≡ ok → 0 < t'.active
  -- self.deadline == old(self).current_tick + duration
  pub sum : r ≡ ok → t'.deadline ≡ t.clock + n
  -- deadline == self.deadline
  pub told : r ≡ ok → m' ≡ t'.deadline
  -- self.deadline >= self.current_tick
  pub ahead : r ≡ ok → t'.clock ≤ t'.deadline
  -- Err(e) => e == EINVAL
  pub code : Err r → r ≡ einval
  -- old(self).current_tick + duration >= K_FOREVER_TICKS
  pub over : Err r → never ≤ t.clock + n
  -- self.active == old(self).active
  pub active_stays : Err r → t'.active ≡ t.active
  -- self.deadline == old(self).deadline
  pub deadline_stays : Err r → t'.deadline ≡ t.deadline

-- add_absolute
pub record AddAbsolute (d : ℕ) (t : Timeout) (r : ℤ) (t' : Timeout) : Type 0 where
  -- self.current_tick == old(self).current_tick
  pub clock : t'.clock ≡ t.clock
  -- Ok(d) => self.inv()
  pub inv : r ≡ ok → Inv t'
  -- self.active == true
  pub active : r ≡ ok → 0 < t'.active
  -- self.deadline == deadline (and d == deadline: the caller has it)
  pub is : r ≡ ok → t'.deadline ≡ d
  -- deadline >= self.current_tick
  pub ahead : r ≡ ok → t'.clock ≤ d
  -- deadline < K_FOREVER_TICKS
  pub finite : r ≡ ok → d < never
  -- Err(e) => e == EINVAL
  pub code : Err r → r ≡ einval
  -- deadline < old(self).current_tick || deadline >= K_FOREVER_TICKS
  pub wrong : Err r → (d < t.clock) ⊎ (never ≤ d)
  -- self.active == old(self).active
  pub active_stays : Err r → t'.active ≡ t.active
  -- self.deadline == old(self).deadline
  pub deadline_stays : Err r → t'.deadline ≡ t.deadline

-- add_forever, with d = K_FOREVER_TICKS, and add_no_wait, with d = K_NO_WAIT_TICKS: of the object itself
pub record AddFixed (d : ℕ) (t t' : Timeout) : Type 0 where
  -- result.inv()
  pub inv : Inv t'
  -- result.active == true
  pub active : 0 < t'.active
  -- result.deadline == d
  pub deadline : t'.deadline ≡ d
  -- result.current_tick == old(self).current_tick
  pub clock : t'.clock ≡ t.clock

-- abort
pub record Abort (t : Timeout) (r : ℤ) (t' : Timeout) : Type 0 where
  -- self.inv()
  pub inv : Inv t'
  -- self.current_tick == old(self).current_tick
  pub clock : t'.clock ≡ t.clock
  -- old(self).active ==> result == OK
  pub aborted : 0 < t.active → r ≡ ok
  -- and self.active == false
  pub inactive : 0 < t.active → t'.active ≡ 0
  -- !old(self).active ==> result == EINVAL
  pub nothing : t.active ≡ 0 → r ≡ einval
  -- and self.active == false
  pub inactive_still : t.active ≡ 0 → t'.active ≡ 0
  -- and self.deadline == old(self).deadline
  pub deadline : t.active ≡ 0 → t'.deadline ≡ t.deadline

-- announce
pub record Announce (n : ℕ) (t : Timeout) (r : ℤ) (t' : Timeout) : Type 0 where
  -- Ok(fired) => self.inv()
  pub inv : (r ≡ ok) ⊎ (r ≡ pos 1) → Inv t'
  -- self.current_tick == old(self).current_tick + ticks
  pub moved : (r ≡ ok) ⊎ (r ≡ pos 1) → t'.clock ≡ t.clock + n
  -- fired ==> old(self).active
  pub was_active : r ≡ pos 1 → 0 < t.active
  -- and old(self).deadline <= self.current_tick
  pub due : r ≡ pos 1 → t.deadline ≤ t'.clock
  -- and old(self).deadline != K_FOREVER_TICKS
  pub finite : r ≡ pos 1 → t.deadline ≡ never → ⊥
  -- and self.active == false
  pub inactive : r ≡ pos 1 → t'.active ≡ 0
  -- and self.deadline == old(self).deadline
  pub deadline : r ≡ pos 1 → t'.deadline ≡ t.deadline
  -- !fired ==> self.active == old(self).active
  pub active_stays : r ≡ ok → t'.active ≡ t.active
  -- and self.deadline == old(self).deadline
  pub deadline_stays : r ≡ ok → t'.deadline ≡ t.deadline
  -- Err(e) => e == EINVAL
  pub code : Err r → r ≡ einval
  -- old(self).current_tick + ticks >= K_FOREVER_TICKS
  pub over : Err r → never ≤ t.clock + n
  -- self.active == old(self).active, self.deadline == old(self).deadline, self.current_tick == old(self).current_tick
  pub stays : Err r → t' ≡ t
  -- what these clauses leave out: what is due fires
  pub fires : t.clock + n < never → 0 < t.active → t.deadline ≤ t.clock + n → r ≡ pos 1

-- remaining
pub record Remaining (t : Timeout) (m' : ℕ) : Type 0 where
  -- !self.active ==> result == 0
  pub inactive : t.active ≡ 0 → m' ≡ 0
  -- (self.active && self.deadline == K_FOREVER_TICKS) ==> result == K_FOREVER_TICKS
  pub forever : 0 < t.active → t.deadline ≡ never → m' ≡ never
  -- (self.active && self.deadline != K_FOREVER_TICKS && self.deadline > self.current_tick) ==> result == self.deadline - self.current_tick
  pub some_left : 0 < t.active → (t.deadline ≡ never → ⊥) → t.clock < t.deadline → m' ≡ t.deadline - t.clock
  -- (self.active && self.deadline != K_FOREVER_TICKS && self.deadline <= self.current_tick) ==> result == 0
  pub none_left : 0 < t.active → (t.deadline ≡ never → ⊥) → t.deadline ≤ t.clock → m' ≡ 0

-- expires
pub record Expires (t : Timeout) (m' : ℕ) : Type 0 where
  -- !self.active ==> result == self.current_tick
  pub inactive : t.active ≡ 0 → m' ≡ t.clock
  -- self.active ==> result == self.deadline
  pub active : 0 < t.active → m' ≡ t.deadline

-- is_active: r == self.active
abbrev pub IsActive : Timeout → ℤ → Type 0
IsActive t r = Tells (pos 1) (pos 0) r (0 < t.active)

-- is_forever: r == (self.deadline == K_FOREVER_TICKS)
abbrev pub IsForever : Timeout → ℤ → Type 0
IsForever t r = Tells (pos 1) (pos 0) r (t.deadline ≡ never)

-- is_no_wait: r == (self.deadline == K_NO_WAIT_TICKS)
abbrev pub IsNoWait : Timeout → ℤ → Type 0
IsNoWait t r = Tells (pos 1) (pos 0) r (t.deadline ≡ at_once)

-- now: r == self.current_tick
abbrev pub Now : Timeout → ℕ → Type 0
Now t m' = m' ≡ t.clock

-- timepoint_calc, and add_decide on plain numbers
pub record Sum (c n : ℕ) (r : ℤ) (m' : ℕ) : Type 0 where
  -- Ok(tp) => tp == self.current_tick + duration
  pub is : r ≡ ok → m' ≡ c + n
  -- self.current_tick + duration < K_FOREVER_TICKS; of add_decide current_tick < K_FOREVER_TICKS too
  pub below : r ≡ ok → c + n < never
  pub clock : r ≡ ok → c < never
  -- Err(e) => e == EINVAL
  pub code : Err r → r ≡ einval
  -- self.current_tick + duration >= K_FOREVER_TICKS; of add_decide, or current_tick >= K_FOREVER_TICKS
  pub over : Err r → never ≤ c + n

-- timepoint_timeout
pub record TimepointTimeout (tp c m' : ℕ) : Type 0 where
  -- timepoint == K_FOREVER_TICKS ==> result == K_FOREVER_TICKS
  pub forever : tp ≡ never → m' ≡ never
  -- timepoint == K_NO_WAIT_TICKS ==> result == 0
  pub is_at_once : tp ≡ at_once → m' ≡ 0
  -- (timepoint != K_FOREVER_TICKS && timepoint != K_NO_WAIT_TICKS && timepoint > self.current_tick) ==> result == timepoint - self.current_tick
  pub some_left : (tp ≡ never → ⊥) → (tp ≡ at_once → ⊥) → c < tp → m' ≡ tp - c
  -- (timepoint != K_FOREVER_TICKS && timepoint != K_NO_WAIT_TICKS && timepoint <= self.current_tick) ==> result == 0
  pub none_left : (tp ≡ never → ⊥) → (tp ≡ at_once → ⊥) → tp ≤ c → m' ≡ 0

-- abort_decide: result == is_active
abbrev pub AbortDecide : Bool → Bool → Type 0
AbortDecide active r = r ≡ active

-- announce_decide
pub record AnnounceDecide (c n d : ℕ) (active : Bool) (r : ℤ) (m' : ℕ) : Type 0 where
  -- Ok((new_tick, fired)) => current_tick + ticks < K_FOREVER_TICKS
  pub below : (r ≡ ok) ⊎ (r ≡ pos 1) → c + n < never
  -- new_tick == current_tick + ticks
  pub moved : (r ≡ ok) ⊎ (r ≡ pos 1) → m' ≡ c + n
  -- fired ==> (active && deadline != K_FOREVER_TICKS && deadline <= new_tick)
  pub fired : r ≡ pos 1 → (active ≡ true) × (d ≡ never → ⊥) × (d ≤ m')
  -- !fired ==> (!active || deadline == K_FOREVER_TICKS || deadline > new_tick)
  pub not_fired : r ≡ ok → (active ≡ false) ⊎ ((d ≡ never) ⊎ (m' < d))
  -- Err(e) => e == EINVAL
  pub code : Err r → r ≡ einval
  -- current_tick + ticks >= K_FOREVER_TICKS
  pub over : Err r → never ≤ c + n

-- upstream's lemmas. What they say of numbers is said of the calls too

-- lemma_invariant_inductive, which ends in `ensures true`. Its comments: init establishes inv, and each call preserves it
pub record Inductive : Type 0 where
  pub init : (c : ℕ) → may c ≡ true → Inv (fresh c)
  pub calls : (t : Timeout) (k : Call) → Inv t → Inv (left (does k t) t)

-- lemma_add_deadline_correct, where the sum is below K_FOREVER_TICKS
pub record AddCorrect (c n : ℕ) : Type 0 where
  -- deadline == current_tick + duration
  pub sum : add_decide c n ≡ accept (c + n) ok ((c + n) ∷ [])
  -- deadline >= current_tick
  pub ahead : c ≤ c + n
  -- so an add gives the object that deadline
  pub adds : (d : ℕ) → add n (timeout d 0 c) ≡ accept (timeout (c + n) 1 c) ok ((c + n) ∷ [])

-- lemma_abort_deactivates, which ends in `ensures true`: after abort on active timeout, active == false
abbrev pub AbortDeactivates : Type 0
AbortDeactivates = (d a c : ℕ) → 0 < a → abort (timeout d a c) ≡ accept (timeout d 0 c) ok []

-- lemma_announce_fires_expired, which ensures what it requires: deadline <= current_tick + ticks. What is active and due fires
abbrev pub FiresExpired : (d c n : ℕ) → Type 0
FiresExpired d c n = (d ≤ c + n) × ((a : ℕ) → 0 < a → announce n (timeout d a c) ≡ accept (timeout d 0 (c + n)) (pos 1) [])

-- lemma_tick_no_overflow: a + b < K_FOREVER_TICKS
abbrev pub NoOverflow : (a b : ℕ) → Type 0
NoOverflow a b = (a + b < never) × ((r : ℤ) → later r a b ≡ accept (a + b) r [])

-- lemma_forever_never_expires: K_FOREVER_TICKS > current_tick + ticks. The clock moves, and nothing fires
abbrev pub NeverExpires : (c n : ℕ) → Type 0
NeverExpires c n = (c + n < never) × ((a : ℕ) → announce n (timeout never a c) ≡ accept (timeout never a (c + n)) ok [])

-- lemma_no_wait_always_expires: K_NO_WAIT_TICKS <= current_tick + ticks. It fires, also with 0 ticks
abbrev pub AlwaysExpires : (c n : ℕ) → Type 0
AlwaysExpires c n = (at_once ≤ c + n) × ((a : ℕ) → 0 < a → announce n (timeout at_once a c) ≡ accept (timeout at_once 0 (c + n)) (pos 1) [])

-- lemma_add_remaining_roundtrip: remaining == duration. Of the calls in memory: AddRemaining
abbrev pub AddRoundtrip : (c n : ℕ) → Type 0
AddRoundtrip c n = ((c + n) - c ≡ n) × (remaining (timeout (c + n) 1 c) ≡ accept (timeout (c + n) 1 c) ok (n ∷ []))

-- lemma_timepoint_roundtrip: timeout == duration. Of the calls in memory: CalcTimeout
abbrev pub TimepointRoundtrip : (c n : ℕ) → Type 0
TimepointRoundtrip c n =
    (d a : ℕ) → (timepoint_calc n (timeout d a c) ≡ accept (timeout d a c) ok ((c + n) ∷ []))
    × (timepoint_timeout (c + n) (timeout d a c) ≡ accept (timeout d a c) ok (n ∷ []))

-- lemma_abort_then_add, which ends in `ensures true`: after abort, active == false, so add precondition is satisfied. In memory: AbortAdd
abbrev pub AbortThenAdd : Type 0
AbortThenAdd =
    (d a c n : ℕ) → 0 < a → c + n < never → add n (left (abort (timeout d a c)) (timeout d a c)) ≡ accept (timeout (c + n) 1 c) ok ((c + n) ∷ [])
