-- The contracts of Gale's timer.rs, in our words: t is the timer before a call, t' after it, r its answer; upstream's running == false is
-- the word 0. Upstream's text stands above each field. Timer::inv is `true`; here a header of three words stands for it.
use Rattle.std.specs.Prelude.{◌≡◌, true, List, [], ◌⊎◌, ℕ, suc, ◌+◌, ◌<◌, ℤ, pos}
use Rattle.thread.specs.Code.{ok, eoverflow}
use Rattle.thread.specs.Upstream.{Tells}
use Rattle.store.specs.Store.{refuse, accept, answer, left, Did}
use Rattle.timer.specs.Timer.{Timer, timer, most, start, stop, expire, status_get, expire_decide}
use Rattle.timer.specs.Post.{Starts, place}
use Rattle.timer.specs.History.{Call, does}

-- init
pub record Init (period : ℕ) (t' : Timer) : Type 0 where
  -- result.status == 0
  pub status : t'.status ≡ 0
  -- result.period == period
  pub kept : t'.period ≡ period
  -- result.running == false
  pub stopped : t'.running ≡ 0
  -- period == 0 ==> result.period == 0
  pub once : period ≡ 0 → t'.period ≡ 0
  -- period > 0 ==> result.period > 0
  pub again : 0 < period → 0 < t'.period

-- start
pub record Start (t t' : Timer) : Type 0 where
  -- self.period == old(self).period
  pub period : t'.period ≡ t.period
  -- self.status == 0
  pub status : t'.status ≡ 0
  -- self.running == true
  pub running : t'.running ≡ 0 → ⊥

-- stop
pub record Stop (t t' : Timer) : Type 0 where
  -- self.period == old(self).period
  pub period : t'.period ≡ t.period
  -- self.status == 0
  pub status : t'.status ≡ 0
  -- self.running == false
  pub running : t'.running ≡ 0

-- expire: result.is_ok() is an answer of 0 or more
pub record Expire (t : Timer) (r : ℤ) (t' : Timer) : Type 0 where
  -- self.period == old(self).period
  pub period : t'.period ≡ t.period
  -- self.running == old(self).running
  pub running : t'.running ≡ t.running
  -- result.is_ok() ==> self.status == old(self).status + 1
  pub counted : (n : ℕ) → r ≡ pos n → t'.status ≡ t.status + 1
  -- and result.unwrap() == self.status
  pub told : (n : ℕ) → r ≡ pos n → n ≡ t'.status
  -- result.is_err() ==> result.unwrap_err() == EOVERFLOW
  pub code : ((n : ℕ) → r ≡ pos n → ⊥) → r ≡ eoverflow
  -- and self.status == old(self).status
  pub stayed : ((n : ℕ) → r ≡ pos n → ⊥) → t'.status ≡ t.status
  -- and old(self).status == u32::MAX
  pub over : ((n : ℕ) → r ≡ pos n → ⊥) → t.status ≡ most

-- status_get
pub record StatusGet (t : Timer) (r : ℤ) (t' : Timer) : Type 0 where
  -- self.period == old(self).period
  pub period : t'.period ≡ t.period
  -- self.running == old(self).running
  pub running : t'.running ≡ t.running
  -- result == old(self).status
  pub told : r ≡ pos t.status
  -- self.status == 0
  pub status : t'.status ≡ 0

-- is_running: r == self.running
abbrev pub IsRunning : Timer → ℤ → Type 0
IsRunning t r = Tells (pos 0) (pos 1) r (t.running ≡ 0)

-- period_get: r == self.period
abbrev pub PeriodGet : Timer → ℤ → Type 0
PeriodGet t r = r ≡ pos t.period

-- status_peek: r == self.status
abbrev pub StatusPeek : Timer → ℤ → Type 0
StatusPeek t r = r ≡ pos t.status

-- expire_decide: new_status is the word m', which was m; is_periodic is the answer, 1 or 0
pub record ExpireDecide (status period m : ℕ) (r : ℤ) (m' : ℕ) : Type 0 where
  -- status < u32::MAX ==> result.new_status == status + 1
  pub counted : status < most → m' ≡ status + 1
  -- status == u32::MAX ==> result.new_status == u32::MAX: if it held the count
  pub stayed : status ≡ most → m ≡ status → m' ≡ most
  -- result.is_periodic == (period > 0): unless it is refused
  pub periodic : status < most → Tells (pos 1) (pos 0) r (0 < period)

-- upstream's lemmas. What they say of numbers is said of the calls too

-- lemma_invariant_inductive, which ends in `ensures true`. Its comments: init establishes inv, and each call preserves it
pub record Inductive : Type 0 where
  pub init : (p : ℕ) (h h' : List ℕ) → Starts p h ok h' → place.formed h' [] ≡ true
  pub calls : (k : Call) (h h' : List ℕ) (r : ℤ) → place.formed h [] ≡ true → Did place (does k) h [] r h' [] → place.formed h' [] ≡ true

-- lemma_expire_status_get_roundtrip, of a status below u32::MAX
pub record Roundtrip (s p x : ℕ) : Type 0 where
  -- after_expire == status + 1
  pub number : (left (expire (timer s p x)) (timer s p x)).status ≡ s + 1
  -- which a status_get then answers, and the count is 0
  pub told : answer (status_get (left (expire (timer s p x)) (timer s p x))) ≡ pos (s + 1)
  pub cleared : (left (status_get (left (expire (timer s p x)) (timer s p x))) (timer s p x)).status ≡ 0

-- lemma_start_resets_status, which ends in `ensures true`: after start, status == 0 regardless of prior value
abbrev pub StartResets : Type 0
StartResets = (t : Timer) → (left (start t) t).status ≡ 0

-- lemma_stop_clears_state, which ends in `ensures true`: after stop, status == 0 && running == false
abbrev pub StopClears : Type 0
StopClears = (t : Timer) → ((left (stop t) t).status ≡ 0) × ((left (stop t) t).running ≡ 0)

-- lemma_overflow_rejected, which ends in `ensures true`: when status == u32::MAX, expire returns Err(EOVERFLOW) and status is unchanged
abbrev pub OverflowRejected : Type 0
OverflowRejected = (p x : ℕ) → expire (timer most p x) ≡ refuse eoverflow

-- lemma_period_classification: period == 0 || period > 0
pub record Classified (period : ℕ) : Type 0 where
  pub either : (period ≡ 0) ⊎ (0 < period)
  -- so expire_decide tells the two apart
  pub once : period ≡ 0 → (s : ℕ) → s < most → expire_decide s period ≡ accept (suc s) (pos 0) []
  pub again : 0 < period → (s : ℕ) → s < most → expire_decide s period ≡ accept (suc s) (pos 1) []
