-- For what a thread waits, and when it need not.
use Rattle.std.specs.Prelude.{◌≡◌, Bool, true, false, ◌&&◌, List, [], ℕ, ◌≤◌, ◌<◌, pos, get_or}
use Rattle.seq.specs.Bits.{bit, Somewhere}
use Rattle.thread.specs.Code.{ebusy}
use Rattle.store.specs.Store.{refuse, accept, answer, looks}
use Rattle.event.specs.Event.{width, any_there, all_there, matching, told, wait_any, wait_all, met, matched, pends, waits}
use Rattle.event.specs.Post.{place}
use Rattle.event.specs.History.{posting, clearing, next}

pub record Conditions (desired e : ℕ) : Type 0 where
  -- any: one desired flag is there
  pub any_has : any_there desired e ≡ true → Somewhere width (λ i. bit i e && bit i desired)
  pub any_is : (i : ℕ) → i < width → bit i e ≡ true → bit i desired ≡ true → any_there desired e ≡ true
  -- all: each desired flag is there
  pub all_has : all_there desired e ≡ true → (i : ℕ) → i < width → bit i desired ≡ true → bit i e ≡ true
  pub all_is : ((i : ℕ) → i < width → bit i desired ≡ true → bit i e ≡ true) → all_there desired e ≡ true
  -- the flags that match: those that are desired and there
  pub matching_is : (i : ℕ) → i < width → bit i (matching desired e) ≡ bit i e && bit i desired
  -- of all, they are the desired ones
  pub all_matching : desired < 4294967296 → all_there desired e ≡ true → matching desired e ≡ desired

-- a wait is over at once exactly if its condition holds, and then with the flags that match
pub record Decides (e desired type : ℕ) (no_wait : Bool) : Type 0 where
  pub over : type ≤ wait_all → met type desired e ≡ true → waits e desired type no_wait ≡ accept (matching desired e) matched []
  pub only : answer (waits e desired type no_wait) ≡ matched → (type ≤ wait_all) × (met type desired e ≡ true)

-- so on the flags in memory the tests and the decision agree
pub record Agree (h : List ℕ) (desired : ℕ) (no_wait : Bool) : Type 0 where
  pub any_over : looks place (λ e. told (any_there desired e)) h [] ≡ pos 1 → answer (waits (get_or h 0 0) desired wait_any no_wait) ≡ matched
  pub over_any : answer (waits (get_or h 0 0) desired wait_any no_wait) ≡ matched → looks place (λ e. told (any_there desired e)) h [] ≡ pos 1
  pub all_over : looks place (λ e. told (all_there desired e)) h [] ≡ pos 1 → answer (waits (get_or h 0 0) desired wait_all no_wait) ≡ matched
  pub over_all : answer (waits (get_or h 0 0) desired wait_all no_wait) ≡ matched → looks place (λ e. told (all_there desired e)) h [] ≡ pos 1

-- waiting for no flag at all
pub record None (e : ℕ) (no_wait : Bool) : Type 0 where
  -- for all of none: over at once, with no flag
  pub all : waits e 0 wait_all no_wait ≡ accept 0 matched []
  -- for any of none: never
  pub any : (waits e 0 wait_any true ≡ refuse ebusy) × (waits e 0 wait_any false ≡ accept 0 pends [])

-- what a call does to a wait
pub record Calls (e desired : ℕ) : Type 0 where
  -- a post ends no condition
  pub post_keeps : (type x : ℕ) → met type desired e ≡ true → met type desired (next e (posting x)) ≡ true
  -- a clear begins none
  pub clear_keeps : (type x : ℕ) → met type desired e ≡ false → met type desired (next e (clearing x)) ≡ false
  -- once they are posted, all desired flags are there, and any, if there is one
  pub post_all : all_there desired (next e (posting desired)) ≡ true
  pub post_any : 0 < desired → desired < 4294967296 → any_there desired (next e (posting desired)) ≡ true
  -- once they are cleared, none is
  pub clear_any : any_there desired (next e (clearing desired)) ≡ false
