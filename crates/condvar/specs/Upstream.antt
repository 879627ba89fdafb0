-- The contracts of Gale's condvar.rs, in our words: q is the queue before a call, q' after it, r its answer. Upstream's text stands above
-- each field.
use Rattle.std.specs.Prelude.{◌≡◌, Bool, true, false, ◌⊎◌, List, [], ◌∷◌, ◌++◌, map, ℕ, zero, suc, ◌+◌, ◌-◌, ◌≤◌, ◌<◌, ℤ, pos, negsuc, length, get_or}
use Rattle.thread.specs.Code.{ok, eagain}
use Rattle.thread.specs.Upstream.{Tells}
use Rattle.store.specs.Store.{Reply, accept, answer, left, out}
use Rattle.wait_queue.specs.Queue.{entry, ident, woken, waiting, joined, Well}
use Rattle.wait_queue.specs.Turn.{waits}
use Rattle.wait_queue.specs.Upstream.{FirstIsWoken}
use Rattle.kind.specs.Object.{Object}
use Rattle.kind.specs.History.{Event}
use Rattle.mutex.specs.Mutex.{Mutex, unlocked, transferred, free, taken}
use Rattle.condvar.specs.Condvar.{Call}
use Rattle.condvar.specs.Post.{signal_out, broadcast_out}
use Rattle.condvar.specs.History.{fresh, after}

-- CondVar::inv: self.wait_q.inv()
abbrev pub Inv : List ℕ → Type 0
Inv q = Well q

-- init
pub record Init (q' : List ℕ) : Type 0 where
  -- result.inv()
  pub inv : Inv q'
  -- result.wait_q.len_spec() == 0
  pub empty : length q' ≡ 0

-- signal: Empty is 0, and Woke is 1. No clause speaks of the answer
pub record Signal (q q' : List ℕ) : Type 0 where
  -- self.inv()
  pub inv : Inv q'
  -- old(self).wait_q.len_spec() > 0 ==> self.wait_q.len_spec() == old(self).wait_q.len_spec() - 1
  pub fewer : 0 < length q → length q' ≡ length q - 1
  -- old(self).wait_q.len_spec() == 0 ==> self.wait_q.len_spec() == 0
  pub idle : length q ≡ 0 → length q' ≡ 0

-- what signal's clauses leave out, where somebody waits: the first is woken with the result 0; w' is its word
abbrev pub Signalled : List ℕ → ℤ → ℕ → List ℕ → Type 0
Signalled q r w' q' = (r ≡ pos 1) × FirstIsWoken ok q w' q'

-- and where nobody waits: the word stays as it was
pub record NobodyWoken (r : ℤ) (w w' : ℕ) (q' : List ℕ) : Type 0 where
  pub code : r ≡ pos 0
  pub told : w' ≡ w
  pub others : q' ≡ []

-- broadcast
pub record Broadcast (q : List ℕ) (r : ℤ) (q' : List ℕ) : Type 0 where
  -- self.inv()
  pub inv : Inv q'
  -- self.wait_q.len_spec() == 0
  pub empty : length q' ≡ 0
  -- woken == old(self).wait_q.len_spec()
  pub count : r ≡ pos (length q)

-- result == true: the thread waits. It is 1 or 2 here, by what becomes of the mutex; all else is a refusal
abbrev pub Waiting : ℤ → Type 0
Waiting r = (r ≡ unlocked) ⊎ (r ≡ transferred)

-- wait_blocking
pub record WaitBlocking (q : List ℕ) (r : ℤ) (q' : List ℕ) : Type 0 where
  -- self.inv()
  pub inv : Inv q'
  -- result == true ==> self.wait_q.len_spec() == old(self).wait_q.len_spec() + 1
  pub joined : Waiting r → length q' ≡ length q + 1
  -- result == false ==> self.wait_q.len_spec() == old(self).wait_q.len_spec()
  pub stayed : (Waiting r → ⊥) → length q' ≡ length q

-- what becomes of a mutex that is given back, where l wait for it: n' and l' are its numbers and its queue after the call, w' the word for
-- the thread that gets it
abbrev pub Given : List ℕ → ℕ → ℤ → Mutex → List ℕ → ℕ → Type 0
-- nobody waits for it: it is free, and the word stays as it was
Given [] w r n' l' w' = (r ≡ unlocked) × (n' ≡ free) × (l' ≡ []) × (w' ≡ w)
-- x waits first: it owns it, with one lock, and is handed out with the result 0
Given (x ∷ l) w r n' l' w' = (r ≡ transferred) × (n' ≡ taken (ident x)) × (l' ≡ l) × (w' ≡ woken ok x)

-- what wait_blocking's clauses leave out. Upstream's only waits, and its C caller has unlocked the mutex before; ours is one step over both.
-- Both are done: the mutex, whose numbers are n, was the caller's with one lock; the thread waits, behind all of equal or higher priority, and
-- the mutex is given back
pub record Both (i p : ℕ) (n : Mutex) (q l : List ℕ) (w : ℕ) (r : ℤ) (q' : List ℕ) (n' : Mutex) (l' : List ℕ) (w' : ℕ) : Type 0 where
  pub owned : n ≡ taken i
  pub queue : q' ≡ joined (entry p i) q
  pub given : Given l w r n' l' w'

-- or neither: it is a refusal, and every word stays as it was, those of the mutex (m) too
pub record Neither (h e m : List ℕ) (w : ℕ) (r : ℤ) (h' e' m' : List ℕ) (w' : ℕ) : Type 0 where
  pub why : ℕ
  pub code : r ≡ negsuc why
  pub header : h' ≡ h
  pub entries : e' ≡ e
  pub mutex : m' ≡ m
  pub word : w' ≡ w

-- num_waiters: result == self.wait_q.len_spec()
abbrev pub NumWaiters : List ℕ → ℤ → Type 0
NumWaiters q r = r ≡ pos (length q)

-- has_waiters: result == (self.wait_q.len_spec() > 0); true is 1 here and false 0
abbrev pub HasWaiters : List ℕ → ℤ → Type 0
HasWaiters q r = Tells (pos 1) (pos 0) r (0 < length q)

-- signal_decide: Noop is 0, and WakeOne is 1
pub record SignalDecide (waiter : Bool) (r : ℤ) : Type 0 where
  -- has_waiter ==> result === SignalAction::WakeOne
  pub wakes : waiter ≡ true → r ≡ pos 1
  -- !has_waiter ==> result === SignalAction::Noop
  pub nothing : waiter ≡ false → r ≡ pos 0

-- broadcast_decide: result == num_waiters
abbrev pub BroadcastDecide : ℕ → ℤ → Type 0
BroadcastDecide n r = r ≡ pos n

-- wait_decide: Pend is 1, and ReturnEagain is -11
pub record WaitDecide (no_wait : Bool) (r : ℤ) : Type 0 where
  -- is_no_wait ==> result === WaitAction::ReturnEagain
  pub returns : no_wait ≡ true → r ≡ eagain
  -- !is_no_wait ==> result === WaitAction::Pend
  pub pends : no_wait ≡ false → r ≡ waits

-- three lemmas end in `ensures true`. What their comments say:

-- lemma_init_clean_state: in the header that init made, whatever the entries are, nobody waits; and from there on the invariant holds after
-- any sequence of calls
pub record CleanState (h' : List ℕ) : Type 0 where
  pub empty : (e : List ℕ) → waiting e (get_or h' 0 0) ≡ fresh.queue
  pub inv : (xs : List (Event Call)) → Inv (after xs).queue

-- q wait at it
abbrev pub waited : List ℕ → Object (Unit {0})
waited q = record { num = tt; queue = q }

-- n signals, one after the other: their answers, those that were woken, each with its result, and the queue that is left
pub record ManySignals : Type 0 where
  pub answers : List ℤ
  pub woken : List ℕ
  pub queue : List ℕ

abbrev pub signals : ℕ → Object (Unit {0}) → ManySignals
signals zero s = record { answers = []; woken = []; queue = s.queue }
signals (suc n) s =
    record {
      answers = answer (signal_out s) ∷ (signals n (left (signal_out s) s)).answers;
      woken = out (signal_out s) ++ (signals n (left (signal_out s) s)).woken;
      queue = (signals n (left (signal_out s) s)).queue;
    }

-- lemma_signal_broadcast_equivalence: where n wait, n signals and one broadcast, with room to hand them out, wake the same threads in the
-- same order with the same result, and leave nobody. Each of the signals tells that it woke one, and the broadcast tells that it woke n
pub record Equivalence (q : List ℕ) (room : ℕ) : Type 0 where
  pub broadcast : broadcast_out room (waited q) ≡ accept fresh (pos (length q)) (signals (length q) (waited q)).woken
  pub signals_empty : (signals (length q) (waited q)).queue ≡ []
  pub signals_tell : (signals (length q) (waited q)).answers ≡ map (λ x. pos 1) q

-- nobody is woken, and nobody waits
abbrev pub idle : Reply (Object (Unit {0}))
idle = accept fresh (pos 0) []

-- lemma_broadcast_idempotent: a broadcast to nobody answers 0 and nobody waits, with any room; so does a second one after a first
pub record Idempotent (q : List ℕ) (room again : ℕ) : Type 0 where
  pub nobody : broadcast_out again fresh ≡ idle
  pub second : length q ≤ room → broadcast_out again (left (broadcast_out room (waited q)) (waited q)) ≡ idle
