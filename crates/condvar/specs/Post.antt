-- The condition variable in memory: h = how many wait; e = the entries of those. What each function does.
use Rattle.std.specs.Prelude.{◌≡◌, Bool, true, false, cond, List, ℕ, leb, ℤ, pos, negsuc, length}
use Rattle.seq.specs.List.{any}
use Rattle.thread.specs.Code.{einval}
use Rattle.store.specs.Store.{Reply, answer, fitting, Refused, Allowed, Place, reply, Did, looks, Fills, Hands}
use Rattle.wait_queue.specs.Queue.{max_waiters}
use Rattle.wait_queue.specs.Turn.{waits}
use Rattle.kind.specs.Verdict.{ruling}
use Rattle.kind.specs.Kind.{judge, plain}
use Rattle.kind.specs.Object.{Object, anyone, thread, call, reads, Layout, standing, Opened, Audited}
use Rattle.mutex.specs.Post as mutex
use Rattle.mutex.specs.Post.{release_out}
use Rattle.condvar.specs.Condvar.{Call, signal, broadcast, wait, try_wait, condvar_kind}

abbrev pub layout : Layout (Unit {0})
layout = record { len = 0; num = λ h. tt }

abbrev pub place : Place (Object (Unit {0}))
place = standing layout

abbrev pub signal_out : Object (Unit {0}) → Reply (Object (Unit {0}))
signal_out = call condvar_kind plain anyone signal

-- if there is room to hand out all that wait
abbrev pub broadcast_out : ℕ → Object (Unit {0}) → Reply (Object (Unit {0}))
broadcast_out room = fitting room (call condvar_kind plain anyone broadcast)

-- by the thread i of priority p in the state st
abbrev pub wait_out : ℕ → ℕ → ℕ → Object (Unit {0}) → Reply (Object (Unit {0}))
wait_out i p st = call condvar_kind plain (thread i p st) wait

-- 1: somebody waits; 0: nobody
abbrev pub has_waiters : List ℕ → ℤ
has_waiters q = cond (any q) (pos 1) (pos 0)

-- the answer of two that are done both or neither: the first refusal, or what the first answers
abbrev pub agreed : ℤ → ℤ → ℤ
agreed (negsuc a) b = negsuc a
agreed (pos a) (negsuc b) = negsuc b
agreed (pos a) (pos b) = pos a

-- The contract of each public function: its numbers, what it is lent, its answer, and what it leaves.

-- a new condition variable
abbrev pub Starts : List ℕ → ℤ → List ℕ → Type 0
Starts h r h' = Opened condvar_kind layout tt h r h'

-- the first that waits is woken, and told in a word
abbrev pub Signals : List ℕ → List ℕ → ℕ → ℤ → List ℕ → ℕ → Type 0
Signals h e w r h' w' = Hands place signal_out h e w r h' w'

-- all that wait are woken, and listed
abbrev pub Broadcasts : List ℕ → List ℕ → List ℕ → ℤ → List ℕ → List ℕ → Type 0
Broadcasts h e out r h' out' = Fills place (broadcast_out (length out)) h e out r h' out'

-- a number of a condition variable that is as it should be
abbrev pub Gets : (Object (Unit {0}) → ℤ) → List ℕ → List ℕ → ℤ → Type 0
Gets f h e r = r ≡ looks place (reads condvar_kind f) h e

abbrev pub CountsWaiters : List ℕ → List ℕ → ℤ → Type 0
CountsWaiters = Gets (λ s. pos (length s.queue))

abbrev pub SaysHasWaiters : List ℕ → List ℕ → ℤ → Type 0
SaysHasWaiters = Gets (λ s. has_waiters s.queue)

-- whether the whole condition variable is as it should be
abbrev pub Audits : List ℕ → List ℕ → Bool → Type 0
Audits h e r = Audited condvar_kind layout h e r

-- the thread i of priority p in the state st gives back the mutex (m, d) and waits here (h, e); the word w is for the thread that gets the
-- mutex
pub record Waits (i p st : ℕ) (h e m d : List ℕ) (w : ℕ) (r : ℤ) (h' e' m' : List ℕ) (w' : ℕ) : Type 0 where
  -- the mutex's refusal, or the queue's; else 1 or 2, as the mutex is free or handed over
  pub code : r ≡ agreed (answer (reply mutex.place (release_out i p st) m d)) (answer (reply place (wait_out i p st) h e))
  -- a refusal changes no word
  pub neither : Refused r ((h' ≡ h) × (e' ≡ e) × (m' ≡ m) × (w' ≡ w))
  -- else both are done, and who gets the mutex is told
  pub both : Allowed r (Did place (wait_out i p st) h e waits h' e' × Hands mutex.place (release_out i p st) m d w r m' w')
  -- and how the mutex's owner is written
  pub written : mutex.Written m m'

-- on plain numbers: what the own definition answers, for every queue in which somebody waits or nobody
abbrev pub SignalDecided : Bool → ℤ → Type 0
SignalDecided waiter r = (q : List ℕ) → any q ≡ waiter → r ≡ ruling (judge condvar_kind tt plain q 0 signal)

-- for every queue of n; more than can wait are malformed
abbrev pub BroadcastDecided : ℕ → ℤ → Type 0
BroadcastDecided n r = (q : List ℕ) → length q ≡ n → r ≡ cond (leb n max_waiters) (ruling (judge condvar_kind tt plain q 0 broadcast)) einval

abbrev pub wait_call : Bool → Call
wait_call true = try_wait
wait_call false = wait

-- for every queue
abbrev pub WaitDecided : Bool → ℤ → Type 0
WaitDecided no_wait r = (q : List ℕ) → r ≡ ruling (judge condvar_kind tt plain q 0 (wait_call no_wait))
