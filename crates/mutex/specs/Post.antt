-- The mutex in memory: h = whether it is owned (0: no), the owner, its count, how many wait; e = the entries of those. What each function
-- does.
use Rattle.std.specs.Prelude.{◌≡◌, Bool, true, false, cond, List, map, ℕ, ◌≤◌, ◌<◌, eqb, ltb, ℤ, pos, length, get_or}
use Rattle.seq.specs.List.{any}
use Rattle.thread.specs.Code.{enoent}
use Rattle.store.specs.Store.{Reply, answer, Place, reply, Did, looks, Hands}
use Rattle.wait_queue.specs.Queue.{ident, waiting, holds, Well}
use Rattle.kind.specs.Verdict.{keep, park, wake, Verdict, deny, allow}
use Rattle.kind.specs.Kind.{judge, plain}
use Rattle.kind.specs.Object as object
use Rattle.kind.specs.Object.{Object, named, anyone, carried, call, reads, Layout, standing, Opened, sane}
use Rattle.mutex.specs.Mutex.{Owner, nobody, thread, Mutex, Call, lock, try_lock, unlock, release, held, formed, free, unlocked, passes, mutex_kind}

abbrev pub owner_in : ℕ → ℕ → Owner
owner_in flag i = cond (ltb 0 flag) (thread i) nobody

abbrev pub layout : Layout Mutex
layout = record { len = 3; num = λ h. record { owner = owner_in (get_or h 0 0) (get_or h 1 0); count = get_or h 2 0 } }

abbrev pub place : Place (Object Mutex)
place = standing layout

-- by the thread i
abbrev pub try_lock_out : ℕ → Object Mutex → Reply (Object Mutex)
try_lock_out i = call mutex_kind plain (named i) try_lock

abbrev pub unlock_out : ℕ → Object Mutex → Reply (Object Mutex)
unlock_out i = call mutex_kind plain (named i) unlock

-- by the thread i of priority p in the state st
abbrev pub lock_out : ℕ → ℕ → ℕ → Object Mutex → Reply (Object Mutex)
lock_out i p st = call mutex_kind plain (object.thread i p st) lock

abbrev pub release_out : ℕ → ℕ → ℕ → Object Mutex → Reply (Object Mutex)
release_out i p st = call mutex_kind plain (object.thread i p st) release

-- the last unlock alone, whoever calls and whatever the numbers are
abbrev pub pass_out : Object Mutex → Reply (Object Mutex)
pass_out s = carried anyone (passes (map ident s.queue)) s

-- 1: somebody owns it; 0: nobody
abbrev pub is_locked : Mutex → ℤ
is_locked m = cond (held m.owner) (pos 1) (pos 0)

-- the owner's id; -2: nobody
abbrev pub owner_id : Owner → ℤ
owner_id nobody = enoent
owner_id (thread i) = pos i

-- how the owner is written, in a header that was h and is h': what the numbers leave open
pub record Written (h h' : List ℕ) : Type 0 where
  -- one that found it free, and one that waited until now, is flagged by 1
  pub found : get_or h 0 0 ≡ 0 → 0 < get_or h' 0 0 → get_or h' 0 0 ≡ 1
  pub woken : get_or h' 3 0 < get_or h 3 0 → 0 < get_or h' 0 0 → get_or h' 0 0 ≡ 1
  -- the flag of any other stays
  pub stays : 0 < get_or h 0 0 → get_or h 3 0 ≤ get_or h' 3 0 → 0 < get_or h' 0 0 → get_or h' 0 0 ≡ get_or h 0 0
  -- where there is none, the id of the last one stays
  pub last : get_or h' 0 0 ≡ 0 → get_or h' 1 0 ≡ get_or h 1 0

-- the owner is not among those that wait
abbrev pub apart : Owner → List ℕ → Bool
apart nobody q = true
apart (thread i) q = cond (holds i q) false true

-- The contract of each public function: its numbers, what it is lent, its answer, and what it leaves.

-- a new mutex
abbrev pub Starts : List ℕ → ℤ → List ℕ → Type 0
Starts h r h' = Opened mutex_kind layout free h r h' × Written h h'

-- the thread i owns it, once more or for the first time, if it can
abbrev pub TriesLock : ℕ → List ℕ → List ℕ → ℤ → List ℕ → Type 0
TriesLock i h e r h' = Did place (try_lock_out i) h e r h' e × Written h h'

-- the thread i of priority p, in the state st, owns it, or waits
abbrev pub Locks : ℕ → ℕ → ℕ → List ℕ → List ℕ → ℤ → List ℕ → List ℕ → Type 0
Locks i p st h e r h' e' = Did place (lock_out i p st) h e r h' e' × Written h h'

-- the first that waits owns it, is woken, and told in a word; or it is free
abbrev pub Passes : List ℕ → List ℕ → ℕ → ℤ → List ℕ → ℕ → Type 0
Passes h e w r h' w' = Hands place pass_out h e w r h' w' × Written h h'

-- the thread i gives one lock back; the last is passed on
abbrev pub Unlocks : ℕ → List ℕ → List ℕ → ℕ → ℤ → List ℕ → ℕ → Type 0
Unlocks i h e w r h' w' = Hands place (unlock_out i) h e w r h' w' × Written h h'

-- what a wait that gives the mutex back would be answered by it
abbrev pub ReleaseDecided : ℕ → ℕ → ℕ → List ℕ → List ℕ → ℤ → Type 0
ReleaseDecided i p st h e r = r ≡ answer (reply place (release_out i p st) h e)

-- a number of a mutex that is as it should be
abbrev pub Gets : (Object Mutex → ℤ) → List ℕ → List ℕ → ℤ → Type 0
Gets f h e r = r ≡ looks place (reads mutex_kind f) h e

abbrev pub SaysLocked : List ℕ → List ℕ → ℤ → Type 0
SaysLocked = Gets (λ s. is_locked s.num)

abbrev pub GetsLockCount : List ℕ → List ℕ → ℤ → Type 0
GetsLockCount = Gets (λ s. pos s.num.count)

abbrev pub CountsWaiters : List ℕ → List ℕ → ℤ → Type 0
CountsWaiters = Gets (λ s. pos (length s.queue))

abbrev pub GetsOwner : List ℕ → List ℕ → ℤ → Type 0
GetsOwner = Gets (λ s. owner_id s.num.owner)

-- the answer is true exactly if the whole mutex is as it should be
pub record Audits (h e : List ℕ) (r : Bool) : Type 0 where
  pub sound : r ≡ true → (sane mutex_kind layout h e ≡ true) × Well (waiting e (get_or h 3 0)) × (apart (layout.num h).owner (waiting e (get_or h 3 0)) ≡ true)
  pub complete : (sane mutex_kind layout h e ≡ true) × Well (waiting e (get_or h 3 0)) × (apart (layout.num h).owner (waiting e (get_or h 3 0)) ≡ true) → r ≡ true

-- the decide functions are told whether there is an owner and whether it is the caller i; else the owner is another, j
abbrev pub owner_of : Bool → Bool → ℕ → ℕ → Owner
owner_of null current i j = cond null nobody (cond current (thread i) (thread j))

-- what is to be done: the caller becomes the owner (0); it waits (1); it has one lock more (2)
abbrev pub lock_deed : Verdict Mutex (Unit {0}) → ℤ
lock_deed (deny r) = r
lock_deed (allow m keep r) = cond (eqb m.count 1) (pos 0) (pos 2)
lock_deed (allow m (park x) r) = pos 1
lock_deed (allow m (wake p f) r) = r

-- to free it and to hand it over are one
abbrev pub unlock_deed : Verdict Mutex (Unit {0}) → ℤ
unlock_deed (deny r) = r
unlock_deed (allow m keep r) = r
unlock_deed (allow m (park x) r) = r
unlock_deed (allow m (wake p f) r) = unlocked

abbrev pub lock_call : Bool → Call
lock_call true = try_lock
lock_call false = lock

-- what the mutex's own definition answers, for every caller, every other owner, and every queue that makes numbers which are as they should
-- be no worse: that somebody waits at a free mutex, the function is not told
abbrev pub LockDecided : ℕ → Bool → Bool → Bool → ℤ → Type 0
LockDecided count null current no_wait r =
    (i j : ℕ) (q : List ℕ) → (j ≡ i → ⊥)
    → formed (record { owner = owner_of null current i j; count = count }) (any q) ≡ formed (record { owner = owner_of null current i j; count = count }) false
    → r ≡ lock_deed (judge mutex_kind (record { owner = owner_of null current i j; count = count }) plain q i (lock_call no_wait))

-- for every queue
abbrev pub UnlockDecided : ℕ → Bool → Bool → ℤ → Type 0
UnlockDecided count null current r =
    (i j : ℕ) (q : List ℕ) → (j ≡ i → ⊥) → r ≡ unlock_deed (judge mutex_kind (record { owner = owner_of null current i j; count = count }) plain q i unlock)
