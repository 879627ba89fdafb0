-- The contracts of Gale's mutex.rs, in our words: m and q are the numbers and the queue before a call, m' and q' after it, r its answer,
-- i the thread that calls. Upstream's text stands above each field.
use Rattle.std.specs.Prelude.{◌≡◌, Bool, true, false, List, [], ◌∷◌, ◌++◌, ℕ, zero, suc, ◌+◌, ◌-◌, ◌≤◌, ◌<◌, ℤ, pos, negsuc, length, get_or}
use Rattle.thread.specs.Code.{ok, eperm, ebusy, einval, eoverflow}
use Rattle.thread.specs.Upstream.{Tells}
use Rattle.store.specs.Store.{answer}
use Rattle.wait_queue.specs.Queue.{ident, Well}
use Rattle.wait_queue.specs.Turn.{waits}
use Rattle.wait_queue.specs.Upstream.{FirstIsWoken}
use Rattle.kind.specs.History.{Event, calls}
use Rattle.kind.specs.Effect.{Leaves}
use Rattle.mutex.specs.Mutex.{Owner, nobody, thread, Mutex, Call, try_lock, unlock, held, max_count, released, unlocked, transferred, free, taken, counting}
use Rattle.mutex.specs.Post.{owner_id, try_lock_out, unlock_out}
use Rattle.mutex.specs.History.{fresh, after}

-- Mutex::inv
pub record Inv (m : Mutex) (q : List ℕ) : Type 0 where
  -- (self.lock_count > 0) <==> self.owner.is_some()
  pub owned : 0 < m.count → held m.owner ≡ true
  pub counted : held m.owner ≡ true → 0 < m.count
  -- self.wait_q.len_spec() > 0 ==> self.owner.is_some()
  pub awaited : 0 < length q → held m.owner ≡ true
  -- self.wait_q.inv()
  pub queue : Well q

-- result.is_ok(): the answer is no refusal
abbrev pub is_ok : ℤ → Bool
is_ok (pos n) = true
is_ok (negsuc n) = false

-- the owner is another than i
pub record Another (i : ℕ) (o : Owner) : Type 0 where
  pub who : ℕ
  pub is : o ≡ thread who
  pub other : who ≡ i → ⊥

-- init
pub record Init (m' : Mutex) (q' : List ℕ) : Type 0 where
  -- result.inv()
  pub inv : Inv m' q'
  -- result.owner.is_none()
  pub owner : m'.owner ≡ nobody
  -- result.lock_count == 0
  pub count : m'.count ≡ 0
  -- result.wait_q.len_spec() == 0
  pub empty : length q' ≡ 0

-- try_lock: Acquired is 0, and WouldBlock is -16
pub record TryLock (i : ℕ) (m : Mutex) (q : List ℕ) (r : ℤ) (m' : Mutex) (q' : List ℕ) : Type 0 where
  -- self.inv()
  pub inv : Inv m' q'
  -- self.wait_q.len_spec() == old(self).wait_q.len_spec()
  pub waiters : length q' ≡ length q
  -- old(self).owner.is_none() ==> result == LockResult::Acquired
  pub free_acquired : m.owner ≡ nobody → r ≡ ok
  -- and self.owner === Some(current_id)
  pub free_owner : m.owner ≡ nobody → m'.owner ≡ thread i
  -- and self.lock_count == 1
  pub free_count : m.owner ≡ nobody → m'.count ≡ 1
  -- old(self).owner.is_some() && old(self).owner.unwrap().id == current_id.id ==> result == LockResult::Acquired
  pub own_acquired : m.owner ≡ thread i → r ≡ ok
  -- and self.owner === old(self).owner
  pub own_owner : m.owner ≡ thread i → m'.owner ≡ m.owner
  -- and self.lock_count == old(self).lock_count + 1
  pub own_count : m.owner ≡ thread i → m'.count ≡ m.count + 1
  -- old(self).owner.is_some() && old(self).owner.unwrap().id != current_id.id ==> result == LockResult::WouldBlock
  pub other_blocked : Another i m.owner → r ≡ ebusy
  -- and self.owner === old(self).owner
  pub other_owner : Another i m.owner → m'.owner ≡ m.owner
  -- and self.lock_count == old(self).lock_count
  pub other_count : Another i m.owner → m'.count ≡ m.count

-- lock_blocking: true is the answer `waits`
pub record LockBlocking (m : Mutex) (q : List ℕ) (r : ℤ) (m' : Mutex) (q' : List ℕ) : Type 0 where
  -- self.inv()
  pub inv : Inv m' q'
  -- self.owner === old(self).owner
  pub owner : m'.owner ≡ m.owner
  -- self.lock_count == old(self).lock_count
  pub count : m'.count ≡ m.count
  -- result == true ==> self.wait_q.len_spec() == old(self).wait_q.len_spec() + 1
  pub joined : r ≡ waits → length q' ≡ length q + 1
  -- result == false ==> self.wait_q.len_spec() == old(self).wait_q.len_spec()
  pub stayed : (r ≡ waits → ⊥) → length q' ≡ length q

-- unlock: Err(EINVAL) is -22 and Err(EPERM) -1; Released is 0, Unlocked 1, Transferred 2
pub record Unlock (i : ℕ) (m : Mutex) (q : List ℕ) (r : ℤ) (m' : Mutex) (q' : List ℕ) : Type 0 where
  -- self.inv()
  pub inv : Inv m' q'
  -- old(self).owner.is_none() ==> result === Err(EINVAL)
  pub free_code : m.owner ≡ nobody → r ≡ einval
  -- and self.owner === old(self).owner
  pub free_owner : m.owner ≡ nobody → m'.owner ≡ m.owner
  -- and self.lock_count == old(self).lock_count
  pub free_count : m.owner ≡ nobody → m'.count ≡ m.count
  -- old(self).owner.is_some() && old(self).owner.unwrap().id != current_id.id ==> result === Err(EPERM)
  pub other_code : Another i m.owner → r ≡ eperm
  -- and self.owner === old(self).owner
  pub other_owner : Another i m.owner → m'.owner ≡ m.owner
  -- and self.lock_count == old(self).lock_count
  pub other_count : Another i m.owner → m'.count ≡ m.count
  -- old(self).owner.is_some() && old(self).owner.unwrap().id == current_id.id && old(self).lock_count > 1 ==> result.is_ok()
  pub nested_ok : m.owner ≡ thread i → 1 < m.count → is_ok r ≡ true
  -- and self.lock_count == old(self).lock_count - 1
  pub nested_count : m.owner ≡ thread i → 1 < m.count → m'.count ≡ m.count - 1
  -- and self.owner === old(self).owner
  pub nested_owner : m.owner ≡ thread i → 1 < m.count → m'.owner ≡ m.owner
  -- and self.wait_q.len_spec() == old(self).wait_q.len_spec()
  pub nested_waiters : m.owner ≡ thread i → 1 < m.count → length q' ≡ length q
  -- .. && old(self).lock_count == 1 && old(self).wait_q.len_spec() > 0 ==> result.is_ok()
  pub passed_ok : m.owner ≡ thread i → m.count ≡ 1 → 0 < length q → is_ok r ≡ true
  -- and self.owner.is_some()
  pub passed_owner : m.owner ≡ thread i → m.count ≡ 1 → 0 < length q → held m'.owner ≡ true
  -- and self.lock_count == 1
  pub passed_count : m.owner ≡ thread i → m.count ≡ 1 → 0 < length q → m'.count ≡ 1
  -- and self.wait_q.len_spec() == old(self).wait_q.len_spec() - 1
  pub passed_waiters : m.owner ≡ thread i → m.count ≡ 1 → 0 < length q → length q' ≡ length q - 1
  -- .. && old(self).lock_count == 1 && old(self).wait_q.len_spec() == 0 ==> result.is_ok()
  pub last_ok : m.owner ≡ thread i → m.count ≡ 1 → length q ≡ 0 → is_ok r ≡ true
  -- and self.owner.is_none()
  pub last_owner : m.owner ≡ thread i → m.count ≡ 1 → length q ≡ 0 → m'.owner ≡ nobody
  -- and self.lock_count == 0
  pub last_count : m.owner ≡ thread i → m.count ≡ 1 → length q ≡ 0 → m'.count ≡ 0
  -- and self.wait_q.len_spec() == 0
  pub last_waiters : m.owner ≡ thread i → m.count ≡ 1 → length q ≡ 0 → length q' ≡ 0

-- what unlock's clauses leave out, of the owner's: the answer, and who becomes the owner and is woken. w is the word for the woken thread before
-- the call, w' after it
pub record UnlockInFull (i : ℕ) (m : Mutex) (q : List ℕ) (w : ℕ) (r : ℤ) (m' : Mutex) (q' : List ℕ) (w' : ℕ) : Type 0 where
  -- one lock less; the same threads wait, in the same order, and the word stays as it was
  pub nested : m.owner ≡ thread i → 1 < m.count → Leaves released (counting (m.count - 1) m) q r m' q' × (w' ≡ w)
  -- the last, where somebody waits: the first owns it, with one lock, and is woken with the result 0
  pub passed : m.owner ≡ thread i → m.count ≡ 1 → 0 < length q → (r ≡ transferred) × (m' ≡ taken (ident (get_or q 0 0))) × FirstIsWoken ok q w' q'
  -- the last, where nobody waits: it is free, and the word stays as it was
  pub last : m.owner ≡ thread i → m.count ≡ 1 → length q ≡ 0 → Leaves unlocked free q r m' q' × (w' ≡ w)

-- is_locked: true is 1, and false is 0
pub record IsLocked (m : Mutex) (r : ℤ) : Type 0 where
  -- result == self.owner.is_some()
  pub owner : Tells (pos 1) (pos 0) r (held m.owner ≡ true)
  -- result == (self.lock_count > 0)
  pub count : Tells (pos 1) (pos 0) r (0 < m.count)

-- lock_count_get: result == self.lock_count
abbrev pub LockCountGet : Mutex → ℤ → Type 0
LockCountGet m r = r ≡ pos m.count

-- num_waiters: result == self.wait_q.len_spec()
abbrev pub NumWaiters : List ℕ → ℤ → Type 0
NumWaiters q r = r ≡ pos (length q)

-- owner_get has no clause upstream. Its comment: get the current owner's thread ID, if any
abbrev pub OwnerGet : Mutex → ℤ → Type 0
OwnerGet m r = r ≡ owner_id m.owner

-- lock_decide: Acquire is 0, Pend 1, Reentrant 2, Busy -16, Overflow -139
pub record LockDecide (count : ℕ) (null current no_wait : Bool) (r : ℤ) : Type 0 where
  -- owner_is_null ==> result === LockDecision::Acquire
  pub acquires : null ≡ true → r ≡ pos 0
  -- !owner_is_null && owner_is_current && lock_count < u32::MAX ==> result === LockDecision::Reentrant
  pub enters : null ≡ false → current ≡ true → count < max_count → r ≡ pos 2
  -- !owner_is_null && owner_is_current && lock_count == u32::MAX ==> result === LockDecision::Overflow
  pub overflows : null ≡ false → current ≡ true → count ≡ max_count → r ≡ eoverflow
  -- !owner_is_null && !owner_is_current && is_no_wait ==> result === LockDecision::Busy
  pub blocks : null ≡ false → current ≡ false → no_wait ≡ true → r ≡ ebusy
  -- !owner_is_null && !owner_is_current && !is_no_wait ==> result === LockDecision::Pend
  pub pends : null ≡ false → current ≡ false → no_wait ≡ false → r ≡ waits

-- unlock_decide: NotLocked is -22, NotOwner -1, Released 0, FullyUnlocked 1
pub record UnlockDecide (count : ℕ) (null current : Bool) (r : ℤ) : Type 0 where
  -- owner_is_null ==> result === UnlockDecisionKind::NotLocked
  pub free : null ≡ true → r ≡ einval
  -- !owner_is_null && !owner_is_current ==> result === UnlockDecisionKind::NotOwner
  pub other : null ≡ false → current ≡ false → r ≡ eperm
  -- !owner_is_null && owner_is_current && lock_count > 1 ==> result === UnlockDecisionKind::Released
  pub nested : null ≡ false → current ≡ true → 1 < count → r ≡ released
  -- !owner_is_null && owner_is_current && lock_count <= 1 ==> result === UnlockDecisionKind::FullyUnlocked
  pub last : null ≡ false → current ≡ true → count ≤ 1 → r ≡ unlocked

-- three lemmas end in `ensures true`. What their comments say:

-- lemma_owner_lock_count_correspondence: init makes the invariant, and every call keeps it; so does a thread that waits no longer
abbrev pub OwnerCount : List (Event Call) → Type 0
OwnerCount xs = Inv (after xs).num (after xs).queue

-- lemma_lock_unlock_roundtrip: a lock of a new mutex, then an unlock, is a new mutex; with the answers of both
pub record Roundtrip (i : ℕ) : Type 0 where
  pub locked : answer (try_lock_out i fresh) ≡ ok
  pub owner : (after (calls i try_lock ∷ [])).num ≡ taken i
  pub unlocked : answer (unlock_out i (record { num = taken i; queue = [] })) ≡ unlocked
  pub back : after (calls i unlock ∷ calls i try_lock ∷ []) ≡ fresh

-- n times the event x
abbrev pub times : ℕ → Event Call → List (Event Call)
times zero x = []
times (suc n) x = x ∷ times n x

-- lemma_reentrancy_count_tracks_depth: after n locks by one thread the count is n, and after n unlocks it is a new mutex
pub record Depth (i n : ℕ) : Type 0 where
  pub locked : after (times n (calls i try_lock)) ≡ record { num = record { owner = thread i; count = n }; queue = [] }
  pub back : after (times n (calls i unlock) ++ times n (calls i try_lock)) ≡ fresh
