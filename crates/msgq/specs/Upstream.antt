-- The contracts of Gale's msgq.rs, in our words: q is the queue before a call, q' after it, r its answer. Upstream's text stands above each field.
-- Its fields are: msg_size the size; max_msgs, used_msgs, read_idx and write_idx of the same name.
use Rattle.std.specs.Prelude.{◌≡◌, Bool, true, false, cond, ◌⊎◌, List, [], ◌∷◌, ◌++◌, ℕ, zero, suc, ◌+◌, ◌-◌, ◌*◌, ◌≤◌, ◌<◌, eqb, ltb, ℤ, pos, length, drop, get_or}
use Rattle.thread.specs.Code.{ok, enomsg, einval}
use Rattle.thread.specs.Upstream.{Tells}
use Rattle.msgq.specs.Messages.{slots}
use Rattle.msgq.specs.Msgq.{Msgq, max, used, read_idx, write_idx, get, stored, wakes_reader, is_read, wakes_writer, pends}
use Rattle.msgq.specs.Post.{new}
use Rattle.store.specs.Store.{out}
use Rattle.store.specs.History.{Step, Ran}
use Rattle.msgq.specs.History.{Call, does}
use Rattle.msgq.specs.HandOver as queue

-- next_idx_spec, prev_idx_spec
abbrev pub next_idx : ℕ → ℕ → ℕ
next_idx i c = cond (ltb (i + 1) c) (i + 1) 0

abbrev pub prev_idx : ℕ → ℕ → ℕ
prev_idx i c = cond (eqb i 0) (c - 1) (i - 1)

-- MsgQ::inv
pub record Inv (msg-size max-msgs read-idx write-idx used-msgs : ℕ) : Type 0 where
  -- self.msg_size > 0
  pub some_bytes : 0 < msg-size
  -- self.max_msgs > 0
  pub some_room : 0 < max-msgs
  -- self.read_idx < self.max_msgs
  pub read : read-idx < max-msgs
  -- self.write_idx < self.max_msgs
  pub write : write-idx < max-msgs
  -- self.used_msgs <= self.max_msgs
  pub within : used-msgs ≤ max-msgs
  -- self.ring_consistent()
  pub low : read-idx + used-msgs < max-msgs → write-idx ≡ read-idx + used-msgs
  pub high : max-msgs ≤ read-idx + used-msgs → write-idx ≡ read-idx + used-msgs - max-msgs

abbrev pub InvOf : Msgq → Type 0
InvOf q = Inv q.size (max q) (read_idx q) (write_idx q) (used q)

-- what upstream has no word for: the header and the buffer are there
pub record Housed (h b : List ℕ) : Type 0 where
  pub words : 4 ≤ length h
  pub small : get_or h 0 0 * get_or h 3 0 ≤ 4294967295
  pub memory : get_or h 0 0 * get_or h 3 0 ≤ length b

-- init: match result
pub record Init (size max-msgs : ℕ) (b : List ℕ) (r : ℤ) (q' : Msgq) : Type 0 where
  -- Ok(mq) => mq.inv()
  pub inv : r ≡ ok → InvOf q'
  -- mq.msg_size == msg_size
  pub size_is : r ≡ ok → q'.size ≡ size
  -- mq.max_msgs == max_msgs
  pub max_is : r ≡ ok → max q' ≡ max-msgs
  -- mq.read_idx == 0
  pub read : r ≡ ok → read_idx q' ≡ 0
  -- mq.write_idx == 0
  pub write : r ≡ ok → write_idx q' ≡ 0
  -- mq.used_msgs == 0
  pub empty : r ≡ ok → used q' ≡ 0
  -- Err(e) => e == EINVAL
  pub code : (r ≡ ok → ⊥) → r ≡ einval
  -- msg_size == 0 || max_msgs == 0 || msg_size as int * max_msgs as int > u32::MAX as int; or the buffer is too short
  pub reason : (r ≡ ok → ⊥) → (size ≡ 0) ⊎ ((max-msgs ≡ 0) ⊎ ((4294967295 < max-msgs * size) ⊎ (length b < max-msgs * size)))

-- put: result.is_ok() is the answer 0, and the slot is that of `InSlot`
pub record PutDone (q : Msgq) (r : ℤ) (q' : Msgq) : Type 0 where
  -- result.is_ok()
  pub done : r ≡ ok
  -- self.used_msgs == old(self).used_msgs + 1
  pub counted : used q' ≡ used q + 1
  -- self.write_idx == Self::next_idx_spec(old(self).write_idx, old(self).max_msgs)
  pub moved : write_idx q' ≡ next_idx (write_idx q) (max q)
  -- self.read_idx == old(self).read_idx
  pub first : read_idx q' ≡ read_idx q

pub record Put (q : Msgq) (r : ℤ) (q' : Msgq) : Type 0 where
  -- self.inv()
  pub inv : InvOf q'
  -- self.msg_size == old(self).msg_size
  pub size : q'.size ≡ q.size
  -- self.max_msgs == old(self).max_msgs
  pub room : max q' ≡ max q
  -- old(self).used_msgs < old(self).max_msgs ==> ..
  pub some_room : used q < max q → PutDone q r q'
  -- old(self).used_msgs == old(self).max_msgs ==> result.is_err(), and used_msgs, write_idx, read_idx as before
  pub full : used q ≡ max q → (r ≡ enomsg) × (q' ≡ q)

-- put_front
pub record FrontDone (q : Msgq) (r : ℤ) (q' : Msgq) : Type 0 where
  -- result.is_ok()
  pub done : r ≡ ok
  -- self.used_msgs == old(self).used_msgs + 1
  pub counted : used q' ≡ used q + 1
  -- self.read_idx == Self::prev_idx_spec(old(self).read_idx, old(self).max_msgs)
  pub moved : read_idx q' ≡ prev_idx (read_idx q) (max q)
  -- self.write_idx == old(self).write_idx
  pub last : write_idx q' ≡ write_idx q

pub record PutFront (q : Msgq) (r : ℤ) (q' : Msgq) : Type 0 where
  -- self.inv()
  pub inv : InvOf q'
  -- self.msg_size == old(self).msg_size
  pub size : q'.size ≡ q.size
  -- self.max_msgs == old(self).max_msgs
  pub room : max q' ≡ max q
  -- old(self).used_msgs < old(self).max_msgs ==> ..
  pub some_room : used q < max q → FrontDone q r q'
  -- old(self).used_msgs == old(self).max_msgs ==> result.is_err(), and used_msgs, write_idx, read_idx as before
  pub full : used q ≡ max q → (r ≡ enomsg) × (q' ≡ q)

-- get
pub record GetDone (q : Msgq) (r : ℤ) (q' : Msgq) : Type 0 where
  -- result.is_ok()
  pub done : r ≡ ok
  -- self.used_msgs == old(self).used_msgs - 1
  pub counted : used q' ≡ used q - 1
  -- self.read_idx == Self::next_idx_spec(old(self).read_idx, old(self).max_msgs)
  pub moved : read_idx q' ≡ next_idx (read_idx q) (max q)
  -- self.write_idx == old(self).write_idx
  pub last : write_idx q' ≡ write_idx q

pub record Get (q : Msgq) (r : ℤ) (q' : Msgq) : Type 0 where
  -- self.inv()
  pub inv : InvOf q'
  -- self.msg_size == old(self).msg_size
  pub size : q'.size ≡ q.size
  -- self.max_msgs == old(self).max_msgs
  pub room : max q' ≡ max q
  -- old(self).used_msgs > 0 ==> ..
  pub some_message : 0 < used q → GetDone q r q'
  -- old(self).used_msgs == 0 ==> result.is_err(), and used_msgs, write_idx, read_idx as before
  pub empty : used q ≡ 0 → (r ≡ enomsg) × (q' ≡ q)

-- what these clauses leave out is the messages. Upstream answers a slot; here the message m stands there: put's at the old write index, put_front's at
-- the new read index, get's and peek's at their slots
abbrev pub InSlot : ℕ → List ℕ → Msgq → List ℕ → Type 0
InSlot i m q b = (i < max q) × (get_or (slots q.size (max q) b) i [] ≡ m)

-- peek_at
pub record PeekAt (i : ℕ) (q : Msgq) (r : ℤ) : Type 0 where
  -- idx < self.used_msgs ==> result.is_ok()
  pub done : i < used q → r ≡ ok
  -- idx >= self.used_msgs ==> result.is_err()
  pub past : used q ≤ i → r ≡ enomsg

-- purge: old_used is the answer
pub record Purge (q : Msgq) (r : ℤ) (q' : Msgq) : Type 0 where
  -- self.inv()
  pub inv : InvOf q'
  -- self.msg_size == old(self).msg_size
  pub size : q'.size ≡ q.size
  -- self.max_msgs == old(self).max_msgs
  pub room : max q' ≡ max q
  -- self.used_msgs == 0
  pub empty : used q' ≡ 0
  -- self.read_idx == self.write_idx
  pub met : read_idx q' ≡ write_idx q'
  -- old_used == old(self).used_msgs
  pub told : r ≡ pos (used q)
  -- the write index stays
  pub last : write_idx q' ≡ write_idx q

-- num_free_get: result == self.max_msgs - self.used_msgs, result <= self.max_msgs
abbrev pub NumFree : Msgq → ℤ → Type 0
NumFree q r = (r ≡ pos (max q - used q)) × (max q - used q ≤ max q)

-- num_used_get: result == self.used_msgs, result <= self.max_msgs
abbrev pub NumUsed : Msgq → ℤ → Type 0
NumUsed q r = (r ≡ pos (used q)) × (used q ≤ max q)

-- msg_size_get: result == self.msg_size, result > 0
abbrev pub MsgSize : Msgq → ℤ → Type 0
MsgSize q r = (r ≡ pos q.size) × (0 < q.size)

-- max_msgs_get: result == self.max_msgs, result > 0
abbrev pub MaxMsgs : Msgq → ℤ → Type 0
MaxMsgs q r = (r ≡ pos (max q)) × (0 < max q)

-- is_full: result == (self.used_msgs == self.max_msgs)
abbrev pub IsFull : Msgq → ℤ → Type 0
IsFull q r = Tells (pos 1) (pos 0) r (used q ≡ max q)

-- is_empty: result == (self.used_msgs == 0)
abbrev pub IsEmpty : Msgq → ℤ → Type 0
IsEmpty q r = Tells (pos 1) (pos 0) r (used q ≡ 0)

-- read_idx_get: result == self.read_idx
abbrev pub ReadIdx : Msgq → ℤ → Type 0
ReadIdx q r = r ≡ pos (read_idx q)

-- write_idx_get: result == self.write_idx
abbrev pub WriteIdx : Msgq → ℤ → Type 0
WriteIdx q r = r ≡ pos (write_idx q)

-- ---- on plain numbers: i and u are the words before the call, i' and u' after it. A refusal leaves them as they were

-- put_decide: Store is 0, WakeReader 1, Pend 2, and Full -35
pub record PutDecide (w n c : ℕ) (reader no_wait : Bool) (i u : ℕ) (r : ℤ) (i' u' : ℕ) : Type 0 where
  -- used_msgs < max_msgs && has_waiter ==> WakeReader, new_write_idx == write_idx, new_used == used_msgs
  pub wakes : n < c → reader ≡ true → (r ≡ wakes_reader) × ((i' ≡ w) × (u' ≡ n))
  -- used_msgs < max_msgs && !has_waiter ==> Store, new_write_idx == next_idx_spec(write_idx, max_msgs), new_used == used_msgs + 1
  pub stores : n < c → reader ≡ false → (r ≡ stored) × ((i' ≡ next_idx w c) × (u' ≡ n + 1))
  -- and new_write_idx < max_msgs
  pub within : n < c → reader ≡ false → i' < c
  -- used_msgs >= max_msgs && is_no_wait ==> Full, new_write_idx == write_idx, new_used == used_msgs: the words stay
  pub full : c ≤ n → no_wait ≡ true → (r ≡ enomsg) × ((i' ≡ i) × (u' ≡ u))
  -- used_msgs >= max_msgs && !is_no_wait ==> Pend, new_write_idx == write_idx, new_used == used_msgs
  pub waits : c ≤ n → no_wait ≡ false → (r ≡ pends) × ((i' ≡ w) × (u' ≡ n))

-- get_decide: Read is 0, WakeWriter 1, Pend 2, and Empty -35
pub record GetDecide (t n c : ℕ) (writer no_wait : Bool) (i u : ℕ) (r : ℤ) (i' u' : ℕ) : Type 0 where
  -- used_msgs > 0 && has_waiter ==> WakeWriter, new_read_idx == next_idx_spec(read_idx, max_msgs), new_used == (used_msgs - 1) as u32
  pub wakes : 0 < n → writer ≡ true → (r ≡ wakes_writer) × ((i' ≡ next_idx t c) × (u' ≡ n - 1))
  -- used_msgs > 0 && !has_waiter ==> Read, new_read_idx == next_idx_spec(read_idx, max_msgs), new_used == (used_msgs - 1) as u32
  pub reads : 0 < n → writer ≡ false → (r ≡ is_read) × ((i' ≡ next_idx t c) × (u' ≡ n - 1))
  -- and new_read_idx < max_msgs, of both
  pub within : 0 < n → i' < c
  -- used_msgs == 0 && is_no_wait ==> Empty, new_read_idx == read_idx, new_used == 0: the words stay
  pub empty : n ≡ 0 → no_wait ≡ true → (r ≡ enomsg) × ((i' ≡ i) × (u' ≡ u))
  -- used_msgs == 0 && !is_no_wait ==> Pend, new_read_idx == read_idx, new_used == 0
  pub waits : n ≡ 0 → no_wait ≡ false → (r ≡ pends) × ((i' ≡ t) × (u' ≡ 0))

-- put_front_decide: ok is 0, and !ok is -35
pub record PutFrontDecide (t n c i u : ℕ) (r : ℤ) (i' u' : ℕ) : Type 0 where
  -- used_msgs < max_msgs ==> ok, new_read_idx == prev_idx_spec(read_idx, max_msgs), new_used == used_msgs + 1
  pub stores : n < c → (r ≡ ok) × ((i' ≡ prev_idx t c) × (u' ≡ n + 1))
  -- and new_read_idx < max_msgs
  pub within : n < c → i' < c
  -- used_msgs >= max_msgs ==> !ok, new_read_idx == read_idx, new_used == used_msgs: the words stay
  pub full : c ≤ n → (r ≡ enomsg) × ((i' ≡ i) × (u' ≡ u))

-- peek_at_decide: ok is 0, and !ok is -35; x is the word before the call, x' after it
pub record PeekAtDecide (t n c i x : ℕ) (r : ℤ) (x' : ℕ) : Type 0 where
  -- idx < used_msgs ==> ok
  pub done : i < n → r ≡ ok
  -- and slot_idx < max_msgs
  pub within : i < n → x' < c
  -- idx >= used_msgs ==> !ok
  pub past : n ≤ i → r ≡ enomsg
  -- what upstream leaves open is which slot: (read_idx + idx) % max_msgs, as its body computes it
  pub low : i < n → t + i < c → x' ≡ t + i
  pub high : i < n → c ≤ t + i → x' ≡ t + i - c

-- ---- four lemmas end in `ensures true`. What their comments say:

-- lemma_invariant_inductive: the invariant holds across all operations
abbrev pub Inductive : ℕ → ℕ → List ℕ → Type 0
Inductive size c b = (ss : List (Step Call)) (q : Msgq) → Ran does (new size c b) ss q → InvOf q

-- lemma_put_get_roundtrip: put-then-get reads the OLDEST message; the net effect is used_msgs unchanged but read_idx advanced
pub record Roundtrip (m : List ℕ) (q : Msgq) : Type 0 where
  pub count : used (queue.read (queue.stored m q)) ≡ used q
  pub read : read_idx (queue.read (queue.stored m q)) ≡ next_idx (read_idx q) (max q)
  pub write : write_idx (queue.read (queue.stored m q)) ≡ next_idx (write_idx q) (max q)
  pub oldest : (queue.stored m q).ring.held ≡ q.ring.held ++ m ∷ []
  pub left_behind : (queue.read (queue.stored m q)).ring.held ≡ drop 1 (q.ring.held ++ m ∷ [])

-- lemma_purge_returns_empty: after purge, used_msgs=0, read_idx == write_idx. That is `Purge`

-- lemma_fill_drain_symmetric: after max_msgs puts followed by max_msgs gets, used_msgs == 0, read_idx == write_idx. Of any number that fits, and
-- the messages have come out as they went in
abbrev pub filled : List (List ℕ) → Msgq → Msgq
filled [] q = q
filled (m ∷ ms) q = filled ms (queue.stored m q)

-- after n gets, and what they hand out
abbrev pub drained : ℕ → Msgq → Msgq
drained zero q = q
drained (suc n) q = drained n (queue.read q)

abbrev pub drawn : ℕ → Msgq → List (List ℕ)
drawn zero q = []
drawn (suc n) q = out (get q.size q) ∷ drawn n (queue.read q)

pub record FillDrain (size c : ℕ) (b : List ℕ) (ms : List (List ℕ)) : Type 0 where
  pub held : (filled ms (new size c b)).ring.held ≡ ms
  pub order : drawn (length ms) (filled ms (new size c b)) ≡ ms
  pub empty : used (drained (length ms) (filled ms (new size c b))) ≡ 0
  pub met : read_idx (drained (length ms) (filled ms (new size c b))) ≡ write_idx (drained (length ms) (filled ms (new size c b)))
