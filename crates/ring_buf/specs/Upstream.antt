-- The contracts of Gale's ring_buf.rs, in our words: v is upstream's struct before a call, read off the header, and v' after it; r is the
-- answer. Upstream's text stands above each field.
use Rattle.std.specs.Prelude.{◌≡◌, Bool, true, false, cond, List, [], ◌∷◌, ◌++◌, ℕ, zero, suc, ◌+◌, ◌-◌, ◌%◌, ◌≤◌, ◌<◌, ltb, ℤ, pos, length, get_or, set}
use Rattle.thread.specs.Code.{ok, eagain, einval}
use Rattle.thread.specs.Upstream.{Tells}
use Rattle.store.specs.Store.{refuse, left, out}
use Rattle.ring_buf.specs.Ring.{Ring, wrap}
use Rattle.ring_buf.specs.Bytes.{put, get, reset, new, may, size_of, space_of, capacity_of}
use Rattle.ring_buf.specs.History.{Call, does}

-- RingBuf
pub record RingBuf : Type 0 where
  pub capacity : ℕ
  pub head : ℕ
  pub tail : ℕ
  pub size : ℕ

-- the tail is not stored here: it is worked out from the others, as tail_get does
abbrev pub struct : (capacity head size : ℕ) → RingBuf
struct c t n = record { capacity = c; head = t; tail = wrap (t + n) c; size = n }

-- of a header, and of a ring
abbrev pub view : List ℕ → RingBuf
view h = struct (get_or h 0 0) (get_or h 1 0) (get_or h 2 0)

abbrev pub shown : Ring ℕ → RingBuf
shown r = struct r.capacity r.start (length r.held)

-- next_idx_spec
abbrev pub next_idx : ℕ → ℕ → ℕ
next_idx i c = cond (ltb (i + 1) c) (i + 1) 0

-- ring_consistent
pub record Consistent (v : RingBuf) : Type 0 where
  -- if self.head + self.size < self.capacity { self.tail == self.head + self.size }
  pub low : v.head + v.size < v.capacity → v.tail ≡ v.head + v.size
  -- else { self.tail == self.head + self.size - self.capacity }
  pub high : v.capacity ≤ v.head + v.size → v.tail ≡ v.head + v.size - v.capacity

-- RingBuf::inv
pub record Inv (v : RingBuf) : Type 0 where
  -- self.capacity > 0
  pub some_room : 0 < v.capacity
  -- self.head < self.capacity
  pub head : v.head < v.capacity
  -- self.tail < self.capacity
  pub tail : v.tail < v.capacity
  -- self.size <= self.capacity
  pub size : v.size ≤ v.capacity
  -- self.ring_consistent()
  pub consistent : Consistent v

-- what upstream has no word for: the header is there, and a buffer for all that the ring can hold
pub record Housed (h b : List ℕ) : Type 0 where
  pub words : 3 ≤ length h
  pub buffer : get_or h 0 0 ≤ length b

-- init: match result
pub record Init (capacity : ℕ) (r : ℤ) (v' : RingBuf) : Type 0 where
  -- Ok(rb) => rb.inv()
  pub inv : r ≡ ok → Inv v'
  -- rb.capacity == capacity
  pub room : r ≡ ok → v'.capacity ≡ capacity
  -- rb.head == 0
  pub head : r ≡ ok → v'.head ≡ 0
  -- rb.tail == 0
  pub tail : r ≡ ok → v'.tail ≡ 0
  -- rb.size == 0
  pub size : r ≡ ok → v'.size ≡ 0
  -- Err(e) => e == EINVAL
  pub code : (r ≡ ok → ⊥) → r ≡ einval
  -- capacity == 0
  pub refused : (r ≡ ok → ⊥) → capacity ≡ 0

-- put: of the byte x, in the buffer b, which is then b'
pub record Put (x : ℕ) (v : RingBuf) (b : List ℕ) (r : ℤ) (v' : RingBuf) (b' : List ℕ) : Type 0 where
  -- self.inv()
  pub inv : Inv v'
  -- self.capacity == old(self).capacity
  pub room : v'.capacity ≡ v.capacity
  -- old(self).size < old(self).capacity ==> result.is_ok()
  pub done : v.size < v.capacity → r ≡ ok
  -- result.unwrap() == old(self).tail: the byte went to this place, and no other was written
  pub slot : v.size < v.capacity → b' ≡ set b v.tail x
  -- self.size == old(self).size + 1
  pub longer : v.size < v.capacity → v'.size ≡ v.size + 1
  -- self.tail == Self::next_idx_spec(old(self).tail, old(self).capacity)
  pub tail : v.size < v.capacity → v'.tail ≡ next_idx v.tail v.capacity
  -- self.head == old(self).head
  pub head : v.size < v.capacity → v'.head ≡ v.head
  -- old(self).size == old(self).capacity ==> result.is_err()
  pub full : v.size ≡ v.capacity → r ≡ eagain
  -- self.size == old(self).size, self.tail == old(self).tail, self.head == old(self).head
  pub full_size : v.size ≡ v.capacity → v'.size ≡ v.size
  pub full_tail : v.size ≡ v.capacity → v'.tail ≡ v.tail
  pub full_head : v.size ≡ v.capacity → v'.head ≡ v.head

-- get: y stands in the caller's place then
pub record Get (v : RingBuf) (b : List ℕ) (r : ℤ) (v' : RingBuf) (y : ℕ) : Type 0 where
  -- self.inv()
  pub inv : Inv v'
  -- self.capacity == old(self).capacity
  pub room : v'.capacity ≡ v.capacity
  -- old(self).size > 0 ==> result.is_ok()
  pub done : 0 < v.size → r ≡ ok
  -- result.unwrap() == old(self).head: the byte came from this place
  pub slot : 0 < v.size → y ≡ get_or b v.head 0
  -- self.size == old(self).size - 1
  pub shorter : 0 < v.size → v'.size ≡ v.size - 1
  -- self.head == Self::next_idx_spec(old(self).head, old(self).capacity)
  pub head : 0 < v.size → v'.head ≡ next_idx v.head v.capacity
  -- self.tail == old(self).tail
  pub tail : 0 < v.size → v'.tail ≡ v.tail
  -- old(self).size == 0 ==> result.is_err()
  pub none_held : v.size ≡ 0 → r ≡ eagain
  -- self.size == old(self).size, self.head == old(self).head, self.tail == old(self).tail
  pub none_size : v.size ≡ 0 → v'.size ≡ v.size
  pub none_head : v.size ≡ 0 → v'.head ≡ v.head
  pub none_tail : v.size ≡ 0 → v'.tail ≡ v.tail

-- put_n: of count bytes; result is the answer
pub record PutN (count : ℕ) (v : RingBuf) (r : ℤ) (v' : RingBuf) : Type 0 where
  pub result : ℕ
  pub is : r ≡ pos result
  -- self.inv()
  pub inv : Inv v'
  -- self.capacity == old(self).capacity
  pub room : v'.capacity ≡ v.capacity
  -- result <= count
  pub asked : result ≤ count
  -- result <= old(self).capacity - old(self).size
  pub fits : result ≤ v.capacity - v.size
  -- self.size == old(self).size + result
  pub size : v'.size ≡ v.size + result

-- get_n
pub record GetN (count : ℕ) (v : RingBuf) (r : ℤ) (v' : RingBuf) : Type 0 where
  pub result : ℕ
  pub is : r ≡ pos result
  -- self.inv()
  pub inv : Inv v'
  -- self.capacity == old(self).capacity
  pub room : v'.capacity ≡ v.capacity
  -- result <= count
  pub asked : result ≤ count
  -- result <= old(self).size
  pub there : result ≤ v.size
  -- self.size == old(self).size - result
  pub size : v'.size ≡ v.size - result

-- what these clauses leave out: that as many as can be are put and got, and which bytes. q are those that went in behind the others, or came
-- out from before them
pub record Stored (q : List ℕ) (s s' : Ring ℕ) : Type 0 where
  pub held : s'.held ≡ s.held ++ q

pub record Taken (q : List ℕ) (s s' : Ring ℕ) : Type 0 where
  pub held : s.held ≡ q ++ s'.held

-- peek_at: y stands in the caller's place then
pub record PeekAt (idx : ℕ) (v : RingBuf) (b : List ℕ) (r : ℤ) (y : ℕ) : Type 0 where
  -- idx < self.size ==> result.is_ok()
  pub done : idx < v.size → r ≡ ok
  -- result.unwrap() < self.capacity: the slot is idx behind the head, and y is the byte there
  pub within : idx < v.size → wrap (v.head + idx) v.capacity < v.capacity
  pub slot : idx < v.size → y ≡ get_or b (wrap (v.head + idx) v.capacity) 0
  -- idx >= self.size ==> result.is_err()
  pub past : v.size ≤ idx → r ≡ einval

-- reset
pub record Reset (v v' : RingBuf) : Type 0 where
  -- self.inv()
  pub inv : Inv v'
  -- self.capacity == old(self).capacity
  pub room : v'.capacity ≡ v.capacity
  -- self.size == 0
  pub size : v'.size ≡ 0
  -- self.head == 0
  pub head : v'.head ≡ 0
  -- self.tail == 0
  pub tail : v'.tail ≡ 0

-- size_get: result == self.size, result <= self.capacity
abbrev pub SizeGet : RingBuf → ℤ → Type 0
SizeGet v r = (r ≡ pos v.size) × (v.size ≤ v.capacity)

-- space_get: result == self.capacity - self.size
abbrev pub SpaceGet : RingBuf → ℤ → Type 0
SpaceGet v r = r ≡ pos (v.capacity - v.size)

-- capacity_get: result == self.capacity, result > 0
abbrev pub CapacityGet : RingBuf → ℤ → Type 0
CapacityGet v r = (r ≡ pos v.capacity) × (0 < v.capacity)

-- is_empty: result == (self.size == 0)
abbrev pub IsEmpty : RingBuf → ℤ → Type 0
IsEmpty v r = Tells (pos 1) (pos 0) r (v.size ≡ 0)

-- is_full: result == (self.size == self.capacity)
abbrev pub IsFull : RingBuf → ℤ → Type 0
IsFull v r = Tells (pos 1) (pos 0) r (v.size ≡ v.capacity)

-- head_get: result == self.head
abbrev pub HeadGet : RingBuf → ℤ → Type 0
HeadGet v r = r ≡ pos v.head

-- tail_get: result == self.tail
abbrev pub TailGet : RingBuf → ℤ → Type 0
TailGet v r = r ≡ pos v.tail

-- ---- the decide functions

-- d is a.wrapping_sub(b), of 32 bits
pub record WrappingSub (a b d : ℕ) : Type 0 where
  pub low : d < 4294967296
  pub sum : (d + b) % 4294967296 ≡ a

-- claim_decide: claim_size is the answer r, and buffer_offset the word o
pub record ClaimDecide (size requested r o : ℕ) : Type 0 where
  -- buf_size == 0 ==> result === (ClaimDecision { claim_size: 0, buffer_offset: 0 })
  pub none_claim : size ≡ 0 → r ≡ 0
  pub none_offset : size ≡ 0 → o ≡ 0
  -- buf_size > 0 ==> result.buffer_offset < buf_size
  pub within : 0 < size → o < size
  -- result.claim_size <= requested
  pub asked : r ≤ requested
  -- result.claim_size <= buf_size
  pub fits : r ≤ size

-- finish_decide: result == (size <= head.wrapping_sub(tail))
abbrev pub FinishDecide : ℕ → ℕ → ℕ → Bool → Type 0
FinishDecide head tail size r = (d : ℕ) → WrappingSub head tail d → Tells true false r (size ≤ d)

-- space_get_decide
pub record SpaceGetDecide (size r : ℕ) : Type 0 where
  -- buf_size == 0 ==> result == 0
  pub none_free : size ≡ 0 → r ≡ 0
  -- result <= buf_size
  pub fits : r ≤ size

-- size_get_decide: result == put_tail.wrapping_sub(get_head)
abbrev pub SizeGetDecide : ℕ → ℕ → ℕ → Type 0
SizeGetDecide putTail getHead r = WrappingSub putTail getHead r

-- ---- upstream's lemmas: what they say of numbers is said of rings too

-- each place is held or free
abbrev pub Whole : Ring ℕ → Type 0
Whole s = length s.held + length s.spare ≡ s.capacity

-- lemma_invariant_inductive, which ends in `ensures true`. Its comments: init establishes inv, the others preserve it
pub record Inductive : Type 0 where
  pub init : (c : ℕ) (b : List ℕ) → may c b ≡ true → Inv (shown (new c b)) × Whole (new c b)
  pub calls : (s : Ring ℕ) (k : Call) → Inv (shown s) → Whole s → Inv (shown (left (does k s) s)) × Whole (left (does k s) s)

-- lemma_put_get_roundtrip, where there is room
pub record PutGet (s : Ring ℕ) (x : ℕ) : Type 0 where
  -- after_get == size
  pub size : length (left (get (left (put x s) s)) (left (put x s) s)).held ≡ length s.held
  -- what came out, then what is held, is what was held, then x
  pub order : out (get (left (put x s) s)) ++ (left (get (left (put x s) s)) (left (put x s) s)).held ≡ s.held ++ x ∷ []

-- lemma_ring_consistency: what it ensures is what it requires. The tail that satisfies it is the one that is worked out
pub record RingConsistency (v : RingBuf) : Type 0 where
  pub consistent : Consistent v
  -- tail < capacity
  pub within : v.tail < v.capacity
  pub only : v.tail ≡ (struct v.capacity v.head v.size).tail

-- lemma_conservation: (capacity - size) + size == capacity
pub record Conservation (s : Ring ℕ) : Type 0 where
  pub sum : (s.capacity - length s.held) + length s.held ≡ s.capacity
  -- of what the functions answer
  pub answers : (f n c : ℕ) → space_of s ≡ pos f → size_of s ≡ pos n → capacity_of s ≡ pos c → f + n ≡ c

-- lemma_reset_empties
pub record ResetEmpties (s : Ring ℕ) : Type 0 where
  -- 0u32 <= capacity
  pub least : 0 ≤ s.capacity
  -- nothing is held, all is free, and a get is refused
  pub none_held : (left (reset s) s).held ≡ []
  pub all_free : space_of (left (reset s) s) ≡ pos s.capacity
  pub refused : get (left (reset s) s) ≡ refuse eagain

-- the bytes of l are put, one by one
abbrev pub filled : Ring ℕ → List ℕ → Ring ℕ
filled s [] = s
filled s (x ∷ l) = filled (left (put x s) s) l

-- n are got, one by one: what came out, the first first, and what is left
abbrev pub drained : Ring ℕ → ℕ → List ℕ
drained s zero = []
drained s (suc n) = out (get s) ++ drained (left (get s) s) n

abbrev pub after : Ring ℕ → ℕ → Ring ℕ
after s zero = s
after s (suc n) = after (left (get s) s) n

-- lemma_fill_drain_symmetric, which ends in `ensures true`. Of an empty ring, and no more bytes than it can hold
pub record FillDrain (s : Ring ℕ) (l : List ℕ) : Type 0 where
  -- After capacity puts: size == capacity (full).
  pub full : length l ≡ s.capacity → length (filled s l).held ≡ s.capacity
  -- After capacity gets: size == 0 (empty).
  pub empty : (after (filled s l) (length l)).held ≡ []
  -- and the bytes come out as they went in
  pub order : drained (filled s l) (length l) ≡ l
