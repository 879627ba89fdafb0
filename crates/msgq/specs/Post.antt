-- The message queue in memory: h = how many messages it can hold, the slot of the first, how many it holds, a message's size; b = the buffer,
-- whose first bytes are the slots. What each function does.
use Rattle.std.specs.Prelude.{◌≡◌, Bool, true, false, cond, List, ℕ, ◌*◌, eqb, ltb, leb, ℤ, length, get_or}
use Rattle.store.specs.Store.{Reply, answer, settled, Decided, Place, Did, looks, Fills, Started}
use Rattle.ring_buf.specs.Ring.{ring}
use Rattle.ring_buf.specs.Bytes.{numbers}
use Rattle.msgq.specs.Messages.{slots}
use Rattle.msgq.specs.Msgq.{Msgq, Numbers, puts, gets, leads, peeks, given, put, put_front, get, peek, purge, num_free, num_used, msg_size, max_msgs, read_at, write_at, full, empty}

-- a message has a byte; n messages have no more than 2^32 - 1, and no more than the buffer
abbrev pub room : ℕ → ℕ → List ℕ → Bool
room size n b = cond (ltb 0 size) (cond (leb (n * size) 4294967295) (leb (n * size) (length b)) false) false

-- the header has its words, its numbers are as they should be, and there is room for the slots
abbrev pub sound : List ℕ → List ℕ → Bool
sound h b =
    cond (leb 4 (length h))
    (cond (numbers (get_or h 0 0) (get_or h 1 0) (get_or h 2 0)) (room (get_or h 3 0) (get_or h 0 0) b) false)
    false

-- and a message has k bytes
abbrev pub takes : ℕ → List ℕ → List ℕ → Bool
takes k h b = cond (sound h b) (eqb k (get_or h 3 0)) false

abbrev pub held : List ℕ → List ℕ → Msgq
held h b =
    record { size = get_or h 3 0; ring = ring (get_or h 0 0) (get_or h 1 0) (get_or h 2 0) (slots (get_or h 3 0) (get_or h 0 0) b) }

abbrev pub messages : Place Msgq
messages = record { words = 4; size = λ h. get_or h 0 0 * get_or h 3 0; object = held; formed = sound }

-- a new queue of n messages
abbrev pub new : ℕ → ℕ → List ℕ → Msgq
new size n b = record { size = size; ring = ring n 0 0 (slots size n b) }

-- whether it can be made
abbrev pub may : ℕ → ℕ → List ℕ → Bool
may size n b = cond (ltb 0 n) (room size n b) false

-- ---- on plain numbers

-- the index is a slot's, no more messages than slots; and somebody waits only with m messages
abbrev pub sane : ℕ → ℕ → ℕ → Bool → ℕ → Bool
sane i n c waits m = cond (numbers c i n) (cond waits (eqb n m) true) false

-- a reader waits only if there is no message
abbrev pub put_decision : ℕ → ℕ → ℕ → Bool → Bool → Reply Numbers
put_decision w n c reader no_wait = given (sane w n c reader 0) (puts w n c reader no_wait)

-- a writer waits only if there is no room
abbrev pub get_decision : ℕ → ℕ → ℕ → Bool → Bool → Reply Numbers
get_decision t n c writer no_wait = given (sane t n c writer c) (gets t n c writer no_wait)

abbrev pub put_front_decision : ℕ → ℕ → ℕ → Reply Numbers
put_front_decision t n c = given (numbers c t n) (leads t n c)

abbrev pub peek_decision : ℕ → ℕ → ℕ → ℕ → Reply ℕ
peek_decision t n c i = given (numbers c t n) (peeks t n c i)

-- the decision y is told as r; the words i and n become its numbers, and stay if it is a refusal
pub record Settled (y : Reply Numbers) (i n : ℕ) (r : ℤ) (i' n' : ℕ) : Type 0 where
  pub code : r ≡ answer y
  pub idx : i' ≡ settled (λ (x : Numbers). x.idx) y i
  pub used : n' ≡ settled (λ (x : Numbers). x.used) y n

-- where the message goes or comes from, and how many there are then
abbrev pub PutDecided : ℕ → ℕ → ℕ → Bool → Bool → ℕ → ℕ → ℤ → ℕ → ℕ → Type 0
PutDecided w n c reader no_wait i u r i' u' = Settled (put_decision w n c reader no_wait) i u r i' u'

abbrev pub GetDecided : ℕ → ℕ → ℕ → Bool → Bool → ℕ → ℕ → ℤ → ℕ → ℕ → Type 0
GetDecided t n c writer no_wait i u r i' u' = Settled (get_decision t n c writer no_wait) i u r i' u'

abbrev pub PutFrontDecided : ℕ → ℕ → ℕ → ℕ → ℕ → ℤ → ℕ → ℕ → Type 0
PutFrontDecided t n c i u r i' u' = Settled (put_front_decision t n c) i u r i' u'

abbrev pub PeekAtDecided : ℕ → ℕ → ℕ → ℕ → ℕ → ℤ → ℕ → Type 0
PeekAtDecided t n c i s r s' = Decided (peek_decision t n c i) s r s'

-- ---- in memory: what each function does

-- a new queue of n messages; it holds none
abbrev pub Starts : ℕ → ℕ → List ℕ → List ℕ → ℤ → List ℕ → Type 0
Starts size n h b r h' = Started messages (may size n b) (new size n b) h b r h' b

-- the message goes behind those that are held
abbrev pub Puts : List ℕ → List ℕ → List ℕ → ℤ → List ℕ → List ℕ → Type 0
Puts m h b r h' b' = Did messages (put m) h b r h' b'

-- it goes before them
abbrev pub PutsFront : List ℕ → List ℕ → List ℕ → ℤ → List ℕ → List ℕ → Type 0
PutsFront m h b r h' b' = Did messages (put_front m) h b r h' b'

-- the first message comes out
abbrev pub Gets : List ℕ → List ℕ → List ℕ → ℤ → List ℕ → List ℕ → Type 0
Gets h b out r h' out' = Fills messages (get (length out)) h b out r h' out'

-- the message behind i others is told
abbrev pub PeeksAt : ℕ → List ℕ → List ℕ → List ℕ → ℤ → List ℕ → Type 0
PeeksAt i h b out r out' = Fills messages (peek (length out) i) h b out r h out'

-- no message is held
abbrev pub Purges : List ℕ → List ℕ → ℤ → List ℕ → Type 0
Purges h b r h' = Did messages purge h b r h' b

-- a number of a queue
abbrev pub CountsFree : List ℕ → List ℕ → ℤ → Type 0
CountsFree h b r = r ≡ looks messages num_free h b

abbrev pub CountsUsed : List ℕ → List ℕ → ℤ → Type 0
CountsUsed h b r = r ≡ looks messages num_used h b

abbrev pub GetsMsgSize : List ℕ → List ℕ → ℤ → Type 0
GetsMsgSize h b r = r ≡ looks messages msg_size h b

abbrev pub GetsMaxMsgs : List ℕ → List ℕ → ℤ → Type 0
GetsMaxMsgs h b r = r ≡ looks messages max_msgs h b

abbrev pub SaysFull : List ℕ → List ℕ → ℤ → Type 0
SaysFull h b r = r ≡ looks messages full h b

abbrev pub SaysEmpty : List ℕ → List ℕ → ℤ → Type 0
SaysEmpty h b r = r ≡ looks messages empty h b

abbrev pub GetsReadIdx : List ℕ → List ℕ → ℤ → Type 0
GetsReadIdx h b r = r ≡ looks messages read_at h b

abbrev pub GetsWriteIdx : List ℕ → List ℕ → ℤ → Type 0
GetsWriteIdx h b r = r ≡ looks messages write_at h b
