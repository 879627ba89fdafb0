-- What each function of the ring buffer does.
use Rattle.std.specs.Prelude.{◌≡◌, Bool, false, List, ℕ, ◌≤◌, ℤ, length, take, get_or, Result, Ok, Err}
use Rattle.thread.specs.declared.Errno.{Errno}
use Rattle.thread.specs.declared.Errno.TheVariants.{EINVAL}
use Rattle.ring_buf.specs.declared.header.RingBuf.{RingBuf}
use Rattle.store.specs.Store.{Did, looks, Filled, Fills, Hands, Started}
use Rattle.ring_buf.specs.Ring.{wrap}
use Rattle.ring_buf.specs.Counters.{offset, claimed, finishes, room, amount}
use Rattle.ring_buf.specs.Bytes.{sound, bytes, new, may, put, get, put_many, get_many, peek, reset, size_of, space_of, capacity_of, head_of, tail_of, empty, full}

-- ---- of places and bytes

-- the place x, round the end of n
abbrev pub Places : ℕ → ℕ → ℕ → Type 0
Places x n r = r ≡ wrap x n

-- the first of src, as many as dst has room for, stand first in dst
abbrev pub Copies : List ℕ → List ℕ → List ℕ → Type 0
Copies dst src dst' = Filled (take (length dst) src) dst dst'

-- ---- of a ring

-- the words of a header that is as it should be, with the buffer
pub record Words (h b : List ℕ) (r : RingBuf) : Type 0 where
  pub words : 3 ≤ length h
  pub capacity : r.capacity ≡ get_or h 0 0
  pub head : r.head ≡ get_or h 1 0
  pub size : r.size ≡ get_or h 2 0
  pub room : r.capacity ≤ length b

abbrev pub Reads : List ℕ → List ℕ → Result RingBuf Errno → Type 0
Reads h b (Ok r) = Words h b r
Reads h b (Err e) = (sound h b ≡ false) × (e ≡ EINVAL)

abbrev pub SaysFormed : List ℕ → List ℕ → Bool → Type 0
SaysFormed h b r = r ≡ sound h b

-- a new ring of c bytes; it holds none
abbrev pub Starts : ℕ → List ℕ → List ℕ → ℤ → List ℕ → Type 0
Starts c h b r h' = Started bytes (may c b) (new c b) h b r h' b

-- the byte x goes behind those that are held
abbrev pub Puts : ℕ → List ℕ → List ℕ → ℤ → List ℕ → List ℕ → Type 0
Puts x h b r h' b' = Did bytes (put x) h b r h' b'

-- the first byte comes out, to the word x
abbrev pub Gets : List ℕ → List ℕ → ℕ → ℤ → List ℕ → ℕ → Type 0
Gets h b x r h' x' = Hands bytes get h b x r h' x'

-- the first of src go behind those that are held, as many as there is room for
abbrev pub PutsN : List ℕ → List ℕ → List ℕ → ℤ → List ℕ → List ℕ → Type 0
PutsN src h b r h' b' = Did bytes (put_many src) h b r h' b'

-- the first bytes come out, as many as out has room for
abbrev pub GetsN : List ℕ → List ℕ → List ℕ → ℤ → List ℕ → List ℕ → Type 0
GetsN h b out r h' out' = Fills bytes (get_many (length out)) h b out r h' out'

-- the byte behind i others is told to the word x
abbrev pub PeeksAt : ℕ → List ℕ → List ℕ → ℕ → ℤ → ℕ → Type 0
PeeksAt i h b x r x' = Hands bytes (peek i) h b x r h x'

-- nothing is held
abbrev pub Resets : List ℕ → List ℕ → ℤ → List ℕ → Type 0
Resets h b r h' = Did bytes reset h b r h' b

-- ---- a number of a ring

abbrev pub GetsSize : List ℕ → List ℕ → ℤ → Type 0
GetsSize h b r = r ≡ looks bytes size_of h b

abbrev pub GetsSpace : List ℕ → List ℕ → ℤ → Type 0
GetsSpace h b r = r ≡ looks bytes space_of h b

abbrev pub GetsCapacity : List ℕ → List ℕ → ℤ → Type 0
GetsCapacity h b r = r ≡ looks bytes capacity_of h b

abbrev pub SaysEmpty : List ℕ → List ℕ → ℤ → Type 0
SaysEmpty h b r = r ≡ looks bytes empty h b

abbrev pub SaysFull : List ℕ → List ℕ → ℤ → Type 0
SaysFull h b r = r ≡ looks bytes full h b

abbrev pub GetsHead : List ℕ → List ℕ → ℤ → Type 0
GetsHead h b r = r ≡ looks bytes head_of h b

abbrev pub GetsTail : List ℕ → List ℕ → ℤ → Type 0
GetsTail h b r = r ≡ looks bytes tail_of h b

-- ---- on plain numbers

-- how many bytes can be claimed in one piece, and where it starts
abbrev pub ClaimDecided : ℕ → ℕ → ℕ → ℕ → ℕ → ℕ → Type 0
ClaimDecided head base size asked r o' = (r ≡ claimed head base size asked) × (o' ≡ offset head base size)

abbrev pub FinishDecided : ℕ → ℕ → ℕ → Bool → Type 0
FinishDecided head tail size r = r ≡ finishes head tail size

abbrev pub SpaceGetDecided : ℕ → ℕ → ℕ → ℕ → Type 0
SpaceGetDecided putHead getTail size r = r ≡ room putHead getTail size

abbrev pub SizeGetDecided : ℕ → ℕ → ℕ → Type 0
SizeGetDecided putTail getHead r = r ≡ amount putTail getHead
