-- What holds of a ring after any sequence of calls, refused ones too: told from the calls, their answers and what they hand out.
use Rattle.std.specs.Prelude.{◌≡◌, Bool, true, false, cond, List, [], ◌∷◌, ◌++◌, ℕ, ◌+◌, ◌≤◌, ◌<◌, ℤ, pos, negsuc, length, take, drop}
use Rattle.store.specs.Store.{Reply, answer, left}
use Rattle.store.specs.History.{Step}
use Rattle.ring_buf.specs.Ring.{Ring}
use Rattle.ring_buf.specs.Bytes.{put, get, put_many, get_many, peek, reset}
use Rattle.ring_buf.specs.Counters.{Counted, Agrees}

pub data Call : Type 0 where
  putting : ℕ → Call
  getting : Call
  putting_many : List ℕ → Call
  getting_many : ℕ → Call
  peeking : ℕ → Call
  resetting : Call

abbrev pub does : Call → Ring ℕ → Reply (Ring ℕ)
does (putting x) r = put x r
does getting r = get r
does (putting_many l) r = put_many l r
does (getting_many n) r = get_many n r
does (peeking i) r = peek i r
does resetting r = reset r

-- ---- from a call, its answer and its place for what is handed out

-- it was not refused
abbrev pub accepted : ℤ → Bool
accepted (pos n) = true
accepted (negsuc n) = false

-- the number that it answered
abbrev pub number : ℤ → ℕ
number (pos n) = n
number (negsuc n) = 0

-- the bytes that were put by it
abbrev pub put_by : Call → ℤ → List ℕ
put_by (putting x) a = cond (accepted a) (x ∷ []) []
put_by getting a = []
put_by (putting_many l) a = take (number a) l
put_by (getting_many n) a = []
put_by (peeking i) a = []
put_by resetting a = []

-- the bytes that were got by it
abbrev pub got_by : Call → ℤ → List ℕ → List ℕ
got_by (putting x) a o = []
got_by getting a o = cond (accepted a) (take 1 o) []
got_by (putting_many l) a o = []
got_by (getting_many n) a o = take (number a) o
got_by (peeking i) a o = []
got_by resetting a o = []

-- it was a reset
abbrev pub wipes : Call → ℤ → Bool
wipes (putting x) a = false
wipes getting a = false
wipes (putting_many l) a = false
wipes (getting_many n) a = false
wipes (peeking i) a = false
wipes resetting a = accepted a

-- ---- from all of them, of which the last stands first

-- all bytes that were got, the first first
abbrev pub got : List (Step Call) → List ℕ
got [] = []
got (s ∷ ss) = got ss ++ got_by s.call s.answer s.out

-- all bytes that were put, the first first; a reset cuts off those that were not got
abbrev pub line : List (Step Call) → List ℕ
line [] = []
line (s ∷ ss) = cond (wipes s.call s.answer) (got ss) (line ss ++ put_by s.call s.answer)

-- how many bytes were put, and how many got, since the last reset
abbrev pub puts : List (Step Call) → ℕ
puts [] = 0
puts (s ∷ ss) = cond (wipes s.call s.answer) 0 (puts ss + length (put_by s.call s.answer))

abbrev pub gets : List (Step Call) → ℕ
gets [] = 0
gets (s ∷ ss) = cond (wipes s.call s.answer) 0 (gets ss + length (got_by s.call s.answer s.out))

-- after these steps a new ring of c bytes is r
pub record Promise (c : ℕ) (ss : List (Step Call)) (r : Ring ℕ) : Type 0 where
  -- what was got, then what is held, is what was put: byte for byte, in order, each once
  pub order : got ss ++ r.held ≡ line ss
  pub held_is : r.held ≡ drop (length (got ss)) (line ss)
  -- each place is held or free, and never are more held than there are
  pub fixed : r.capacity ≡ c
  pub whole : length r.held + length r.spare ≡ c
  pub bounded : length r.held ≤ c
  -- a call that is answered below 0 changes nothing
  pub refused : (k : Call) (n : ℕ) → answer (does k r) ≡ negsuc n → left (does k r) r ≡ r
  -- counters of what was put and got since the last reset are those of the ring, and what is decided on them agrees with it
  pub counted : c < 4294967296 → Counted (puts ss) (gets ss) r
  pub agrees : c < 4294967296 → Agrees (puts ss) (gets ss) r
