-- What holds of a message queue after any sequence of calls, refused ones too: told from the calls, their answers and what they hand out.
use Rattle.std.specs.Prelude.{◌≡◌, Bool, true, false, cond, List, [], ◌∷◌, ◌++◌, ℕ, ◌+◌, ◌<◌, ℤ, negsuc, length, take, drop}
use Rattle.seq.specs.List.{All}
use Rattle.store.specs.Store.{Reply, answer, left}
use Rattle.store.specs.History.{Step}
use Rattle.ring_buf.specs.History.{accepted}
use Rattle.msgq.specs.Msgq.{Msgq, max, used, read_idx, write_idx, put, put_front, get, peek, purge}

-- a get and a peek: to a place of n bytes
pub data Call : Type 0 where
  putting : (m : List ℕ) → Call
  putting_front : (m : List ℕ) → Call
  getting : (n : ℕ) → Call
  peeking : (n i : ℕ) → Call
  purging : Call

abbrev pub does : Call → Msgq → Reply Msgq
does (putting m) q = put m q
does (putting_front m) q = put_front m q
does (getting n) q = get n q
does (peeking n i) q = peek n i q
does purging q = purge q

-- ---- from a call, its answer and its place for what is handed out

-- the message that came out by it
abbrev pub got_by : Call → ℤ → List ℕ → List (List ℕ)
got_by (putting m) a o = []
got_by (putting_front m) a o = []
got_by (getting n) a o = cond (accepted a) (take n o ∷ []) []
got_by (peeking n i) a o = []
got_by purging a o = []

-- the message that was put by it, behind the others
abbrev pub sent_by : Call → ℤ → List (List ℕ)
sent_by (putting m) a = cond (accepted a) (m ∷ []) []
sent_by (putting_front m) a = []
sent_by (getting n) a = []
sent_by (peeking n i) a = []
sent_by purging a = []

-- what a call that was not refused makes of the line l, of which g came out
abbrev pub lined : Call → List (List ℕ) → List (List ℕ) → List (List ℕ)
-- a put adds to its end
lined (putting m) g l = l ++ m ∷ []
-- one at the front comes right behind what came out
lined (putting_front m) g l = take (length g) l ++ m ∷ drop (length g) l
-- a get and a peek do not change it
lined (getting n) g l = l
lined (peeking n i) g l = l
-- a purge cuts it to what came out
lined purging g l = take (length g) l

-- ---- from all of them, of which the last stands first

-- all messages that came out, the first first
abbrev pub got : List (Step Call) → List (List ℕ)
got [] = []
got (s ∷ ss) = got ss ++ got_by s.call s.answer s.out

-- these, and then those that are to come
abbrev pub line : List (Step Call) → List (List ℕ)
line [] = []
line (s ∷ ss) = cond (accepted s.answer) (lined s.call (got ss) (line ss)) (line ss)

-- all messages that were put behind the others, the first first
abbrev pub sent : List (Step Call) → List (List ℕ)
sent [] = []
sent (s ∷ ss) = sent ss ++ sent_by s.call s.answer

-- neither a put at the front nor a purge
abbrev pub simple : Call → Bool
simple (putting m) = true
simple (putting_front m) = false
simple (getting n) = true
simple (peeking n i) = true
simple purging = false

-- the numbers of a queue of c messages of z bytes, and their sizes
pub record Good (c z : ℕ) (q : Msgq) : Type 0 where
  pub max : max q ≡ c
  pub size : q.size ≡ z
  pub read : read_idx q < c
  pub write : write_idx q < c
  -- each slot holds a message or is free
  pub slots : used q + length q.ring.spare ≡ c
  pub messages : All (λ (m : List ℕ). length m ≡ z) q.ring.held

-- after these steps a new queue of c messages of z bytes is q
pub record Promise (c z : ℕ) (ss : List (Step Call)) (q : Msgq) : Type 0 where
  pub good : Good c z q
  -- what came out, then what is held, is the line: message by message, byte for byte, each once
  pub order : got ss ++ q.ring.held ≡ line ss
  -- with puts behind, gets and peeks alone, that is what was put: first in, first out
  pub fifo : All (λ (s : Step Call). simple s.call ≡ true) ss → got ss ++ q.ring.held ≡ sent ss
  -- a call that is answered below 0 changes nothing
  pub refused : (k : Call) (n : ℕ) → answer (does k q) ≡ negsuc n → left (does k q) q ≡ q
