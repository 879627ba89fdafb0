-- What holds of a pipe after any sequence of calls, refused ones too: told from the calls, their answers and what they hand out.
use Rattle.std.specs.Prelude.{◌≡◌, Bool, true, false, cond, ◌⊎◌, List, [], ◌∷◌, ◌++◌, ℕ, ◌+◌, min, ℤ, pos, negsuc, length, take}
use Rattle.seq.specs.List.{All}
use Rattle.thread.specs.Code.{ecanceled}
use Rattle.store.specs.Store.{Reply, accept, answer, left}
use Rattle.store.specs.History.{Step}
use Rattle.ring_buf.specs.Ring.{leave}
use Rattle.ring_buf.specs.History.{accepted, number}
use Rattle.pipe.specs.Pipe.{Pipe, holding, write, write_all, read, read_all, reset, close, clear_reset}

-- a write of these bytes, as many as there is room for, or all or none; a read with room for so many, alike
pub data Call : Type 0 where
  writes writes_all : List ℕ → Call
  reads reads_all : ℕ → Call
  resets closes clears : Call

abbrev pub does : Call → Pipe → Reply Pipe
does (writes l) = write l
does (writes_all l) = write_all l
does (reads n) = read n
does (reads_all n) = read_all n
does resets = reset
does closes = close
does clears = clear_reset

-- ---- from a call, its answer and its place for what is handed out

-- the bytes that went in by it: as many of the first as the answer says
abbrev pub put_by : Call → ℤ → List ℕ
put_by (writes l) a = take (number a) l
put_by (writes_all l) a = take (number a) l
put_by (reads n) a = []
put_by (reads_all n) a = []
put_by resets a = []
put_by closes a = []
put_by clears a = []

-- the bytes that came out by it: as many as the answer says stand first in the caller's place
abbrev pub got_by : Call → ℤ → List ℕ → List ℕ
got_by (writes l) a o = []
got_by (writes_all l) a o = []
got_by (reads n) a o = take (number a) o
got_by (reads_all n) a o = take (number a) o
got_by resets a o = []
got_by closes a o = []
got_by clears a o = []

-- it was a reset
abbrev pub wipes : Call → ℤ → Bool
wipes (writes l) a = false
wipes (writes_all l) a = false
wipes (reads n) a = false
wipes (reads_all n) a = false
wipes resets a = accepted a
wipes closes a = false
wipes clears a = false

-- whether the pipe is open then, and whether it is resetting, if it was so or not
abbrev pub opens : Call → ℤ → Bool → Bool
opens (writes l) a x = x
opens (writes_all l) a x = x
opens (reads n) a x = x
opens (reads_all n) a x = x
opens resets a x = x
opens closes a x = cond (accepted a) false x
opens clears a x = x

abbrev pub cancels : Call → ℤ → Bool → Bool
cancels (writes l) a x = x
cancels (writes_all l) a x = x
cancels (reads n) a x = x
cancels (reads_all n) a x = x
cancels resets a x = cond (accepted a) true x
cancels closes a x = cond (accepted a) false x
cancels clears a x = cond (accepted a) false x

-- ---- from all of them, of which the last stands first

-- all bytes that came out, the first first
abbrev pub got : List (Step Call) → List ℕ
got [] = []
got (s ∷ ss) = got ss ++ got_by s.call s.answer s.out

-- all bytes that went in, the first first; a reset cuts off those that did not come out
abbrev pub line : List (Step Call) → List ℕ
line [] = []
line (s ∷ ss) = cond (wipes s.call s.answer) (got ss) (line ss ++ put_by s.call s.answer)

-- open until it is closed; resetting from a reset until that is over, or the pipe is closed
abbrev pub open_by : List (Step Call) → Bool
open_by [] = true
open_by (s ∷ ss) = opens s.call s.answer (open_by ss)

abbrev pub resetting_by : List (Step Call) → Bool
resetting_by [] = false
resetting_by (s ∷ ss) = cancels s.call s.answer (resetting_by ss)

-- of a call that is all or nothing: every byte or none. The answer tells how many
abbrev pub Whole : Call → ℤ → Type 0
Whole (writes l) a = Unit {0}
Whole (writes_all l) a = (number a ≡ length l) ⊎ (number a ≡ 0)
Whole (reads n) a = Unit {0}
Whole (reads_all n) a = (number a ≡ n) ⊎ (number a ≡ 0)
Whole resets a = Unit {0}
Whole closes a = Unit {0}
Whole clears a = Unit {0}

-- ---- after these steps a new pipe of n bytes is p

pub record Promise (n : ℕ) (ss : List (Step Call)) (p : Pipe) : Type 0 where
  -- what came out, then what is held, is what went in: byte for byte, in order, each once
  pub order : got ss ++ p.ring.held ≡ line ss
  -- of a write or a read that is all or nothing, every byte moved or none
  pub wholly : All (λ (s : Step Call). Whole s.call s.answer) ss
  -- its size stays, and no byte of it is lost
  pub size : p.ring.capacity ≡ n
  pub whole : length p.ring.held + length p.ring.spare ≡ n
  -- its flags
  pub opened : p.opened ≡ open_by ss
  pub resetting : p.resetting ≡ resetting_by ss
  -- a call that is answered below 0 changes nothing
  pub refused : (k : Call) (c : ℕ) → answer (does k p) ≡ negsuc c → left (does k p) p ≡ p

-- ---- after these steps a pipe that was closed, or was being reset, is p

-- once a pipe is closed, it is closed for ever, and nothing goes in
pub record Closed (ss : List (Step Call)) (p : Pipe) : Type 0 where
  pub stays : p.opened ≡ false
  pub unwritten : All (λ (s : Step Call). put_by s.call s.answer ≡ []) ss

-- what is held can be read, closed or not
abbrev pub Readable : ℕ → Pipe → Type 0
Readable n p = let k = min n (length p.ring.held) in read n p ≡ accept (holding (leave k p.ring) p) (pos k) (take n p.ring.held)

-- the calls that end a reset, and no other
abbrev pub Ends : Call → Type 0
Ends (writes l) = ⊥
Ends (writes_all l) = ⊥
Ends (reads n) = ⊥
Ends (reads_all n) = ⊥
Ends resets = ⊥
Ends closes = Unit {0}
Ends clears = Unit {0}

-- a write or a read that is cancelled, or another call
abbrev pub cancelled : Call → ℤ → Type 0
cancelled (writes l) r = r ≡ ecanceled
cancelled (writes_all l) r = r ≡ ecanceled
cancelled (reads n) r = r ≡ ecanceled
cancelled (reads_all n) r = r ≡ ecanceled
cancelled resets r = Unit {0}
cancelled closes r = Unit {0}
cancelled clears r = Unit {0}

-- until a reset is ended, each write and each read is cancelled
pub record Cancelled (ss : List (Step Call)) (p : Pipe) : Type 0 where
  pub stays : p.resetting ≡ true
  pub empty : p.ring.held ≡ []
  pub cancelled : All (λ (s : Step Call). cancelled s.call s.answer) ss
