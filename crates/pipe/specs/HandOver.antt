-- What the decide functions say, and what the pipe does.
use Rattle.std.specs.Prelude.{◌≡◌, Bool, true, false, cond, List, [], ◌++◌, ℕ, ◌+◌, ◌-◌, ◌≤◌, min, ℤ, pos, length, take, drop}
use Rattle.thread.specs.Code.{eagain}
use Rattle.store.specs.Store.{Reply, refuse, accept, out}
use Rattle.pipe.specs.Pipe.{Pipe, write, read}
use Rattle.pipe.specs.Post.{Moves, goes, wakes, pends, proper, held_then, write_decision, read_decision}

-- the numbers of a pipe
abbrev pub used : Pipe → ℕ
used p = length p.ring.held

abbrev pub flags : Pipe → ℕ
flags p = cond p.opened 1 0 + cond p.resetting 2 0

-- where nobody waits: the decision on the numbers, and what the pipe does, agree in code, in the bytes that move and in those held then;
-- the caller is to wait where the pipe says to try again
pub data Agree (p : Pipe) : Reply Moves → Reply Pipe → Type 0 where
  refuses : (c : ℤ) → Agree p (refuse c) (refuse c)
  waits : Agree p (accept (record { actual = 0; used = used p }) pends []) (refuse eagain)
  moves : (n : ℕ) (q : Pipe) (l : List ℕ) → Agree p (accept (record { actual = n; used = used q }) goes []) (accept q (pos n) l)

abbrev pub write_of : ℕ → Pipe → Reply Moves
write_of n p = write_decision (used p) p.ring.capacity (flags p) n false

abbrev pub read_of : ℕ → Pipe → Reply Moves
read_of n p = read_decision (used p) p.ring.capacity (flags p) n false

-- a reader waits, with room for n bytes, at an open and empty pipe: the write of l, and then the reader's read. As long as no more is written than the
-- reader asks for, exactly what went in comes out, and the pipe is as empty as it was: the bytes can go straight to the reader
pub record HandsOver (l : List ℕ) (n : ℕ) (p : Pipe) : Type 0 where
  pub full : Pipe
  pub after : Pipe
  pub decided : write_decision 0 p.ring.capacity (flags p) (length l) true
      ≡ accept (record { actual = min (length l) p.ring.capacity; used = 0 }) wakes []
  pub write : write l p ≡ accept full (pos (min (length l) p.ring.capacity)) []
  pub read : read n full ≡ accept after (pos (min (length l) p.ring.capacity)) (take (min (length l) p.ring.capacity) l)
  pub empty : after.ring.held ≡ []

-- a reader waits, to read n bytes, at an open pipe that holds bytes and is not full: l goes behind what is held, and the reader reads of that first
pub record Behind (l : List ℕ) (n : ℕ) (p : Pipe) : Type 0 where
  pub after : Pipe
  pub decided : write_decision (used p) p.ring.capacity (flags p) (length l) true
      ≡ accept (record { actual = min (length l) (p.ring.capacity - used p); used = used after }) wakes []
  pub write : write l p ≡ accept after (pos (min (length l) (p.ring.capacity - used p))) []
  pub held : after.ring.held ≡ p.ring.held ++ take (min (length l) (p.ring.capacity - used p)) l
  pub first : n ≤ used p → out (read n after) ≡ take n p.ring.held

-- a writer waits, with the bytes l, at an open pipe that holds bytes, full or not: the read of n bytes, and then the writer's write. What the writer
-- wrote stands behind what was held
pub record MakesRoom (n : ℕ) (l : List ℕ) (p : Pipe) : Type 0 where
  pub room : Pipe
  pub after : Pipe
  pub decided : read_decision (used p) p.ring.capacity (flags p) n true ≡ accept (record { actual = min n (used p); used = used room }) wakes []
  pub read : read n p ≡ accept room (pos (min n (used p))) (take (min n (used p)) p.ring.held)
  pub write : write l room ≡ accept after (pos (min (length l) (p.ring.capacity - used room))) []
  pub held : after.ring.held ≡ drop (min n (used p)) p.ring.held ++ take (min (length l) (p.ring.capacity - used room)) l

-- a decision where nobody waits, and where somebody does: a refusal and a wait are the same; if bytes move, somebody is woken, and f says how many
-- are held then
pub data Wakes (f : ℕ → ℕ) : Reply Moves → Reply Moves → Type 0 where
  refused : (c : ℤ) → Wakes f (refuse c) (refuse c)
  delayed : (m : Moves) → Wakes f (accept m pends []) (accept m pends [])
  woken : (n u : ℕ) → Wakes f (accept (record { actual = n; used = u }) goes []) (accept (record { actual = n; used = f n }) wakes [])

-- of any numbers: who waits is asked last, and no answer leads to numbers that are refused
pub record WhoWaits (used size flags n : ℕ) : Type 0 where
  pub reader : Wakes (held_then true used) (write_decision used size flags n false) (write_decision used size flags n true)
  pub writer : Wakes (λ k. used - k) (read_decision used size flags n false) (read_decision used size flags n true)
  pub after_write : (w : Bool) (m : Moves) (r : ℤ) (o : List ℕ) → write_decision used size flags n w ≡ accept m r o → proper m.used size flags ≡ true
  pub after_read : (w : Bool) (m : Moves) (r : ℤ) (o : List ℕ) → read_decision used size flags n w ≡ accept m r o → proper m.used size flags ≡ true
