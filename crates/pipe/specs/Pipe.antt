-- The pipe: bytes in a ring, first in first out, and whether it is open and whether it is being reset.
use Rattle.std.specs.Prelude.{Bool, true, false, cond, List, [], ℕ, ◌-◌, min, ltb, eqb, ℤ, pos, length, take}
use Rattle.thread.specs.Code.{ok, eagain, einval, epipe, enomsg, ecanceled}
use Rattle.store.specs.Store.{Reply, refuse, accept}
use Rattle.ring_buf.specs.Ring.{Ring, append, leave, clear}

pub record Pipe : Type 0 where
  pub opened : Bool
  pub resetting : Bool
  pub ring : Ring ℕ

-- what becomes of a write or a read: refused with a code; nothing can move now; so many bytes move
pub data Verdict : Type 0 where
  never : ℤ → Verdict
  later : Verdict
  move : ℕ → Verdict

-- n bytes into a pipe that holds used of size: as many as are free. A full pipe: not now
abbrev pub writes : ℕ → ℕ → Bool → Bool → ℕ → Verdict
writes used size opened resetting n =
    cond resetting
    (never ecanceled)
    (cond opened (cond (eqb n 0) (never enomsg) (cond (ltb used size) (move (min n (size - used))) later)) (never epipe))

-- n bytes out of it: as many as there are. An empty one: not now, and never if it is closed
abbrev pub reads : ℕ → Bool → Bool → ℕ → Verdict
reads used opened resetting n =
    cond resetting
    (never ecanceled)
    (cond (eqb n 0) (never enomsg) (cond (ltb 0 used) (move (min n used)) (cond opened later (never epipe))))

-- all n bytes or none: if only a part of them moves now, or none, it is v
abbrev pub wholly : ℕ → Verdict → Verdict → Verdict
wholly n v (never c) = never c
wholly n v later = v
wholly n v (move k) = cond (ltb k n) v (move k)

-- later, unless a pipe of this size never holds n bytes
abbrev pub once : ℕ → ℕ → Verdict
once size n = cond (ltb size n) (never einval) later

-- n bytes into it, all or none
abbrev pub writes_all : ℕ → ℕ → Bool → Bool → ℕ → Verdict
writes_all used size opened resetting n = wholly n (once size n) (writes used size opened resetting n)

-- n bytes out of it, all or none. A closed one never has more
abbrev pub reads_all : ℕ → ℕ → Bool → Bool → ℕ → Verdict
reads_all used size opened resetting n = wholly n (cond opened (once size n) (never epipe)) (reads used opened resetting n)

-- the pipe with another ring
abbrev pub holding : Ring ℕ → Pipe → Pipe
holding r p = record { opened = p.opened; resetting = p.resetting; ring = r }

abbrev pub to_write : ℕ → Pipe → Verdict
to_write n p = writes (length p.ring.held) p.ring.capacity p.opened p.resetting n

abbrev pub to_read : ℕ → Pipe → Verdict
to_read n p = reads (length p.ring.held) p.opened p.resetting n

abbrev pub to_write_all : ℕ → Pipe → Verdict
to_write_all n p = writes_all (length p.ring.held) p.ring.capacity p.opened p.resetting n

abbrev pub to_read_all : ℕ → Pipe → Verdict
to_read_all n p = reads_all (length p.ring.held) p.ring.capacity p.opened p.resetting n

-- so many of the first of l go behind what is held; so many of the first that are held leave
abbrev pub more : List ℕ → Pipe → ℕ → Pipe
more l p k = holding (append (take k l) p.ring) p

abbrev pub less : Pipe → ℕ → Pipe
less p k = holding (leave k p.ring) p

-- by a verdict: the answer is the number of bytes, and -11 if it has to be tried again; o is what is handed out
abbrev pub done : (ℕ → Pipe) → (ℕ → List ℕ) → Verdict → Reply Pipe
done f o (never c) = refuse c
done f o later = refuse eagain
done f o (move k) = accept (f k) (pos k) (o k)

abbrev pub goes_in : List ℕ → Pipe → Verdict → Reply Pipe
goes_in l p v = done (more l p) (λ k. []) v

-- what leaves is handed out
abbrev pub front : Pipe → ℕ → List ℕ
front p k = take k p.ring.held

abbrev pub comes_out : Pipe → Verdict → Reply Pipe
comes_out p v = done (less p) (front p) v

-- a write of l: as many as there is room for, or all or none
abbrev pub write : List ℕ → Pipe → Reply Pipe
write l p = goes_in l p (to_write (length l) p)

abbrev pub write_all : List ℕ → Pipe → Reply Pipe
write_all l p = goes_in l p (to_write_all (length l) p)

-- a read of n bytes: as many as there are, or all or none
abbrev pub read : ℕ → Pipe → Reply Pipe
read n p = comes_out p (to_read n p)

abbrev pub read_all : ℕ → Pipe → Reply Pipe
read_all n p = comes_out p (to_read_all n p)

-- nothing is held; neither a write nor a read until the reset is over
abbrev pub reset : Pipe → Reply Pipe
reset p = accept (record { opened = p.opened; resetting = true; ring = clear p.ring }) ok []

-- the bytes stay; a reset is over, too
abbrev pub close : Pipe → Reply Pipe
close p = accept (record { opened = false; resetting = false; ring = p.ring }) ok []

-- the reset is over
abbrev pub clear_reset : Pipe → Reply Pipe
clear_reset p = accept (record { opened = p.opened; resetting = false; ring = p.ring }) ok []
