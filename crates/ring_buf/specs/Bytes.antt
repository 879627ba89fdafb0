-- The ring of bytes in memory: h = capacity, the place of the first byte, how many bytes are held; b = the buffer, whose first bytes are the
-- ring. What each function does.
use Rattle.std.specs.Prelude.{Bool, false, cond, List, [], ◌∷◌, ℕ, min, ltb, leb, ℤ, pos, length, take, drop, get_or}
use Rattle.seq.specs.List.{any}
use Rattle.thread.specs.Code.{ok, eagain, einval}
use Rattle.store.specs.Store.{Reply, refuse, accept, Place}
use Rattle.ring_buf.specs.Ring.{Ring, ring, tail, append, leave, clear}

-- the first byte stands within the capacity, and no more are held than that
abbrev pub numbers : ℕ → ℕ → ℕ → Bool
numbers c t n = cond (ltb t c) (leb n c) false

-- the header has its words, its numbers are as they should be, and the buffer has room for the ring
abbrev pub sound : List ℕ → List ℕ → Bool
sound h b = cond (leb 3 (length h)) (cond (numbers (get_or h 0 0) (get_or h 1 0) (get_or h 2 0)) (leb (get_or h 0 0) (length b)) false) false

abbrev pub held : List ℕ → List ℕ → Ring ℕ
held h b = ring (get_or h 0 0) (get_or h 1 0) (get_or h 2 0) (take (get_or h 0 0) b)

abbrev pub bytes : Place (Ring ℕ)
bytes = record { words = 3; size = λ h. get_or h 0 0; object = held; formed = sound }

-- a new ring of c bytes
abbrev pub new : ℕ → List ℕ → Ring ℕ
new c b = ring c 0 0 (take c b)

-- whether it can be made
abbrev pub may : ℕ → List ℕ → Bool
may c b = cond (ltb 0 c) (leb c (length b)) false

-- the byte x goes behind what is held; a full ring: -11
abbrev pub put : ℕ → Ring ℕ → Reply (Ring ℕ)
put x r = cond (any r.spare) (accept (append (x ∷ []) r) ok []) (refuse eagain)

-- the first byte leaves, and is handed out; an empty ring: -11
abbrev pub get : Ring ℕ → Reply (Ring ℕ)
get r = cond (any r.held) (accept (leave 1 r) ok (take 1 r.held)) (refuse eagain)

-- as many of l as are free go behind what is held; the answer is their number
abbrev pub put_many : List ℕ → Ring ℕ → Reply (Ring ℕ)
put_many l r = accept (append (take (min (length l) (length r.spare)) l) r) (pos (min (length l) (length r.spare))) []

-- n bytes leave, or all, and are handed out; the answer is their number
abbrev pub get_many : ℕ → Ring ℕ → Reply (Ring ℕ)
get_many n r = accept (leave (min n (length r.held)) r) (pos (min n (length r.held))) (take n r.held)

-- the byte behind i others is handed out, and nothing changes; past the end: -22
abbrev pub peek : ℕ → Ring ℕ → Reply (Ring ℕ)
peek i r = cond (ltb i (length r.held)) (accept r ok (take 1 (drop i r.held))) (refuse einval)

abbrev pub reset : Ring ℕ → Reply (Ring ℕ)
reset r = accept (clear r) ok []

-- what the other functions answer
abbrev pub size_of : Ring ℕ → ℤ
size_of r = pos (length r.held)

abbrev pub space_of : Ring ℕ → ℤ
space_of r = pos (length r.spare)

abbrev pub capacity_of : Ring ℕ → ℤ
capacity_of r = pos r.capacity

abbrev pub head_of : Ring ℕ → ℤ
head_of r = pos r.start

abbrev pub tail_of : Ring ℕ → ℤ
tail_of r = pos (tail r)

-- 1 if nothing is held, 1 if nothing is free, else 0
abbrev pub empty : Ring ℕ → ℤ
empty r = cond (any r.held) (pos 0) (pos 1)

abbrev pub full : Ring ℕ → ℤ
full r = cond (any r.spare) (pos 0) (pos 1)
