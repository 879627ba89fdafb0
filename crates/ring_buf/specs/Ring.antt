-- A ring: what it holds, first in first out, in a buffer that is used round and round. For elements of any type.
use Rattle.std.specs.Prelude.{cond, List, [], ◌∷◌, ◌++◌, ℕ, ◌+◌, ◌-◌, ltb, length, take, drop}

pub record Ring (A : Type 0) : Type 0 where
  -- how many elements the buffer has
  pub capacity : ℕ
  -- the place in it of the first that is held
  pub start : ℕ
  -- what is held, the first first
  pub held : List A
  -- what stands in the free places, the next to be written first
  pub spare : List A

-- the place x, below 2 n, in a buffer of n: round the end
unfoldable pub wrap : ℕ → ℕ → ℕ
wrap x n = cond (ltb x n) x (x - n)

-- a buffer read from the place t on, round to the place before it
unfoldable pub turn : {A : Type 0} → ℕ → List A → List A
turn t b = drop t b ++ take t b

-- the ring of n elements, from the place t on, in the buffer b of c
abbrev pub ring : {A : Type 0} → ℕ → ℕ → ℕ → List A → Ring A
ring c t n b = record { capacity = c; start = t; held = take n (turn t b); spare = drop n (turn t b) }

-- where the next element goes
abbrev pub tail : {A : Type 0} → Ring A → ℕ
tail r = wrap (r.start + length r.held) r.capacity

-- l goes behind what is held
abbrev pub append : {A : Type 0} → List A → Ring A → Ring A
append l r = record { capacity = r.capacity; start = r.start; held = r.held ++ l; spare = drop (length l) r.spare }

-- x goes before what is held
abbrev pub lead : {A : Type 0} → A → Ring A → Ring A
lead x r =
    record {
      capacity = r.capacity;
      start = wrap (r.start + (r.capacity - 1)) r.capacity;
      held = x ∷ r.held;
      spare = take (length r.spare - 1) r.spare;
    }

-- the first n leave
abbrev pub leave : {A : Type 0} → ℕ → Ring A → Ring A
leave n r =
    record {
      capacity = r.capacity;
      start = wrap (r.start + n) r.capacity;
      held = drop n r.held;
      spare = r.spare ++ take n r.held;
    }

-- nothing is held, and the next element goes to the buffer's start
abbrev pub clear : {A : Type 0} → Ring A → Ring A
clear r = record { capacity = r.capacity; start = 0; held = []; spare = turn (r.capacity - r.start) (r.held ++ r.spare) }
