-- Counters that run freely through 2^32, as Zephyr's ring buffer has them: what is decided on them, and when it agrees with the ring.
use Rattle.std.specs.Prelude.{◌≡◌, Bool, cond, ◌⊎◌, ℕ, ◌+◌, ◌-◌, ◌%◌, ◌<◌, ◌≤◌, min, eqb, leb, length}
use Rattle.ring_buf.specs.Ring.{Ring, tail}

-- a - b, modulo 2^32
abbrev pub difference : ℕ → ℕ → ℕ
difference a b = cond (leb b a) (a - b) (a + 4294967296 - b)

-- where a piece starts that is claimed in a buffer of n bytes
abbrev pub offset : ℕ → ℕ → ℕ → ℕ
offset head base n = cond (eqb n 0) 0 (difference head base % n)

-- how many bytes of those asked for can be claimed in one piece, up to the buffer's end
abbrev pub claimed : ℕ → ℕ → ℕ → ℕ → ℕ
claimed head base n asked = cond (eqb n 0) 0 (min asked (n - offset head base n))

-- whether so many bytes are claimed and not yet finished
abbrev pub finishes : ℕ → ℕ → ℕ → Bool
finishes head tail n = leb n (difference head tail)

-- how many bytes are free; none, if the counters are further apart than the buffer is long
abbrev pub room : ℕ → ℕ → ℕ → ℕ
room putHead getTail n = n - difference putHead getTail

-- how many bytes are held
abbrev pub amount : ℕ → ℕ → ℕ
amount putTail getHead = difference putTail getHead

-- a counter's 32 bits
abbrev pub low : ℕ → ℕ
low x = x % 4294967296

-- in all, p bytes were put into the ring r and g were got from it, from a start at place 0
pub record Counted (p g : ℕ) (r : Ring ℕ) : Type 0 where
  pub size : p ≡ g + length r.held
  pub start : r.start ≡ g % r.capacity
  pub whole : length r.held + length r.spare ≡ r.capacity
  pub some : 0 < r.capacity
  pub small : r.capacity < 4294967296

-- a counter x that has not passed 2^32, or a capacity that divides 2^32
abbrev pub Exact : ℕ → ℕ → Type 0
Exact x c = (x < 4294967296) ⊎ (4294967296 % c ≡ 0)

pub record Agrees (p g : ℕ) (r : Ring ℕ) : Type 0 where
  -- the numbers agree, whatever the counters passed
  pub amount_is : amount (low p) (low g) ≡ length r.held
  pub room_is : room (low p) (low g) r.capacity ≡ length r.spare
  -- the places agree, if the counters are exact
  pub tail_is : Exact p r.capacity → offset (low p) 0 r.capacity ≡ tail r
  pub start_is : Exact g r.capacity → offset (low g) 0 r.capacity ≡ r.start
  -- a claim for bytes to be put is what the ring would take, if so much is free and the piece does not reach over the end
  pub claim_is : (n : ℕ) → Exact p r.capacity → n ≤ length r.spare → tail r + n ≤ r.capacity → claimed (low p) 0 r.capacity n ≡ min n (length r.spare)
  -- else it is what stands before the end
  pub claim_cut : (n : ℕ) → Exact p r.capacity → r.capacity ≤ tail r + n → claimed (low p) 0 r.capacity n ≡ r.capacity - tail r
  -- the same of a claim for bytes to be got
  pub got_is : (n : ℕ) → Exact g r.capacity → n ≤ length r.held → r.start + n ≤ r.capacity → claimed (low g) 0 r.capacity n ≡ min n (length r.held)
  pub got_cut : (n : ℕ) → Exact g r.capacity → r.capacity ≤ r.start + n → claimed (low g) 0 r.capacity n ≡ r.capacity - r.start
