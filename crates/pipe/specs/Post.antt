-- The pipe in memory: h = size, the place of the first byte, how many bytes are held, flags; b = the buffer, whose first bytes are the ring. What
-- each function does.
use Rattle.std.specs.Prelude.{◌≡◌, Bool, true, false, cond, List, [], ℕ, ◌+◌, ◌-◌, eqb, ltb, leb, ℤ, pos, length}
use Rattle.thread.specs.Code.{einval}
use Rattle.store.specs.Store.{Reply, refuse, accept, answer, settled, Place, Did, looks, Fills, Started}
use Rattle.store.specs.Product.{◌⊗◌, behind, word, shaped}
use Rattle.ring_buf.specs.Ring.{Ring}
use Rattle.ring_buf.specs.Bytes.{bytes, new as newRing, may, size_of, space_of, capacity_of, empty, full}
use Rattle.pipe.specs.Pipe.{Pipe, Verdict, never, later, move, writes, writes_all, reads, reads_all, write, write_all, read, read_all, reset, close, clear_reset}

-- 0: closed; 1: open; 2: closed and resetting; 3: open and resetting
abbrev pub is_open : ℕ → Bool
is_open f = cond (eqb f 1) true (eqb f 3)

abbrev pub is_resetting : ℕ → Bool
is_resetting f = cond (eqb f 2) true (eqb f 3)

abbrev pub flags : Place ℕ
flags = word (λ f. leb f 3)

-- the first three words and the buffer are a ring; the flags are the word behind them
abbrev pub of_parts : Ring ℕ × ℕ → Pipe
of_parts (r, f) = record { opened = is_open f; resetting = is_resetting f; ring = r }

abbrev pub layout : Place Pipe
layout = shaped of_parts (bytes ⊗ behind 3 flags)

abbrev pub formed : List ℕ → List ℕ → Bool
formed = layout.formed

abbrev pub object : List ℕ → List ℕ → Pipe
object = layout.object

-- a new pipe of n bytes
abbrev pub new : ℕ → List ℕ → Pipe
new n b = record { opened = true; resetting = false; ring = newRing n b }

-- what the other functions answer
abbrev pub size : Pipe → ℤ
size p = capacity_of p.ring

abbrev pub data_held : Pipe → ℤ
data_held p = size_of p.ring

abbrev pub space : Pipe → ℤ
space p = space_of p.ring

abbrev pub is_empty : Pipe → ℤ
is_empty p = empty p.ring

abbrev pub is_full : Pipe → ℤ
is_full p = full p.ring

-- 1 or 0
abbrev pub flag : Bool → ℤ
flag b = cond b (pos 1) (pos 0)

-- ---- on plain numbers

-- how many bytes move, and how many are held then
pub record Moves : Type 0 where
  pub actual : ℕ
  pub used : ℕ

-- what a decide function answers: the bytes move; they move, and somebody that waits is to be woken; the caller is to wait
abbrev pub goes : ℤ
goes = pos 0

abbrev pub wakes : ℤ
wakes = pos 1

abbrev pub pends : ℤ
pends = pos 2

-- by the pipe's own verdict; r is the answer if bytes move, and f how many are held then
abbrev pub decided : ℕ → ℤ → (ℕ → ℕ) → Verdict → Reply Moves
decided used r f (never c) = refuse c
decided used r f later = accept (record { actual = 0; used = used }) pends []
decided used r f (move n) = accept (record { actual = n; used = f n }) r []

-- numbers that a pipe can have
abbrev pub proper : ℕ → ℕ → ℕ → Bool
proper used size flags = cond (ltb 0 size) (cond (leb used size) (leb flags 3) false) false

-- how many are held when k more went in. A reader waits and nothing is held: they went straight to it; else behind what is held
abbrev pub held_then : Bool → ℕ → ℕ → ℕ
held_then reader used k = cond reader (cond (eqb used 0) 0 (used + k)) (used + k)

-- as the pipe itself decides, whoever waits: a reader that waits is woken if bytes move
abbrev pub write_decision : ℕ → ℕ → ℕ → ℕ → Bool → Reply Moves
write_decision used size flags n reader =
    cond (proper used size flags)
    (decided used (cond reader wakes goes) (held_then reader used) (writes used size (is_open flags) (is_resetting flags) n))
    (refuse einval)

-- alike: a writer that waits is woken, to write after the read
abbrev pub read_decision : ℕ → ℕ → ℕ → ℕ → Bool → Reply Moves
read_decision used size flags n writer =
    cond (proper used size flags)
    (decided used (cond writer wakes goes) (λ k. used - k) (reads used (is_open flags) (is_resetting flags) n))
    (refuse einval)

-- all bytes or none
abbrev pub write_all_decision : ℕ → ℕ → ℕ → ℕ → Bool → Reply Moves
write_all_decision used size flags n reader =
    cond (proper used size flags)
    (decided used (cond reader wakes goes) (held_then reader used) (writes_all used size (is_open flags) (is_resetting flags) n))
    (refuse einval)

abbrev pub read_all_decision : ℕ → ℕ → ℕ → ℕ → Bool → Reply Moves
read_all_decision used size flags n writer =
    cond (proper used size flags)
    (decided used (cond writer wakes goes) (λ k. used - k) (reads_all used size (is_open flags) (is_resetting flags) n))
    (refuse einval)

-- a decision was made, in the words that were a and u: a refusal leaves them
pub record Decided (d : Reply Moves) (a u : ℕ) (r : ℤ) (a' u' : ℕ) : Type 0 where
  pub code : r ≡ answer d
  pub actual : a' ≡ settled (λ m. m.actual) d a
  pub used : u' ≡ settled (λ m. m.used) d u

-- ---- what each function does

-- a new pipe of n bytes, open; it holds none
abbrev pub Starts : ℕ → List ℕ → List ℕ → ℤ → List ℕ → Type 0
Starts n h b r h' = Started layout (may n b) (new n b) h b r h' b

-- the first of src go behind what is held, as many as there is room for
abbrev pub Writes : List ℕ → List ℕ → List ℕ → ℤ → List ℕ → List ℕ → Type 0
Writes src h b r h' b' = Did layout (write src) h b r h' b'

-- all of src go behind what is held, or none
abbrev pub WritesAll : List ℕ → List ℕ → List ℕ → ℤ → List ℕ → List ℕ → Type 0
WritesAll src h b r h' b' = Did layout (write_all src) h b r h' b'

-- the first bytes that are held come out, as many as out has room for
abbrev pub Reads : List ℕ → List ℕ → List ℕ → ℤ → List ℕ → List ℕ → Type 0
Reads h b out r h' out' = Fills layout (read (length out)) h b out r h' out'

-- as many as out has room for, or none
abbrev pub ReadsAll : List ℕ → List ℕ → List ℕ → ℤ → List ℕ → List ℕ → Type 0
ReadsAll h b out r h' out' = Fills layout (read_all (length out)) h b out r h' out'

abbrev pub Resets : List ℕ → List ℕ → ℤ → List ℕ → Type 0
Resets h b r h' = Did layout reset h b r h' b

abbrev pub Closes : List ℕ → List ℕ → ℤ → List ℕ → Type 0
Closes h b r h' = Did layout close h b r h' b

abbrev pub ClearsReset : List ℕ → List ℕ → ℤ → List ℕ → Type 0
ClearsReset h b r h' = Did layout clear_reset h b r h' b

-- a number of a pipe
abbrev pub GetsSpace : List ℕ → List ℕ → ℤ → Type 0
GetsSpace h b r = r ≡ looks layout space h b

abbrev pub GetsData : List ℕ → List ℕ → ℤ → Type 0
GetsData h b r = r ≡ looks layout data_held h b

abbrev pub GetsSize : List ℕ → List ℕ → ℤ → Type 0
GetsSize h b r = r ≡ looks layout size h b

abbrev pub SaysEmpty : List ℕ → List ℕ → ℤ → Type 0
SaysEmpty h b r = r ≡ looks layout is_empty h b

abbrev pub SaysFull : List ℕ → List ℕ → ℤ → Type 0
SaysFull h b r = r ≡ looks layout is_full h b

abbrev pub SaysOpen : List ℕ → List ℕ → ℤ → Type 0
SaysOpen h b r = r ≡ looks layout (λ (p : Pipe). flag p.opened) h b

abbrev pub SaysResetting : List ℕ → List ℕ → ℤ → Type 0
SaysResetting h b r = r ≡ looks layout (λ (p : Pipe). flag p.resetting) h b

-- on plain numbers: how many bytes move, and how many are held then
abbrev pub WriteDecided : ℕ → ℕ → ℕ → ℕ → Bool → ℕ → ℕ → ℤ → ℕ → ℕ → Type 0
WriteDecided used size flags n reader a u r a' u' = Decided (write_decision used size flags n reader) a u r a' u'

abbrev pub WriteAllDecided : ℕ → ℕ → ℕ → ℕ → Bool → ℕ → ℕ → ℤ → ℕ → ℕ → Type 0
WriteAllDecided used size flags n reader a u r a' u' = Decided (write_all_decision used size flags n reader) a u r a' u'

abbrev pub ReadDecided : ℕ → ℕ → ℕ → ℕ → Bool → ℕ → ℕ → ℤ → ℕ → ℕ → Type 0
ReadDecided used size flags n writer a u r a' u' = Decided (read_decision used size flags n writer) a u r a' u'

abbrev pub ReadAllDecided : ℕ → ℕ → ℕ → ℕ → Bool → ℕ → ℕ → ℤ → ℕ → ℕ → Type 0
ReadAllDecided used size flags n writer a u r a' u' = Decided (read_all_decision used size flags n writer) a u r a' u'
