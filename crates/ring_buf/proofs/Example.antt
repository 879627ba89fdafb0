-- A run of a ring that goes round its end, computed; and where what is decided on counters differs from what the ring does. Assumes nothing.
use mathlib.Core.Path.{◌≡◌, refl}
use mathlib.Core.Bool.{true, false}
use mathlib.Core.List.{List, [], ◌∷◌}
use mathlib.Core.Logic.{inr}
use Prim.Native.Nat.{ℕ}
use native.Mathlib.Omega.{arith}
use lib.IntN.{pos}
use Rattle.thread.specs.Code.{ok, eagain, einval}
use Rattle.store.specs.Store.{answer, out, reply, looks}
use Rattle.store.specs.History.{Step, Ran, fresh, ran, Made, begun, made}
use Rattle.ring_buf.specs.Ring.{Ring, wrap, turn, ring, tail}
use Rattle.ring_buf.specs.Bytes.{bytes, new, may, put, get, put_many, size_of, space_of, tail_of, empty, full}
use Rattle.ring_buf.specs.Counters.{low, offset, claimed, finishes, room, amount, Counted, Exact}
use Rattle.ring_buf.specs.History.{Call, putting, getting, putting_many, getting_many, peeking, resetting, does, got, line, puts, gets}
use Rattle.ring_buf.proofs.Answers as answers

-- room for three in a buffer of four
abbrev buffer : List ℕ
buffer = 7 ∷ 8 ∷ 9 ∷ 5 ∷ []

pub new_is : (may 3 buffer ≡ true) × (may 0 buffer ≡ false) × (may 5 buffer ≡ false) × ((new 3 buffer).held ≡ []) × ((new 3 buffer).spare ≡ 7 ∷ 8 ∷ 9 ∷ [])
unfolding turn
new_is = (refl, refl, refl, refl, refl)

-- 1 and 2 are put, 1 is got; of 3, 4 and 5 there is room for two, the second beyond the end; 6 finds none. 4 is seen, and nothing behind it.
-- Of five that are asked for three are got; the last stands first
abbrev run : List (Step Call)
run =
    record { call = getting_many 5; answer = pos 3; out = 2 ∷ 3 ∷ 4 ∷ 0 ∷ 0 ∷ [] }
    ∷ record { call = peeking 3; answer = einval; out = 0 ∷ [] }
    ∷ record { call = peeking 2; answer = ok; out = 4 ∷ [] }
    ∷ record { call = putting 6; answer = eagain; out = [] }
    ∷ record { call = putting_many (3 ∷ 4 ∷ 5 ∷ []); answer = pos 2; out = [] }
    ∷ record { call = getting; answer = ok; out = 1 ∷ [] }
    ∷ record { call = putting 2; answer = ok; out = [] }
    ∷ record { call = putting 1; answer = ok; out = [] }
    ∷ []

abbrev then : Ring ℕ
then = record { capacity = 3; start = 1; held = []; spare = 2 ∷ 3 ∷ 4 ∷ [] }

pub run_is : Ran does (new 3 buffer) run then
unfolding wrap turn
run_is =
    ran {k = getting_many 5} (0 ∷ 0 ∷ 0 ∷ 0 ∷ 0 ∷ []) (2 ∷ 3 ∷ 4 ∷ 0 ∷ 0 ∷ [])
    (ran {k = peeking 3} (0 ∷ []) (0 ∷ [])
    (ran {k = peeking 2} (0 ∷ []) (4 ∷ [])
    (ran {k = putting 6} [] []
    (ran {k = putting_many (3 ∷ 4 ∷ 5 ∷ [])} [] []
    (ran {k = getting} (0 ∷ []) (1 ∷ []) (ran {k = putting 2} [] [] (ran {k = putting 1} [] [] fresh refl) refl) refl)
    refl)
    refl)
    refl)
    refl)
    refl

pub line-is : (line run ≡ 1 ∷ 2 ∷ 3 ∷ 4 ∷ []) × (got run ≡ 1 ∷ 2 ∷ 3 ∷ 4 ∷ []) × (puts run ≡ 4) × (gets run ≡ 4)
line-is = (refl, refl, refl, refl)

-- a reset cuts off 2, which was put and not got
abbrev cut : List (Step Call)
cut =
    record { call = putting 3; answer = ok; out = [] }
    ∷ record { call = resetting; answer = ok; out = [] }
    ∷ record { call = getting; answer = ok; out = 1 ∷ [] }
    ∷ record { call = putting_many (1 ∷ 2 ∷ []); answer = pos 2; out = [] }
    ∷ []

pub cut-is : Ran does (new 3 buffer) cut (record { capacity = 3; start = 0; held = 3 ∷ []; spare = 2 ∷ 9 ∷ [] })
unfolding wrap turn
cut-is =
    ran {k = putting 3} [] []
    (ran {k = resetting} [] [] (ran {k = getting} (0 ∷ []) (1 ∷ []) (ran {k = putting_many (1 ∷ 2 ∷ [])} [] [] fresh refl) refl) refl)
    refl

pub cut_line : (got cut ≡ 1 ∷ []) × (line cut ≡ 1 ∷ 3 ∷ []) × (puts cut ≡ 1) × (gets cut ≡ 0)
cut_line = (refl, refl, refl, refl)

-- in memory: 6 stands at place 2, and the next goes to place 0; the byte behind the ring is not its own
abbrev header : List ℕ
header = 3 ∷ 2 ∷ 1 ∷ []

abbrev memory : List ℕ
memory = 4 ∷ 5 ∷ 6 ∷ 9 ∷ []

pub memory-is : (bytes.formed header memory ≡ true) × ((bytes.object header memory).held ≡ 6 ∷ []) × ((bytes.object header memory).spare ≡ 4 ∷ 5 ∷ [])
    × (looks bytes tail_of header memory ≡ pos 0) × (looks bytes space_of header memory ≡ pos 2) × (looks bytes empty header memory ≡ pos 0)
    × (looks bytes full header memory ≡ pos 0) × (out (reply bytes get header memory) ≡ 6 ∷ [])
unfolding wrap turn
memory-is = (refl, refl, refl, refl, refl, refl, refl, refl)

-- malformed: no capacity, the first byte or the number of bytes beyond it, too short a buffer, too short a header
pub malformed_is : (looks bytes size_of (0 ∷ 0 ∷ 0 ∷ []) memory ≡ einval) × (looks bytes size_of (3 ∷ 3 ∷ 0 ∷ []) memory ≡ einval) × (looks bytes size_of (3 ∷ 0 ∷ 4 ∷ []) memory ≡ einval)
    × (looks bytes size_of (5 ∷ 0 ∷ 0 ∷ []) memory ≡ einval) × (looks bytes size_of (3 ∷ 0 ∷ []) memory ≡ einval)
malformed_is = (refl, refl, refl, refl, refl)

pub made_one : Made bytes does header memory (record { call = putting 1; answer = ok; out = [] } ∷ []) (3 ∷ 2 ∷ 2 ∷ []) (1 ∷ 5 ∷ 6 ∷ 9 ∷ [])
unfolding wrap turn
made_one =
    made {k = putting 1} [] [] begun
    (answers.put-done header memory (record { words = omega arith; start = omega arith; size = omega arith; room = omega arith }) 1 0 (omega arith) refl)
    refl

-- ---- on counters, as C has them

-- they agree: 4 were put and 2 got, so 2 are held, from place 2 on, and the next goes to place 1
abbrev round : Ring ℕ
round = ring 3 2 2 (4 ∷ 5 ∷ 6 ∷ [])

pub round_counted : Counted 4 2 round
unfolding turn
round_counted = record { size = refl; start = refl; whole = refl; some = omega arith; small = omega arith }

pub round_agrees : (amount 4 2 ≡ 2) × (room 4 2 3 ≡ 1) × (offset 4 0 3 ≡ 1) × (tail round ≡ 1) × (offset 2 0 3 ≡ 2) × (claimed 4 0 3 1 ≡ 1) × (answer (put_many (9 ∷ []) round) ≡ pos 1)
unfolding wrap turn
round_agrees = (refl, refl, refl, refl, refl, refl, refl)

-- a full ring: a byte can be claimed, and cannot be put
pub full-differs : Counted 2 0 (ring 2 0 2 (4 ∷ 5 ∷ [])) × (claimed 2 0 2 1 ≡ 1) × (answer (put 9 (ring 2 0 2 (4 ∷ 5 ∷ []))) ≡ eagain)
unfolding turn
full-differs = (record { size = refl; start = refl; whole = refl; some = omega arith; small = omega arith }, refl, refl)

-- free places on both sides of the end: one byte can be claimed of the two that put_n takes
pub wrapped_differs : Counted 2 1 (ring 3 1 1 (4 ∷ 5 ∷ 6 ∷ [])) × (claimed 2 0 3 2 ≡ 1) × (answer (put_many (8 ∷ 9 ∷ []) (ring 3 1 1 (4 ∷ 5 ∷ 6 ∷ []))) ≡ pos 2)
unfolding turn
wrapped_differs = (record { size = refl; start = refl; whole = refl; some = omega arith; small = omega arith }, refl, refl)

-- a counter that passed 2^32, and a capacity that does not divide it: another place
pub passed-differs : Counted 4294967296 4294967296 (ring 3 1 0 (4 ∷ 5 ∷ 6 ∷ [])) × (offset (low 4294967296) 0 3 ≡ 0) × (tail {A = ℕ} (ring 3 1 0 (4 ∷ 5 ∷ 6 ∷ [])) ≡ 1)
unfolding wrap turn
passed-differs = (record { size = refl; start = refl; whole = refl; some = omega arith; small = omega arith }, refl, refl)

-- a capacity that divides it: the same place, after any number of bytes
pub passed-agrees : Counted 4294967297 4294967296 (ring 2 0 1 (4 ∷ 5 ∷ [])) × Exact 4294967297 2 × (offset (low 4294967297) 0 2 ≡ 1) × (tail {A = ℕ} (ring 2 0 1 (4 ∷ 5 ∷ [])) ≡ 1)
unfolding wrap turn
passed-agrees = (record { size = refl; start = refl; whole = refl; some = omega arith; small = omega arith }, inr refl, refl, refl)

-- counters further apart than the buffer is long, and a claim that is finished in two parts
pub decided-is : (room 9 2 3 ≡ 0) × (claimed 5 0 0 1 ≡ 0) × (offset 5 0 0 ≡ 0) × (amount 1 4294967295 ≡ 2) × (finishes 6 2 4 ≡ true) × (finishes 6 2 5 ≡ false)
decided-is = (refl, refl, refl, refl, refl, refl)
