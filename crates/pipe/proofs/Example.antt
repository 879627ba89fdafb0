-- Runs of a pipe of four bytes, by computing: no premise of a theorem is empty.
use mathlib.Core.Path.{◌≡◌, refl}
use mathlib.Core.Bool.{true, false}
use mathlib.Core.List.{List, [], ◌∷◌}
use Prim.Native.Nat.{ℕ}
use native.Mathlib.Omega.{arith}
use lib.IntN.{ℤ, pos}
use lib.ListN.{length, drop}
use Rattle.thread.specs.Code.{ok, einval, eagain, epipe, enomsg, ecanceled}
use Rattle.store.specs.Store.{refuse, accept, answer, reply, out, Becomes, left}
use Rattle.store.specs.History.{Step, after as then, Made, begun, made}
use Rattle.ring_buf.specs.Ring.{wrap, turn}
use Rattle.pipe.specs.Pipe.{Pipe, write, read}
use Rattle.pipe.specs.Post.{Starts, object, layout, new, wakes, pends, write_decision, read_decision}
use Rattle.pipe.specs.History.{Call, writes, reads, resets, closes, clears, does, got, line, open_by, resetting_by}
use Rattle.pipe.specs.HandOver.{flags}

-- of calls, the last stands first
abbrev after : List Call → Pipe → Pipe
after ks p = then (λ p k. left (does k p) p) p ks

abbrev fresh : Pipe
fresh = new 4 (0 ∷ 0 ∷ 0 ∷ 0 ∷ [])

abbrev three : Pipe
three = after (writes (1 ∷ 2 ∷ 3 ∷ []) ∷ []) fresh

abbrev full : Pipe
full = after (writes (4 ∷ 5 ∷ []) ∷ []) three

abbrev round : Pipe
round = after (writes (6 ∷ 7 ∷ 8 ∷ []) ∷ reads 2 ∷ []) full

-- as many as fit, and as many as there are, round the end
fitted : answer (write (4 ∷ 5 ∷ []) three) ≡ pos 1
unfolding turn
fitted = refl

again : write (6 ∷ []) full ≡ refuse eagain
unfolding turn
again = refl

took : out (read 2 full) ≡ 1 ∷ 2 ∷ []
unfolding turn
took = refl

turned : out (read 9 round) ≡ 3 ∷ 4 ∷ 6 ∷ 7 ∷ []
unfolding turn
turned = refl

-- refusals, in their order
empty-write : write [] three ≡ refuse enomsg
unfolding turn
empty-write = refl

none-there : read 1 fresh ≡ refuse eagain
unfolding turn
none-there = refl

closed-write : write (1 ∷ []) (after (closes ∷ []) three) ≡ refuse epipe
unfolding turn
closed-write = refl

closed-read : out (read 2 (after (closes ∷ []) three)) ≡ 1 ∷ 2 ∷ []
unfolding turn
closed-read = refl

closed-empty : read 1 (after (reads 3 ∷ closes ∷ []) three) ≡ refuse epipe
unfolding turn
closed-empty = refl

reset_write : write [] (after (resets ∷ closes ∷ []) three) ≡ refuse ecanceled
unfolding turn
reset_write = refl

reset_read : read 0 (after (resets ∷ []) three) ≡ refuse ecanceled
unfolding turn
reset_read = refl

reset-over : out (read 4 (after (writes (5 ∷ []) ∷ clears ∷ resets ∷ []) three)) ≡ 5 ∷ []
unfolding turn
reset-over = refl

-- ---- in memory: three bytes go in, one comes out, a reset takes two back, and a write is cancelled

abbrev written : List ℕ
written = 1 ∷ 2 ∷ 3 ∷ 9 ∷ []

started : Starts 4 (7 ∷ 7 ∷ 7 ∷ 7 ∷ []) (9 ∷ 9 ∷ 9 ∷ 9 ∷ []) ok (4 ∷ 0 ∷ 0 ∷ 1 ∷ [])
unfolding turn
started = record {
  code = refl;
  made = λ e. record { formed = refl; object = refl; beside = refl; rest = refl; long = (refl, refl) };
  kept = λ n e. absurd
      (let y : ◌≡◌ {A = ℕ} 0 1 = cc in omega arith);
}

-- the last stands first; the caller's place for the read has room for two
abbrev after_call : Call → ℤ → List ℕ → Step Call
after_call k a o = record { call = k; answer = a; out = o }

abbrev steps : List (Step Call)
steps = after_call (writes (4 ∷ [])) ecanceled [] ∷ after_call resets ok [] ∷ after_call (reads 1) (pos 1) (1 ∷ 8 ∷ []) ∷ after_call
    (writes (1 ∷ 2 ∷ 3 ∷ [])) (pos 3) [] ∷ []

becomes : {h b h' b' : List ℕ} {p : Pipe} → layout.formed h' b' ≡ true → object h' b' ≡ p → drop 4 h' ≡ drop 4 h
    → drop (layout.size h') b' ≡ drop (layout.size h') b → (length h' ≡ length h) × (length b' ≡ length b) → Becomes layout p h b h' b'
becomes f o w r l = record { formed = f; object = o; beside = w; rest = r; long = l }

ran : Made layout does (4 ∷ 0 ∷ 0 ∷ 1 ∷ []) (9 ∷ 9 ∷ 9 ∷ 9 ∷ []) steps (4 ∷ 0 ∷ 0 ∷ 3 ∷ []) written
unfolding wrap turn
ran =
    made {k = writes (4 ∷ [])} {r = ecanceled} {h = 4 ∷ 0 ∷ 0 ∷ 3 ∷ []} {b = written} [] []
    (made {k = resets} {r = ok} {h = 4 ∷ 1 ∷ 2 ∷ 1 ∷ []} {b = written} [] []
    (made {k = reads 1} {r = pos 1} {h = 4 ∷ 0 ∷ 3 ∷ 1 ∷ []} {b = written} (7 ∷ 8 ∷ []) (1 ∷ 8 ∷ [])
    (made {k = writes (1 ∷ 2 ∷ 3 ∷ [])} {r = pos 3} {h = 4 ∷ 0 ∷ 0 ∷ 1 ∷ []} {b = 9 ∷ 9 ∷ 9 ∷ 9 ∷ []} [] [] begun
    (record { code = refl; after = becomes refl refl refl refl (refl, refl) }) refl)
    (record { code = refl; after = becomes refl refl refl refl (refl, refl) }) refl)
    (record { code = refl; after = becomes refl refl refl refl (refl, refl) }) refl) (record { code = refl; after = (refl, refl) }) refl

booked : (got steps ≡ 1 ∷ []) × (line steps ≡ 1 ∷ []) × (open_by steps ≡ true) × (resetting_by steps ≡ true)
booked = (refl, refl, refl, refl)

-- flags above 3
malformed : reply layout (write (1 ∷ [])) (4 ∷ 0 ∷ 0 ∷ 5 ∷ []) written ≡ refuse einval
malformed = refl

-- ---- somebody waits

-- a reader that asks for one byte while two are written: by the decision nothing is held, yet the second byte is left over. So request_len
-- is to be at most what the reader asks for
lost_decision : write_decision 0 4 (flags fresh) 2 true ≡ accept (record { actual = 2; used = 0 }) wakes []
lost_decision = refl

lost : (after (reads 1 ∷ writes (7 ∷ 8 ∷ []) ∷ []) fresh).ring.held ≡ 8 ∷ []
unfolding turn
lost = refl

enough : (after (reads 2 ∷ writes (7 ∷ 8 ∷ []) ∷ []) fresh).ring.held ≡ []
unfolding turn
enough = refl

-- a writer that waits at a full pipe
writer : read_decision 4 4 (flags full) 3 true ≡ accept (record { actual = 3; used = 1 }) wakes []
writer = refl

pending : write_decision 4 4 1 2 false ≡ accept (record { actual = 0; used = 4 }) pends []
pending = refl
