-- Runs of a message queue, computed. Assumes nothing.
use mathlib.Core.Path.{◌≡◌, refl}
use mathlib.Core.Bool.{Bool, true, false}
use mathlib.Core.List.{List, [], ◌∷◌, ◌++◌}
use Prim.Native.Nat.{ℕ}
use lib.IntN.{pos}
use lib.ListN.{get_or}
use Rattle.thread.specs.Code.{ok, enomsg, einval}
use Rattle.store.specs.Store.{accept, refuse, answer, left}
use Rattle.ring_buf.specs.Ring.{wrap, turn, append, lead, leave}
use Rattle.msgq.specs.Messages.{slots}
use Rattle.msgq.specs.Msgq.{Msgq, having, put, counts, wakes_reader, wakes_writer, pends, max, used, read_idx, write_idx}
use Rattle.msgq.specs.Post.{sound, held, new, may, put_decision, get_decision, put_front_decision, peek_decision}
use Rattle.store.specs.History.{Step, after, Ran, fresh, ran}
use Rattle.msgq.specs.History.{Call, putting, putting_front, getting, purging, does, sent, got, line}
use Rattle.msgq.specs.HandOver.{Waited, Event, stored, happens}
use Rattle.msgq.proofs.Steps.{step}

-- three slots of two bytes, and a byte that is not the queue's; the first message stands in the last slot
abbrev header : List ℕ
header = 3 ∷ 2 ∷ 2 ∷ 2 ∷ []

abbrev buffer : List ℕ
buffer = 1 ∷ 2 ∷ 3 ∷ 4 ∷ 5 ∷ 6 ∷ 9 ∷ []

abbrev q : Msgq
q = held header buffer

pub messages_are : (sound header buffer ≡ true) × (q.ring.held ≡ (5 ∷ 6 ∷ []) ∷ (1 ∷ 2 ∷ []) ∷ []) × (q.ring.spare ≡ (3 ∷ 4 ∷ []) ∷ []) × (write_idx q ≡ 1)
unfolding slots turn wrap
messages_are = (refl, refl, refl, refl)

pub put_is : ((stored (7 ∷ 8 ∷ []) q).ring.held ≡ (5 ∷ 6 ∷ []) ∷ (1 ∷ 2 ∷ []) ∷ (7 ∷ 8 ∷ []) ∷ []) × (answer (put (7 ∷ 8 ∷ []) (stored (7 ∷ 8 ∷ []) q)) ≡ enomsg) × (answer (put (7 ∷ []) q) ≡ einval)
unfolding slots turn wrap
put_is = (refl, refl, refl)

-- too few words; an index that is no slot's; more messages than slots; no byte; a buffer that is too short
pub malformed : (sound (3 ∷ 2 ∷ 2 ∷ []) buffer ≡ false) × (sound (3 ∷ 3 ∷ 2 ∷ 2 ∷ []) buffer ≡ false) × (sound (3 ∷ 2 ∷ 4 ∷ 2 ∷ []) buffer ≡ false)
    × (sound (3 ∷ 2 ∷ 2 ∷ 0 ∷ []) buffer ≡ false) × (sound (3 ∷ 2 ∷ 2 ∷ 3 ∷ []) buffer ≡ false)
malformed = (refl, refl, refl, refl, refl)

-- 65536 messages of 65536 bytes are one byte too many
pub too_many : (may 65536 65536 buffer ≡ false) × (may 2 3 buffer ≡ true)
too_many = (refl, refl)

-- ---- a history: two slots of one byte

abbrev m : ℕ → List ℕ
m x = x ∷ []

-- 1 and 2 are put, 3 finds no room; 1 comes out; 4 goes before 2, and comes out. The last stands first
abbrev steps : List (Step Call)
steps =
    step (getting 1) ok (m 4) ∷ step (putting_front (m 4)) ok [] ∷ step (getting 1) ok (m 1) ∷ step (putting (m 3)) enomsg [] ∷ step (putting (m 2)) ok [] ∷ step (putting (m 1)) ok [] ∷ []

abbrev now-held : Msgq
now-held = having (leave 1 (lead (m 4) (leave 1 (append (m 2 ∷ []) (append (m 1 ∷ []) (new 1 2 (0 ∷ 0 ∷ [])).ring))))) (new 1 2 (0 ∷ 0 ∷ []))

pub happened : Ran does (new 1 2 (0 ∷ 0 ∷ [])) steps now-held
unfolding slots turn wrap
happened =
    ran {k = getting 1} (m 0) (m 4)
    (ran {k = putting_front (m 4)} [] []
    (ran {k = getting 1} (m 0) (m 1)
    (ran {k = putting (m 3)} [] [] (ran {k = putting (m 2)} [] [] (ran {k = putting (m 1)} [] [] fresh refl) refl) refl) refl) refl) refl

pub logged : (sent steps ≡ m 1 ∷ m 2 ∷ []) × (got steps ≡ m 1 ∷ m 4 ∷ []) × (line steps ≡ m 1 ∷ m 4 ∷ m 2 ∷ []) × (now-held.ring.held ≡ m 2 ∷ [])
unfolding slots turn wrap
logged = (refl, refl, refl, refl)

pub purged : (line (step purging (pos 1) [] ∷ steps) ≡ m 1 ∷ m 4 ∷ []) × (answer (does purging now-held) ≡ pos 1) × (used (left (does purging now-held) now-held) ≡ 0)
    × (read_idx (left (does purging now-held) now-held) ≡ write_idx now-held)
unfolding slots turn wrap
purged = (refl, refl, refl, refl)

-- ---- those that wait

abbrev event : Call → Bool → Event
event k b = record { call = k; no_wait = b }

abbrev with : List Event → Waited
with es = after happens (record { queue = new 1 2 (0 ∷ 0 ∷ []); readers = 0; writers = []; got = []; line = []; turned = [] }) es

-- a reader waits, and 1 is handed to it; 2 and 3 are stored, 4 and 5 wait for room, 6 would not wait; a get lets 4 in. The last stands
-- first
abbrev events : List Event
events =
    event (getting 1) true ∷ event (putting (m 6)) true ∷ event (putting (m 5)) false ∷ event (putting (m 4)) false ∷ event (putting (m 3)) true
    ∷ event (putting (m 2)) true ∷ event (putting (m 1)) false ∷ event (getting 1) false ∷ []

pub waited : ((with (event (getting 1) false ∷ [])).readers ≡ 1) × ((with (event (putting (m 1)) false ∷ event (getting 1) false ∷ [])).got ≡ m 1 ∷ [])
    × ((with events).got ≡ m 1 ∷ m 2 ∷ [])
    × ((with events).queue.ring.held ≡ m 3 ∷ m 4 ∷ []) × ((with events).writers ≡ m 5 ∷ []) × ((with events).line ≡ m 1 ∷ m 2 ∷ m 3 ∷ m 4 ∷ m 5 ∷ [])
unfolding slots turn wrap
waited = (refl, refl, refl, refl, refl, refl)

-- a put at the front where a reader waits goes to the reader; a message of two bytes is refused
abbrev ahead : Waited
ahead = with (event (putting_front (7 ∷ 8 ∷ [])) true ∷ event (putting_front (m 7)) true ∷ event (getting 1) false ∷ [])

pub handed-on : (ahead.got ≡ m 7 ∷ []) × (ahead.readers ≡ 0) × (used ahead.queue ≡ 0) × (ahead.line ≡ m 7 ∷ [])
unfolding slots turn wrap
handed-on = (refl, refl, refl, refl)

-- 1 and 2 are held, and the writer with 3 waits; a purge drops 1 and 2 and wakes it with -35; then 4 is stored
abbrev cut : Waited
cut = with (event (putting (m 4)) true ∷ event purging true ∷ event (putting (m 3)) false ∷ event (putting (m 2)) true ∷ event (putting (m 1)) true ∷ [])

pub purged_all : (cut.turned ≡ m 3 ∷ []) × (cut.writers ≡ []) × (cut.queue.ring.held ≡ m 4 ∷ []) × (cut.line ≡ m 4 ∷ [])
unfolding slots turn wrap
purged_all = (refl, refl, refl, refl)

-- the decisions behind it
pub decided : (put_decision 1 0 2 true false ≡ accept (counts 1 0) wakes_reader []) × (put_decision 1 1 2 false true ≡ accept (counts 0 2) ok []) × (put_decision 0 2 2 false true ≡ refuse enomsg)
    × (put_decision 0 2 2 false false ≡ accept (counts 0 2) pends []) × (get_decision 1 2 2 true false ≡ accept (counts 0 1) wakes_writer [])
    × (get_decision 1 0 2 false false ≡ accept (counts 1 0) pends []) × (put_front_decision 0 1 2 ≡ accept (counts 1 2) ok []) × (peek_decision 1 2 2 1 ≡ accept 0 ok [])
unfolding wrap
decided = (refl, refl, refl, refl, refl, refl, refl, refl)

-- a reader that waits while 1 is held. If 2 were handed to it, 2 would come out before 1; a put and a get give it 1
abbrev one-held : Msgq
one-held = (with (event (putting (m 1)) true ∷ [])).queue

pub overtakes : ((m 2 ∷ []) ++ one-held.ring.held ≡ m 2 ∷ m 1 ∷ []) × (one-held.ring.held ++ m 2 ∷ [] ≡ m 1 ∷ m 2 ∷ []) × (get_or (stored (m 2) one-held).ring.held 0 [] ≡ m 1)
    × (put_decision (write_idx one-held) (used one-held) (max one-held) true false ≡ refuse einval)
unfolding slots turn wrap
overtakes = (refl, refl, refl, refl)
