-- Runs of a pipe of four bytes where threads wait, by computing. Assumes nothing.
use mathlib.Core.Path.{◌≡◌, refl}
use mathlib.Core.Bool.{true, false}
use mathlib.Core.List.{List, [], ◌∷◌}
use Prim.Native.Nat.{ℕ}
use Rattle.thread.specs.Code.{einval, epipe, ecanceled}
use Rattle.store.specs.Store.{refuse, accept}
use Rattle.store.specs.History.{after as then}
use Rattle.ring_buf.specs.Ring.{wrap, turn}
use Rattle.pipe.specs.Post.{new, goes, wakes, pends, write_decision, read_decision}
use Rattle.pipe.specs.Waiting.{fresh, waited, Waited, Event, writing, reading, entering, tries, resets, closes, happens}
use Rattle.pipe.specs.Fair.{lets}

-- of events, the last stands first
abbrev after : List Event → Waited
after es = then happens (waited (new 4 (0 ∷ 0 ∷ 0 ∷ 0 ∷ [])) [] [] false fresh) es

abbrev write : List ℕ → Event
write l = tries (writing l false)

abbrev read : ℕ → Event
read n = tries (reading n false)

abbrev enter : Event
enter = tries entering

-- ---- a full pipe, where two writers wait with a byte each

abbrev full : List Event
full = write (6 ∷ []) ∷ write (5 ∷ []) ∷ write (1 ∷ 2 ∷ 3 ∷ 4 ∷ []) ∷ []

two_wait_lem : ((after full).pipe.ring.held ≡ 1 ∷ 2 ∷ 3 ∷ 4 ∷ []) × ((after full).writers ≡ (5 ∷ []) ∷ (6 ∷ []) ∷ [])
unfolding turn wrap
two_wait_lem = (refl, refl)

-- all is read: 1; the first writer writes; the next read finds its byte while the second writer waits: 1 again; then that writes
abbrev first : Waited
first = after (enter ∷ read 4 ∷ full)

abbrev second : Waited
second = after (enter ∷ read 1 ∷ enter ∷ read 4 ∷ full)

one-wrote : (first.books.got ≡ 1 ∷ 2 ∷ 3 ∷ 4 ∷ []) × (first.pipe.ring.held ≡ 5 ∷ []) × (first.writers ≡ (6 ∷ []) ∷ []) × (first.letting ≡ true)
unfolding turn wrap
one-wrote = (refl, refl, refl, refl)

both-wrote : (second.books.got ≡ 1 ∷ 2 ∷ 3 ∷ 4 ∷ 5 ∷ []) × (second.pipe.ring.held ≡ 6 ∷ []) × (second.writers ≡ [])
    × (second.books.called ≡ second.books.went)
unfolding turn wrap
both-wrote = (refl, refl, refl, refl)

answers : (read_decision 4 4 1 4 true ≡ accept (record { actual = 4; used = 0 }) wakes [])
    × (write_decision 0 4 1 1 false ≡ accept (record { actual = 1; used = 1 }) goes [])
    × (read_decision 1 4 1 1 true ≡ accept (record { actual = 1; used = 0 }) wakes [])
answers = (refl, refl, refl)

-- a whole read: all that wait are let in, as far as there is room
whole : (lets 2 (after (read 1 ∷ full))).writers ≡ (6 ∷ []) ∷ []
unfolding turn wrap
whole = refl

-- a reader comes before the first writer writes: it waits and is handed that byte; nothing is held, and the second writer is let in all the same
between : ((after (read 2 ∷ read 4 ∷ full)).readers ≡ 2 ∷ []) × ((after (enter ∷ read 2 ∷ read 4 ∷ full)).books.got ≡ 1 ∷ 2 ∷ 3 ∷ 4 ∷ 5 ∷ [])
    × ((after (enter ∷ read 2 ∷ read 4 ∷ full)).letting ≡ true) × ((after (enter ∷ enter ∷ read 2 ∷ read 4 ∷ full)).pipe.ring.held ≡ 6 ∷ [])
unfolding turn wrap
between = (refl, refl, refl, refl)

-- a write comes before the first writer writes: it goes past nobody
behind_them : (after (enter ∷ enter ∷ enter ∷ write (7 ∷ []) ∷ read 4 ∷ full)).pipe.ring.held ≡ 5 ∷ 6 ∷ 7 ∷ []
unfolding turn wrap
behind_them = refl

-- ---- two readers wait, and each gets what it asks for; the rest goes into the pipe

readers-fed : (after (write (2 ∷ 3 ∷ 4 ∷ []) ∷ write (1 ∷ 2 ∷ 3 ∷ 4 ∷ []) ∷ read 2 ∷ read 1 ∷ [])).books.fed ≡ 1 ∷ 2 ∷ []
unfolding turn wrap
readers-fed = refl

readers : ((after (write (1 ∷ 2 ∷ 3 ∷ 4 ∷ []) ∷ read 2 ∷ read 1 ∷ [])).books.got ≡ 1 ∷ [])
    × ((after (write (2 ∷ 3 ∷ 4 ∷ []) ∷ write (1 ∷ 2 ∷ 3 ∷ 4 ∷ []) ∷ read 2 ∷ read 1 ∷ [])).books.got ≡ 1 ∷ 2 ∷ 3 ∷ [])
    × ((after (write (4 ∷ []) ∷ write (2 ∷ 3 ∷ 4 ∷ []) ∷ write (1 ∷ 2 ∷ 3 ∷ 4 ∷ []) ∷ read 2 ∷ read 1 ∷ [])).pipe.ring.held ≡ 4 ∷ [])
unfolding turn wrap
readers = (refl, refl, refl)

-- a reader that waits while bytes are held: what is written goes behind them, and it is woken to read
held_first : write_decision 1 4 1 2 true ≡ accept (record { actual = 2; used = 3 }) wakes []
held_first = refl

-- ---- flags come before who waits, and numbers that no pipe has before flags

flags-first : (write_decision 0 4 3 1 true ≡ refuse ecanceled) × (read_decision 0 4 3 1 true ≡ refuse ecanceled)
    × (write_decision 2 4 0 1 true ≡ refuse epipe) × (read_decision 0 4 0 1 true ≡ refuse epipe)
    × (read_decision 2 4 0 1 true ≡ accept (record { actual = 1; used = 1 }) wakes []) × (read_decision 0 4 1 1 true ≡ accept (record { actual = 0; used = 0 })
    pends []) × (write_decision 5 4 3 1 true ≡ refuse einval)
flags-first = (refl, refl, refl, refl, refl, refl, refl)

reset-woke : ((after (resets ∷ full)).writers ≡ []) × ((after (read 1 ∷ closes ∷ full)).books.got ≡ 1 ∷ [])
    × ((after (closes ∷ full)).books.called ≡ (1 ∷ 2 ∷ 3 ∷ 4 ∷ []) ∷ [])
unfolding turn wrap
reset-woke = (refl, refl, refl)
