-- A run of a stack, computed. Assumes nothing.
use mathlib.Core.Path.{◌≡◌, refl}
use mathlib.Core.Bool.{true, false}
use mathlib.Core.List.{List, [], ◌∷◌}
use Prim.Native.Nat.{ℕ}
use native.Mathlib.Omega.{arith}
use lib.IntN.{ℤ, pos}
use Rattle.thread.specs.Code.{ok, enomem, ebusy, einval}
use Rattle.store.specs.Store.{accept, refuse, answer, out, reply, looks}
use Rattle.store.specs.History.{Step, after, Ran, ran, Made, begun, made}
use Rattle.store.specs.History as history
use Rattle.stack.specs.Stack.{Stack, wakes_waiter, waits, pops, push_decide, pop, used, free, full, empty, fresh, may}
use Rattle.stack.specs.Post.{place}
use Rattle.stack.specs.History.{Call, pushing, popping, does, next, count, Lies, pushed, stayed}
use Rattle.stack.specs.HandOver.{Waited, Event, put, get, happens, ends, all_calls, words_out}
use Rattle.stack.proofs.Memory.{is-sound}
use Rattle.stack.proofs.Answers as answers

-- room for two in a memory of three
abbrev new : Stack
new = fresh 2 (1 ∷ 2 ∷ 3 ∷ [])

pub new_is : (may 2 (1 ∷ 2 ∷ 3 ∷ []) ≡ true) × (new.spare ≡ 1 ∷ 2 ∷ []) × (may 0 (1 ∷ []) ≡ false) × (may 2 (1 ∷ []) ≡ false)
new_is = (refl, refl, refl, refl)

-- 5 and 6 are pushed, the last first; 7 finds no room
abbrev two : List Call
two = pushing 6 ∷ pushing 5 ∷ []

pub held_is : ((after next new two).held ≡ 6 ∷ 5 ∷ []) × (answer (does (pushing 7) (after next new two)) ≡ enomem) × (answer (pop new) ≡ ebusy)
held_is = (refl, refl, refl)

pub popped_is : (out (pop (after next new two)) ≡ 6 ∷ []) × (out (pop (after next new (popping ∷ two))) ≡ 5 ∷ [])
    × ((after next new (popping ∷ two)).spare ≡ 6 ∷ [])
popped_is = (refl, refl, refl)

-- as the callers see it: 5 and 6 are pushed, 7 finds no room; 6 comes out, then 5; then there is no word, and the place stays. The last stands first
abbrev saw : Call → ℤ → List ℕ → Step Call
saw k a o = record { call = k; answer = a; out = o }

abbrev pushes : List (Step Call)
pushes = saw (pushing 7) enomem [] ∷ saw (pushing 6) ok [] ∷ saw (pushing 5) ok [] ∷ []

abbrev steps : List (Step Call)
steps = saw popping ebusy (9 ∷ []) ∷ saw popping ok (5 ∷ []) ∷ saw popping ok (6 ∷ []) ∷ pushes

pub happened : Ran does new steps (after next new (popping ∷ popping ∷ two))
happened =
    ran {k = popping} (9 ∷ []) (9 ∷ [])
    (ran {k = popping} (0 ∷ []) (5 ∷ [])
    (ran {k = popping} (0 ∷ []) (6 ∷ [])
    (ran {k = pushing 7} [] [] (ran {k = pushing 6} [] [] (ran {k = pushing 5} [] [] history.fresh refl) refl) refl) refl) refl) refl

pub count-is : (count pushes ≡ 2) × (count steps ≡ 0)
count-is = (refl, refl)

-- 5 lies on no other, and does so while 6 comes and goes
pub five_lies : Lies 5 0 (saw popping ok (6 ∷ []) ∷ pushes)
five_lies =
    stayed {t = saw popping ok (6 ∷ [])} {ts = pushes}
    (stayed {t = saw (pushing 7) enomem []} {ts = saw (pushing 6) ok [] ∷ saw (pushing 5) ok [] ∷ []}
    (stayed {t = saw (pushing 6) ok []} {ts = saw (pushing 5) ok [] ∷ []} (pushed {ts = []} refl refl refl) (omega arith)) (omega arith)) (omega arith)

-- in memory, with a word more than it can hold
pub memory-is : (place.formed (2 ∷ 1 ∷ []) (5 ∷ 0 ∷ 9 ∷ []) ≡ true) × (looks place used (2 ∷ 1 ∷ []) (5 ∷ 0 ∷ 9 ∷ []) ≡ pos 1)
    × (looks place free (2 ∷ 1 ∷ []) (5 ∷ 0 ∷ 9 ∷ []) ≡ pos 1) × (looks place full (2 ∷ 1 ∷ []) (5 ∷ 0 ∷ 9 ∷ []) ≡ pos 0)
    × (looks place empty (2 ∷ 0 ∷ []) (5 ∷ 0 ∷ 9 ∷ []) ≡ pos 1) × (out (reply place pop (2 ∷ 1 ∷ []) (5 ∷ 0 ∷ 9 ∷ [])) ≡ 5 ∷ [])
memory-is = (refl, refl, refl, refl, refl, refl)

-- malformed: no room, more words than it can hold, too little memory, too short a header
pub malformed_is : (looks place used (0 ∷ 0 ∷ []) (5 ∷ []) ≡ einval) × (looks place used (1 ∷ 2 ∷ []) (5 ∷ 6 ∷ []) ≡ einval)
    × (looks place used (2 ∷ 1 ∷ []) (5 ∷ []) ≡ einval) × (looks place used (2 ∷ []) (5 ∷ 6 ∷ []) ≡ einval)
malformed_is = (refl, refl, refl, refl)

pub made_one : Made place does (2 ∷ 1 ∷ []) (5 ∷ 0 ∷ 9 ∷ []) (saw (pushing 6) ok [] ∷ []) (2 ∷ 2 ∷ []) (5 ∷ 6 ∷ 9 ∷ [])
made_one = made [] [] begun (answers.pushed (2 ∷ 1 ∷ []) (5 ∷ 0 ∷ 9 ∷ []) (is-sound (2 ∷ 1 ∷ []) (5 ∷ 0 ∷ 9 ∷ []) refl) 6 (omega arith)) refl

-- on plain numbers
pub decided-is : (push_decide 0 2 true ≡ accept 0 wakes_waiter []) × (push_decide 1 2 false ≡ accept 2 ok []) × (push_decide 2 2 false ≡ refuse enomem)
    × (push_decide 1 2 true ≡ refuse einval) × (push_decide 3 2 false ≡ refuse einval) × (push_decide 0 0 false ≡ refuse einval)
    × (pops 2 true ≡ accept 1 ok []) × (pops 0 true ≡ refuse ebusy) × (pops 0 false ≡ accept 0 waits [])
decided-is = (refl, refl, refl, refl, refl, refl, refl, refl, refl)

-- two wait; 8 and 9 are handed over, 4 is stored; the last first
abbrev run : List Event
run = put 4 ∷ put 9 ∷ put 8 ∷ get false ∷ get false ∷ []

abbrev nobody : Waited
nobody = record { stack = new; waiting = 0 }

pub run_is : ((ends nobody run).stack.held ≡ 4 ∷ []) × ((ends nobody run).waiting ≡ 0) × (words_out happens nobody run ≡ 9 ∷ 8 ∷ [])
    × (all_calls nobody run ≡ pushing 4 ∷ popping ∷ pushing 9 ∷ popping ∷ pushing 8 ∷ [])
run_is = (refl, refl, refl, refl)
