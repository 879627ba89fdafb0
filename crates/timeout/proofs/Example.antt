-- Runs of a timeout, computed. Assumes nothing.
use mathlib.Core.Path.{◌≡◌, refl}
use mathlib.Core.Bool.{true, false}
use mathlib.Core.List.{List, [], ◌∷◌}
use Prim.Native.Nat.{ℕ}
use lib.IntN.{ℤ, pos}
use lib.ListN.{length, drop}
use Rattle.thread.specs.Code.{ok, ebusy, einval}
use Rattle.store.specs.Store.{Becomes, Reply, accept, refuse, out, reply, looks}
use Rattle.store.specs.History.{Step, Made, begun, made}
use Rattle.timeout.specs.Timeout.{Timeout, timeout, never, right, add_decide, announce_decide, abort_decide, fresh, may}
use Rattle.timeout.specs.Timeout.{add, add_absolute, add_forever, add_no_wait, abort, announce}
use Rattle.timeout.specs.Timeout.{remaining, expires, clock_now, timepoint_calc, timepoint_timeout, whether_active, whether_forever, whether_no_wait}
use Rattle.timeout.specs.Post.{place}
use Rattle.timeout.specs.History.{Call, adding, adding_forever, aborting, announcing, does, ticked, idle, due, plan, touches, firings, reached}

-- a new one with the clock at 10 gets the deadline 15; one with a deadline is busy
abbrev new : Timeout
new = fresh 10

pub added_is : (add 5 new ≡ accept (timeout 15 1 10) ok (15 ∷ [])) × (add 5 (timeout 15 1 10) ≡ refuse ebusy) × (add 18446744073709551605 new ≡ refuse einval)
    × (add 18446744073709551604 new ≡ accept (timeout 18446744073709551614 1 10) ok (18446744073709551614 ∷ [])) × (may 18446744073709551615 ≡ false)
added_is = (refl, refl, refl, refl, refl)

pub absolute-is : (add_absolute 10 new ≡ accept (timeout 10 1 10) ok []) × (add_absolute 9 new ≡ refuse einval) × (add_absolute never new ≡ refuse einval)
    × (add_forever new ≡ accept (timeout never 1 10) ok []) × (add_no_wait new ≡ accept (timeout 0 1 10) ok [])
absolute-is = (refl, refl, refl, refl, refl)

-- one tick too few, the very tick, never, at once, and the clock at its end
pub announced-is : (announce 4 (timeout 15 1 10) ≡ accept (timeout 15 1 14) ok []) × (announce 5 (timeout 15 1 10) ≡ accept (timeout 15 0 15) (pos 1) [])
    × (announce 18446744073709551604 (timeout never 1 10) ≡ accept (timeout never 1 18446744073709551614) ok [])
    × (announce 0 (timeout 0 1 10) ≡ accept (timeout 0 0 10) (pos 1) []) × (announce 18446744073709551605 (timeout 15 1 10) ≡ refuse einval)
announced-is = (refl, refl, refl, refl, refl)

pub aborted-is : (abort (timeout 15 1 10) ≡ accept (timeout 15 0 10) ok []) × (abort (timeout 15 0 10) ≡ refuse einval) × (abort_decide true ≡ true)
aborted-is = (refl, refl, refl)

-- what is told, of a deadline, whether it is active, and a clock
abbrev told_of : (Timeout → Reply Timeout) → (d a c : ℕ) → List ℕ
told_of f d a c = out (reply place f (d ∷ a ∷ c ∷ []) [])

pub told_is : (told_of remaining 15 1 10 ≡ 5 ∷ []) × (told_of remaining 15 0 10 ≡ 0 ∷ []) × (told_of remaining 0 1 10 ≡ 0 ∷ [])
    × (told_of remaining never 1 10 ≡ never ∷ []) × (told_of expires 15 1 10 ≡ 15 ∷ []) × (told_of expires 15 0 10 ≡ 10 ∷ [])
    × (told_of clock_now 15 1 10 ≡ 10 ∷ []) × (told_of (timepoint_calc 5) 0 0 10 ≡ 15 ∷ []) × (told_of (timepoint_timeout 15) 0 0 10 ≡ 5 ∷ [])
    × (told_of (timepoint_timeout 9) 0 0 10 ≡ 0 ∷ []) × (looks place whether_active (15 ∷ 7 ∷ 10 ∷ []) [] ≡ pos 1)
    × (looks place whether_forever (never ∷ 0 ∷ 10 ∷ []) [] ≡ pos 1) × (looks place whether_no_wait (0 ∷ 0 ∷ 10 ∷ []) [] ≡ pos 1)
told_is = (refl, refl, refl, refl, refl, refl, refl, refl, refl, refl, refl, refl, refl)

-- malformed: the clock at never, an active deadline behind the clock, too short a header
pub malformed_is : (reply place clock_now (0 ∷ 0 ∷ never ∷ []) [] ≡ refuse einval) × (reply place clock_now (9 ∷ 1 ∷ 10 ∷ []) [] ≡ refuse einval)
    × (reply place clock_now (0 ∷ 0 ∷ []) [] ≡ refuse einval) × (reply place clock_now (9 ∷ 0 ∷ 10 ∷ []) [] ≡ accept (timeout 9 0 10) ok (10 ∷ []))
    × (right true 9 10 ≡ false)
malformed_is = (refl, refl, refl, refl, refl)

pub decided-is : (add_decide 10 5 ≡ accept 15 ok (15 ∷ [])) × (add_decide never 0 ≡ refuse einval) × (announce_decide true 15 10 5 ≡ accept 15 (pos 1) [])
    × (announce_decide false 15 10 5 ≡ accept 15 ok []) × (announce_decide true 9 10 0 ≡ refuse einval)
decided-is = (refl, refl, refl, refl, refl)

-- it is added for 5 ticks, does not fire after 3, fires after 2 more, and not again; the last in front
abbrev told : Call → ℤ → Step Call
told k r = record { call = k; answer = r; out = [] }

abbrev since : List (Step Call)
since = told (announcing 1) ok ∷ told (announcing 2) (pos 1) ∷ told (announcing 3) ok ∷ []

pub run_is : (ticked since ≡ 6) × (firings since ≡ 1) × (reached 15 10 since ≡ true) × (reached 15 10 (told (announcing 3) ok ∷ []) ≡ false)
    × (plan 10 (told (announcing 3) ok ∷ told (adding 5) ok ∷ []) ≡ due 15) × (plan 10 (told (announcing 2) (pos 1) ∷ told (adding 5) ok ∷ []) ≡ idle)
    × (plan 10 (told aborting ok ∷ told (adding 5) ok ∷ []) ≡ idle) × (plan 10 (told (adding 7) ebusy ∷ told adding_forever ok ∷ []) ≡ due never)
    × (touches (told (adding 7) ebusy) ≡ false) × (touches (told (adding 5) ok) ≡ true)
run_is = (refl, refl, refl, refl, refl, refl, refl, refl, refl, refl)

-- words that were written
became : {h h' : List ℕ} → place.formed h' [] ≡ true → drop 3 h' ≡ drop 3 h → length h' ≡ length h → Becomes place (place.object h' []) h [] h' []
became f b l = record { formed = f; object = refl; beside = b; rest = refl; long = (l, refl) }

-- in memory, with a word beside it
pub run-made : Made place does (0 ∷ 0 ∷ 10 ∷ 9 ∷ []) []
    (told (announcing 5) (pos 1) ∷ record { call = adding 5; answer = ok; out = 15 ∷ [] } ∷ []) (15 ∷ 0 ∷ 15 ∷ 9 ∷ []) []
run-made =
    made {h = 15 ∷ 1 ∷ 10 ∷ 9 ∷ []} {h' = 15 ∷ 0 ∷ 15 ∷ 9 ∷ []} [] []
    (made {h = 0 ∷ 0 ∷ 10 ∷ 9 ∷ []} {h' = 15 ∷ 1 ∷ 10 ∷ 9 ∷ []} (0 ∷ []) (15 ∷ []) begun (record { code = refl; after = became refl refl refl }) refl)
    (record { code = refl; after = became refl refl refl }) refl
