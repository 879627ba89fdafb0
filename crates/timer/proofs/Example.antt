-- A run of a timer, computed. Assumes nothing.
use mathlib.Core.Path.{◌≡◌, refl}
use mathlib.Core.List.{List, [], ◌∷◌}
use mathlib.Core.Bool.{true}
use Prim.Native.Nat.{ℕ}
use lib.IntN.{ℤ, pos}
use lib.ListN.{length, drop}
use Rattle.thread.specs.Code.{ok, einval, eoverflow}
use Rattle.store.specs.Store.{Becomes, accept, refuse, looks}
use Rattle.store.specs.History.{Step, Made, begun, made}
use Rattle.timer.specs.Timer.{timer, expire_decide, expire, count, ticks, runs}
use Rattle.timer.specs.Post.{place}
use Rattle.timer.specs.History.{Call, starting, stopping, expiring, reading, does, since, ran, expiries, reads}

-- it expires twice, is read, expires again; the last in front
abbrev told : Call → ℤ → Step Call
told k r = record { call = k; answer = r; out = [] }

abbrev run : List (Step Call)
run = told expiring (pos 1) ∷ told reading (pos 2) ∷ told expiring (pos 2) ∷ told expiring (pos 1) ∷ []

pub run_is : (since 0 run ≡ 1) × (ran 1 run ≡ 1) × (expiries run ≡ 3) × (reads run ≡ 2)
run_is = (refl, refl, refl, refl)

-- a start and a stop clear the count; an expiry that is refused does not count
pub cleared-is : (since 0 (told starting ok ∷ run) ≡ 0) × (since 0 (told stopping ok ∷ run) ≡ 0) × (since 7 (told expiring eoverflow ∷ []) ≡ 7)
    × (ran 0 (told expiring (pos 1) ∷ told starting ok ∷ []) ≡ 1) × (ran 1 (told stopping ok ∷ []) ≡ 0)
cleared-is = (refl, refl, refl, refl, refl)

-- words that were written
became : {h h' : List ℕ} → place.formed h' [] ≡ true → drop 3 h' ≡ drop 3 h → length h' ≡ length h → Becomes place (place.object h' []) h [] h' []
became f b l = record { formed = f; object = refl; beside = b; rest = refl; long = (l, refl) }

-- in memory: a timer that does not run, of period 5, with a word beside it, expires and is read
pub run-made : Made place does (0 ∷ 5 ∷ 0 ∷ 9 ∷ []) [] (told reading (pos 1) ∷ told expiring (pos 1) ∷ []) (0 ∷ 5 ∷ 0 ∷ 9 ∷ []) []
run-made =
    made {h = 1 ∷ 5 ∷ 0 ∷ 9 ∷ []} {h' = 0 ∷ 5 ∷ 0 ∷ 9 ∷ []} [] []
    (made {h = 0 ∷ 5 ∷ 0 ∷ 9 ∷ []} {h' = 1 ∷ 5 ∷ 0 ∷ 9 ∷ []} [] [] begun (record { code = refl; after = became refl refl refl }) refl)
    (record { code = refl; after = became refl refl refl }) refl

pub started_is : Made place does (3 ∷ 5 ∷ 0 ∷ []) [] (told stopping ok ∷ told starting ok ∷ []) (0 ∷ 5 ∷ 0 ∷ []) []
started_is =
    made {h = 0 ∷ 5 ∷ 1 ∷ []} {h' = 0 ∷ 5 ∷ 0 ∷ []} [] []
    (made {h = 3 ∷ 5 ∷ 0 ∷ []} {h' = 0 ∷ 5 ∷ 1 ∷ []} [] [] begun (record { code = refl; after = became refl refl refl }) refl)
    (record { code = refl; after = became refl refl refl }) refl

-- at 2^32 - 1 an expiry is refused, and it is not asked whether the timer runs
pub expire-is : (expire (timer 4294967295 5 1) ≡ refuse eoverflow) × (expire (timer 4294967294 5 0) ≡ accept (timer 4294967295 5 0) (pos 4294967295) [])
expire-is = (refl, refl)

pub decided-is : (expire_decide 4294967295 5 ≡ refuse eoverflow) × (expire_decide 0 5 ≡ accept 1 (pos 1) []) × (expire_decide 0 0 ≡ accept 1 (pos 0) [])
decided-is = (refl, refl, refl)

pub seen-is : (looks place count (4 ∷ 5 ∷ 6 ∷ []) [] ≡ pos 4) × (looks place ticks (4 ∷ 5 ∷ 6 ∷ []) [] ≡ pos 5) × (looks place runs (4 ∷ 5 ∷ 6 ∷ []) [] ≡ pos 1)
    × (looks place runs (4 ∷ 5 ∷ 0 ∷ []) [] ≡ pos 0) × (looks place count (4 ∷ 5 ∷ []) [] ≡ einval)
seen-is = (refl, refl, refl, refl, refl)
