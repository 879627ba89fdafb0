-- Flags that are posted, set, masked and cleared, computed. Assumes nothing.
use mathlib.Core.Path.{◌≡◌, refl}
use mathlib.Core.Bool.{true, false}
use mathlib.Core.List.{List, [], ◌∷◌}
use Prim.Native.Nat.{ℕ}
use native.Mathlib.Omega.{arith}
use lib.IntN.{pos}
use Rattle.seq.specs.Bits.{bit, bits, any_of, all_of, Somewhere}
use Rattle.thread.specs.Code.{ebusy, einval}
use Rattle.store.specs.Store.{refuse, accept, Becomes, looks}
use Rattle.store.specs.History.{Step, Made, begun, made}
use Rattle.event.specs.Event.{width, post, set, set_masked, clear, any_there, all_there, told, matching, wait_any, wait_all, matched, pends, waits}
use Rattle.event.specs.Post.{place}
use Rattle.event.specs.History.{Call, posting, setting, setting_masked, clearing, does, silent, there, says, last_said}

-- the bits of 5, and the highest flag
pub bits_are : (bit 0 5 ≡ true) × (bit 1 5 ≡ false) × (bit 2 5 ≡ true) × (bit 31 2147483648 ≡ true) × (bit 30 2147483648 ≡ false)
unfolding bit
bits_are = (refl, refl, refl, refl, refl)

pub calls_are : (post 6 1 ≡ accept 7 (pos 7) []) × (post 2147483648 1 ≡ accept 2147483649 (pos 2147483649) []) × (set 6 1 ≡ accept 6 (pos 1) [])
    × (set_masked 10 3 5 ≡ accept 6 (pos 5) []) × (clear 6 7 ≡ accept 1 (pos 1) []) × (clear 6 1 ≡ accept 1 (pos 1) [])
unfolding bit bits
calls_are = (refl, refl, refl, refl, refl, refl)

-- of the flags 6, one is in 4, and all are in 7
pub conditions_are : (any_there 6 4 ≡ true) × (all_there 6 4 ≡ false) × (any_there 6 1 ≡ false) × (all_there 6 7 ≡ true) × (matching 6 5 ≡ 4)
unfolding bit bits any_of all_of
conditions_are = (refl, refl, refl, refl, refl)

pub shared : Somewhere width (λ i. bit i 6)
unfolding bit
shared = record { at = 1; below = omega arith; holds = refl }

pub waits_are : (waits 5 6 wait_any true ≡ accept 4 matched []) × (waits 5 6 wait_all true ≡ refuse ebusy) × (waits 5 6 wait_all false ≡ accept 0 pends [])
    × (waits 7 6 wait_all false ≡ accept 6 matched []) × (waits 7 6 2 false ≡ refuse einval)
unfolding bit bits any_of all_of
waits_are = (refl, refl, refl, refl, refl)

-- what is said of flag 1, and what was said last: it is posted, set away, and put back by a mask
pub said_is : (says (posting 2) 1 ≡ there true) × (says (posting 4) 1 ≡ silent) × (says (setting 4) 1 ≡ there false) × (says (clearing 2) 1 ≡ there false)
unfolding bit
said_is = (refl, refl, refl, refl)

abbrev step : Call → ℕ → Step Call
step k r = record { call = k; answer = pos r; out = [] }

abbrev steps : List (Step Call)
steps = step (setting_masked 3 2) 4 ∷ step (setting 4) 2 ∷ step (posting 2) 2 ∷ []

abbrev one : (e f : ℕ) → Becomes place f (e ∷ []) [] (f ∷ []) []
one e f = record { formed = refl; object = refl; beside = refl; rest = refl; long = (refl, refl) }

pub run : Made place does (0 ∷ []) [] steps (6 ∷ []) []
unfolding bit bits
run =
    made {h = 4 ∷ []} {h' = 6 ∷ []} [] []
    (made {h = 2 ∷ []} {h' = 4 ∷ []} [] []
    (made {h = 0 ∷ []} {h' = 2 ∷ []} [] [] begun (record { code = refl; after = one 0 2 }) refl)
    (record { code = refl; after = one 2 4 }) refl)
    (record { code = refl; after = one 4 6 }) refl

pub last-is : (last_said false 0 steps ≡ false) × (last_said false 1 steps ≡ true) × (last_said false 2 steps ≡ true) × (bit 1 6 ≡ true)
unfolding bit
last-is = (refl, refl, refl, refl)

-- a header with no word
pub malformed_is : (looks place (λ e. pos e) [] [] ≡ einval) × (looks place (λ e. told (any_there 1 e)) (1 ∷ []) [] ≡ pos 1)
unfolding bit any_of
malformed_is = (refl, refl)
