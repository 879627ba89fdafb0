-- A run of a futex, computed. Assumes nothing.
use mathlib.Core.Path.{◌≡◌, refl}
use mathlib.Core.List.{List, [], ◌∷◌, map}
use Prim.Native.Nat.{ℕ, ◌<◌}
use native.Mathlib.Omega.{arith}
use lib.IntN.{pos}
use Rattle.thread.specs.Code.{ok, eagain}
use Rattle.thread.specs.Thread.{running}
use Rattle.store.specs.Store.{refuse, answer, out}
use Rattle.wait_queue.specs.Queue.{max_waiters, entry, ident, woken}
use Rattle.kind.specs.Kind.{plain}
use Rattle.kind.specs.History.{Event, calls, asks, happens}
use Rattle.futex.specs.Futex.{Call, wait, wake_one, wake_all, set, futex_kind}
use Rattle.futex.specs.History.{after, last}

abbrev waiting : (i : ℕ) → i < 4294967296 → ℕ → ℕ → Event Call
waiting i h p x = asks i p running h (wait x)

-- the last event stands first: 7, 3 and 9 expect 0, and wait; the value becomes 1, and 4, which expects 0, is to try again
abbrev run : List (Event Call)
run = calls 1 (set 1) ∷ waiting 9 (omega arith) 5 0 ∷ waiting 3 (omega arith) 2 0 ∷ waiting 7 (omega arith) 5 0 ∷ []

pub queue-is : (map ident (after 0 run).queue ≡ 3 ∷ 7 ∷ 9 ∷ []) × ((after 0 run).num.val ≡ 1) × (last run 0 ≡ 1)
unfolding max_waiters
queue-is = (refl, refl, refl)

pub again : happens futex_kind plain (after 0 run) (waiting 4 (omega arith) 0 0) ≡ refuse eagain
unfolding max_waiters
again = refl

-- one is woken, then all
pub woken-one : (out (happens futex_kind plain (after 0 run) (calls 1 wake_one)) ≡ woken ok (entry 2 3) ∷ [])
    × (answer (happens futex_kind plain (after 0 run) (calls 1 wake_one)) ≡ pos 1)
unfolding max_waiters
woken-one = (refl, refl)

pub woken-all : (out (happens futex_kind plain (after 0 run) (calls 1 wake_all)) ≡ woken ok (entry 2 3) ∷ woken ok (entry 5 7) ∷ woken ok (entry 5 9) ∷ [])
    × (answer (happens futex_kind plain (after 0 run) (calls 1 wake_all)) ≡ pos 3)
unfolding max_waiters
woken-all = (refl, refl)
