-- A run of a mutex, computed: the thread 1 locks it twice, 2 (priority 9), 3 and 4 (both of priority 2) wait, and it is unlocked. The last
-- event is in front. Assumes nothing.
use mathlib.Core.Path.{◌≡◌, refl}
use mathlib.Core.List.{List, [], ◌∷◌, map}
use Prim.Native.Nat.{ℕ, ◌<◌}
use native.Mathlib.Omega.{arith}
use Rattle.thread.specs.Code.{ok, eperm, einval, eoverflow}
use Rattle.thread.specs.Thread.{running}
use Rattle.store.specs.Store.{answer, out}
use Rattle.wait_queue.specs.Queue.{max_waiters, entry, ident, woken}
use Rattle.kind.specs.Kind.{plain}
use Rattle.kind.specs.History.{Event, calls, asks, happens}
use Rattle.mutex.specs.Mutex.{Call, lock, try_lock, unlock, thread, max_count, released, taken, mutex_kind}
use Rattle.mutex.specs.Post.{try_lock_out}
use Rattle.mutex.specs.History.{fresh, after, depth}
use Rattle.mutex.proofs.Law.{mk}
use Rattle.mutex.proofs.Moves.{whole}

abbrev locking : (i : ℕ) → i < 4294967296 → ℕ → Event Call
locking i h p = asks i p running h lock

abbrev start : List (Event Call)
start = locking 4 (omega arith) 2 ∷ locking 3 (omega arith) 2 ∷ locking 2 (omega arith) 9 ∷ calls 1 try_lock ∷ calls 1 try_lock ∷ []

abbrev once : List (Event Call)
once = calls 1 unlock ∷ start

abbrev twice : List (Event Call)
twice = calls 1 unlock ∷ once

-- the owner has two locks; 3 and 4 stand before 2, in the order in which they came
pub held : ((after start).num ≡ mk (thread 1) 2) × (map ident (after start).queue ≡ 3 ∷ 4 ∷ 2 ∷ [])
unfolding max_waiters
held = (refl, refl)

-- the first unlock keeps it; the second hands it to 3, which is woken with 0
pub unlocked-once : (answer (happens mutex_kind plain (after start) (calls 1 unlock)) ≡ released) × ((after once).num ≡ mk (thread 1) 1)
unfolding max_waiters
unlocked-once = (refl, refl)

pub handed : (out (happens mutex_kind plain (after once) (calls 1 unlock)) ≡ woken ok (entry 2 3) ∷ [])
    × ((after twice).num ≡ taken 3) × (map ident (after twice).queue ≡ 4 ∷ 2 ∷ [])
unfolding max_waiters
handed = (refl, refl, refl)

-- locks minus unlocks since it became the owner, of 1 and then of 3
pub depths : (depth start ≡ 2) × (depth twice ≡ 1)
unfolding max_waiters
depths = (refl, refl)

-- 1 owns it no more
pub not-owner : answer (happens mutex_kind plain (after twice) (calls 1 unlock)) ≡ eperm
unfolding max_waiters
not-owner = refl

-- nobody's cannot be unlocked, and an owner cannot lock it more than 2^32 - 1 times
pub refusals : (answer (happens mutex_kind plain fresh (calls 1 unlock)) ≡ einval)
    × (answer (try_lock_out 1 (whole (thread 1) max_count [])) ≡ eoverflow)
refusals = (refl, refl)
