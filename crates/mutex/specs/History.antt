-- What holds of a mutex after any sequence of calls.
use Rattle.std.specs.Prelude.{◌≡◌, Bool, true, false, cond, List, [], ◌∷◌, ℕ, suc, ◌-◌, ◌≤◌, ◌<◌, eqb, ℤ, pos, negsuc}
use Rattle.store.specs.Store.{answer}
use Rattle.wait_queue.specs.Queue.{holds}
use Rattle.kind.specs.Kind.{plain}
use Rattle.kind.specs.Object.{Object}
use Rattle.kind.specs.History.{Event, calls, asks, leaves, happens, run, Queued}
use Rattle.mutex.specs.Mutex.{Owner, nobody, thread, Mutex, Call, lock, try_lock, unlock, release, owns, max_count, free, mutex_kind}

-- a new mutex
abbrev pub fresh : Object Mutex
fresh = record { num = free; queue = [] }

-- after the events xs, the last in front
abbrev pub after : List (Event Call) → Object Mutex
after xs = run mutex_kind plain fresh xs

abbrev pub same : Owner → Owner → Bool
same nobody nobody = true
same nobody (thread j) = false
same (thread i) nobody = false
same (thread i) (thread j) = eqb i j

-- the answer is 0: a lock was granted, or a nested lock was given back
abbrev pub granted : ℤ → Bool
granted (pos n) = eqb n 0
granted (negsuc n) = false

-- the owner's locks minus its unlocks, after its call k with the answer r
abbrev pub counts : Call → ℤ → ℕ → ℕ
counts lock r d = cond (granted r) (suc d) d
counts try_lock r d = cond (granted r) (suc d) d
counts unlock r d = cond (granted r) (d - 1) d
counts release r d = d

-- after an event: a call of the owner counts, and no other
abbrev pub tally : Object Mutex → Event Call → ℕ → ℕ
tally s (calls i k) d = cond (owns i s.num.owner) (counts k (answer (happens mutex_kind plain s (calls i k))) d) d
tally s (asks i p st h k) d = cond (owns i s.num.owner) (counts k (answer (happens mutex_kind plain s (asks i p st h k))) d) d
tally s (leaves i) d = d

-- who becomes the owner has one lock
abbrev pub begins : Owner → ℕ
begins nobody = 0
begins (thread i) = 1

-- the owner's locks minus its unlocks since it became the owner
abbrev pub depth : List (Event Call) → ℕ
depth [] = 0
depth (x ∷ past) =
    cond (same (after past).num.owner (after (x ∷ past)).num.owner) (tally (after past) x (depth past)) (begins (after (x ∷ past)).num.owner)

pub record Promise (xs : List (Event Call)) : Type 0 where
  -- the count is the owner's locks minus its unlocks since it became the owner
  pub depth : (after xs).num.count ≡ depth xs
  -- an owner has at least one lock and at most 2^32 - 1, and a free mutex none
  pub locked : (i : ℕ) → (after xs).num.owner ≡ thread i → 0 < (after xs).num.count
  pub small : (after xs).num.count ≤ max_count
  pub empty : (after xs).num.owner ≡ nobody → (after xs).num.count ≡ 0
  -- nobody waits on a free mutex
  pub idle : (after xs).num.owner ≡ nobody → (after xs).queue ≡ []
  -- the owner is not in the queue
  pub apart : (i : ℕ) → (after xs).num.owner ≡ thread i → holds i (after xs).queue ≡ false
  pub queue : Queued mutex_kind plain fresh xs
