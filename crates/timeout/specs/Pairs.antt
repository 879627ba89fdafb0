-- Two calls, one after the other, in memory: what the first does the second tells or undoes.
use Rattle.std.specs.Prelude.{◌≡◌, List, [], ℕ, ◌+◌, ◌<◌, ℤ, pos, get_or}
use Rattle.thread.specs.Code.{ok}
use Rattle.store.specs.Store.{Did, looks}
use Rattle.timeout.specs.Timeout.{never, add, whether_active}
use Rattle.timeout.specs.Post.{AddsNoWait, Aborts, Announces, GetsRemaining, CalcsTimepoint, GetsTimepointTimeout, place}

-- after an add the duration remains; m is the word for the answer, and m' is that word then
abbrev pub AddRemaining : Type 0
AddRemaining = (h h' : List ℕ) (n m m' : ℕ) (r : ℤ) → Did place (add n) h [] ok h' [] → GetsRemaining h' m r m' → (r ≡ ok) × (m' ≡ n)

-- a duration goes to a timepoint and back
abbrev pub CalcTimeout : Type 0
CalcTimeout =
    (h : List ℕ) (n m tp k k' : ℕ) (r : ℤ) → CalcsTimepoint n h m ok tp → GetsTimepointTimeout tp h k r k' → (r ≡ ok) × (k' ≡ n)

-- after an abort it is not active, and can be added again
abbrev pub AbortActive : Type 0
AbortActive = (h h' : List ℕ) → Aborts h ok h' → looks place whether_active h' [] ≡ pos 0

abbrev pub AbortAdd : Type 0
AbortAdd = (h h' h'' : List ℕ) (n : ℕ) (r : ℤ) → Aborts h ok h' → get_or h 2 0 + n < never → Did place (add n) h' [] r h'' [] → r ≡ ok

-- an announcement of the ticks that remain fires, and of fewer does not
abbrev pub RemainingFires : Type 0
RemainingFires =
    (h h' : List ℕ) (m m' n : ℕ) (r : ℤ) → 0 < get_or h 1 0 → get_or h 0 0 < never → GetsRemaining h m ok m' → Announces n h r h'
    → (n < m' → r ≡ ok) × (n ≡ m' → r ≡ pos 1)

-- after an add without waiting the next announcement fires, also of 0 ticks
abbrev pub NoWaitFires : Type 0
NoWaitFires =
    (h h' h'' : List ℕ) (n : ℕ) (r : ℤ) → AddsNoWait h ok h' → get_or h 2 0 + n < never → Announces n h' r h'' → r ≡ pos 1
