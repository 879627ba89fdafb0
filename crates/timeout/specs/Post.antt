-- The timeout in memory: h = its deadline, whether it is active, its clock. There is no buffer. What each function does.
use Rattle.std.specs.Prelude.{◌≡◌, Bool, true, false, cond, List, [], ℕ, ◌+◌, ◌<◌, ◌≤◌, ltb, leb, ℤ, length, get_or, slice_set, Result, MatchResult, ◌⊎◌}
use Rattle.thread.specs.declared.Errno.{Errno}
use Rattle.thread.specs.declared.Errno.TheVariants.{EBUSY, EINVAL}
use Rattle.timeout.specs.declared.Timeout as declared
use Rattle.store.specs.Store.{Decided, Place, Did, looks, Hands, Started}
use Rattle.timeout.specs.Timeout.{Timeout, timeout, never, right, add_decide, announce_decide, abort_decide, add, add_absolute, add_forever, add_no_wait, abort, announce, remaining, expires, clock_now, timepoint_calc, timepoint_timeout, whether_active, whether_forever, whether_no_wait, fresh, may}

abbrev pub place : Place Timeout
place =
    record {
      words = 3;
      size = λ h. 0;
      object = λ h b. timeout (get_or h 0 0) (get_or h 1 0) (get_or h 2 0);
      formed = λ h b. cond (leb 3 (length h)) (right (ltb 0 (get_or h 1 0)) (get_or h 0 0) (get_or h 2 0)) false;
    }

-- ---- what each function does

-- a new timeout with this clock; it is not active
abbrev pub Starts : ℕ → List ℕ → ℤ → List ℕ → Type 0
Starts clock h r h' = Started place (may clock) (fresh clock) h [] r h' []

-- it is active, with a deadline so many ticks from now, which is told to the word n
abbrev pub Adds : ℕ → List ℕ → ℕ → ℤ → List ℕ → ℕ → Type 0
Adds duration h n r h' n' = Hands place (add duration) h [] n r h' n'

-- with this deadline
abbrev pub AddsAbsolute : ℕ → List ℕ → ℤ → List ℕ → Type 0
AddsAbsolute deadline h r h' = Did place (add_absolute deadline) h [] r h' []

-- with none
abbrev pub AddsForever : List ℕ → ℤ → List ℕ → Type 0
AddsForever h r h' = Did place add_forever h [] r h' []

-- with one that has passed
abbrev pub AddsNoWait : List ℕ → ℤ → List ℕ → Type 0
AddsNoWait h r h' = Did place add_no_wait h [] r h' []

-- it is not active any more
abbrev pub Aborts : List ℕ → ℤ → List ℕ → Type 0
Aborts h r h' = Did place abort h [] r h' []

-- so many ticks passed, and whether its deadline did
abbrev pub Announces : ℕ → List ℕ → ℤ → List ℕ → Type 0
Announces ticks h r h' = Did place (announce ticks) h [] r h' []

-- a number of a timeout, told to the word n
abbrev pub GetsRemaining : List ℕ → ℕ → ℤ → ℕ → Type 0
GetsRemaining h n r n' = Hands place remaining h [] n r h n'

abbrev pub GetsExpiry : List ℕ → ℕ → ℤ → ℕ → Type 0
GetsExpiry h n r n' = Hands place expires h [] n r h n'

abbrev pub GetsNow : List ℕ → ℕ → ℤ → ℕ → Type 0
GetsNow h n r n' = Hands place clock_now h [] n r h n'

-- the deadline of a duration, and the ticks that are left until it
abbrev pub CalcsTimepoint : ℕ → List ℕ → ℕ → ℤ → ℕ → Type 0
CalcsTimepoint duration h n r n' = Hands place (timepoint_calc duration) h [] n r h n'

abbrev pub GetsTimepointTimeout : ℕ → List ℕ → ℕ → ℤ → ℕ → Type 0
GetsTimepointTimeout timepoint h n r n' = Hands place (timepoint_timeout timepoint) h [] n r h n'

abbrev pub SaysActive : List ℕ → ℤ → Type 0
SaysActive h r = r ≡ looks place whether_active h []

abbrev pub SaysForever : List ℕ → ℤ → Type 0
SaysForever h r = r ≡ looks place whether_forever h []

abbrev pub SaysNoWait : List ℕ → ℤ → Type 0
SaysNoWait h r = r ≡ looks place whether_no_wait h []

-- ---- what the functions inside do

-- what a header says that is as it should be
abbrev pub Reads : List ℕ → Result declared.Timeout Errno → Type 0
Reads h r =
    MatchResult r
    (λ t. (3 ≤ length h) × (place.formed h [] ≡ true) × (t.deadline ≡ get_or h 0 0) × (t.active ≡ ltb 0 (get_or h 1 0)) × (t.clock ≡ get_or h 2 0))
    (λ e. (e ≡ EINVAL) × (place.formed h [] ≡ false))

-- why a deadline is not taken: the header is malformed, or it has one
abbrev pub Taken : List ℕ → Errno → Type 0
Taken h e = ((e ≡ EINVAL) × (place.formed h [] ≡ false)) ⊎ ((e ≡ EBUSY) × (place.formed h [] ≡ true) × (ltb 0 (get_or h 1 0) ≡ true))

-- the clock of one that is not active
abbrev pub Idle : List ℕ → Result ℕ Errno → Type 0
Idle h r =
    MatchResult r (λ c. (3 ≤ length h) × (place.formed h [] ≡ true) × (ltb 0 (get_or h 1 0) ≡ false) × (c ≡ get_or h 2 0)) (Taken h)

-- it is active, with this deadline
abbrev pub Arms : ℕ → List ℕ → Result Unit Errno → List ℕ → Type 0
Arms deadline h r h' =
    MatchResult r
    (λ t. (3 ≤ length h) × (place.formed h [] ≡ true) × (ltb 0 (get_or h 1 0) ≡ false) × (h' ≡ slice_set (slice_set h 0 deadline) 1 1))
    (λ e. Taken h e × (h' ≡ h))

-- so many ticks after the clock, below never
abbrev pub Later : (clock ticks : ℕ) → Result ℕ Errno → Type 0
Later clock ticks r = MatchResult r (λ n. (n ≡ clock + ticks) × (clock + ticks < never)) (λ e. (e ≡ EINVAL) × (never ≤ clock + ticks))

-- ---- on plain numbers

abbrev pub AddDecided : ℕ → ℕ → ℕ → ℤ → ℕ → Type 0
AddDecided clock duration n r n' = Decided (add_decide clock duration) n r n'

abbrev pub AbortDecided : Bool → Bool → Type 0
AbortDecided active r = r ≡ abort_decide active

abbrev pub AnnounceDecided : ℕ → ℕ → ℕ → Bool → ℕ → ℤ → ℕ → Type 0
AnnounceDecided clock ticks deadline active n r n' = Decided (announce_decide active deadline clock ticks) n r n'
