-- What holds of a timer after any sequence of calls: what the count is, told from the calls and their answers alone.
use Rattle.std.specs.Prelude.{◌≡◌, Bool, true, false, cond, List, [], ℕ, suc, ◌+◌, ◌≤◌, ℤ, pos, length, get_or}
use Rattle.std.specs.Int.Signed.{mag}
use Rattle.seq.specs.List.{All}
use Rattle.store.specs.Store.{Reply, answer, left}
use Rattle.store.specs.History.{Step, refusal, after, Made}
use Rattle.timer.specs.Timer.{Timer, timer, most, start, stop, expire, status_get}
use Rattle.timer.specs.Post.{GetsStatus, place}

-- the calls that change a timer
pub data Call : Type 0 where
  starting : Call
  stopping : Call
  expiring : Call
  reading : Call

abbrev pub does : Call → Timer → Reply Timer
does starting = start
does stopping = stop
does expiring = expire
does reading = status_get

-- what a call that is not refused makes of a count
abbrev pub counted : Call → ℕ → ℕ
counted starting n = 0
counted stopping n = 0
counted expiring n = suc n
counted reading n = 0

-- what the calls that were not refused make of a number, each by f
abbrev pub tallied : (Call → ℕ → ℕ) → ℕ → List (Step Call) → ℕ
tallied f n es = after (λ (m : ℕ) (e : Step Call). cond (refusal e.answer) m (f e.call m)) n es

-- the expiries that were not refused, since the last start, stop or read; it was n before the steps
abbrev pub since : ℕ → List (Step Call) → ℕ
since n es = tallied counted n es

-- whether it runs, by the last start or stop
abbrev pub switched : Call → ℕ → ℕ
switched starting x = 1
switched stopping x = 0
switched expiring x = x
switched reading x = x

abbrev pub ran : ℕ → List (Step Call) → ℕ
ran x es = after (λ (y : ℕ) (e : Step Call). switched e.call y) x es

-- t was the timer before the steps es, u is the timer after them
pub record Promise (t : Timer) (es : List (Step Call)) (u : Timer) : Type 0 where
  pub status : u.status ≡ since t.status es
  -- only a start and a stop change whether it runs; nothing changes the period
  pub running : u.running ≡ ran t.running es
  pub period : u.period ≡ t.period

-- any steps, in memory
abbrev pub Always : Type 0
Always = (h h' : List ℕ) (es : List (Step Call)) → 3 ≤ length h → Made place does h [] es h' [] → Promise (place.object h []) es (place.object h' [])

-- n expiries of a timer whose count is 0, as after an init, a start, a stop and a read; then it is read: n, and the count is 0 again
abbrev pub Tally : Type 0
Tally =
    (h h' h'' : List ℕ) (es : List (Step Call)) (r : ℤ) → 3 ≤ length h → get_or h 0 0 ≡ 0 → Made place does h [] es h' [] → All (λ e. e.call ≡ expiring) es
    → length es ≤ most → GetsStatus h' r h'' → (r ≡ pos (length es)) × (get_or h'' 0 0 ≡ 0)

-- how many expiries were not refused, and the sum of what the reads were answered
abbrev pub added : Call → ℕ → ℕ
added starting n = n
added stopping n = n
added expiring n = suc n
added reading n = n

abbrev pub expiries : List (Step Call) → ℕ
expiries es = tallied added 0 es

abbrev pub taken : Call → ℤ → ℕ
taken starting r = 0
taken stopping r = 0
taken expiring r = 0
taken reading r = mag r

abbrev pub reads : List (Step Call) → ℕ
reads es = after (λ (n : ℕ) (e : Step Call). taken e.call e.answer + n) 0 es

-- a start or a stop
abbrev pub clears : Call → Bool
clears starting = true
clears stopping = true
clears expiring = false
clears reading = false

-- between starts and stops no expiry is lost, and none is told twice
abbrev pub NoneLost : Type 0
NoneLost =
    (h h' : List ℕ) (es : List (Step Call)) → 3 ≤ length h → Made place does h [] es h' [] → All (λ e. clears e.call ≡ false) es
    → reads es + get_or h' 0 0 ≡ get_or h 0 0 + expiries es

-- what an expiry answers and makes of the count depends on the count alone
abbrev pub Alike : Reply Timer → Reply Timer → Timer → Timer → Type 0
Alike y z t u = (answer y ≡ answer z) × ((left y t).status ≡ (left z u).status)

abbrev pub CountOnly : Type 0
CountOnly = (n p q x y : ℕ) → Alike (expire (timer n p x)) (expire (timer n q y)) (timer n p x) (timer n q y)
