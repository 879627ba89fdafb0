-- What holds of a timeout after any sequence of calls: where the clock is, and which announcement fires, told from the calls and their answers alone.
use Rattle.std.specs.Prelude.{◌≡◌, Bool, true, false, cond, List, [], ◌∷◌, ℕ, suc, ◌+◌, ◌≤◌, ◌<◌, eqb, pos, get_or}
use Rattle.std.specs.Int.Signed.{mag}
use Rattle.seq.specs.List.{All}
use Rattle.thread.specs.Code.{ok, ebusy, einval}
use Rattle.store.specs.Store.{Reply, refuse, answer}
use Rattle.store.specs.History.{Step, refusal, after, Made}
use Rattle.timeout.specs.Timeout.{Timeout, never, at_once, fires, arm, add, add_absolute, add_forever, add_no_wait, abort, announce}
use Rattle.timeout.specs.Post.{Starts, place}

-- the calls that change a timeout
pub data Call : Type 0 where
  adding : (duration : ℕ) → Call
  adding_absolute : (deadline : ℕ) → Call
  adding_forever : Call
  adding_no_wait : Call
  aborting : Call
  announcing : (ticks : ℕ) → Call

abbrev pub does : Call → Timeout → Reply Timeout
does (adding n) = add n
does (adding_absolute d) = add_absolute d
does adding_forever = add_forever
does adding_no_wait = add_no_wait
does aborting = abort
does (announcing n) = announce n

-- the ticks of a call
abbrev pub ticks_of : Call → ℕ
ticks_of (adding n) = 0
ticks_of (adding_absolute d) = 0
ticks_of adding_forever = 0
ticks_of adding_no_wait = 0
ticks_of aborting = 0
ticks_of (announcing n) = n

-- those that were announced and not refused
abbrev pub ticked : List (Step Call) → ℕ
ticked es = after (λ (n : ℕ) (e : Step Call). cond (refusal e.answer) n (n + ticks_of e.call)) 0 es

-- nothing is to fire; or something at a deadline
pub data Plan : Type 0 where
  idle : Plan
  due : ℕ → Plan

-- what a call that is answered a, and is no refusal, makes of the plan p, with the clock at c
abbrev pub planned : Call → (a c : ℕ) → Plan → Plan
planned (adding n) a c p = due (c + n)
planned (adding_absolute d) a c p = due d
planned adding_forever a c p = due never
planned adding_no_wait a c p = due at_once
planned aborting a c p = idle
planned (announcing n) a c p = cond (eqb a 1) idle p

-- after steps, before which the clock was at c and nothing was to fire
abbrev pub plan : (c : ℕ) → List (Step Call) → Plan
plan c [] = idle
plan c (e ∷ es) = cond (refusal e.answer) (plan c es) (planned e.call (mag e.answer) (c + ticked es) (plan c es))

-- the timeout is as planned
abbrev pub Shows : Plan → Timeout → Type 0
Shows idle t = t.active ≡ 0
Shows (due d) t = (0 < t.active) × (t.deadline ≡ d)

-- whether an announcement that moves the clock to n fires
abbrev pub fires_at : Plan → (n : ℕ) → Bool
fires_at idle n = false
fires_at (due d) n = fires true d n

-- a timeout that was new with the clock at c, after the steps es
pub record Promise (c : ℕ) (es : List (Step Call)) (t : Timeout) : Type 0 where
  pub clock : t.clock ≡ c + ticked es
  pub below : t.clock < never
  pub shows : Shows (plan c es) t
  -- an announcement that would bring the clock to never is refused; any other fires exactly if the plan says so
  pub refused : (n : ℕ) → never ≤ t.clock + n → announce n t ≡ refuse einval
  pub fires : (n : ℕ) → t.clock + n < never → answer (announce n t) ≡ cond (fires_at (plan c es) (t.clock + n)) (pos 1) ok
  -- what is to fire keeps all other deadlines away; where nothing is, there is nothing to abort
  pub busy : (d : ℕ) → plan c es ≡ due d → (y : Reply ℕ) → arm y t ≡ refuse ebusy
  pub nothing : plan c es ≡ idle → abort t ≡ refuse einval

-- from any memory in which init made a timeout, h₀
abbrev pub Always : Type 0
Always =
    (c : ℕ) (h h₀ h' : List ℕ) (es : List (Step Call)) → Starts c h ok h₀ → Made place does h₀ [] es h' []
    → (place.formed h' [] ≡ true) × Promise c es (place.object h' [])

-- the call is an announcement
abbrev pub announced : Call → Bool
announced (adding n) = false
announced (adding_absolute d) = false
announced adding_forever = false
announced adding_no_wait = false
announced aborting = false
announced (announcing n) = true

-- an announcement that was not refused
abbrev pub moves : Step Call → Bool
moves e = cond (refusal e.answer) false (announced e.call)

-- one that fired
abbrev pub fired : Step Call → Bool
fired e = cond (moves e) (eqb (mag e.answer) 1) false

-- an add or an abort that was not refused
abbrev pub touches : Step Call → Bool
touches e = cond (refusal e.answer) false (cond (announced e.call) false true)

-- how many of the steps fired
abbrev pub firings : List (Step Call) → ℕ
firings es = after (λ (n : ℕ) (e : Step Call). cond (fired e) (suc n) n) 0 es

-- the clock, which was at c, was moved, and what has this deadline is due
abbrev pub reached : (deadline c : ℕ) → List (Step Call) → Bool
reached deadline c [] = false
reached deadline c (e ∷ es) = cond (moves e) (fires true deadline (c + ticked (e ∷ es))) (reached deadline c es)

-- while no add and no abort succeeds, a timeout that is active fires when it is reached, at that announcement, and not again
abbrev pub Once : Type 0
Once =
    (h h' : List ℕ) (es : List (Step Call)) → place.formed h [] ≡ true → 0 < get_or h 1 0 → Made place does h [] es h' []
    → All (λ e. touches e ≡ false) es → firings es ≡ cond (reached (get_or h 0 0) (get_or h 2 0) es) 1 0

-- never is reached by no announcements; at once is by each one, also of 0 ticks
abbrev pub NeverReached : Type 0
NeverReached = (c : ℕ) (es : List (Step Call)) → reached never c es ≡ false

abbrev pub AtOnceReached : Type 0
AtOnceReached = (c : ℕ) (e : Step Call) (es : List (Step Call)) → moves e ≡ true → reached at_once c (e ∷ es) ≡ true

-- so what is never to fire does not fire
abbrev pub Forever : Type 0
Forever =
    (h h' : List ℕ) (es : List (Step Call)) → place.formed h [] ≡ true → 0 < get_or h 1 0 → get_or h 0 0 ≡ never → Made place does h [] es h' []
    → All (λ e. touches e ≡ false) es → firings es ≡ 0

-- and one that is not active does not fire until it is added
abbrev pub Quiet : Type 0
Quiet =
    (h h' : List ℕ) (es : List (Step Call)) → place.formed h [] ≡ true → get_or h 1 0 ≡ 0 → Made place does h [] es h' []
    → All (λ e. touches e ≡ false) es → firings es ≡ 0
