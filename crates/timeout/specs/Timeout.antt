-- The timeout: a deadline in ticks, and a clock.
use Rattle.std.specs.Prelude.{Bool, true, false, cond, [], ◌∷◌, ℕ, ◌+◌, ◌-◌, eqb, ltb, leb, ℤ, pos}
use Rattle.thread.specs.Code.{ok, ebusy, einval}
use Rattle.thread.specs.Answer.{truth}
use Rattle.store.specs.Store.{Reply, refuse, accept, carry, handing}
use Rattle.timeout.specs.declared.AnnounceDecideResult.{AnnounceDecideResult}

pub record Timeout : Type 0 where
  pub deadline : ℕ
  -- whether it is to fire, 0: no
  pub active : ℕ
  pub clock : ℕ

abbrev pub timeout : (deadline active clock : ℕ) → Timeout
timeout deadline active clock = record { deadline = deadline; active = active; clock = clock }

-- the deadline that is not reached, 2^64 - 1; no clock comes so far
abbrev pub never : ℕ
never = 18446744073709551615

-- the deadline that is reached at once
abbrev pub at_once : ℕ
at_once = 0

abbrev pub is_active : Timeout → Bool
is_active t = ltb 0 t.active

-- so many ticks after the clock, and that this answers a; refused, if that would reach never
abbrev pub later : (a : ℤ) → (clock ticks : ℕ) → Reply ℕ
later a clock ticks = cond (ltb (clock + ticks) never) (accept (clock + ticks) a []) (refuse einval)

-- whether what is active with this deadline fires when the clock is at n
abbrev pub fires : (active : Bool) → (deadline n : ℕ) → Bool
fires active deadline n = cond active (cond (ltb deadline never) (leb deadline n) false) false

-- numbers that a timeout can have: what is active is not behind its clock, unless it is to fire at once
abbrev pub right : (active : Bool) → (deadline clock : ℕ) → Bool
right active deadline clock = cond (ltb clock never) (cond active (cond (eqb deadline at_once) true (leb clock deadline)) true) false

-- what an add makes of the deadline, which is handed out
abbrev pub add_decide : (clock duration : ℕ) → Reply ℕ
add_decide clock duration = handing ((clock + duration) ∷ []) (later ok clock duration)

-- what an announcement makes of the clock, 1: it fires
abbrev pub announces : (active : Bool) → (deadline clock ticks : ℕ) → Reply ℕ
announces active deadline clock ticks = later (cond (fires active deadline (clock + ticks)) (pos 1) ok) clock ticks

abbrev pub announce_decide : (active : Bool) → (deadline clock ticks : ℕ) → Reply ℕ
announce_decide active deadline clock ticks = cond (right active deadline clock) (announces active deadline clock ticks) (refuse einval)

-- what its result answers, and the clock that goes to a word
abbrev pub decided : AnnounceDecideResult → ℤ
decided r = truth r.fired

abbrev pub its_tick : AnnounceDecideResult → ℕ → ℕ
its_tick r n = r.new_tick

-- whether there is something to abort
abbrev pub abort_decide : (active : Bool) → Bool
abort_decide active = active

-- the same decide for a whole timeout. It gets the deadline that is decided, unless it has one already
abbrev pub arm : (deadline : Reply ℕ) → Timeout → Reply Timeout
arm deadline t = cond (is_active t) (refuse ebusy) (carry (λ n. timeout n 1 t.clock) deadline)

abbrev pub add : (duration : ℕ) → Timeout → Reply Timeout
add duration t = arm (add_decide t.clock duration) t

-- a deadline that is neither behind the clock nor never
abbrev pub absolute : (deadline clock : ℕ) → Reply ℕ
absolute deadline clock = cond (leb clock deadline) (cond (ltb deadline never) (accept deadline ok []) (refuse einval)) (refuse einval)

abbrev pub add_absolute : (deadline : ℕ) → Timeout → Reply Timeout
add_absolute deadline t = arm (absolute deadline t.clock) t

abbrev pub add_forever : Timeout → Reply Timeout
add_forever t = arm (accept never ok []) t

abbrev pub add_no_wait : Timeout → Reply Timeout
add_no_wait t = arm (accept at_once ok []) t

abbrev pub abort : Timeout → Reply Timeout
abort t = cond (abort_decide (is_active t)) (accept (timeout t.deadline 0 t.clock) ok []) (refuse einval)

-- the clock moves on; what fires is not active then
abbrev pub announce : (ticks : ℕ) → Timeout → Reply Timeout
announce ticks t =
    carry (λ n. timeout t.deadline (cond (fires (is_active t) t.deadline n) 0 t.active) n)
    (announces (is_active t) t.deadline t.clock ticks)

-- the ticks from the clock to a tick: none, if that is behind
abbrev pub until : (tick clock : ℕ) → ℕ
until tick clock = cond (eqb tick never) never (tick - clock)

-- numbers that are handed out, and nothing changes
abbrev pub remaining : Timeout → Reply Timeout
remaining t = accept t ok (cond (is_active t) (until t.deadline t.clock) 0 ∷ [])

abbrev pub expires : Timeout → Reply Timeout
expires t = accept t ok (cond (is_active t) t.deadline t.clock ∷ [])

abbrev pub clock_now : Timeout → Reply Timeout
clock_now t = accept t ok (t.clock ∷ [])

abbrev pub timepoint_calc : (duration : ℕ) → Timeout → Reply Timeout
timepoint_calc duration t = carry (λ n. t) (add_decide t.clock duration)

abbrev pub timepoint_timeout : (timepoint : ℕ) → Timeout → Reply Timeout
timepoint_timeout timepoint t = accept t ok (until timepoint t.clock ∷ [])

-- no is 0, yes is 1
abbrev pub yes_no : Bool → ℤ
yes_no b = cond b (pos 1) (pos 0)

abbrev pub whether_active : Timeout → ℤ
whether_active t = yes_no (is_active t)

-- of the deadline, active or not
abbrev pub whether_forever : Timeout → ℤ
whether_forever t = yes_no (eqb t.deadline never)

abbrev pub whether_no_wait : Timeout → ℤ
whether_no_wait t = yes_no (eqb t.deadline at_once)

-- a new timeout
abbrev pub fresh : (clock : ℕ) → Timeout
fresh clock = timeout 0 0 clock

abbrev pub may : (clock : ℕ) → Bool
may clock = ltb clock never
