-- The timer: how often it expired since it was last started, stopped or read.
use Rattle.std.specs.Prelude.{Bool, cond, [], ℕ, suc, eqb, ltb, ℤ, pos}
use Rattle.thread.specs.Code.{ok, eoverflow}
use Rattle.thread.specs.Answer.{truth}
use Rattle.store.specs.Store.{Reply, refuse, accept, carry}
use Rattle.timer.specs.declared.ExpireDecideResult.{ExpireDecideResult}

pub record Timer : Type 0 where
  -- how often it expired
  pub status : ℕ
  -- 0: it expires once; else again after so many ticks. C looks at it; here it is kept and told, and nothing depends on it
  pub period : ℕ
  -- whether it runs, 0: no. This is kept and told too, and nothing depends on it: C lets a timer expire, and whether it should is not asked
  pub running : ℕ

abbrev pub timer : (status period running : ℕ) → Timer
timer status period running = record { status = status; period = period; running = running }

-- 2^32 - 1, which is never passed
abbrev pub most : ℕ
most = 4294967295

-- what an expiry makes of the count, and that it answers a
abbrev pub expires : (a : ℤ) → (status : ℕ) → Reply ℕ
expires a status = cond (ltb status most) (accept (suc status) a []) (refuse eoverflow)

-- no is 0, yes is 1
abbrev pub unless_zero : ℕ → ℤ
unless_zero n = cond (eqb n 0) (pos 0) (pos 1)

-- on plain numbers the answer is whether the timer is periodic
abbrev pub expire_decide : (status period : ℕ) → Reply ℕ
expire_decide status period = expires (unless_zero period) status

-- that answer, and the count that goes to a word
abbrev pub decided : ExpireDecideResult → ℤ
decided r = truth r.is_periodic

abbrev pub its_status : ExpireDecideResult → ℕ → ℕ
its_status r n = r.new_status

-- of a whole timer the answer is the count
abbrev pub expire : Timer → Reply Timer
expire t = carry (λ n. timer n t.period t.running) (expires (pos (suc t.status)) t.status)

abbrev pub start : Timer → Reply Timer
start t = accept (timer 0 t.period 1) ok []

abbrev pub stop : Timer → Reply Timer
stop t = accept (timer 0 t.period 0) ok []

-- a start, or a stop
abbrev pub set_running : Bool → Timer → Reply Timer
set_running runs = cond runs start stop

-- the count is told, and is 0 then
abbrev pub status_get : Timer → Reply Timer
status_get t = accept (timer 0 t.period t.running) (pos t.status) []

abbrev pub count : Timer → ℤ
count t = pos t.status

abbrev pub ticks : Timer → ℤ
ticks t = pos t.period

abbrev pub runs : Timer → ℤ
runs t = unless_zero t.running

-- a new timer
abbrev pub fresh : (period : ℕ) → Timer
fresh period = timer 0 period 0
