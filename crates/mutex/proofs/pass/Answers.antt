-- By what the queue answers. Assumes nothing.
use native.Mathlib.Omega.{arith}
use Rattle.std.proofs.lemmas.Result.{err_from_is_err_and}
use Rattle.mutex.proofs.Answers.{pass-some, pass-none, pass-bad}
use Rattle.mutex.proofs.pass.Goals as goal

pub returns-in_err-next : goal.returns-in_err-next
returns-in_err-next c = let a = c.args in let p = err_from_is_err_and c.from_residual.result c.from_residual.ensures.1 in λ x. rw (p.1, p.2) (pass-bad a.h.now a.e.now x (omega arith) c.unpend_first.new.len x _ (c.in_err-next.ensures x))

pub returns-in_default : goal.returns-in_default
returns-in_default c = let a = c.args in λ x. pass-none a.h.now a.e.now x (omega arith) c.unpend_first.new.len x (rw c.in_default.is at c.in_ok-next.ensures x)

pub returns : goal.returns
returns c = let a = c.args in λ x. rw c.take.ensures (pass-some a.h.now a.e.now x (omega arith) c.unpend_first.new.len c.in-Some.next (rw c.in-Some.is at c.in_ok-next.ensures x))
