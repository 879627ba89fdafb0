-- A mutex that is not as it should be is refused, and another's is waited for, as the queue says. Assumes nothing.
use mathlib.Core.Path.{sym, ◌∙◌}
use native.Mathlib.Omega.{arith}
use Rattle.std.proofs.lemmas.Result.{err_from_is_err_and}
use Rattle.mutex.proofs.Answers.{lock_no, its_words, lock-waits}
use Rattle.mutex.proofs.Written.{unwritten, joins}
use Rattle.mutex.proofs.lock_blocking.Goals as goal

pub returns-in_err-owner : goal.returns-in_err-owner
returns-in_err-owner c =
    let a = c.args in
    let t = a.caller in
    let o = c.in_err-owner.ensures in
    let p = err_from_is_err_and c.from_residual.result c.from_residual.ensures.1 in
    rw (p.1, p.2, o.1) (lock_no a.h.now a.e.now t.id t.priority t.state o.0, unwritten a.h.now)

pub returns-then-h-caller : goal.returns-then-h-caller
returns-then-h-caller c =
    let a = c.args in
    let t = a.caller in
    let z = sym c.housed.ensures ∙ c.if-not-housed.false in
    let u = c.pend in (
      lock-waits a.h.now a.e.now z t.id t.priority t.state (omega arith) (omega arith) c.if-h-caller.true _ u.new.len u.new.e u.ensures,
      joins a.h.now (its_words a.h.now a.e.now z) a.e.now _ u.new.len u.new.e t.id t.priority t.state u.ensures,
    )
