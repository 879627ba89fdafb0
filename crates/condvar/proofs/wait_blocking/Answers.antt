-- Both or neither. Assumes nothing.
use mathlib.Core.Path.{refl}
use native.Mathlib.Omega.{arith}
use Rattle.std.proofs.lemmas.Result.{err_from_is_err_and}
use Rattle.condvar.proofs.Answers.{wait_refused, wait-both}
use Rattle.condvar.proofs.wait_blocking.Goals as goal

pub returns-in_err-enter : goal.returns-in_err-enter
returns-in_err-enter c =
    let a = c.args in
    let t = a.caller in
    let p = err_from_is_err_and c.from_residual-in_err-enter.result c.from_residual-in_err-enter.ensures.1 in
    λ x.
    rw (p.1, p.2)
    (wait_refused t.id t.priority t.state a.h.now a.e.now a.mutex_h.now a.mutex_e.now x _ c.in_ok-release_decide.ensures (omega arith)
    _ c.enter.new.len c.enter.new.e c.in_err-enter.ensures _ refl)

pub returns : goal.returns
returns c =
    let a = c.args in
    let t = a.caller in
    λ x.
    wait-both t.id t.priority t.state a.h.now a.e.now a.mutex_h.now a.mutex_e.now x _ c.in_ok-release_decide.ensures (omega arith)
    _ c.enter.new.len c.enter.new.e c.in_ok-enter.ensures _ refl c.pass.new.h _ _ (c.pass.ensures x)
