-- The queue answers. Assumes nothing.
use native.Mathlib.Omega.{arith}
use Rattle.sem.proofs.Answers.{took-turn}
use Rattle.sem.proofs.take_blocking.Goals as goal

pub returns : goal.returns
returns c =
    let a = c.args in
    let w = a.caller in
    let u = c.pend in
    took-turn a.h.now a.e.now w.id w.priority w.state (omega arith) (omega arith) (omega arith) _ u.new.len u.new.e u.ensures
