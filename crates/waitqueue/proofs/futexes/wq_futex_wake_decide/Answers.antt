-- The answer is that of the object's own function, and so is the word. Assumes nothing.
use Rattle.seq.proofs.Integers.{answered}
use Rattle.waitqueue.proofs.futexes.wq_futex_wake_decide.Goals as goal

pub returns-in-Ok : goal.returns-in-Ok
returns-in-Ok c = rw (answered {z = c.code.result} c.code.type_inv, c.code.ensures) (c.in-Ok.ensures c.args.remaining.now)

pub returns-in-Err : goal.returns-in-Err
returns-in-Err c = let u = c.code-in-Err in rw (answered {z = u.result} u.type_inv, u.ensures) (c.in-Err.ensures c.args.remaining.now)
