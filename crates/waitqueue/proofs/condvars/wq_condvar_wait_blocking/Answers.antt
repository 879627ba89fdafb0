-- The answer is that of the object's own function. Assumes nothing.
use Rattle.seq.proofs.Integers.{answered}
use Rattle.waitqueue.proofs.condvars.wq_condvar_wait_blocking.Goals as goal

pub returns : goal.returns
returns c = let t = c.told_heir in rw (answered {z = t.result} t.type_inv, t.ensures.code, t.ensures.who) (c.wait_blocking.ensures c.args.who.now)
