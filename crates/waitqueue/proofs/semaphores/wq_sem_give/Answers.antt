-- The answer is that of the object's own function. Assumes nothing.
use Rattle.seq.proofs.Integers.{answered}
use Rattle.waitqueue.proofs.semaphores.wq_sem_give.Goals as goal

pub returns : goal.returns
returns c =
    let u = c.told_gave in
    rw (answered {z = u.result} u.type_inv, u.ensures.code, u.ensures.who) (c.give.ensures c.args.who.now)
