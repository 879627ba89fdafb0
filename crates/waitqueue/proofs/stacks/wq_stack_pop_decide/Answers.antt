-- The answer is that of the object's own function. Assumes nothing.
use Rattle.seq.proofs.Integers.{answered}
use Rattle.waitqueue.proofs.stacks.wq_stack_pop_decide.Goals as goal

pub returns : goal.returns
returns c = let u = c.popped in rw (answered {z = u.result} u.type_inv, u.ensures.code, u.ensures.word) (c.pop_decide.ensures c.args.new_count.now)
