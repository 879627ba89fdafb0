-- The answer is that of the object's own function. Assumes nothing.
use Rattle.seq.proofs.Integers.{answered}
use Rattle.waitqueue.proofs.slabs.wq_mem_slab_alloc_decide.Goals as goal

pub returns : goal.returns
returns c = let u = c.allotted in rw (answered {z = u.result} u.type_inv, u.ensures.code, u.ensures.word) (c.alloc_decide.ensures c.args.new_used.now)
