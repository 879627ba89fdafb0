-- The block goes out. Assumes nothing.
use Rattle.mem_slab.proofs.Answers.{named, gives}
use Rattle.mem_slab.proofs.alloc.Goals as goal

pub returns : goal.returns
returns c =
    let a = c.args in
    let b = c.in_ok-blocks in
    let e = named a.h.now a.l.now b.ensures.fit b.ensures.numbers in
    rw (c.replace.ensures.value, c.replace.ensures.after, e) (gives a.h.now a.l.now b.ensures.fit (rw e at c.if-used-blocks.false))
