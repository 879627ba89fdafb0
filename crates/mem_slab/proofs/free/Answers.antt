-- The block comes back. Assumes nothing.
use native.Mathlib.Omega.{arith}
use Rattle.mem_slab.proofs.Answers.{named, takes}
use Rattle.mem_slab.proofs.free.Goals as goal

pub returns : goal.returns
returns c =
    let a = c.args in
    let b = c.in_ok-blocks in
    let e = named a.h.now a.l.now b.ensures.fit b.ensures.numbers in
    rw e (takes a.h.now a.l.now b.ensures.fit a.block (rw e at c.if-blocks-block.false) (omega arith) (rw e at c.if-used-eq0.false))
