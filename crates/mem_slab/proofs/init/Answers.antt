-- A new slab. Assumes nothing.
use native.Mathlib.Omega.{arith}
use Rattle.mem_slab.proofs.New.{starts}
use Rattle.mem_slab.proofs.init.Goals as goal

pub returns : goal.returns
returns c = let a = c.args in starts a.block_size a.num_blocks a.h.now a.l.now (omega arith) (omega arith) (omega arith) (omega arith) _ c.chain.ensures
