-- Assumes nothing.
use Prim.Native.Nat.{◌-◌}
use mathlib.Core.Path.{◌≡◌}
use native.Mathlib.Omega.{arith}
use Rattle.mem_slab.proofs.New.{linked_more, linked_all}
use Rattle.mem_slab.proofs.chain.Goals as goal

pub loop-i-preserved : goal.loop-i-preserved
loop-i-preserved c = rw c.loop-i.invariant (linked_more c.loop-i.i c.args.l.now (omega arith))

pub returns : goal.returns
returns c =
    let a = c.args in
    let z : c.loop-i.i ≡ a.num_blocks - 1 = omega arith in
    rw (c.loop-i.invariant, z) (linked_all a.num_blocks a.l.now (omega arith) (omega arith) (a.num_blocks - 1) (omega arith))
