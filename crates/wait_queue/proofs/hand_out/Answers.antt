-- Assumes nothing.
use native.Mathlib.Omega.{arith}
use lib.ListN.{length}
use Rattle.wait_queue.proofs.Loops.{hand_on}
use Rattle.wait_queue.proofs.hand_out.Goals as goal

pub loop-j-preserved : goal.loop-j-preserved
loop-j-preserved c =
    let l = c.loop-j in
    let a = c.args in
    hand_on _ a.queue.now (length a.queue.now) a.out.now l.out l.j (omega arith) (omega arith) l.invariant
