-- Assumes nothing.
use native.Mathlib.Omega.{arith}
use Rattle.wait_queue.proofs.Audits.{in_order, alone}
use Rattle.wait_queue.proofs.Loops.{part_has}
use Rattle.wait_queue.proofs.sound_at.Goals as goal

pub returns : goal.returns
returns c =
    let a = c.args in
    alone a.e.now a.i (omega arith) (in_order a.e.now a.i (λ z. grind arith)) c.has.result
    (rw c.ident.ensures at (part_has a.e.now a.i _ c.has.result (omega arith) c.has.ensures))
