-- Assumes nothing.
use mathlib.Core.Path.{◌≡◌}
use native.Mathlib.Omega.{arith}
use Rattle.wait_queue.proofs.Memory.{max-two}
use Rattle.wait_queue.proofs.Short.{first-joins}
use Rattle.wait_queue.proofs.enter.Goals as goal

pub bounds-e-0 : goal.bounds-e-0
bounds-e-0 c = omega (arith, max-two, c.limit.ensures)

pub returns : goal.returns
returns c =
    let a = c.args in
    let z : a.len.now ≡ 0 = omega arith in
    rw z (first-joins a.e.now a.caller.id a.caller.priority (omega (arith, c.limit.ensures)) (omega arith))
