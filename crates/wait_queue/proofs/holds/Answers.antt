-- Assumes nothing.
use mathlib.Core.Path.{sym, ◌∙◌}
use native.Mathlib.Omega.{arith}
use Rattle.wait_queue.proofs.Memory.{is-roomy}
use Rattle.wait_queue.proofs.Loops.{part_has}
use Rattle.wait_queue.proofs.holds.Goals as goal

pub returns-then-fits : goal.returns-then-fits
returns-then-fits c =
    let a = c.args in
    let g = sym c.fits.ensures ∙ c.if-fits.true in
    let m = is-roomy a.n a.e.now g in
    rw g (part_has a.e.now a.n a.id c.has.result (omega (arith, m.few, m.room)) c.has.ensures)
