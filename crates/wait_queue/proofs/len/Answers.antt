-- One law for each answer. Assumes nothing.
use native.Mathlib.Omega.{arith}
use mathlib.Core.Path.{sym, ◌∙◌}
use Rattle.wait_queue.proofs.Memory.{max-small, is-roomy}
use Rattle.wait_queue.proofs.len.Goals as goal

pub overflow_cast-result : goal.overflow_cast-result
overflow_cast-result c =
    let a = c.args in
    let g = is-roomy a.n a.e.now (sym c.fits.ensures ∙ c.if-fits.true) in
    record { fits = omega (arith, g.few, max-small) }
