-- One law for each answer. Assumes nothing.
use mathlib.Core.Path.{sym, ◌∙◌}
use native.Mathlib.Omega.{arith}
use Rattle.wait_queue.proofs.Memory.{is-roomy}
use Rattle.wait_queue.proofs.Loops.{packed}
use Rattle.wait_queue.proofs.Answers.{remove_absent, remove-gone}
use Rattle.wait_queue.proofs.remove.Goals as goal

pub returns-then-k-m : goal.returns-then-k-m
returns-then-k-m c =
    let a = c.args in
    let u = c.pack-k in
    let m = is-roomy a.len.now a.e.now (sym c.fits.ensures ∙ c.if-not-fits.false) in
    remove_absent a.len.now a.e.now a.id u.result _ (sym c.fits.ensures ∙ c.if-not-fits.false) (packed a.e.now (a.len.now) a.id u.result _ (omega (arith, m.few, m.room)) u.ensures) (omega arith)

pub returns : goal.returns
returns c =
    let a = c.args in
    let u = c.pack-k in
    let m = is-roomy a.len.now a.e.now (sym c.fits.ensures ∙ c.if-not-fits.false) in
    remove-gone a.len.now a.e.now a.id u.result _ (sym c.fits.ensures ∙ c.if-not-fits.false) (packed a.e.now (a.len.now) a.id u.result _ (omega (arith, m.few, m.room)) u.ensures) (λ z. absurd (omega arith))
