-- One law for each answer. Assumes nothing.
use mathlib.Core.Path.{sym, ◌∙◌}
use native.Mathlib.Omega.{arith}
use Rattle.wait_queue.proofs.Audits.{audit_fails, audit-passes}
use Rattle.wait_queue.proofs.audit.Goals as goal

pub returns-then-not-sound_at : goal.returns-then-not-sound_at
returns-then-not-sound_at c =
    let a = c.args in
    audit_fails a.n a.e.now c.loop-i.i (omega arith) (sym c.sound_at.ensures ∙ c.if-not-sound_at.true)

pub returns : goal.returns
returns c =
    let a = c.args in
    let l = c.loop-i in
    audit-passes a.n a.e.now l.i (omega arith) (sym c.fits.ensures ∙ c.if-not-fits.false) l.invariant
