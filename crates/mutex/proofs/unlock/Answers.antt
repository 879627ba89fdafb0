-- The last unlock is what passes it on. Assumes nothing.
use mathlib.Core.Path.{sym, ◌∙◌}
use native.Mathlib.Omega.{arith}
use Rattle.mutex.proofs.Answers.{held_yes, unlock-passes}
use Rattle.mutex.proofs.unlock.Goals as goal

pub returns-then-h-eq1 : goal.returns-then-h-eq1
returns-then-h-eq1 c =
    let a = c.args in
    let s = held_yes a.h.now a.e.now (sym c.housed.ensures ∙ c.if-not-housed.false) (omega arith) (omega arith) (sym c.fits.ensures ∙ c.if-not-fits.false) in
    λ x. (
      unlock-passes a.h.now a.e.now s a.id x (omega arith) (omega arith) (omega arith) _ c.pass.new.h _ (c.pass.ensures x).0,
      (c.pass.ensures x).1,
    )
