use mathlib.Core.Path.{sym, ◌∙◌}
use Rattle.pipe.proofs.Answers.{reset-closed, reset-opened}
use Rattle.pipe.proofs.reset.Goals.{then-open, else-open}
use Rattle.pipe.proofs.reset.Goals as goal

pub returns : goal.returns
returns c =
    elim c.if-open.branch [
      | then-open w ↦ rw w.h-is (reset-opened c.args.h.now c.args.b.now c.in_ok-at.ensures (sym c.is_open-open.ensures ∙ w.if-open.true))
      | else-open w ↦ rw w.h-is (reset-closed c.args.h.now c.args.b.now c.in_ok-at.ensures (sym c.is_open-open.ensures ∙ w.if-open.false))
    ]
