-- It wakes as the queue does. Assumes nothing.
use mathlib.Core.Path.{sym, ◌∙◌}
use Rattle.condvar.proofs.Answers.{signal-is}
use Rattle.condvar.proofs.signal.Goals as goal

pub returns : goal.returns
returns c = let a = c.args in λ x. signal-is a.h.now a.e.now (sym c.formed.ensures ∙ c.if-not-formed.false) x _ _ c.unpend_first.new.len (c.unpend_first.ensures x)
