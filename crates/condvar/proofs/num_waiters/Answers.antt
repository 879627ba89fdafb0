-- The queue is as long as it says. Assumes nothing.
use mathlib.Core.Path.{sym, ◌∙◌}
use Rattle.condvar.proofs.Answers.{got-waiters}
use Rattle.condvar.proofs.num_waiters.Goals as goal

pub returns : goal.returns
returns c = got-waiters c.args.h.now c.args.e.now (sym c.formed.ensures ∙ c.if-not-formed.false)
