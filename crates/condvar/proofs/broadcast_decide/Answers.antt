-- What can wait fits. Assumes nothing.
use mathlib.Core.Path.{sym, ◌∙◌}
use native.Mathlib.Omega.{arith}
use borrow.Author.Tests.{ltb-false}
use Rattle.wait_queue.specs.Queue.{max_waiters}
use Rattle.wait_queue.proofs.Memory.{max-small}
use Rattle.condvar.proofs.broadcast_decide.Goals as goal

pub overflow_cast-result : goal.overflow_cast-result
overflow_cast-result c = record { fits = omega (arith, max-small, ltb-false max_waiters c.args.num_waiters (sym c.over.ensures ∙ c.if-over.false)) }
