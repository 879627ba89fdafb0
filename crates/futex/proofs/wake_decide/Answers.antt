-- No more are woken than can wait. Assumes nothing.
use mathlib.Core.Path.{sym, ◌∙◌}
use native.Mathlib.Omega.{arith}
use borrow.Author.Tests.{ltb-false}
use Rattle.wait_queue.specs.Queue.{max_waiters}
use Rattle.wait_queue.proofs.Memory.{max-small}
use Rattle.futex.proofs.wake_decide.Goals.{then-wake_all, else-wake_all}
use Rattle.futex.proofs.wake_decide.Goals as goal

pub overflow_cast-result : goal.overflow_cast-result
overflow_cast-result c =
    let few = ltb-false max_waiters c.args.num_waiters (sym c.over.ensures ∙ c.if-over.false) in
    elim c.if-wake_all.branch [
      | then-wake_all w ↦ record { fits = omega (arith, max-small) }
      | else-wake_all w ↦ record { fits = omega arith }
    ]
