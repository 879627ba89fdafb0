-- The constant is the definition's. Assumes nothing.
use mathlib.Core.Path.{refl}
use Rattle.wait_queue.specs.Queue.{max_waiters}
use Rattle.wait_queue.proofs.limit.Goals as goal

pub returns : goal.returns
unfolding max_waiters
returns c = refl
