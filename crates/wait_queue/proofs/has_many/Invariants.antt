-- So far it was hit exactly if it is among those passed. Assumes nothing.
use mathlib.Core.Path.{◌≡◌}
use Rattle.wait_queue.specs.Queue.{waiting, holds}
use Rattle.wait_queue.proofs.has_many.Given as goal

abbrev pub invariant-loop-x : goal.invariant-loop-x
invariant-loop-x l = l.hit ≡ holds l.id (waiting l.queue l.x-index)
