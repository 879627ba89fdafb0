-- None of those passed is the thread. Assumes nothing.
use mathlib.Core.Path.{◌≡◌}
use mathlib.Core.Bool.{false}
use Rattle.wait_queue.specs.Queue.{waiting, holds}
use Rattle.wait_queue.proofs.has_three.Given as goal

abbrev pub invariant-loop-x : goal.invariant-loop-x
invariant-loop-x l = false ≡ holds l.id (waiting l.queue l.x-index)
