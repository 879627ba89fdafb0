-- What was passed stands one up. Assumes nothing.
use Rattle.wait_queue.specs.Parts.{Shifted}
use Rattle.wait_queue.proofs.shift.Given as goal

abbrev pub invariant-loop-i : goal.invariant-loop-i
invariant-loop-i l = Shifted l.p l.n l.initial.e l.i l.e
