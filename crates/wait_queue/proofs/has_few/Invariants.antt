-- None of those passed is the thread. Assumes nothing.
use mathlib.Core.Bool.{false}
use Rattle.wait_queue.specs.Parts.{Searched}
use Rattle.wait_queue.proofs.has_few.Given as goal

abbrev pub invariant-loop-b : goal.invariant-loop-b
invariant-loop-b l = Searched l.id l.queue 0 l.b false
