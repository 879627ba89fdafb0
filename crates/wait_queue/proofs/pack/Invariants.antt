-- Of those passed, the ones that stay stand in front. Assumes nothing.
use Rattle.wait_queue.proofs.Loops.{Packing}
use Rattle.wait_queue.proofs.pack.Given as goal

abbrev pub invariant-loop-i : goal.invariant-loop-i
invariant-loop-i l = Packing l.id l.initial.queue l.queue l.k l.i
