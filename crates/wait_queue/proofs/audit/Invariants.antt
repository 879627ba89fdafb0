-- All that were passed are sound. Assumes nothing.
use mathlib.Core.Path.{◌≡◌}
use mathlib.Core.Bool.{true}
use Rattle.wait_queue.specs.Queue.{waiting}
use Rattle.wait_queue.proofs.Audits.{audited}
use Rattle.wait_queue.proofs.audit.Given as goal

abbrev pub invariant-loop-i : goal.invariant-loop-i
invariant-loop-i l = audited (waiting l.e l.i) ≡ true
