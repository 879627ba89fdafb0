-- A law on words for each type. Assumes nothing.
use Rattle.std.proofs.Common.{arith}
use Rattle.event.proofs.Words.{any_is, all_is}
use Rattle.event.proofs.is_met.Goals as goal

pub returns-in-Any : goal.returns-in-Any
returns-in-Any c = rw c.in-Any.is (any_is c.args.d c.args.e (omega arith) (omega arith))

pub returns-in-All : goal.returns-in-All
returns-in-All c = rw c.in-All.is (all_is c.args.d c.args.e (omega arith) (omega arith))
