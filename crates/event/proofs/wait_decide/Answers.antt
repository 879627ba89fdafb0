-- A law on words. Assumes nothing.
use Rattle.std.proofs.Common.{rules, arith}
use Rattle.event.proofs.Words.{and_is}
use Rattle.event.proofs.wait_decide.Goals as goal

pub returns-then-is_met : goal.returns-then-is_met
returns-then-is_met c = rw (and_is c.args.desired c.args.current_events (omega arith) (omega arith)) (search rules)
