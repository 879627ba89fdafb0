-- A law on words. Assumes nothing.
use Rattle.std.proofs.Common.{rules, arith}
use Rattle.event.proofs.Words.{and_not-is}
use Rattle.event.proofs.clear.Goals as goal

pub returns : goal.returns
returns c = let a = c.args in let e = and_not-is a.clear_events c.in_ok-changed.field-0.0 (omega arith) (omega arith) in search (rules, e)
