-- A law on words. Assumes nothing.
use Rattle.std.proofs.Common.{rules, arith}
use Rattle.event.proofs.Words.{or_is}
use Rattle.event.proofs.post.Goals as goal

pub returns : goal.returns
returns c = let a = c.args in let e = or_is a.new_events c.in_ok-changed.field-0.0 (omega arith) (omega arith) in search (rules, e)
