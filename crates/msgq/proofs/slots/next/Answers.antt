-- Round the end, or below it. Assumes nothing.
use Rattle.std.proofs.Common.{sym, ◌∙◌, ◌+◌, arith}
use Rattle.ring_buf.proofs.Rings.{wrap-low, wrap-high}
use Rattle.msgq.proofs.slots.next.Goals as goal

pub returns-then-t-n : goal.returns-then-t-n
returns-then-t-n c = let a = c.args in sym (wrap-high (a.t + 1) a.n (omega arith) ∙ omega arith)

pub returns-else-t-n : goal.returns-else-t-n
returns-else-t-n c = let a = c.args in sym (wrap-low (a.t + 1) a.n (omega arith))
