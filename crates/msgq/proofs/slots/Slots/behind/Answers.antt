-- Below the end, or round it. Assumes nothing.
use Rattle.std.proofs.Common.{sym, ◌∙◌, ◌+◌, arith}
use Rattle.ring_buf.proofs.Rings.{wrap-low, wrap-high}
use Rattle.msgq.proofs.slots.Slots.behind.Goals as goal

pub returns-then-k-m : goal.returns-then-k-m
returns-then-k-m c = let s = c.args.self in sym (wrap-low (s.idx + c.args.k) s.max (omega arith))

pub returns-else-k-m : goal.returns-else-k-m
returns-else-k-m c = let s = c.args.self in sym (wrap-high (s.idx + c.args.k) s.max (omega arith) ∙ omega arith)
