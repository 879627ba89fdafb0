-- By the lemma on what it answers. Assumes nothing.
use Rattle.std.proofs.Common.{arith}
use Rattle.msgq.proofs.Answers.{slot_fits, peek_done}
use Rattle.msgq.proofs.peek_at.Goals as goal

pub load-requires : goal.load-requires
load-requires c = let s = c.in_ok-slots.ensures in slot_fits s.0 _ _ _ s.1 c.behind.ensures (omega arith)

pub returns : goal.returns
returns c = let s = c.in_ok-slots.ensures in peek_done s.0 c.args.out.now s.1 c.load.new.out c.behind.result c.load.ensures c.args.idx c.if-slots-idx.false c.behind.ensures
