-- By the lemma on what it answers. Assumes nothing.
use Rattle.std.proofs.Common.{refl}
use Rattle.msgq.proofs.Answers.{get_done}
use Rattle.msgq.proofs.get.Goals as goal

pub returns : goal.returns
returns c = let s = c.in_ok-slots in get_done s.ensures.0 c.args.out.now s.ensures.1 c.load.new.out s.slots.idx c.load.ensures c.next.result c.if-slots-eq0.false refl c.next.ensures
