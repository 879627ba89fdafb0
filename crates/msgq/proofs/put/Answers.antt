-- By the lemma on what it answers. Assumes nothing.
use Rattle.std.proofs.Common.{arith}
use Rattle.msgq.proofs.Answers.{put_full, slot_fits, put_done}
use Rattle.msgq.proofs.put.Goals as goal

pub returns-then-slots : goal.returns-then-slots
returns-then-slots c = let s = c.in_ok-slots.ensures in put_full s.0 c.args.msg.now s.1 c.if-slots.true

pub store-requires : goal.store-requires
store-requires c = let s = c.in_ok-slots.ensures in slot_fits s.0 _ _ _ s.1 c.behind.ensures (omega arith)

pub returns : goal.returns
returns c = let s = c.in_ok-slots.ensures in put_done s.0 c.args.msg.now s.1 c.if-slots.false c.behind.result c.store.new.b c.store.ensures c.behind.ensures
