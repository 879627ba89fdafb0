-- By the lemma on what it answers. Assumes nothing.
use Rattle.msgq.proofs.Answers.{empty_is}
use Rattle.msgq.proofs.is_empty.Goals as goal

pub returns : goal.returns
returns c = empty_is c.in_ok-slots.ensures
