-- By the lemma on what it answers. Assumes nothing.
use Rattle.msgq.proofs.Answers.{full_is}
use Rattle.msgq.proofs.is_full.Goals as goal

pub returns : goal.returns
returns c = full_is c.in_ok-slots.ensures
