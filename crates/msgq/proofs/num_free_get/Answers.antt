-- By the lemma on what it answers. Assumes nothing.
use Rattle.msgq.proofs.Answers.{free_is}
use Rattle.msgq.proofs.num_free_get.Goals as goal

pub returns : goal.returns
returns c = free_is c.in_ok-slots.ensures
