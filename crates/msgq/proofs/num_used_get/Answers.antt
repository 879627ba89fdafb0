-- By the lemma on what it answers. Assumes nothing.
use Rattle.msgq.proofs.Answers.{used_is}
use Rattle.msgq.proofs.num_used_get.Goals as goal

pub returns : goal.returns
returns c = used_is c.in_ok-formed.ensures
