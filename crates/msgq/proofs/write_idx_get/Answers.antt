-- By the lemma on what it answers. Assumes nothing.
use Rattle.msgq.proofs.Answers.{write_is}
use Rattle.msgq.proofs.write_idx_get.Goals as goal

pub returns : goal.returns
returns c = write_is c.in_ok-slots.ensures c.behind.result c.behind.ensures
