-- By the lemma on what it answers. Assumes nothing.
use Rattle.msgq.proofs.Answers.{purge_done}
use Rattle.msgq.proofs.purge.Goals as goal

pub returns : goal.returns
returns c = purge_done c.in_ok-slots.ensures c.behind.result c.behind.ensures
