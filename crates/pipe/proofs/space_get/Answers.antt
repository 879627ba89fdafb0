use Rattle.pipe.proofs.Answers.{told_space}
use Rattle.pipe.proofs.space_get.Goals as goal

pub returns : goal.returns
returns c = told_space c.args.h.now c.args.b.now c.in_ok-pipe.ensures
