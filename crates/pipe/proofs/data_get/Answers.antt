use Rattle.pipe.proofs.Answers.{told_data}
use Rattle.pipe.proofs.data_get.Goals as goal

pub returns : goal.returns
returns c = told_data c.args.h.now c.args.b.now c.in_ok-at.ensures
