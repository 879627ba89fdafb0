use Rattle.pipe.proofs.Answers.{told_empty}
use Rattle.pipe.proofs.is_empty.Goals as goal

pub returns : goal.returns
returns c = told_empty c.args.h.now c.args.b.now c.in_ok-at.ensures
