use Rattle.pipe.proofs.Answers.{told_full}
use Rattle.pipe.proofs.is_full.Goals as goal

pub returns : goal.returns
returns c = told_full c.args.h.now c.args.b.now c.in_ok-pipe.ensures
