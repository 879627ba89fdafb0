-- The queue is as long as it says. Assumes nothing.
use Rattle.mutex.proofs.Answers.{got-waiters}
use Rattle.mutex.proofs.num_waiters.Goals as goal

pub returns : goal.returns
returns c = got-waiters c.args.h.now c.args.e.now c.in_ok-owner.ensures.0
