-- The word is the length of the queue. Assumes nothing.
use borrow.Author.Rules.{rules}
use lib.ListN.{get_or}
use Rattle.seq.proofs.Back.{back-length}
use Rattle.futex.proofs.num_waiters.Goals as goal

pub returns-in-len2-up : goal.returns-in-len2-up
returns-in-len2-up c = rw (back-length c.args.e.now (get_or c.args.h.now 1 0)) (search rules)
