-- By the words that were read. Assumes nothing.
use Rattle.ring_buf.proofs.Getters.{empty_read}
use Rattle.ring_buf.proofs.is_empty.Goals as goal

pub returns : goal.returns
returns c = empty_read c.in_ok-read.ensures
