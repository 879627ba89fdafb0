-- By the words that were read. Assumes nothing.
use Rattle.ring_buf.proofs.Getters.{size_read}
use Rattle.ring_buf.proofs.size_get.Goals as goal

pub returns : goal.returns
returns c = size_read c.in_ok-read.ensures
