-- By the words that were read. Assumes nothing.
use Rattle.ring_buf.proofs.Getters.{space_read}
use Rattle.ring_buf.proofs.space_get.Goals as goal

pub returns : goal.returns
returns c = space_read c.in_ok-r.ensures
