-- By the words that were read. Assumes nothing.
use Rattle.ring_buf.proofs.Getters.{full_read}
use Rattle.ring_buf.proofs.is_full.Goals as goal

pub returns : goal.returns
returns c = full_read c.in_ok-r.ensures
