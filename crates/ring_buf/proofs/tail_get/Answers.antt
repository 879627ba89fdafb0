-- By the words that were read. Assumes nothing.
use mathlib.Core.Path.{ap, ◌∙◌}
use lib.IntN.{pos}
use Rattle.ring_buf.proofs.Getters.{tail_read}
use Rattle.ring_buf.proofs.tail_get.Goals as goal

pub returns : goal.returns
returns c = ap pos c.at.ensures.place ∙ tail_read c.in_ok-r.ensures
