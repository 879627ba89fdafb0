-- By the words that were read. Assumes nothing.
use Rattle.ring_buf.proofs.Headers.{read-sound}
use Rattle.ring_buf.proofs.Answers.{reset-done}
use Rattle.ring_buf.proofs.reset.Goals as goal

pub returns : goal.returns
returns c = reset-done c.args.h.now c.args.b.now (read-sound c.in_ok-read.ensures)
