-- By the words that were read. Assumes nothing.
use mathlib.Core.Path.{refl, ◌∙◌}
use native.Mathlib.Omega.{arith}
use Rattle.ring_buf.proofs.Headers.{read-sound}
use Rattle.ring_buf.proofs.Answers.{peek-done}
use Rattle.ring_buf.proofs.peek_at.Goals as goal

pub returns : goal.returns
returns c =
    let a = c.args in
    let w = c.in_ok-r.ensures in
    λ x. peek-done a.h.now a.b.now (read-sound w) x a.idx c.at.result (omega arith) (c.at.ensures.place ∙ rw (w.capacity, w.head) refl)
