-- By the words that were read. Assumes nothing.
use mathlib.Core.Path.{sym, refl, ◌∙◌}
use native.Mathlib.Omega.{arith}
use Rattle.ring_buf.proofs.Headers.{read-sound}
use Rattle.ring_buf.proofs.Answers.{put_full, put-done}
use Rattle.ring_buf.proofs.put.Goals as goal

pub returns-then-r : goal.returns-then-r
returns-then-r c =
    let a = c.args in
    let w = c.in_ok-r.ensures in
    put_full a.h.now a.b.now (read-sound w) a.value (sym w.size ∙ c.if-r.true ∙ w.capacity)

pub returns : goal.returns
returns c =
    let a = c.args in
    let w = c.in_ok-r.ensures in
    rw w.size (put-done a.h.now a.b.now (read-sound w) a.value c.at.result (omega arith) (c.at.ensures.place ∙ rw (w.capacity, w.head, w.size) refl))
