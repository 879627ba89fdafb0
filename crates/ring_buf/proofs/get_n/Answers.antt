-- As many as are held. Assumes nothing.
use mathlib.Core.Path.{refl}
use Rattle.ring_buf.proofs.Headers.{read-sound}
use Rattle.ring_buf.proofs.Answers.{get_n-done}
use Rattle.ring_buf.proofs.get_n.Goals as goal

pub returns : goal.returns
returns c =
    let a = c.args in
    let r = c.in_ok-r.r in
    let w = c.in_ok-r.ensures in
    get_n-done a.h.now a.b.now (read-sound w) r.capacity r.head r.size a.out.now _ c.drain.new.out c.min-k.result c.at.result w.capacity w.head w.size c.min-k.ensures c.at.ensures.place c.drain.ensures refl
