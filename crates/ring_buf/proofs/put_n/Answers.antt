-- As many as there is room for. Assumes nothing.
use native.Mathlib.Omega.{arith}
use lib.ListN.{length-take}
use Rattle.ring_buf.proofs.Headers.{read-sound}
use Rattle.ring_buf.proofs.Answers.{put_n-done}
use Rattle.ring_buf.proofs.put_n.Goals as goal

pub returns : goal.returns
returns c =
    let a = c.args in
    let r = c.in_ok-r.r in
    let w = c.in_ok-r.ensures in
    put_n-done a.h.now a.b.now (read-sound w) r.capacity r.head r.size c.min-k.result a.src.now c.fill.new.b w.capacity w.head w.size c.min-k.ensures (omega (arith, length-take r.capacity a.b.now)) c.fill.ensures
