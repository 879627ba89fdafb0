-- Assumes nothing.
use mathlib.Core.Path.{sym, ◌∙◌}
use native.Mathlib.Omega.{arith}
use lib.ListN.{length}
use Rattle.wait_queue.proofs.Loops.{pack-drop, pack-keep, pack-end}
use Rattle.wait_queue.proofs.pack.Goals as goal
use Rattle.wait_queue.proofs.pack.Goals.{then-ident-id, else-ident-id}

pub loop-i-preserved : goal.loop-i-preserved
loop-i-preserved c =
    let l = c.loop-i in
    let a = c.args in
    elim c.if-ident-id.branch [
      | then-ident-id w ↦ rw (w.queue-is, w.k-is) (pack-keep a.id a.queue.now l.queue l.k l.i l.invariant (omega arith) (λ z. w.if-ident-id.true (c.ident.ensures ∙ z)))
      | else-ident-id w ↦ rw (w.queue-is, w.k-is) (pack-drop a.id a.queue.now l.queue l.k l.i l.invariant (sym c.ident.ensures ∙ w.if-ident-id.false))
    ]

pub returns : goal.returns
returns c =
    let l = c.loop-i in
    let a = c.args in
    pack-end a.id (length a.queue.now) a.queue.now l.queue l.k l.i (omega arith) l.invariant
