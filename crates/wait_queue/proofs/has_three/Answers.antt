-- Assumes nothing.
use mathlib.Core.Path.{sym, ◌∙◌}
use Prim.Native.Nat.{◌+◌}
use native.Mathlib.Omega.{arith}
use lib.ListN.{length}
use Rattle.wait_queue.proofs.Loops.{has_hit, has_more}
use Rattle.wait_queue.proofs.has_three.Goals as goal

pub returns-then-ident-id : goal.returns-then-ident-id
returns-then-ident-id c =
    let a = c.args in
    let i = c.loop-x.x-index in
    has_more a.queue.now (i + 1) (length a.queue.now) a.id (omega arith) (has_hit a.queue.now i a.id (sym c.ident.ensures ∙ c.if-ident-id.true))
