-- Both sides of the end. Assumes nothing.
use mathlib.Core.Path.{sym}
use Rattle.ring_buf.proofs.Rings.{wrap-low, wrap-high}
use Rattle.ring_buf.proofs.place.Goals as goal

pub returns-then-x-n : goal.returns-then-x-n
returns-then-x-n c = sym (wrap-low _ _ c.if-x-n.true)

pub returns-else-x-n : goal.returns-else-x-n
returns-else-x-n c = sym (wrap-high _ _ c.if-x-n.false)
