-- A law on words. Assumes nothing.
use native.Mathlib.Omega.{arith}
use Rattle.event.proofs.Words.{replaced_is}
use Rattle.event.proofs.post_decide.Goals as goal

pub returns : goal.returns
returns c = let a = c.args in replaced_is a.new_events a.mask a.current_events (omega arith) (omega arith) (omega arith)
