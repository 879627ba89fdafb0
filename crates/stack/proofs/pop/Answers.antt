-- The word comes out. Assumes nothing.
use native.Mathlib.Omega.{arith}
use Rattle.stack.proofs.Answers.{popped}
use Rattle.stack.proofs.pop.Goals as goal

pub returns : goal.returns
returns c x = let a = c.args in popped a.h.now a.w.now (record { words = omega arith; some_room = omega arith; within = omega arith; housed = omega arith }) x _ (omega arith)
