-- The word goes in. Assumes nothing.
use native.Mathlib.Omega.{arith}
use Rattle.stack.proofs.Answers.{pushed}
use Rattle.stack.proofs.push.Goals as goal

pub returns : goal.returns
returns c = let a = c.args in pushed a.h.now a.w.now (record { words = omega arith; some_room = omega arith; within = omega arith; housed = omega arith }) a.data (omega arith)
