-- Below the capacity. Assumes nothing.
use Prim.Native.Nat.{◌+◌}
use native.Mathlib.Omega.{arith}
use Rattle.ring_buf.proofs.Rings.{wrap-below}
use Rattle.ring_buf.proofs.header.RingBuf.at.Goals as goal

pub overflow_cast-result : goal.overflow_cast-result
overflow_cast-result c = let a = c.args in omega (arith, c.place.ensures, wrap-below (a.self.head + a.i) a.self.capacity (omega arith))

pub returns-clause-within : goal.returns-clause-within
returns-clause-within c = let a = c.args in omega (arith, c.place.ensures, wrap-below (a.self.head + a.i) a.self.capacity (omega arith))
