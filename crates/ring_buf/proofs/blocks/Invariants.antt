-- The loop: as many as it has run are copied. Assumes nothing.
use mathlib.Core.Path.{◌≡◌}
use mathlib.Core.List.{◌++◌}
use Prim.Native.Nat.{◌-◌, ◌<◌}
use lib.ListN.{length, take, drop}
use Rattle.ring_buf.proofs.blocks.Given as goal

abbrev pub invariant-loop-i : goal.invariant-loop-i
invariant-loop-i l = (l.i < l.n) × ((length l.dst ≡ length l.initial.dst) × ((length l.t ≡ length l.initial.t) × (l.dst ≡ take l.i l.src ++ drop l.i l.initial.dst)))

abbrev pub decreases-loop-i : goal.decreases-loop-i
decreases-loop-i l = l.n - l.i
