-- The links of the first i blocks are written. Assumes nothing.
use mathlib.Core.Path.{◌≡◌}
use Rattle.mem_slab.proofs.New.{linked}
use Rattle.mem_slab.proofs.chain.Given as goal

abbrev pub invariant-loop-i : goal.invariant-loop-i
invariant-loop-i l = l.l ≡ linked l.i l.initial.l
