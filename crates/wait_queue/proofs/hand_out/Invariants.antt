-- So many are handed out, and the rest of the place is as it was. Assumes nothing.
use Prim.Native.Nat.{ℕ, ◌+◌, ◌*◌, ◌%◌}
use lib.ListN.{length}
use Rattle.wait_queue.proofs.Loops.{Handing}
use Rattle.wait_queue.proofs.hand_out.Given as goal

abbrev pub invariant-loop-j : goal.invariant-loop-j
invariant-loop-j l = Handing (λ (x : ℕ). l.told * 4294967296 + x % 4294967296) l.queue (length l.queue) l.initial.out l.out l.j
