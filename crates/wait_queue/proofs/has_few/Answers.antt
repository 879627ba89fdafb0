-- The last four decide. Assumes nothing.
use mathlib.Core.Path.{◌≡◌}
use mathlib.Core.Bool.{true, false}
use Prim.Native.Nat.{◌+◌, ◌-◌}
use native.Mathlib.Omega.{arith}
use lib.ListN.{length}
use Rattle.wait_queue.specs.Parts.{Searched}
use Rattle.wait_queue.proofs.Loops.{absent_join, hit_wide, last-part, searched}
use Rattle.wait_queue.proofs.has_few.Goals as goal
use Rattle.wait_queue.proofs.has_few.Goals.{else-loop-b-test, then-loop-b-test+else-four+else-last-b-gt4}

pub returns-then-four : goal.returns-then-four
returns-then-four c =
    let a = c.args in
    let b = c.loop-b.b in
    let h : Searched a.id a.queue.now b (b + 4) true = rw c.if-four.true at c.four.ensures in
    searched a.queue.now (length a.queue.now) a.id true (hit_wide a.id a.queue.now b (b + 4) 0 (length a.queue.now) (omega arith) (omega arith) h)

pub returns : goal.returns
returns c =
    let a = c.args in
    let q = a.queue.now in
    let b = c.loop-b.b in
    let n = length q in
    let r = c.four-2.result in
    let z : n - 4 + 4 ≡ n = omega arith in
    searched q n a.id r (elim c.loop-b-test.branch [
      | else-loop-b-test w ↦ last-part a.id q b (n - 4) n r (omega arith) c.loop-b.invariant (rw z at c.four-2.ensures)
      | then-loop-b-test+else-four+else-last-b-gt4 w ↦
          let h : Searched a.id q b (b + 4) false = rw w.if-four.false at w.four.ensures in
          last-part a.id q (b + 4) (n - 4) n r (omega arith) (absent_join a.id q 0 b b (b + 4) (omega arith) c.loop-b.invariant h) (rw z at c.four-2.ensures)
    ])
