-- One piece, or two. Assumes nothing.
use mathlib.Core.Path.{ap, ◌∙◌}
use mathlib.Core.List.{List}
use Prim.Native.Nat.{ℕ}
use native.Mathlib.Omega.{arith}
use lib.ListN.{length, take}
use lib.Seq.{take_all}
use Rattle.ring_buf.specs.Ring.{turn}
use Rattle.ring_buf.proofs.Parts.{drain-one, drain-two}
use Rattle.ring_buf.proofs.drain.Goals as goal

pub returns-then-n-m : goal.returns-then-n-m
returns-then-n-m c =
    let a = c.args in
    drain-one (length a.b.now) a.t a.b.now a.out.now (omega arith) (omega arith) c.copy.new.dst (omega arith) c.copy.ensures
    ∙ ap (λ (l : List ℕ). take (length a.out.now) (turn a.t l)) (take_all (length a.b.now) a.b.now (omega arith))

pub returns-else-n-m : goal.returns-else-n-m
returns-else-n-m c =
    let a = c.args in
    drain-two (length a.b.now) a.t a.b.now a.out.now (omega arith) (omega arith) c.copy-else-n-m.new.dst c.copy-else-n-m-2.new.dst (omega arith) (omega arith) c.copy-else-n-m.ensures c.copy-else-n-m-2.ensures
    ∙ ap (λ (l : List ℕ). take (length a.out.now) (turn a.t l)) (take_all (length a.b.now) a.b.now (omega arith))
