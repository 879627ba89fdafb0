use mathlib.Core.Path.{◌≡◌, refl, ap, ◌∙◌}
use mathlib.Core.List.{◌++◌}
use Prim.Native.Nat.{ℕ, ◌-◌, ◌+◌}
use native.Mathlib.Omega.{arith}
use lib.ListN.{length, take, drop}
use Rattle.ring_buf.proofs.Parts.{filled}
use Rattle.ring_buf.proofs.Copying.{onward}
use Rattle.ring_buf.proofs.blocks.Goals as goal

pub loop-i-init : goal.loop-i-init
loop-i-init c = (omega arith, (refl, (refl, refl)))

pub overflow_add-i : goal.overflow_add-i
overflow_add-i c = omega arith

pub block-requires : goal.block-requires
block-requires c = (omega arith, omega arith)

pub overflow_add-i-in-loop-i : goal.overflow_add-i-in-loop-i
overflow_add-i-in-loop-i c = omega arith

pub loop-i-smaller : goal.loop-i-smaller
loop-i-smaller c = omega arith

pub loop-i-preserved : goal.loop-i-preserved
loop-i-preserved c =
    let a = c.args in
    let l = c.loop-i in
    let b = c.block in
    let k = length l.t in
    let f = onward a.dst.now a.src.now l.dst b.new.dst l.i l.i k (l.i + k) (omega arith) (omega arith) (omega arith) refl
    l.invariant.1.1.1 b.ensures in
    let z : k ≡ length a.t.now = l.invariant.1.1.0 in
    (omega arith, (omega arith, (omega arith, f ∙ ap (λ (m : ℕ). take (l.i + m) a.src.now ++ drop (l.i + m) a.dst.now) z)))

pub overflow_sub-n : goal.overflow_sub-n
overflow_sub-n c = omega arith

pub block-requires-2 : goal.block-requires-2
block-requires-2 c = (omega arith, omega arith)

pub shape_of-dst : goal.shape_of-dst
shape_of-dst c = omega arith

pub shape_of-t : goal.shape_of-t
shape_of-t c = omega arith

pub returns : goal.returns
returns c =
    let a = c.args in
    let l = c.loop-i in
    let b = c.block-2 in
    let i = a.n - length a.t.now in
    let k = length l.t in
    let f = onward a.dst.now a.src.now l.dst b.new.dst l.i i k a.n (omega arith) (omega arith) (omega arith) (omega arith)
    l.invariant.1.1.1 b.ensures in
    filled a.dst.now a.src.now b.new.dst a.n a.n c.requires.1.1 (omega arith) (omega arith) f
