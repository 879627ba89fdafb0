-- One piece, or two. Assumes nothing.
use native.Mathlib.Omega.{arith}
use Prim.Native.Nat.{◌+◌}
use lib.ListN.{length}
use Rattle.ring_buf.proofs.Rings.{wrap-below}
use Rattle.ring_buf.proofs.Parts.{fill_one, fill-two, round_all}
use Rattle.ring_buf.proofs.fill.Goals as goal

pub overflow_sub-m : goal.overflow_sub-m
overflow_sub-m c = let a = c.args in omega (arith, c.place-a.ensures, wrap-below (a.t + a.u) (length a.b.now) (omega arith))

pub slice_bounds-copy-end : goal.slice_bounds-copy-end
slice_bounds-copy-end c = let a = c.args in omega (arith, c.place-a.ensures, wrap-below (a.t + a.u) (length a.b.now) (omega arith))

pub slice_bounds-copy-count-else-n-m : goal.slice_bounds-copy-count-else-n-m
slice_bounds-copy-count-else-n-m c = let a = c.args in omega (arith, c.place-a.ensures, wrap-below (a.t + a.u) (length a.b.now) (omega arith))

pub slice_bounds-copy-start-else-n-m : goal.slice_bounds-copy-start-else-n-m
slice_bounds-copy-start-else-n-m c = let a = c.args in omega (arith, c.place-a.ensures, wrap-below (a.t + a.u) (length a.b.now) (omega arith))

pub returns-then-n-m : goal.returns-then-n-m
returns-then-n-m c =
    let a = c.args in
    let p = c.place-a in
    let w = wrap-below (a.t + a.u) (length a.b.now) (omega arith) in
    let x = fill_one (length a.b.now) a.t a.u p.result a.b.now a.src.now (omega arith) (omega arith) p.ensures (omega arith) c.copy.new.dst (omega (arith, p.ensures, w)) c.copy.ensures in
    round_all a.t a.u a.b.now _ a.src.now x

pub returns-else-n-m : goal.returns-else-n-m
returns-else-n-m c =
    let a = c.args in
    let p = c.place-a in
    let w = wrap-below (a.t + a.u) (length a.b.now) (omega arith) in
    let x = fill-two (length a.b.now) a.t a.u p.result a.b.now a.src.now (omega arith) (omega arith) p.ensures (omega arith) c.copy-else-n-m.new.dst c.copy-else-n-m-2.new.dst (omega (arith, p.ensures, w)) (omega arith) c.copy-else-n-m.ensures c.copy-else-n-m-2.ensures in
    round_all a.t a.u a.b.now _ a.src.now x
