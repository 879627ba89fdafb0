use native.Mathlib.Omega.{arith}
use Rattle.pipe.proofs.Answers.{put-goes, put-again}
use Rattle.pipe.proofs.put.Goals.{else-flags-via-then-flags+then-used-size+then-not-is_empty+else-not-short, else-flags-via-then-flags+then-used-size+else-not-is_empty, else-flags-via-then-flags+else-used-size, else-flags-via-else-flags}
use Rattle.pipe.proofs.put.Goals as goal

pub returns-then-not-short : goal.returns-then-not-short
returns-then-not-short g c =
    put-goes c.args.h.now c.args.b.now c.in-len4-up.len_at_least _ c.args.src.now (grind arith) (omega (arith, c.if-used-size.true)) (grind arith) (grind arith)
    c.in-Some.ensures

pub returns : goal.returns
returns g c =
    put-again c.args.h.now c.args.b.now c.in_ok-at.ensures _ c.args.src.now _ c.in_ok-writes.ensures
    (λ e f n s. elim c.else-flags.branch [
      | else-flags-via-then-flags+then-used-size+then-not-is_empty+else-not-short w ↦ grind arith
      | else-flags-via-then-flags+then-used-size+else-not-is_empty w ↦ grind arith
      | else-flags-via-then-flags+else-used-size w ↦ omega (arith, w.if-used-size.false)
      | else-flags-via-else-flags w ↦ grind arith
    ])
