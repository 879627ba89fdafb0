use native.Mathlib.Omega.{arith}
use mathlib.Core.Path.{◌≡◌}
use Rattle.std.proofs.Common.{Err}
use Rattle.pipe.proofs.Answers.{get-refused, get-comes, get-again}
use Rattle.pipe.proofs.get.Goals.{else-flags-via-then-flags+then-not-is_empty+else-not-short, else-flags-via-then-flags+else-not-is_empty, else-flags-via-else-flags}
use Rattle.pipe.proofs.get.Goals as goal

pub returns-then-not-short : goal.returns-then-not-short
returns-then-not-short g c =
    get-comes c.args.h.now c.args.b.now c.in-len4-up.len_at_least _ c.args.out.now (grind arith) (grind arith) (grind arith)
    c.in-Some.ensures

pub returns-in_err-reads : goal.returns-in_err-reads
returns-in_err-reads g c =
    let e : c.from_residual-in_err-reads.result ≡ Err c.in_err-reads.field-0.0 = grind arith in
    rw e (get-refused c.args.h.now c.args.b.now c.in_ok-at.ensures _ c.args.out.now c.in_err-reads.ensures)

pub returns : goal.returns
returns g c =
    get-again c.args.h.now c.args.b.now c.in_ok-at.ensures _ c.args.out.now _ c.in_ok-reads.ensures
    (λ e n s. elim c.else-flags.branch [
      | else-flags-via-then-flags+then-not-is_empty+else-not-short w ↦ grind arith
      | else-flags-via-then-flags+else-not-is_empty w ↦ grind arith
      | else-flags-via-else-flags w ↦ grind arith
    ])
