-- One law for each answer. Assumes nothing.
use mathlib.Core.Path.{sym, ◌∙◌}
use native.Mathlib.Omega.{arith}
use Rattle.sem.proofs.Answers.{words, len-kept, cleared_no, cleared-short, cleared-all}
use Rattle.sem.proofs.reset.Goals as goal
use Rattle.sem.proofs.reset.Goals.{then-not-formed-via-then-not-formed, then-not-formed-via-else-not-formed+then-out-h}

pub returns-then-not-formed : goal.returns-then-not-formed
returns-then-not-formed c =
    let a = c.args in
    elim c.then-not-formed.branch [
      | then-not-formed-via-then-not-formed w ↦ cleared_no a.h.now a.e.now a.out.now (sym c.formed.ensures ∙ w.if-not-formed.true)
      | then-not-formed-via-else-not-formed+then-out-h w ↦ cleared-short a.h.now a.e.now (sym c.formed.ensures ∙ w.if-not-formed.false) a.out.now (omega arith)
    ]

pub returns : goal.returns
returns c =
    let a = c.args in
    let u = c.unpend_all in
    let s = sym c.formed.ensures ∙ c.if-not-formed.false in
    let v = len-kept a.h.now (words a.h.now a.e.now s) 0 in
    cleared-all a.h.now a.e.now s a.out.now _ u.new.len u.new.out (omega arith) (rw (v, c.code.ensures) at u.ensures)
