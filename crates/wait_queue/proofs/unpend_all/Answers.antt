-- One law for each answer. Assumes nothing.
use mathlib.Core.Path.{sym, ◌∙◌}
use native.Mathlib.Omega.{arith}
use Rattle.seq.proofs.Integers.{plain}
use Rattle.wait_queue.proofs.Memory.{is-roomy, max-small}
use Rattle.wait_queue.proofs.Loops.{waiting_take}
use Rattle.wait_queue.proofs.Answers.{all_short, all_woken_lem}
use Rattle.wait_queue.proofs.unpend_all.Goals as goal

pub returns-then-out-m : goal.returns-then-out-m
returns-then-out-m c =
    let a = c.args in
    all_short a.len.now a.e.now a.return_value a.out.now (sym c.fits.ensures ∙ c.if-not-fits.false) (omega arith)

pub overflow_cast-result : goal.overflow_cast-result
overflow_cast-result c =
    let a = c.args in
    let g = is-roomy a.len.now a.e.now (sym c.fits.ensures ∙ c.if-not-fits.false) in
    record { fits = omega (arith, g.few, max-small) }

pub returns : goal.returns
returns c =
    let a = c.args in
    let g = sym c.fits.ensures ∙ c.if-not-fits.false in
    let u = c.hand_out in
    all_woken_lem a.len.now a.e.now a.return_value a.out.now u.new.out g (omega arith)
    (rw (c.word_of.ensures.0, plain c.ranges.return_value, waiting_take a.e.now a.len.now (omega (arith, (is-roomy a.len.now a.e.now g).few, (is-roomy a.len.now a.e.now g).room))) at u.ensures)
