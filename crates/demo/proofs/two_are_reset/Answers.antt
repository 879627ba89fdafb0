-- Each answer is what the semaphore's definition gives, from the known numbers and queue on. Assumes nothing.
use mathlib.Core.Path.{refl, sym, ◌∙◌}
use lib.ListN.{length}
use borrow.Author.Tests.{le-leb}
use Rattle.wait_queue.specs.Queue.{max_waiters}
use Rattle.sem.specs.Post.{reset_out}
use Rattle.seq.proofs.Order.{clash}
use Rattle.demo.proofs.Steps.{step, is_number}
use Rattle.demo.proofs.two_are_reset.Goals as goal

pub prove-unreachable-requires : goal.prove-unreachable-requires
unfolding max_waiters
prove-unreachable-requires c =
    let n = length c.args.out.now in
    clash (sym (rw (is_number c.reset-number.result 2 (rw (le-leb 2 n c.requires.1) at (step c.requires.0 refl (reset_out n) c.reset-number.ensures.0).code)) at c.eq.ensures) ∙ c.if-prove.true)

pub prove-unreachable-requires-2 : goal.prove-unreachable-requires-2
unfolding max_waiters
prove-unreachable-requires-2 c =
    let n = length c.args.out.now in
    c.if-prove-2.true (rw (rw ((step c.requires.0 refl (reset_out n) c.reset-number.ensures.0).does, le-leb 2 n c.requires.1) at c.reset-number.ensures.1) refl)

pub prove-unreachable-requires-3 : goal.prove-unreachable-requires-3
unfolding max_waiters
prove-unreachable-requires-3 c =
    let n = length c.args.out.now in
    c.if-prove-3.true (rw (rw ((step c.requires.0 refl (reset_out n) c.reset-number.ensures.0).does, le-leb 2 n c.requires.1) at c.reset-number.ensures.1) refl)

pub returns : goal.returns
unfolding max_waiters
returns c =
    let n = length c.args.out.now in
    rw (le-leb 2 n c.requires.1) at (step c.requires.0 refl (reset_out n) c.reset-number.ensures.0).is
