-- Each answer is what the semaphore's definition gives, from the known numbers and queue on. Assumes nothing.
use mathlib.Core.Path.{refl, sym, ◌∙◌}
use Rattle.seq.proofs.Order.{clash}
use Rattle.wait_queue.specs.Queue.{max_waiters}
use Rattle.sem.specs.Post.{give_out}
use Rattle.demo.proofs.Steps.{step, is_woken}
use Rattle.demo.proofs.three_are_woken.Goals as goal

pub prove-unreachable-requires : goal.prove-unreachable-requires
unfolding max_waiters
prove-unreachable-requires c =
    let s = step c.requires refl give_out (c.give-first.ensures 0).0 in
    clash (sym (rw (is_woken c.give-first.result 3 s.code (rw s.does at (c.give-first.ensures 0).1)) at c.eq.ensures) ∙ c.if-prove.true)

pub prove-unreachable-requires-2 : goal.prove-unreachable-requires-2
unfolding max_waiters
prove-unreachable-requires-2 c =
    let a = step c.requires refl give_out (c.give-first.ensures 0).0 in
    let s = step a.is refl give_out (c.give-second.ensures 0).0 in
    clash (sym (rw (is_woken c.give-second.result 7 s.code (rw s.does at (c.give-second.ensures 0).1)) at c.eq-2.ensures) ∙ c.if-prove-2.true)

pub prove-unreachable-requires-3 : goal.prove-unreachable-requires-3
unfolding max_waiters
prove-unreachable-requires-3 c =
    let a = step c.requires refl give_out (c.give-first.ensures 0).0 in
    let b = step a.is refl give_out (c.give-second.ensures 0).0 in
    let s = step b.is refl give_out (c.give-third.ensures 0).0 in
    clash (sym (rw (is_woken c.give-third.result 9 s.code (rw s.does at (c.give-third.ensures 0).1)) at c.eq-3.ensures) ∙ c.if-prove-3.true)

pub returns : goal.returns
unfolding max_waiters
returns c =
    let a = step c.requires refl give_out (c.give-first.ensures 0).0 in
    let b = step a.is refl give_out (c.give-second.ensures 0).0 in
    (step b.is refl give_out (c.give-third.ensures 0).0).is
