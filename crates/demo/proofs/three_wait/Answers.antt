-- Each answer is what the semaphore's definition gives, from the known numbers and queue on. Assumes nothing.
use mathlib.Core.Path.{refl, sym, ◌∙◌}
use Rattle.seq.proofs.Order.{clash}
use Rattle.wait_queue.specs.Queue.{max_waiters}
use Rattle.thread.specs.Thread.{running}
use Rattle.sem.specs.Post.{take_out}
use Rattle.demo.proofs.Steps.{step, is_blocked}
use Rattle.demo.proofs.three_wait.Goals as goal

pub prove-unreachable-requires : goal.prove-unreachable-requires
unfolding max_waiters
prove-unreachable-requires c =
    let s = step c.requires refl (take_out 7 5 running) c.take-seventh.ensures in
    clash (sym (rw (is_blocked c.take-seventh.result s.code) at c.eq.ensures) ∙ c.if-prove.true)

pub prove-unreachable-requires-2 : goal.prove-unreachable-requires-2
unfolding max_waiters
prove-unreachable-requires-2 c =
    let a = step c.requires refl (take_out 7 5 running) c.take-seventh.ensures in
    let s = step a.is refl (take_out 3 2 running) c.take-third.ensures in
    clash (sym (rw (is_blocked c.take-third.result s.code) at c.eq-2.ensures) ∙ c.if-prove-2.true)

pub prove-unreachable-requires-3 : goal.prove-unreachable-requires-3
unfolding max_waiters
prove-unreachable-requires-3 c =
    let a = step c.requires refl (take_out 7 5 running) c.take-seventh.ensures in
    let b = step a.is refl (take_out 3 2 running) c.take-third.ensures in
    let s = step b.is refl (take_out 9 5 running) c.take-ninth.ensures in
    clash (sym (rw (is_blocked c.take-ninth.result s.code) at c.eq-3.ensures) ∙ c.if-prove-3.true)

pub returns : goal.returns
unfolding max_waiters
returns c =
    let a = step c.requires refl (take_out 7 5 running) c.take-seventh.ensures in
    let b = step a.is refl (take_out 3 2 running) c.take-third.ensures in
    (step b.is refl (take_out 9 5 running) c.take-ninth.ensures).is
