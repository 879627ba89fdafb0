-- Each answer is what the semaphore's definition gives, from the known numbers and queue on. Assumes nothing.
use mathlib.Core.Path.{refl, sym, ◌∙◌}
use Rattle.seq.proofs.Order.{clash}
use Rattle.wait_queue.specs.Queue.{max_waiters}
use Rattle.thread.specs.Thread.{running}
use Rattle.sem.specs.Post.{take_out}
use Rattle.demo.proofs.Steps.{step, is_busy, is_invalid}
use Rattle.demo.proofs.two_are_refused.Goals as goal

pub prove-unreachable-requires : goal.prove-unreachable-requires
unfolding max_waiters
prove-unreachable-requires c =
    let s = step c.requires refl (take_out 8 6 running) c.take-twice.ensures in
    clash (sym (rw (is_busy c.take-twice.result s.code) at c.eq.ensures) ∙ c.if-prove.true)

pub prove-unreachable-requires-2 : goal.prove-unreachable-requires-2
unfolding max_waiters
prove-unreachable-requires-2 c =
    let a = step c.requires refl (take_out 8 6 running) c.take-twice.ensures in
    let s = step a.is refl (take_out 5 32 running) c.take-beyond.ensures in
    clash (sym (rw (is_invalid c.take-beyond.result s.code) at c.eq-2.ensures) ∙ c.if-prove-2.true)

pub returns : goal.returns
unfolding max_waiters
returns c =
    let a = step c.requires refl (take_out 8 6 running) c.take-twice.ensures in
    (step a.is refl (take_out 5 32 running) c.take-beyond.ensures).is
