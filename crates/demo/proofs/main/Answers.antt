-- A new semaphore of count 0 and limit 2 is the run's first. Assumes nothing.
use mathlib.Core.Path.{refl, sym, ◌∙◌}
use Rattle.wait_queue.specs.Queue.{max_waiters}
use Rattle.seq.proofs.Order.{clash}
use Rattle.demo.proofs.Steps.{made_code, made, is_nothing}
use Rattle.demo.proofs.main.Goals as goal

pub prove-unreachable-requires : goal.prove-unreachable-requires
prove-unreachable-requires c =
    clash (sym (rw (is_nothing c.init-made.result (made_code refl refl c.init-made.ensures)) at c.eq.ensures) ∙ c.if-prove.true)

pub three_wait-requires : goal.three_wait-requires
unfolding max_waiters
three_wait-requires c = made refl refl c.init-made.ensures refl
