-- The answer is that of the object's own function. Assumes nothing.
use mathlib.Core.Path.{◌∙◌}
use Rattle.seq.proofs.Integers.{answered}
use Rattle.waitqueue.proofs.futexes.wq_futex_wait_decide.Goals as goal

pub returns : goal.returns
returns c = rw (answered {z = c.told.result} c.told.type_inv) (λ q. c.told.ensures ∙ c.wait_decide.ensures q)
