-- The length of the queue, if the semaphore is as it should be. Assumes nothing.
use mathlib.Core.Path.{sym, ap, ◌∙◌}
use lib.IntN.{pos}
use lib.ListN.{length, get_or}
use Rattle.seq.proofs.Back.{back-length}
use Rattle.kind.proofs.Answers.{seen}
use Rattle.sem.specs.Sem.{sem_kind}
use Rattle.sem.specs.Post.{layout}
use Rattle.sem.proofs.num_waiters.Goals as goal

pub returns-in-len3-up : goal.returns-in-len3-up
returns-in-len3-up c =
    let a = c.args in
    ap pos (sym (back-length a.e.now (get_or a.h.now 2 0)))
    ∙ seen sem_kind layout (λ s. pos (length s.queue)) a.h.now a.e.now (sym c.formed.ensures ∙ c.if-formed.true)
