-- One law for each answer. Assumes nothing.
use mathlib.Core.Path.{sym, ◌∙◌}
use native.Mathlib.Omega.{arith}
use lib.ListN.{get_or, length-set}
use Rattle.wait_queue.proofs.Memory.{max-two}
use Rattle.wait_queue.proofs.Short.{second-twice, second-leads, second_follows}
use Rattle.wait_queue.proofs.enter_second.Goals as goal

pub bounds-e-0 : goal.bounds-e-0
bounds-e-0 c = omega (arith, max-two)

pub returns-then-ident-id : goal.returns-then-ident-id
returns-then-ident-id c =
    let a = c.args in
    let r = c.requires in
    rw r.0 (second-twice a.e.now a.id a.priority r.1 (omega arith) (sym c.ident.ensures ∙ c.if-ident-id.true))

pub bounds-e-1 : goal.bounds-e-1
bounds-e-1 c = omega (arith, max-two)

pub bounds-e-1-else-p-x : goal.bounds-e-1-else-p-x
bounds-e-1-else-p-x c = omega (arith, max-two)

pub bounds-e-0-else-p-x : goal.bounds-e-0-else-p-x
bounds-e-0-else-p-x c = let a = c.args in omega (arith, max-two, length-set a.e.now 1 (get_or a.e.now 0 0))

pub returns-then-p-x : goal.returns-then-p-x
returns-then-p-x c =
    let a = c.args in
    let r = c.requires in
    rw r.0 (second-leads a.e.now a.id a.priority r.1 (omega arith) (λ z. c.if-ident-id.false (c.ident.ensures ∙ z)) (omega arith))

pub returns-else-p-x : goal.returns-else-p-x
returns-else-p-x c =
    let a = c.args in
    let r = c.requires in
    rw r.0 (second_follows a.e.now a.id a.priority r.1 (omega arith) (λ z. c.if-ident-id.false (c.ident.ensures ∙ z)) (omega arith))
