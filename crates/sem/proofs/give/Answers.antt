-- The first that waits is woken. Assumes nothing.
use mathlib.Core.Path.{sym, ◌∙◌}
use native.Mathlib.Omega.{arith}
use Rattle.sem.proofs.Answers.{gave_woke, none-woken, not-refused}
use Rattle.sem.proofs.give.Goals as goal

pub returns-in_err-who : goal.returns-in_err-who
returns-in_err-who c =
    let a = c.args in
    let s = sym c.formed.ensures ∙ c.if-not-formed.false in
    absurd (not-refused a.h.now a.e.now s (omega arith) 0 _ c.unpend_first.new.len _ (c.in_err-who.ensures 0))

pub unreachable-requires : goal.unreachable-requires
unreachable-requires c =
    let a = c.args in
    let s = sym c.formed.ensures ∙ c.if-not-formed.false in
    none-woken a.h.now a.e.now s (omega arith) 0 _ c.unpend_first.new.len (rw c.in_default-2.is at (c.in_ok-who.ensures 0))

pub returns-then-waiting-gt0 : goal.returns-then-waiting-gt0
returns-then-waiting-gt0 c = λ x.
    let a = c.args in
    let s = sym c.formed.ensures ∙ c.if-not-formed.false in
    gave_woke a.h.now a.e.now s (omega arith) x c.in-Some.who c.unpend_first.new.len _ (rw c.in-Some.is at (c.in_ok-who.ensures x))
