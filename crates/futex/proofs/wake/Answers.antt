-- The queue's answer is the futex's. Assumes nothing.
use mathlib.Core.Path.{◌≡◌, sym, ap, ◌∙◌}
use native.Mathlib.Omega.{arith}
use borrow.Author.Rules.{rules}
use lib.IntN.{pos}
use lib.ListN.{get_or}
use Rattle.std.proofs.Common.{Ok, Err, Some, None}
use Rattle.thread.specs.Code.{code}
use Rattle.thread.specs.Answer.{told}
use Rattle.futex.proofs.Answers.{wake-first}
use Rattle.futex.proofs.wake.Goals as goal

pub returns-in_err-who : goal.returns-in_err-who
returns-in_err-who c =
    let a = c.args in
    let u = c.unpend_first in
    let w : u.result ≡ Err c.in_err-who.field-0.0 = c.in_err-who.was in
    let z : told pos c.from_residual.result ≡ code c.in_err-who.field-0.0 = search rules in
    rw (c.if-wake_all.false, z)
    (wake-first a.h.now a.e.now (sym c.formed.ensures ∙ c.if-not-formed.false) a.out.now (code c.in_err-who.field-0.0) u.new.len (get_or a.out.now 0 0)
    (rw w at (u.ensures (get_or a.out.now 0 0))) (omega arith))

pub returns-in-Some : goal.returns-in-Some
returns-in-Some c =
    let a = c.args in
    let u = c.unpend_first in
    let w : u.result ≡ Ok (Some c.in-Some.who) = c.in_ok-who.was ∙ ap Ok c.in-Some.is in
    rw c.if-wake_all.false
    (wake-first a.h.now a.e.now (sym c.formed.ensures ∙ c.if-not-formed.false) a.out.now (pos 1) u.new.len c.in-Some.who
    (rw w at (u.ensures (get_or a.out.now 0 0))) (omega arith))

pub returns-in-None : goal.returns-in-None
returns-in-None c =
    let a = c.args in
    let u = c.unpend_first in
    let w : u.result ≡ Ok None = c.in_ok-who.was ∙ ap Ok c.in-None.is in
    rw c.if-wake_all.false
    (wake-first a.h.now a.e.now (sym c.formed.ensures ∙ c.if-not-formed.false) a.out.now (pos 0) u.new.len (get_or a.out.now 0 0)
    (rw w at (u.ensures (get_or a.out.now 0 0))) (omega arith))
