-- One law for each answer. Assumes nothing.
use mathlib.Core.Path.{◌≡◌, sym, ◌∙◌}
use mathlib.Core.Bool.{true, false}
use Prim.Native.Nat.{ℕ, ◌+◌, ◌<◌}
use native.Mathlib.Omega.{arith}
use Rattle.wait_queue.specs.Queue.{entry, prio, ident, waiting, holds, joined}
use Rattle.wait_queue.proofs.Memory.{is-roomy, max-small}
use Rattle.wait_queue.proofs.Loops.{part_has}
use Rattle.wait_queue.proofs.Answers.{enter-twice, enter-full, enter-joins}
use Rattle.wait_queue.proofs.enter_long.Goals as goal

-- an entry is its priority and its thread
parts : (w : ℕ) → entry (prio w) (ident w) ≡ w
parts w = omega arith

low : (w : ℕ) → ident w < 4294967296
low w = omega arith

pub returns-then-has : goal.returns-then-has
returns-then-has c =
    let a = c.args in
    let r = c.requires in
    let m = is-roomy a.n a.e.now r.1 in
    let h : holds (ident a.new) (waiting a.e.now a.n) ≡ true =
    rw (sym c.ident.ensures) (sym (part_has a.e.now a.n c.ident.result c.has.result (omega (arith, m.few, m.room)) c.has.ensures) ∙ c.if-has.true) in
    rw (sym r.0) (enter-twice a.n a.e.now (ident a.new) (prio a.new) r.1 (low a.new) h)

pub returns-then-n-limit : goal.returns-then-n-limit
returns-then-n-limit c =
    let a = c.args in
    let r = c.requires in
    let m = is-roomy a.n a.e.now r.1 in
    let h : holds (ident a.new) (waiting a.e.now a.n) ≡ false =
    rw (sym c.ident.ensures) (sym (part_has a.e.now a.n c.ident.result c.has.result (omega (arith, m.few, m.room)) c.has.ensures) ∙ c.if-has.false) in
    rw (sym r.0) (enter-full a.n a.e.now (ident a.new) (prio a.new) r.1 (low a.new) h (c.if-n-limit.true ∙ c.limit.ensures))

pub overflow_add-len : goal.overflow_add-len
overflow_add-len c = let a = c.args in omega (arith, c.requires.0, (is-roomy a.n a.e.now c.requires.1).few, max-small)

pub returns : goal.returns
returns c =
    let a = c.args in
    let r = c.requires in
    let u = c.put in
    let m = is-roomy a.n a.e.now r.1 in
    let h : holds (ident a.new) (waiting a.e.now a.n) ≡ false =
    rw (sym c.ident.ensures) (sym (part_has a.e.now a.n c.ident.result c.has.result (omega (arith, m.few, m.room)) c.has.ensures) ∙ c.if-has.false) in
    let j : waiting u.new.e (a.n + 1) ≡ joined (entry (prio a.new) (ident a.new)) (waiting a.e.now a.n) = rw (parts a.new) u.ensures.n_after in
    rw (sym r.0) (enter-joins a.n a.e.now (ident a.new) (prio a.new) r.1 (low a.new) u.new.e h (omega (arith, m.few, c.limit.ensures)) j u.ensures.e_unchanged u.auto.e)
