-- A thread joins a queue of none or of one: its entry goes where the loops would have stopped. Assumes nothing.
use mathlib.Core.Path.{◌≡◌, refl, sym, ◌∙◌}
use mathlib.Core.Bool.{true, false}
use mathlib.Core.List.{List}
use Prim.Native.Nat.{ℕ, ◌+◌, ◌≤◌, ◌<◌}
use native.Mathlib.Omega.{arith}
use lib.IntN.{pos}
use lib.ListN.{length, get_or, set, length-set}
use borrow.Author.Tests.{le-leb}
use Rattle.thread.specs.Code.{ebusy}
use Rattle.wait_queue.specs.Queue.{max_waiters, entry, prio, ident, waiting, roomy, holds}
use Rattle.wait_queue.specs.Post.{Enters}
use Rattle.wait_queue.specs.Parts.{Shifted, Stopped}
use Rattle.wait_queue.proofs.Memory.{max-two}
use Rattle.wait_queue.proofs.Insertion.{prio-entry, top-under, top-over, shift-start, shift-on, shift-end, shift_rest}
use Rattle.wait_queue.proofs.Loops.{has_hit, has_miss}
use Rattle.wait_queue.proofs.Answers.{enter-twice, enter-joins}

module _ (e : List ℕ) (i p : ℕ) (room : max_waiters ≤ length e) (small : i < 4294967296) where
  fits : (n : ℕ) → n ≤ 1 → roomy n e ≡ true
  fits n h =
      let f : n ≤ max_waiters = omega (arith, max-two) in
      rw (le-leb n max_waiters f, le-leb max_waiters (length e) room)

  joins : (n k : ℕ) (e' : List ℕ) → n ≤ 1 → holds i (waiting e n) ≡ false → Shifted p n e k e' → Stopped p e k
      → Enters i p n e (pos 1) (n + 1) (set e' k (entry p i))
  joins n k e' h a s t =
      let q : prio (entry p i) ≡ p = prio-entry p i small in
      let r : n < length e = omega (arith, max-two) in
      let d : Shifted (prio (entry p i)) n e k e' = rw q s in
      enter-joins n e i p (fits n h) small (set e' k (entry p i)) a (omega (arith, max-two)) (shift-end n (entry p i) e k e' r d (rw q t))
      (shift_rest n (entry p i) e k e' r d) (length-set e' k (entry p i) ∙ s.long)

  pub first-joins : Enters i p 0 e (pos 1) 1 (set e 0 (entry p i))
  first-joins = joins 0 0 e (omega arith) refl (shift-start p 0 e) tt

  pub second-twice : ident (get_or e 0 0) ≡ i → Enters i p 1 e ebusy 1 e
  second-twice h = enter-twice 1 e i p (fits 1 (omega arith)) small (sym (has_hit e 0 i h))

  module _ (other : ident (get_or e 0 0) ≡ i → ⊥) where
    -- the one that waits is of lower priority
    pub second-leads : entry p 4294967295 < get_or e 0 0 → Enters i p 1 e (pos 1) 2 (set e 1 (entry p i))
    second-leads h = joins 1 1 e (omega arith) (sym (has_miss e 0 i false other refl)) (shift-start p 1 e) (top-over p (get_or e 0 0) h)

    pub second_follows : get_or e 0 0 ≤ entry p 4294967295 → Enters i p 1 e (pos 1) 2 (set (set e 1 (get_or e 0 0)) 0 (entry p i))
    second_follows h =
        joins 1 0 (set e 1 (get_or e 0 0)) (omega arith) (sym (has_miss e 0 i false other refl))
        (shift-on p 1 e 1 e 0 (omega (arith, max-two)) refl (shift-start p 1 e) (top-under p (get_or e 0 0) h)) tt
