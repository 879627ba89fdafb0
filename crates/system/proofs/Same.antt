-- Two kernels that keep the same law of a call do the same with it. Assumes nothing.
use mathlib.Core.Path.{◌≡◌, refl, sym, ◌∙◌}
use mathlib.Core.Bool.{Bool, true, false}
use mathlib.Core.Logic.{◌⊎◌, inl, inr, ⊎_elim}
use mathlib.Core.List.{List, [], ◌∷◌}
use Prim.Native.Nat.{ℕ, ◌≤◌, ◌<◌}
use lib.Dec.{eqb, ltb}
use lib.IntN.{ℤ, pos}
use lib.ListN.{length}
use borrow.Author.Tests.{eqb-true, eqb-false, ltb-true, ltb-false}
use Rattle.wait_queue.specs.Queue.{max_waiters, entry, ident}
use Rattle.kind.specs.Kind.{Kind}
use Rattle.system.specs.System.{waiting, Sys, invoke, done, Kernel}
use Rattle.system.specs.Effect.{is_now, has_wish, has_queue, puts, Waits, WakesOne}
use Rattle.system.proofs.Places.{one_place}

-- two numbers
pub under : (a b : ℕ) → (a < b) ⊎ (b ≤ a)
under a b = go (ltb a b) refl
  where
    go : (c : Bool) → ltb a b ≡ c → (a < b) ⊎ (b ≤ a)
    go true e = inl (ltb-true a b e)
    go false e = inr (ltb-false a b e)

pub alike : (a b : ℕ) → (a ≡ b) ⊎ (a ≡ b → ⊥)
alike a b = go (eqb a b) refl
  where
    go : (c : Bool) → eqb a b ≡ c → (a ≡ b) ⊎ (a ≡ b → ⊥)
    go true e = inl (eqb-true a b e)
    go false e = inr (eqb-false a b e)

module _ {K : Kind} (f g : Kernel K) (s : Sys K) (i o : ℕ) (k : K.Call) where
  pub one-wait : (w : K.Wish) → Waits f s i o k w → Waits g s i o k w → f s (invoke i o k) ≡ g s (invoke i o k)
  one-wait w a b =
      ⊎_elim
      (λ l.
      a.joins l
      ∙ (λ j. (
        puts s (is_now i (waiting o) ∷ has_wish i w ∷ has_queue o
            (one_place (λ x. s.prio (ident x)) (entry (s.prio i) i) (s.prio i) (s.queue o) (a.room l).ahead (a.room l).behind (b.room l).ahead
            (b.room l).behind (a.room l).all
            (b.room l).all (a.room l).high (a.room l).low (b.room l).high (b.room l).low j) ∷ []),
        done (pos 1),
        [],
      ))
      ∙ sym (b.joins l))
      (λ l. a.full l ∙ sym (b.full l))
      (under (length (s.queue o)) max_waiters)

  -- a call that wakes the first
  pub one-wake : (c : ℤ) {E F : Type 0} → (E → F → f s (invoke i o k) ≡ g s (invoke i o k)) → WakesOne f s i o k c E → WakesOne g s i o k c F
      → f s (invoke i o k) ≡ g s (invoke i o k)
  one-wake c t a b = go (s.queue o) refl
    where
      go : (q : List ℕ) → s.queue o ≡ q → f s (invoke i o k) ≡ g s (invoke i o k)
      go [] e = t (a.alone e) (b.alone e)
      go (x ∷ q) e = a.first x q e ∙ sym (b.first x q e)
