-- Two kernels that keep the laws of threads do the same with them. Assumes nothing.
use mathlib.Core.Path.{◌≡◌, refl, sym, ap, ◌∙◌}
use mathlib.Core.Logic.{◌⊎◌, inl, inr}
use Prim.Native.Nat.{ℕ, ◌≤◌, ◌<◌}
use native.Mathlib.Omega.{arith}
use lib.IntN.{ℤ}
use borrow.Author.Tests.{eq-eqb}
use Rattle.thread.specs.Priority.{max_priority}
use Rattle.kind.specs.Kind.{Kind}
use Rattle.system.specs.System.{State, absent, running, ready, waiting, number, Sys, dispatch, yield, expire, spawn, Kernel}
use Rattle.system.specs.Rules.{times, Fine}
use Rattle.system.specs.Laws.{OfThreads}
use Rattle.system.proofs.Places.{Split, split}
use Rattle.system.proofs.Same.{under}

module _ {K : Kind} (f g : Kernel K) (s : Sys K) (a : OfThreads f s) (b : OfThreads g s) (fine : Fine s) where
  -- who is in one state is in no other
  pub one-dispatch : (i : ℕ) → f s (dispatch i) ≡ g s (dispatch i)
  one-dispatch i = go (s.state i) refl
    where
      off : ((r : ℤ) → s.state i ≡ ready r → ⊥) → f s (dispatch i) ≡ g s (dispatch i)
      off n = a.runs_not i n ∙ sym (b.runs_not i n)

      go : (x : State) → s.state i ≡ x → f s (dispatch i) ≡ g s (dispatch i)
      go absent h = off (λ r z. absurd (omega (arith, ap number (sym h ∙ z))))
      go running h = off (λ r z. absurd (omega (arith, ap number (sym h ∙ z))))
      go (ready r) h = a.runs i r h ∙ sym (b.runs i r h)
      go (waiting o) h = off (λ r z. absurd (omega (arith, ap number (sym h ∙ z))))

  pub one-yield : (i : ℕ) → f s (yield i) ≡ g s (yield i)
  one-yield i = go (s.state i) refl
    where
      off : (s.state i ≡ running → ⊥) → f s (yield i) ≡ g s (yield i)
      off n = a.back_not i n ∙ sym (b.back_not i n)

      go : (x : State) → s.state i ≡ x → f s (yield i) ≡ g s (yield i)
      go absent h = off (λ z. absurd (omega (arith, ap number (sym h ∙ z))))
      go running h = a.back i h ∙ sym (b.back i h)
      go (ready r) h = off (λ z. absurd (omega (arith, ap number (sym h ∙ z))))
      go (waiting o) h = off (λ z. absurd (omega (arith, ap number (sym h ∙ z))))

  pub one-expire : (i : ℕ) → f s (expire i) ≡ g s (expire i)
  one-expire i = go (s.state i) refl
    where
      off : ((o : ℕ) → s.state i ≡ waiting o → ⊥) → f s (expire i) ≡ g s (expire i)
      off n = a.late_not i n ∙ sym (b.late_not i n)

      go : (x : State) → s.state i ≡ x → f s (expire i) ≡ g s (expire i)
      go absent h = off (λ o z. absurd (omega (arith, ap number (sym h ∙ z))))
      go running h = off (λ o z. absurd (omega (arith, ap number (sym h ∙ z))))
      go (ready r) h = off (λ o z. absurd (omega (arith, ap number (sym h ∙ z))))
      go (waiting o) h =
          let q : Split i (s.queue o) = split i (s.queue o) (let z : times i (s.queue o) ≡ 1 = fine.placed o i ∙ rw (h, eq-eqb o o refl) in omega arith) in
          a.late i o q.entry q.ahead q.behind h q.all q.is ∙ sym (b.late i o q.entry q.ahead q.behind h q.all q.is)

  pub one-spawn : (i p : ℕ) → f s (spawn i p) ≡ g s (spawn i p)
  one-spawn i p = go (s.state i) refl (under i 4294967296) (under p max_priority)
    where
      off : ((s.state i ≡ absent) × (i < 4294967296) × (p < max_priority) → ⊥) → f s (spawn i p) ≡ g s (spawn i p)
      off n = a.born_not i p n ∙ sym (b.born_not i p n)

      go : (x : State) → s.state i ≡ x → (i < 4294967296) ⊎ (4294967296 ≤ i) → (p < max_priority) ⊎ (max_priority ≤ p) → f s (spawn i p) ≡ g s (spawn i p)
      go absent h (inl u) (inl v) = a.born i p h u v ∙ sym (b.born i p h u v)
      go absent h (inl u) (inr v) = off (λ z. absurd (omega (arith, z.2)))
      go absent h (inr u) v = off (λ z. absurd (omega (arith, z.1)))
      go running h u v = off (λ z. absurd (omega (arith, ap number (sym h ∙ z.0))))
      go (ready r) h u v = off (λ z. absurd (omega (arith, ap number (sym h ∙ z.0))))
      go (waiting o) h u v = off (λ z. absurd (omega (arith, ap number (sym h ∙ z.0))))
