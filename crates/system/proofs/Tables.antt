-- A kernel that keeps its table of states by what it is told has the states of the system. Assumes nothing.
use mathlib.Core.Path.{◌≡◌, refl, sym, ap, subst, ◌∙◌}
use mathlib.Core.Bool.{Bool, true, false}
use mathlib.Core.List.{List, [], ◌∷◌, map}
use Prim.Native.Nat.{ℕ}
use lib.Dec.{eqb}
use borrow.Author.Tests.{eqb-true, eqb-false}
use Rattle.seq.specs.List.{All}
use Rattle.kind.specs.Kind.{Kind}
use Rattle.system.specs.System.{State, ready, Sys, Woken}
use Rattle.system.specs.Link.{read, Readies}
use Rattle.system.specs.World.{Event, Notes}

-- who is in l is ready in both tables, with the same result
alike : (T U : ℕ → State) (t : ℕ) (l : List Woken) → All (λ (w : Woken). T w.thread ≡ ready w.result) l
    → All (λ (w : Woken). U w.thread ≡ ready w.result) l
    → (All (λ (w : Woken). w.thread ≡ t → ⊥) l → T t ≡ U t) → T t ≡ U t
alike T U t [] a b f = f tt
alike T U t (w ∷ l) a b f = go (eqb w.thread t) refl (λ n. alike T U t l a.1 b.1 (λ x. f (n, x)))
  where
    go : (c : Bool) → eqb w.thread t ≡ c → ((w.thread ≡ t → ⊥) → T t ≡ U t) → T t ≡ U t
    go true e k = subst (λ (x : ℕ). T x ≡ U x) (eqb-true w.thread t e) (a.0 ∙ sym b.0)
    go false e k = k (eqb-false w.thread t e)

module _ {K : Kind} (s u : Sys K) (e : Event K) (l : List Woken) (reads : map read e.told ≡ l) (readies : Readies s e.by l u)
    (caller : u.state e.by ≡ e.becomes (s.state e.by)) (T T' : ℕ → State) (same : (t : ℕ) → T t ≡ s.state t) (n : Notes e T T') where
  pub table : (t : ℕ) → T' t ≡ u.state t
  table t = go (eqb e.by t) refl
    where
      go : (c : Bool) → eqb e.by t ≡ c → T' t ≡ u.state t
      go true z = subst (λ (x : ℕ). T' x ≡ u.state x) (eqb-true e.by t z) (n.caller ∙ ap e.becomes (same e.by) ∙ sym caller)
      go false z =
          alike T' u.state t l (subst (λ (y : List Woken). All (λ (w : Woken). T' w.thread ≡ ready w.result) y) reads n.ready) readies.ready
          (λ x.
          n.others t (subst (λ (y : List Woken). All (λ (w : Woken). w.thread ≡ t → ⊥) y) (sym reads) x) (eqb-false e.by t z) ∙ same t
          ∙ sym (readies.others t x (eqb-false e.by t z)))
