-- The memory of each object after an event that touches none, one or two, and an event that wakes nobody. Assumes nothing.
use mathlib.Core.Path.{◌≡◌, refl, sym, subst, ap, ◌∙◌}
use mathlib.Core.Bool.{Bool, true, false}
use mathlib.Core.List.{List, [], ◌∷◌, map}
use Prim.Native.Nat.{ℕ}
use lib.Dec.{eqb}
use borrow.Author.Tests.{eqb-true, eqb-false}
use Rattle.kind.specs.Kind.{Kind}
use Rattle.system.specs.System.{object, Sys, Woken, Reply}
use Rattle.system.specs.Functions.{Memory}
use Rattle.system.specs.Link.{read, Handed, Readies}
use Rattle.system.specs.World.{Library, World, Event, Agrees, Elsewhere}
use Rattle.system.specs.History.{Holds, Shows}
use Rattle.system.proofs.Link.{is-kept}
use Rattle.system.proofs.Elsewhere.{Kept}

module _ {K : Kind} (C : Library K) (sort : ℕ → C.Sort) (s : Sys K) (w w' : World) (shows : Shows C sort s w) where
  abbrev pub There : Sys K → ℕ → Type 0
  There t x = (n : K.Num) → t.slot x ≡ object n → Holds C sort t x (w' x)

  -- an object that is not touched
  pub stays : (t : Sys K) (x : ℕ) → Kept s t x → w' x ≡ w x → There t x
  stays t x k e n z =
      subst (λ (m : Memory). Holds C sort t x m) (sym e)
      (is-kept (C.class (sort x)).code.layout (C.class (sort x)).part.num s t x (w x).header (w x).entries k.slot k.queue
      (shows x n (sym k.slot ∙ z)))

  -- one is touched, and the others stay; two are
  pub one_touched : (t : Sys K) (o : ℕ) → There t o → ((x : ℕ) → (o ≡ x → ⊥) → Kept s t x) → Elsewhere (o ∷ []) w w' → (x : ℕ) → There t x
  one_touched t o here kept off x = go (eqb o x) refl
    where
      go : (b : Bool) → eqb o x ≡ b → There t x
      go true e = subst (λ (y : ℕ). There t y) (eqb-true o x e) here
      go false e = stays t x (kept x (eqb-false o x e)) (off x (eqb-false o x e, tt))

  pub two_touched : (t : Sys K) (a b : ℕ) → There t a → There t b → ((x : ℕ) → (a ≡ x → ⊥) → (b ≡ x → ⊥) → Kept s t x) → Elsewhere (a ∷ b ∷ []) w w' → (x : ℕ)
      → There t x
  two_touched t a b here there kept off x = go (eqb a x) (eqb b x) refl refl
    where
      go : (c d : Bool) → eqb a x ≡ c → eqb b x ≡ d → There t x
      go true d e f = subst (λ (y : ℕ). There t y) (eqb-true a x e) here
      go false true e f = subst (λ (y : ℕ). There t y) (eqb-true b x f) there
      go false false e f = stays t x (kept x (eqb-false a x e) (eqb-false b x f)) (off x (eqb-false a x e, (eqb-false b x f, tt)))

-- nobody is woken, and no place was lent
pub silent : {K : Kind} (e : Event K) (y : Reply K) → e.answer ≡ y.1 → y.2 ≡ [] → e.filled ≡ e.lent → e.told ≡ [] → Agrees e y
silent e y a z f t =
    record {
      answer = a;
      handed = subst (λ (l : List Woken). Handed l e.lent e.filled) (sym z) f;
      reads = ap (map read) t ∙ sym z;
    }

pub unroused : {K : Kind} (s t : Sys K) (i : ℕ) {l : List Woken} → l ≡ [] → ((x : ℕ) → (i ≡ x → ⊥) → t.state x ≡ s.state x) → Readies s i l t
unroused s t i e f = rw e (record { ready = tt; others = λ x a n. f x n })
