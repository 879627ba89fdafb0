-- Contracts that leave nothing open, and those that are made of such. Assumes nothing.
use mathlib.Core.Path.{◌≡◌, refl, sym, ap, ◌∙◌}
use mathlib.Core.Bool.{Bool, true, false}
use mathlib.Core.List.{List, [], ◌∷◌}
use Prim.Native.Nat.{ℕ, zero, suc, ◌+◌, ◌-◌, ◌≤◌}
use native.Mathlib.Omega.{arith}
use lib.Dec.{ltb}
use lib.ListN.{length, get_or, take, drop}
use lib.Seq.{get_or-drop, ext_get_or}
use borrow.Author.Tests.{ltb-true, ltb-false}
use Rattle.seq.specs.List.{back}
use Rattle.seq.specs.Only.{Only, Alike}

-- an answer that is said
pub said : {A : Type 0} (a : A) → Only (λ (x : A). x ≡ a)
said a x y p q = p ∙ sym q

-- two parts, each fixed by itself
pub two : {A B : Type 0} (P : A → Type 0) (Q : B → Type 0) → Only P → Only Q → Only (λ ((x, y) : A × B). P x × Q y)
two P Q p q x y m n = λ i. (p x.0 y.0 m.0 n.0 i, q x.1 y.1 m.1 n.1 i)

-- an answer and a word, and another word
pub and : {A B C : Type 0} (P : A → B → Type 0) (Q : C → Type 0) → Only (λ ((x, y) : A × B). P x y) → Only Q → Only (λ ((x, y, z) : A × B × C). P x y × Q z)
and P Q p q x y m n = let k = p (x.0, x.1) (y.0, y.1) m.0 n.0 in λ i. ((k i).0, (k i).1, q x.2 y.2 m.1 n.1 i)

-- what is true exactly if P is
pub exactly : {P : Type 0} (x y : Bool) → (x ≡ true → P) → (P → x ≡ true) → (y ≡ true → P) → (P → y ≡ true) → x ≡ y
exactly true y a b c d = sym (d (a refl))
exactly false true a b c d = b (c refl)
exactly false false a b c d = refl

-- words that are read backwards
pub back_alike : (n : ℕ) (e e' : List ℕ) → back e n ≡ back e' n → Alike n e e'
back_alike zero e e' p i k = absurd (omega arith)
back_alike (suc n) e e' p i k = go (back_alike n e e' others) (ltb i n) refl
  where
    first : get_or e n 0 ≡ get_or e' n 0
    first = cc

    others : back e n ≡ back e' n
    others = cc

    go : Alike n e e' → (b : Bool) → ltb i n ≡ b → get_or e i 0 ≡ get_or e' i 0
    go a true z = a i (ltb-true i n z)
    go a false z = let y : i ≡ n = omega (arith, ltb-false i n z) in rw y first

-- the first n words, and those behind
pub alike_only : (n : ℕ) (e e' : List ℕ) → length e ≡ length e' → Alike n e e' → drop n e ≡ drop n e' → e ≡ e'
alike_only n e e' l a d = ext_get_or 0 e e' l (λ i b. go i (ltb i n) refl)
  where
    go : (i : ℕ) (b : Bool) → ltb i n ≡ b → get_or e i 0 ≡ get_or e' i 0
    go i true z = a i (ltb-true i n z)
    go i false z =
        let k : n + (i - n) ≡ i = omega (arith, ltb-false i n z) in
        let x : get_or e (n + (i - n)) 0 ≡ get_or e' (n + (i - n)) 0 =
        sym (get_or-drop n e (i - n) 0) ∙ ap (λ (l : List ℕ). get_or l (i - n) 0) d ∙ get_or-drop n e' (i - n) 0 in
        rw k at x

pub take_alike : (n : ℕ) (e e' : List ℕ) → n ≤ length e → n ≤ length e' → Alike n e e' → take n e ≡ take n e'
take_alike zero e e' l m a = refl
take_alike (suc n) [] e' l m a = absurd (omega arith)
take_alike (suc n) (x ∷ e) [] l m a = absurd (omega arith)
take_alike (suc n) (x ∷ e) (y ∷ e') l m a =
    let z : x ≡ y = a 0 (omega arith) in
    let t = take_alike n e e' (omega arith) (omega arith) (λ i b. a (suc i) (omega arith)) in
    λ i. z i ∷ t i
