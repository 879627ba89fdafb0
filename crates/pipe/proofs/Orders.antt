-- The books of a pipe where threads wait: what went in, in the order of the writes. Assumes nothing.
use mathlib.Core.Path.{◌≡◌, refl, sym, ap, subst, ◌∙◌}
use mathlib.Core.List.{List, [], ◌∷◌, ◌++◌, append_assoc, append-nil}
use Prim.Native.Nat.{ℕ, ◌≤◌, ◌<◌}
use native.Mathlib.Omega.{arith}
use lib.ListN.{length, take, drop, take-append-drop, length-take}
use lib.Seq.{take_all, take-take}
use Rattle.seq.specs.List.{All}
use Rattle.pipe.specs.Fair.{joined, Cut, Fed}

-- ---- the line

joined_snoc : (a : List (List ℕ)) (x : List ℕ) → joined (a ++ x ∷ []) ≡ joined a ++ x
joined_snoc [] x = append-nil x
joined_snoc (y ∷ a) x = ap (λ (z : List ℕ). y ++ z) (joined_snoc a x) ∙ sym (append_assoc y (joined a) x)

module _ (g h : List ℕ) (a : List (List ℕ)) (e : g ++ h ≡ joined a) where
  -- x goes behind what is held
  pub line_in : (x : List ℕ) → g ++ (h ++ x) ≡ joined (a ++ x ∷ [])
  line_in x = sym (append_assoc g h x) ∙ ap (λ (z : List ℕ). z ++ x) e ∙ sym (joined_snoc a x)

  -- the first n leave
  pub line-out : (n : ℕ) → (g ++ take n h) ++ drop n h ≡ joined a
  line-out n = append_assoc g (take n h) (drop n h) ∙ ap (λ (z : List ℕ). g ++ z) (take-append-drop n h) ∙ e

-- ---- the order of the writes

-- a write with its first bytes
abbrev Part : List ℕ → List ℕ → Type 0
Part x y = (x ≡ take (length x) y) × (0 < length x)

cut_snoc : (a b : List (List ℕ)) (x y : List ℕ) → Part x y → Cut a b → Cut (a ++ x ∷ []) (b ++ y ∷ [])
cut_snoc [] [] x y k e = (k, tt)
cut_snoc [] (z ∷ b) x y k e = absurd e
cut_snoc (z ∷ a) [] x y k e = absurd e
cut_snoc (z ∷ a) (v ∷ b) x y k e = (e.0, cut_snoc a b x y k e.1)

part-take : (n : ℕ) (l : List ℕ) → 0 < n → n ≤ length l → Part (take n l) l
part-take n l f g = let t : length (take n l) ≡ n = length-take n l ∙ omega arith in (ap (λ (k : ℕ). take k l) (sym t), omega arith)

-- a write that goes in at once: nobody waits
pub cut_in : (a b : List (List ℕ)) (n : ℕ) (l : List ℕ) → 0 < n → n ≤ length l → Cut (a ++ []) b → Cut ((a ++ take n l ∷ []) ++ []) (b ++ l ∷ [])
cut_in a b n l f g e =
    subst (λ (z : List (List ℕ)). Cut z (b ++ l ∷ [])) (sym (append-nil (a ++ take n l ∷ [])))
    (cut_snoc a b (take n l) l (part-take n l f g) (subst (λ (z : List (List ℕ)). Cut z b) (append-nil a) e))

-- one that waits, behind the others
pub cut-wait : (a w b : List (List ℕ)) (l : List ℕ) → 0 < length l → Cut (a ++ w) b → Cut (a ++ (w ++ l ∷ [])) (b ++ l ∷ [])
cut-wait a w b l f e =
    subst (λ (z : List (List ℕ)). Cut z (b ++ l ∷ [])) (append_assoc a w (l ∷ [])) (cut_snoc (a ++ w) b l l (sym (take_all (length l) l (omega arith)), f) e)

part-less : (n : ℕ) (x y : List ℕ) → 0 < n → n ≤ length x → Part x y → Part (take n x) y
part-less n x y f g k =
    let t : length (take n x) ≡ n = length-take n x ∙ omega arith in
    (ap (take n) k.0 ∙ take-take n (length x) y g ∙ ap (λ (j : ℕ). take j y) (sym t), omega arith)

-- the first that waits is let in, with n of its bytes
pub cut-enter : (a : List (List ℕ)) (x : List ℕ) (w b : List (List ℕ)) (n : ℕ) → 0 < n → n ≤ length x → Cut (a ++ x ∷ w) b → Cut ((a ++ take n x ∷ []) ++ w) b
cut-enter [] x w [] n f g e = absurd e
cut-enter [] x w (y ∷ b) n f g e = (part-less n x y f g e.0, e.1)
cut-enter (z ∷ a) x w [] n f g e = absurd e
cut-enter (z ∷ a) x w (y ∷ b) n f g e = (e.0, cut-enter a x w b n f g e.1)

-- those that wait do not count any more
pub cut-close : (a w b : List (List ℕ)) → Cut (a ++ w) b → Cut (a ++ []) (take (length a) b)
cut-close [] w b e = tt
cut-close (x ∷ a) w [] e = absurd e
cut-close (x ∷ a) w (y ∷ b) e = (e.0, cut-close a w b e.1)

-- ---- the order of the readers

pub fed-begs : (k w b : List ℕ) (n : ℕ) → Fed k w b → Fed k (w ++ n ∷ []) (b ++ n ∷ [])
fed-begs [] w b n e = ap (λ (z : List ℕ). z ++ n ∷ []) e
fed-begs (x ∷ k) w [] n e = absurd e
fed-begs (x ∷ k) w (y ∷ b) n e = (e.0, fed-begs k w b n e.1)

pub fed_first : (k : List ℕ) (a : ℕ) (w b : List ℕ) (n : ℕ) → 0 < n → n ≤ a → Fed k (a ∷ w) b → Fed (k ++ n ∷ []) w b
fed_first [] a w b n f g e = subst (Fed (n ∷ []) w) e ((f, g), refl)
fed_first (x ∷ k) a w [] n f g e = absurd e
fed_first (x ∷ k) a w (y ∷ b) n f g e = (e.0, fed_first k a w b n f g e.1)

pub fed-close : (k w b : List ℕ) → Fed k w b → Fed k [] (take (length k) b)
fed-close [] w b e = refl
fed-close (x ∷ k) w [] e = absurd e
fed-close (x ∷ k) w (y ∷ b) e = (e.0, fed-close k w b e.1)

pub all_snoc : {A : Type 0} (P : A → Type 0) (l : List A) (x : A) → All P l → P x → All P (l ++ x ∷ [])
all_snoc P [] x a e = (e, tt)
all_snoc P (y ∷ l) x a e = (a.0, all_snoc P l x a.1 e)
