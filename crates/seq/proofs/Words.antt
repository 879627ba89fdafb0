-- A header of so many words and more is these words and what is behind them. Assumes nothing.
use mathlib.Core.Path.{◌≡◌, refl, ap}
use mathlib.Core.List.{List, [], ◌∷◌}
use Prim.Native.Nat.{ℕ, zero, suc, ◌≤◌}
use native.Mathlib.Omega.{arith}
use lib.ListN.{length, get_or, drop}

-- the words of h up to k, one by one, and the rest
abbrev pub spelled : ℕ → List ℕ → List ℕ
spelled zero h = h
spelled (suc k) h = get_or h 0 0 ∷ spelled k (drop 1 h)

-- rw by it shows the words, and reading and writing one of them computes
pub spell : (k : ℕ) (h : List ℕ) → k ≤ length h → h ≡ spelled k h
spell zero h l = refl
spell (suc k) [] l = absurd (omega arith)
spell (suc k) (x ∷ h) l = ap (λ (t : List ℕ). x ∷ t) (spell k h (omega arith))

-- P holds of all such headers
abbrev pub Each : ℕ → (List ℕ → Type 0) → Type 0
Each zero P = (h : List ℕ) → P h
Each (suc k) P = (x : ℕ) → Each k (λ h. P (x ∷ h))

pub by-words : (k : ℕ) (P : List ℕ → Type 0) → Each k P → (h : List ℕ) → k ≤ length h → P h
by-words zero P f h l = f h
by-words (suc k) P f [] l = absurd (omega arith)
by-words (suc k) P f (x ∷ h) l = by-words k (λ t. P (x ∷ t)) (f x) h (omega arith)
