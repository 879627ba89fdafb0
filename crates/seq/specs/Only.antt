-- What leaves nothing open: a contract that one outcome meets at most, and words that are the same.
use Rattle.std.specs.Prelude.{◌≡◌, List, ℕ, ◌<◌, get_or}

-- whatever meets P is the same
abbrev pub Only : {A : Type 0} → (A → Type 0) → Type 0
Only {A} P = (x y : A) → P x → P y → x ≡ y

-- the first n words are the same
abbrev pub Alike : ℕ → List ℕ → List ℕ → Type 0
Alike n e e' = (i : ℕ) → i < n → get_or e i 0 ≡ get_or e' i 0
