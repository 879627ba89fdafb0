-- A buffer as messages of one size.
use Rattle.std.specs.Prelude.{List, [], ◌∷◌, ℕ, zero, suc, take, drop}

-- the first n messages of a buffer, each of `size` bytes, one behind the other
unfoldable pub slots : ℕ → ℕ → List ℕ → List (List ℕ)
slots size zero b = []
slots size (suc n) b = take size b ∷ slots size n (drop size b)
