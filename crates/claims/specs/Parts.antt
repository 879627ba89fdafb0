-- Parts of a memory of which one was lent.
use Rattle.std.specs.Prelude.{◌≡◌, List, ◌++◌, ℕ, ◌+◌, ◌≤◌, take, drop}
use Rattle.seq.specs.Part.{part}

-- of l and l', which differ at most in n words from a on: every other part is the same, and if that one is, all is
pub record Apart (a n : ℕ) (l l' : List ℕ) : Type 0 where
  pub below : (i k : ℕ) → i + k ≤ a → part i k l' ≡ part i k l
  pub above : (i k : ℕ) → a + n ≤ i → part i k l' ≡ part i k l
  pub whole : part a n l' ≡ part a n l → l' ≡ l

-- n words of l from a on were lent, and came back as v
abbrev pub returned : ℕ → ℕ → List ℕ → List ℕ → List ℕ
returned a n l v = take a l ++ (v ++ drop n (drop a l))
