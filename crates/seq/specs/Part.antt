-- A part of a list that is lent, as a slice of a larger memory.
use Rattle.std.specs.Prelude.{◌≡◌, List, ℕ, ◌+◌, ◌≤◌, ◌<◌, ℤ, length, get_or, take, drop}

-- n words of l from a on
unfoldable pub part : ℕ → ℕ → List ℕ → List ℕ
part a n l = take n (drop a l)

-- every word but those from a to below a + n stays
pub record Within (a n : ℕ) (l l' : List ℕ) : Type 0 where
  pub long : length l' ≡ length l
  pub below : (j : ℕ) → j < a → get_or l' j 0 ≡ get_or l j 0
  pub above : (j : ℕ) → a + n ≤ j → get_or l' j 0 ≡ get_or l j 0

-- the contract C was met on the parts of h and b that were lent: n words from a on, and m from c on; every other word stays
pub record At (C : List ℕ → List ℕ → ℤ → List ℕ → List ℕ → Type 0) (a n c m : ℕ) (h b : List ℕ) (r : ℤ) (h' b' : List ℕ) : Type 0 where
  pub does : C (part a n h) (part c m b) r (part a n h') (part c m b')
  pub header : Within a n h h'
  pub memory : Within c m b b'
