-- No contract leaves anything open: of two outcomes from the same memory and the same numbers that both meet it, the answers are the same, and so is
-- every word. What an object needs for it.
use Rattle.std.specs.Prelude.{◌≡◌, true, List, ℕ, take}
use Rattle.seq.specs.Only.{Alike}
use Rattle.store.specs.Store.{Place}

-- the object tells each of the header's own words, and each of its elements of the buffer
pub record Faithful {S : Type 0} (P : Place S) : Type 0 where
  pub header : (h b h' b' : List ℕ) → P.formed h b ≡ true → P.formed h' b' ≡ true → P.object h b ≡ P.object h' b' → Alike P.words h h'
  pub buffer : (h b b' : List ℕ) → P.formed h b ≡ true → P.formed h b' ≡ true → P.object h b ≡ P.object h b' → take (P.size h) b ≡ take (P.size h) b'
