-- No contract leaves anything open: of two outcomes from the same memory and the same numbers that both meet it, the answers are the same, and so is
-- every word. What an object needs for it, and this crate's own function.
use Rattle.std.specs.Prelude.{◌≡◌, Bool, List, ℕ, suc, get_or}
use Rattle.seq.specs.Only.{Only, Alike}
use Rattle.kind.specs.Object.{Layout}
use Rattle.kind.specs.Post.{SaysHoused}

-- an object's numbers and the length of its queue tell each of the header's own words
abbrev pub Legible : {N : Type 0} → Layout N → Type 0
Legible L = (h h' : List ℕ) → L.num h ≡ L.num h' → get_or h L.len 0 ≡ get_or h' L.len 0 → Alike (suc L.len) h h'

pub record Determined : Type 0 where
  pub housed : (words : ℕ) (h e : List ℕ) → Only (λ (r : Bool). SaysHoused words h e r)
