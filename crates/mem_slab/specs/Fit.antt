-- What memory that is fit shows.
use Rattle.std.specs.Prelude.{List, ℕ, ◌≤◌, ◌<◌, length, get_or}

-- the numbers of a slab
pub record Sound (h l : List ℕ) : Type 0 where
  pub words : 4 ≤ length h
  pub blocks : 0 < get_or h 0 0
  pub sized : 0 < get_or h 1 0
  pub few : get_or h 2 0 ≤ get_or h 0 0
  pub inside : get_or h 3 0 < get_or h 0 0
  pub room : get_or h 0 0 ≤ length l

-- the next block names one, unless all are out
pub record Fit (h l : List ℕ) : Type 0 where
  pub sound : Sound h l
  pub free : get_or h 2 0 < get_or h 0 0 → 0 < get_or l (get_or h 3 0) 0
  pub named : get_or h 2 0 < get_or h 0 0 → get_or l (get_or h 3 0) 0 ≤ get_or h 0 0
