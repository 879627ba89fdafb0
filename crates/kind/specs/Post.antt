-- What this crate's own function ensures.
use Rattle.std.specs.Prelude.{◌≡◌, Bool, List, ℕ}
use Rattle.kind.specs.Object.{sized}

-- the header and the entries have their room, whatever they hold
abbrev pub SaysHoused : ℕ → List ℕ → List ℕ → Bool → Type 0
SaysHoused words h e r = r ≡ sized words h e
