-- A clause speaks of an answer by its number and by the words that it leaves; these tell which answer it is. Here are the answers of several crates; in
-- the file of this name of each crate are its own.
use Rattle.std.specs.Prelude.{ℕ, pos, Bool, Option, ⊤}
use Rattle.thread.specs.Answer.{Tells, TellsBy, itself, done, truth, whether, given}

pub record Determined : Type 0 where
  pub nothing : Tells {T = ⊤} done
  pub test : Tells {T = Bool} truth
  pub number : Tells {T = ℕ} pos
  pub word : TellsBy {T = ℕ} done itself
  pub maybe_word : TellsBy {T = Option ℕ} whether given
