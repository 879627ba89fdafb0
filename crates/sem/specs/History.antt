-- What holds of a semaphore after any sequence of calls.
use Rattle.std.specs.Prelude.{◌≡◌, List, [], ℕ, ◌≤◌, ◌<◌, length}
use Rattle.kind.specs.Kind.{plain}
use Rattle.kind.specs.Object.{Object}
use Rattle.kind.specs.History.{Event, run, Queued}
use Rattle.sem.specs.Sem.{Sem, Call, sem_kind}

-- a new semaphore
abbrev pub fresh : ℕ → ℕ → Object Sem
fresh c l = record { num = record { count = c; limit = l }; queue = [] }

-- after the events xs, the last in front
abbrev pub after : ℕ → ℕ → List (Event Call) → Object Sem
after c l xs = run sem_kind plain (fresh c l) xs

pub record Promise (c l : ℕ) (xs : List (Event Call)) : Type 0 where
  -- the count is at most the limit, and the limit is the one that it was made with
  pub under : (after c l xs).num.count ≤ (after c l xs).num.limit
  pub limit : (after c l xs).num.limit ≡ l
  -- nobody waits unless the count is 0
  pub idle : 0 < length (after c l xs).queue → (after c l xs).num.count ≡ 0
  pub queue : Queued sem_kind plain (fresh c l) xs
