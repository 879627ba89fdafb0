-- What private functions ensure.
use Rattle.std.specs.Prelude.{◌≡◌, true, false, List, ℕ, ◌+◌, ◌<◌, Result, Ok, Err, Option, Some, None, get_or, set}
use Rattle.thread.specs.declared.Errno.{Errno}
use Rattle.thread.specs.declared.Errno.TheVariants.{EINVAL, EOVERFLOW}
use Rattle.kind.specs.Object.{sane}
use Rattle.mutex.specs.Mutex.{max_count, mutex_kind}
use Rattle.mutex.specs.Post.{layout}

-- the owner, as the header has it
abbrev pub OwnedBy : List ℕ → Option ℕ → Type 0
OwnedBy h None = (get_or h 0 0 ≡ 0) × (get_or h 2 0 ≡ 0)
OwnedBy h (Some i) = (0 < get_or h 0 0) × (i ≡ get_or h 1 0) × (0 < get_or h 2 0)

-- of a mutex that is as it should be
abbrev pub Owned : List ℕ → List ℕ → Result (Option ℕ) Errno → Type 0
Owned h e (Ok x) = (sane mutex_kind layout h e ≡ true) × OwnedBy h x
Owned h e (Err x) = (sane mutex_kind layout h e ≡ false) × (x ≡ EINVAL)

-- one lock more
abbrev pub Nests : List ℕ → Result (Unit {0}) Errno → List ℕ → Type 0
Nests h (Ok x) h' = (get_or h 2 0 < max_count) × (h' ≡ set h 2 (get_or h 2 0 + 1))
Nests h (Err x) h' = (get_or h 2 0 ≡ max_count) × (x ≡ EOVERFLOW) × (h' ≡ h)
