-- What holds of a futex after any sequence of calls.
use Rattle.std.specs.Prelude.{◌≡◌, List, [], ◌∷◌, ℕ}
use Rattle.thread.specs.Code.{ok}
use Rattle.thread.specs.Caller.{caller_code}
use Rattle.store.specs.Store.{accept, left, asked}
use Rattle.kind.specs.Kind.{plain}
use Rattle.kind.specs.Object.{Object}
use Rattle.kind.specs.History.{Event, calls, asks, leaves, run, Queued}
use Rattle.futex.specs.Futex.{Futex, Call, wait, wake_one, wake_all, set, futex_kind}

-- a new futex
abbrev pub fresh : ℕ → Object Futex
fresh v = record { num = record { val = v }; queue = [] }

-- after the events xs, the last in front
abbrev pub after : ℕ → List (Event Call) → Object Futex
after v xs = run futex_kind plain (fresh v) xs

-- the value that a call leaves of v
abbrev pub value : Call → ℕ → ℕ
value (wait x) v = v
value wake_one v = v
value wake_all v = v
value (set x) v = x

-- a caller that is refused leaves it as it was
abbrev pub valued : Event Call → ℕ → ℕ
valued (calls i k) v = value k v
valued (asks i p st h k) v = left (asked (caller_code p st) (accept (value k v) ok [])) v
valued (leaves i) v = v

-- the value that was set last
abbrev pub last : List (Event Call) → ℕ → ℕ
last [] v = v
last (x ∷ past) v = valued x (last past v)

pub record Promise (v : ℕ) (xs : List (Event Call)) : Type 0 where
  pub value : (after v xs).num.val ≡ last xs v
  pub queue : Queued futex_kind plain (fresh v) xs
