-- What holds of a condition variable after any sequence of calls.
use Rattle.std.specs.Prelude.{List, []}
use Rattle.kind.specs.Kind.{plain}
use Rattle.kind.specs.Object.{Object}
use Rattle.kind.specs.History.{Event, run, Queued}
use Rattle.condvar.specs.Condvar.{Call, condvar_kind}

-- a new condition variable
abbrev pub fresh : Object (Unit {0})
fresh = record { num = tt; queue = [] }

-- after the events xs, the last in front
abbrev pub after : List (Event Call) → Object (Unit {0})
after xs = run condvar_kind plain fresh xs

-- it promises what its queue does
abbrev pub Promise : List (Event Call) → Type 0
Promise xs = Queued condvar_kind plain fresh xs
