-- Any sequence of calls keeps what a condition variable promises. Assumes nothing.
use mathlib.Core.Path.{refl}
use mathlib.Core.List.{List}
use Rattle.kind.specs.Kind.{plain}
use Rattle.kind.specs.History.{Event}
use Rattle.kind.proofs.Histories.{always}
use Rattle.condvar.specs.Condvar.{Call, condvar_kind}
use Rattle.condvar.specs.History.{Promise}
use Rattle.condvar.proofs.Law.{condvar_lawful}

pub condvar_history : (xs : List (Event Call)) → Promise xs
condvar_history xs = (always condvar_kind condvar_lawful plain tt xs refl).queue
