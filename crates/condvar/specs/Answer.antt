-- The number of what a signal is to do, as C is told it: how many are to be woken.
use Rattle.std.specs.Prelude.{ℤ, pos}
use Rattle.condvar.specs.declared.SignalAction.{SignalAction}
use Rattle.condvar.specs.declared.SignalAction.TheVariants.{Noop, WakeOne}

abbrev pub to_signal : SignalAction → ℤ
to_signal Noop = pos 0
to_signal WakeOne = pos 1
