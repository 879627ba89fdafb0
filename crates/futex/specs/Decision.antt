-- What a wake is to do, as document 01 numbers it: the answer is how many are to be woken, and a word holds how many stay.
use Rattle.std.specs.Prelude.{ℕ, ℤ, pos}
use Rattle.futex.specs.declared.WakeDecision.{WakeDecision}

abbrev pub woken : WakeDecision → ℤ
woken d = pos d.woken

abbrev pub remaining : WakeDecision → ℕ → ℕ
remaining d n = d.remaining
