-- The numbers by which C is told what a call is to do.
use Rattle.std.specs.Prelude.{ℤ}
use Rattle.msgq.specs.Msgq.{stored, wakes_reader, is_read, wakes_writer, pends}
use Rattle.msgq.specs.declared.PutDecision.{PutDecision}
use Rattle.msgq.specs.declared.PutDecision.TheVariants as putting
use Rattle.msgq.specs.declared.GetDecision.{GetDecision}
use Rattle.msgq.specs.declared.GetDecision.TheVariants as getting

abbrev pub put_code : PutDecision → ℤ
put_code putting.Store = stored
put_code putting.WakeReader = wakes_reader
put_code putting.Pend = pends

abbrev pub get_code : GetDecision → ℤ
get_code getting.Read = is_read
get_code getting.WakeWriter = wakes_writer
get_code getting.Pend = pends
