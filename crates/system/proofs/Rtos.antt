-- The members of the system have their data sheets. To add a kind is one line here. Assumes nothing.
use Rattle.kind.specs.Kind.{Lawful}
use Rattle.system.specs.Rtos.{members, rtos}
use Rattle.system.specs.Sum.{nones}
use Rattle.system.specs.Determined.{Determined}
use Rattle.system.proofs.Sheets.{Sheet, ◌and◌}
use Rattle.system.proofs.SemSheet.{sem_sheet}
use Rattle.system.proofs.MutexSheet.{mutex_sheet}
use Rattle.system.proofs.CondvarSheet.{condvar_sheet}
use Rattle.system.proofs.FutexSheet.{futex_sheet}
use Rattle.system.proofs.Determined as kernel

-- there is no object of the last
none_sheet : Sheet nones
none_sheet =
    record {
      lawful =
          record {
            sound = λ n v q w k f. absurd n;
            right = λ n v q w k f d r. absurd n;
            fewer = λ n f. absurd n;
            made = λ n e. absurd n;
            booked = λ n v q w k f. absurd n;
          };
      turnwise = λ n v q w k. absurd n;
      makes = λ n e. absurd n;
      made = λ n e. absurd n;
      foreign = λ n v q w k e. absurd n;
      keeps = λ P h s g i o n e r. absurd n;
      fixes = λ P f g s i o n k w a b e. absurd n;
    }

-- a further kind is one more line
pub sheets : Sheet members
sheets =
    sem_sheet
    and mutex_sheet
    and condvar_sheet
    and futex_sheet
    and none_sheet

pub rtos_lawful : Lawful rtos
rtos_lawful = sheets.lawful

pub determined : Determined members
determined = kernel.determined sheets
