-- The whole statement holds. Assumes nothing.
use mathlib.Core.Path.{◌≡◌, sym, subst}
use mathlib.Core.List.{List}
use Rattle.system.specs.System.{Sys, Op, Kernel, step, after}
use Rattle.system.specs.Sum.{first, later}
use Rattle.system.specs.Rules.{Fine, Start}
use Rattle.system.specs.Run.{Run, run}
use Rattle.system.specs.Laws.{Laws}
use Rattle.system.specs.Rtos.{kinds, members, rtos, sem_part, mutex_part}
use Rattle.system.specs.Theorems.{Theorems, Whole}
use Rattle.system.proofs.Steps.{always}
use Rattle.system.proofs.Orders.{ordered}
use Rattle.system.proofs.Bests.{best}
use Rattle.system.proofs.Lives.{refuses, silent, lives}
use Rattle.system.proofs.Ledgers.{ledgers}
use Rattle.system.proofs.SemTheorems.{semaphores}
use Rattle.system.proofs.MutexTheorems as mutex
use Rattle.system.proofs.Sheets.{fits-of}
use Rattle.system.proofs.Limits.{mutex-limit}
use Rattle.system.proofs.Determined.{same-state, same_next}
use Rattle.system.proofs.Rtos.{sheets, rtos_lawful, determined}

-- of our step
module _ (s : Sys rtos) (b : Start s) (past : List (Op rtos)) where
  fine : Fine (after s past)
  fine = always rtos_lawful s b past

  pub theorems : Theorems (run step s) past
  theorems =
      record {
        placed = fine.placed;
        known = fine.known;
        own = fine.own;
        formed = fine.formed;
        bare = fine.bare;
        kept = fine.kept;
        ordered = ordered rtos_lawful s b past;
        best = best rtos_lawful sheets.turnwise s b past;
        life = λ x t. lives rtos_lawful (after s past) fine t x;
        refuses = λ x c e. (refuses (after s past) x c e, silent (after s past) x c e);
        ledgers = ledgers rtos_lawful s b past;
        semaphores = semaphores rtos_lawful sem_part (fits-of {l = kinds} first) s b past;
        limited = mutex-limit s b past;
        mutexes = mutex.mutexes rtos_lawful mutex_part (fits-of {l = kinds} (later first)) s b past;
      }

-- of every kernel that keeps the laws: its runs are ours
same-run : (f : Kernel rtos) → Laws members f → (s : Sys rtos) → Start s → run f s ≡ run step s
same-run f a s b =
    λ j. record { state = λ past. same-state sheets f a s b past j; answer = λ past x. (same_next sheets f a s b past x j).1; woken = λ past x. (same_next sheets f a s b past x j).2 }

pub all : Whole
all = record { determined = determined; theorems = λ f a s b past. subst (λ (R : Run rtos). Theorems R past) (sym (same-run f a s b)) (theorems s b past) }
