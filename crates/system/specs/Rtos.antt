-- The objects of the system: semaphores, mutexes, condition variables, futexes. To add a kind is one line here.
use Rattle.std.proofs.Common.{inl, inr}
use Rattle.kind.specs.Kind.{Kind}
use Rattle.sem.specs.Sem as sem
use Rattle.sem.specs.Sem.{Sem, sem_kind}
use Rattle.mutex.specs.Mutex as mutex
use Rattle.mutex.specs.Mutex.{Mutex, mutex_kind}
use Rattle.condvar.specs.Condvar as condvar
use Rattle.condvar.specs.Condvar.{condvar_kind}
use Rattle.futex.specs.Futex as futex
use Rattle.futex.specs.Futex.{Futex, futex_kind}
use Rattle.system.specs.System.{Sys}
use Rattle.system.specs.Rules.{empty}
use Rattle.system.specs.Part.{Part}
use Rattle.system.specs.Sum.{Member, Members, end, ◌&◌, own, sum, first, later, part_of}
use Rattle.system.specs.SemRules.{SemMakes, SemRules}
use Rattle.system.specs.MutexRules.{MutexMakes, MutexRules}
use Rattle.system.specs.CondvarRules.{CondvarRules}
use Rattle.system.specs.FutexRules.{FutexMakes, FutexRules}

abbrev pub sems : Member
sems = record { kind = sem_kind; idle = tt; Makes = SemMakes; Rules = SemRules; Foreign = own }

abbrev pub mutexes : Member
mutexes = record { kind = mutex_kind; idle = tt; Makes = MutexMakes; Rules = MutexRules; Foreign = own }

abbrev pub condvars : Member
condvars = record { kind = condvar_kind; idle = tt; Makes = λ n. Unit {0}; Rules = λ P f s i o n. CondvarRules P f s i o; Foreign = own }

abbrev pub futexes : Member
futexes = record { kind = futex_kind; idle = tt; Makes = FutexMakes; Rules = FutexRules; Foreign = own }

-- a further kind is one more line
abbrev pub kinds : Members
kinds =
    sems
    & mutexes
    & condvars
    & futexes
    & end

abbrev pub members : Member
members = sum kinds

abbrev pub rtos : Kind
rtos = members.kind

abbrev pub bare : Sys rtos
bare = empty members.idle

-- the numbers of an object of each kind, and its calls
abbrev pub a_sem : Sem → rtos.Num
a_sem n = inl n

abbrev pub a_mutex : Mutex → rtos.Num
a_mutex n = inr (inl n)

abbrev pub a_condvar : rtos.Num
a_condvar = inr (inr (inl tt))

abbrev pub a_futex : Futex → rtos.Num
a_futex n = inr (inr (inr (inl n)))

abbrev pub sem_call : sem.Call → rtos.Call
sem_call k = inl k

abbrev pub mutex_call : mutex.Call → rtos.Call
mutex_call k = inr (inl k)

abbrev pub condvar_call : condvar.Call → rtos.Call
condvar_call k = inr (inr (inl k))

abbrev pub futex_call : futex.Call → rtos.Call
futex_call k = inr (inr (inr (inl k)))

-- each kind as a part of the system
abbrev pub sem_part : Part sem_kind rtos
sem_part = part_of {l = kinds} first

abbrev pub mutex_part : Part mutex_kind rtos
mutex_part = part_of {l = kinds} (later first)

abbrev pub condvar_part : Part condvar_kind rtos
condvar_part = part_of {l = kinds} (later (later first))

abbrev pub futex_part : Part futex_kind rtos
futex_part = part_of {l = kinds} (later (later (later first)))
