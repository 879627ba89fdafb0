-- The code of the objects of the system. To add a kind is one line here.
use Rattle.std.specs.Prelude.{◌⊎◌, ◌<◌, ◌≡◌}
use Rattle.std.proofs.Common.{inl, inr}
use Rattle.kind.specs.Kind.{Kind}
use Rattle.sem.specs.Sem.{Sem}
use Rattle.sem.specs.Post as semaphore
use Rattle.mutex.specs.Mutex as mutex
use Rattle.mutex.specs.Mutex.{Mutex}
use Rattle.mutex.specs.Post as lock
use Rattle.condvar.specs.Post as condition
use Rattle.futex.specs.Futex.{Futex}
use Rattle.futex.specs.Post as value
use Rattle.system.specs.Part.{Part, whole}
use Rattle.system.specs.Sum.{Member, ◌⊕◌, in_left, in_right, nones}
use Rattle.system.specs.Rtos.{sems, mutexes, condvars, futexes, members, rtos}
use Rattle.system.specs.Functions.{SemFn, sem_fn, MutexFn, mutex_fn, CondvarFn, condvar_fn, FutexFn, futex_fn, wait_blocking}
use Rattle.system.specs.World.{Code, Library}

-- the code of a member, in any system that has it
pub record Stock (M : Member) : Type 1 where
  pub Sort : Type 0
  pub kind : Sort → Kind
  pub code : (x : Sort) → Code (kind x)
  pub part : (x : Sort) {K : Kind} → Part M.kind K → Part (kind x) K

-- of one kind; of two members
abbrev pub only : {M : Member} → Code M.kind → Stock M
only {M} c = record { Sort = Unit {0}; kind = λ x. M.kind; code = λ x. c; part = λ x P. P }

module _ {A B : Member} (a : Stock A) (b : Stock B) where
  abbrev pub kind_of : a.Sort ⊎ b.Sort → Kind
  kind_of (inl x) = a.kind x
  kind_of (inr y) = b.kind y

  abbrev pub code_of : (x : a.Sort ⊎ b.Sort) → Code (kind_of x)
  code_of (inl x) = a.code x
  code_of (inr y) = b.code y

  abbrev pub part_of : (x : a.Sort ⊎ b.Sort) {K : Kind} → Part (A ⊕ B).kind K → Part (kind_of x) K
  part_of (inl x) P = a.part x (in_left A B P)
  part_of (inr y) P = b.part y (in_right A B P)

infixr 40 ◌⊞◌
abbrev pub ◌⊞◌ : {A B : Member} → Stock A → Stock B → Stock (A ⊕ B)
a ⊞ b = record { Sort = a.Sort ⊎ b.Sort; kind = kind_of a b; code = code_of a b; part = part_of a b }

abbrev pub sem_code : Stock sems
sem_code = only (record { layout = semaphore.layout; Fn = SemFn; function = sem_fn; Told = λ (n : Sem). n.limit < 4294967296 })

abbrev pub mutex_code : Stock mutexes
mutex_code = only (record { layout = lock.layout; Fn = MutexFn; function = mutex_fn; Told = λ (n : Mutex). n ≡ mutex.free })

abbrev pub condvar_code : Stock condvars
condvar_code = only (record { layout = condition.layout; Fn = CondvarFn; function = condvar_fn; Told = λ n. Unit {0} })

abbrev pub futex_code : Stock futexes
futex_code = only (record { layout = value.layout; Fn = FutexFn; function = futex_fn; Told = λ (n : Futex). n.val < 4294967296 })

-- a member that has no code
abbrev pub without : (M : Member) → Stock M
without M = record { Sort = ⊥; kind = λ x. absurd x; code = λ x. absurd x; part = λ x P. absurd x }

-- a further kind is one more line
abbrev pub stock : Stock members
stock =
    sem_code
    ⊞ mutex_code
    ⊞ condvar_code
    ⊞ futex_code
    ⊞ without nones

-- sorts of objects
abbrev pub a_semaphore : stock.Sort
a_semaphore = inl tt

abbrev pub a_lock : stock.Sort
a_lock = inr (inl tt)

abbrev pub a_condition : stock.Sort
a_condition = inr (inr (inl tt))

abbrev pub library : Library rtos
library =
    record {
      Sort = stock.Sort;
      class = λ x. record { kind = stock.kind x; part = stock.part x (whole rtos); code = stock.code x };
      Two = Unit {0};
      first = λ t. a_lock;
      second = λ t. a_condition;
      double = λ t. wait_blocking;
    }
