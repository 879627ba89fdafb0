-- The functions of the code on objects in memory: of each, the call that it is, and the contract that it is proved to meet.
use Rattle.std.specs.Prelude.{◌≡◌, Bool, true, false, cond, List, [], ◌∷◌, ℕ, eqb, ℤ, pos, negsuc, take}
use Rattle.kind.specs.Kind.{Kind}
use Rattle.sem.specs.Sem as sem
use Rattle.sem.specs.Sem.{sem_kind}
use Rattle.sem.specs.Post as semaphore
use Rattle.mutex.specs.Mutex as mutex
use Rattle.mutex.specs.Mutex.{mutex_kind}
use Rattle.mutex.specs.Post as lock
use Rattle.condvar.specs.Condvar as condvar
use Rattle.condvar.specs.Condvar.{condvar_kind}
use Rattle.condvar.specs.Post as condition
use Rattle.futex.specs.Futex as futex
use Rattle.futex.specs.Futex.{futex_kind}
use Rattle.futex.specs.Post as value

-- the memory of an object: its header and its entries
pub record Memory : Type 0 where
  pub header : List ℕ
  pub entries : List ℕ

-- one call of a function: what it is told of its caller; the memory of its object, and the place that it is lent for woken threads, before; its
-- answer; and both after. Where one word is lent it is a place of one, and where none is lent of none
pub record Use : Type 0 where
  pub id : ℕ
  pub priority : ℕ
  pub state : ℕ
  pub before : Memory
  pub lent : List ℕ
  pub answer : ℤ
  pub after : Memory
  pub filled : List ℕ

-- a function on objects of the kind A
pub record Function (A : Kind) : Type 1 where
  pub call : A.Call
  -- it is told its caller's priority and state, and refuses one that does not run; else it is told who calls, or nothing
  pub asks : Bool
  -- how many words it is to be lent for woken threads, where n wait
  pub room : ℕ → ℕ
  -- how many words it wrote there, where it was answered r
  pub wrote : ℕ → ℕ
  pub Contract : Use → Type 0

-- a function on an object of the kind A and one of the kind B: both calls or neither. The use is that of the first object; then the second's
-- memory before and after
pub record Double (A B : Kind) : Type 1 where
  pub first : A.Call
  pub second : B.Call
  pub wrote : ℕ → ℕ
  pub Contract : Use → Memory → Memory → Type 0

-- the words that it wrote, as many as its answer says; a refusal wrote none
abbrev pub heard : (ℕ → ℕ) → ℤ → ℕ
heard c (pos r) = c r
heard c (negsuc r) = 0

abbrev pub told : (ℕ → ℕ) → Use → List ℕ
told c u = take (heard c u.answer) u.filled

-- By its contract C a function writes the header and the entries, and hands nobody out
pub record Joins (C : List ℕ → List ℕ → ℤ → List ℕ → List ℕ → Type 0) (u : Use) : Type 0 where
  pub does : C u.before.header u.before.entries u.answer u.after.header u.after.entries
  pub lent : u.lent ≡ []
  pub filled : u.filled ≡ []

-- it only reads the entries, and hands nobody out; writes one word; writes a slice
pub record Silent (C : List ℕ → List ℕ → ℤ → List ℕ → Type 0) (u : Use) : Type 0 where
  pub does : C u.before.header u.before.entries u.answer u.after.header
  pub entries : u.after.entries ≡ u.before.entries
  pub lent : u.lent ≡ []
  pub filled : u.filled ≡ []

pub record InWord (C : List ℕ → List ℕ → ℕ → ℤ → List ℕ → ℕ → Type 0) (u : Use) : Type 0 where
  pub who : ℕ
  pub who' : ℕ
  pub does : C u.before.header u.before.entries who u.answer u.after.header who'
  pub entries : u.after.entries ≡ u.before.entries
  pub lent : u.lent ≡ who ∷ []
  pub filled : u.filled ≡ who' ∷ []

pub record InSlice (C : List ℕ → List ℕ → List ℕ → ℤ → List ℕ → List ℕ → Type 0) (u : Use) : Type 0 where
  pub does : C u.before.header u.before.entries u.lent u.answer u.after.header u.filled
  pub entries : u.after.entries ≡ u.before.entries

-- how many words are lent, or written: none; one; as many as wait, or as the answer says; one, if the answer is a
abbrev pub nobody : ℕ → ℕ
nobody n = 0

abbrev pub single : ℕ → ℕ
single n = 1

abbrev pub everyone : ℕ → ℕ
everyone n = n

abbrev pub only_at : ℕ → ℕ → ℕ
only_at a r = cond (eqb r a) 1 0

pub data SemFn : Type 0 where
  give try_take take_blocking reset : SemFn

abbrev pub sem_fn : SemFn → Function sem_kind
sem_fn give = record { call = sem.give; asks = false; room = single; wrote = only_at 0; Contract = InWord semaphore.Gives }
sem_fn try_take = record { call = sem.try_take; asks = false; room = nobody; wrote = nobody; Contract = Silent semaphore.TriesTake }
sem_fn take_blocking =
    record {
      call = sem.take;
      asks = true;
      room = nobody;
      wrote = nobody;
      Contract = λ u. Joins (semaphore.Takes u.id u.priority u.state) u;
    }
sem_fn reset = record { call = sem.reset; asks = false; room = everyone; wrote = everyone; Contract = InSlice semaphore.Resets }

pub data MutexFn : Type 0 where
  try_lock lock_blocking unlock : MutexFn

abbrev pub mutex_fn : MutexFn → Function mutex_kind
mutex_fn try_lock = record { call = mutex.try_lock; asks = false; room = nobody; wrote = nobody; Contract = λ u. Silent (lock.TriesLock u.id) u }
mutex_fn lock_blocking =
    record {
      call = mutex.lock;
      asks = true;
      room = nobody;
      wrote = nobody;
      Contract = λ u. Joins (lock.Locks u.id u.priority u.state) u;
    }
mutex_fn unlock = record { call = mutex.unlock; asks = false; room = single; wrote = only_at 2; Contract = λ u. InWord (lock.Unlocks u.id) u }

pub data CondvarFn : Type 0 where
  signal broadcast : CondvarFn

abbrev pub condvar_fn : CondvarFn → Function condvar_kind
condvar_fn signal = record { call = condvar.signal; asks = false; room = single; wrote = everyone; Contract = InWord condition.Signals }
condvar_fn broadcast = record { call = condvar.broadcast; asks = false; room = everyone; wrote = everyone; Contract = InSlice condition.Broadcasts }

pub data FutexFn : Type 0 where
  wait : (expected : ℕ) → FutexFn
  wake : (all : Bool) → FutexFn
  val_set : (val : ℕ) → FutexFn

-- one, or as many as wait
abbrev pub wake_room : Bool → ℕ → ℕ
wake_room true n = n
wake_room false n = 1

abbrev pub futex_fn : FutexFn → Function futex_kind
futex_fn (wait x) =
    record {
      call = futex.wait x;
      asks = true;
      room = nobody;
      wrote = nobody;
      Contract = λ u. Joins (value.Waits x u.id u.priority u.state) u;
    }
futex_fn (wake all) = record { call = value.wake_call all; asks = false; room = wake_room all; wrote = everyone; Contract = InSlice (value.Wakes all) }
futex_fn (val_set x) = record { call = futex.set x; asks = false; room = nobody; wrote = nobody; Contract = Silent (value.SetsVal x) }

-- wait_blocking, of a condition variable and the mutex that it gives back, whose entries it does not write
pub record WaitedWith (u : Use) (c c' : Memory) : Type 0 where
  pub who : ℕ
  pub who' : ℕ
  pub lent : u.lent ≡ who ∷ []
  pub filled : u.filled ≡ who' ∷ []
  pub entries : u.after.entries ≡ u.before.entries
  pub waited : condition.Waits u.id u.priority u.state c.header c.entries u.before.header u.before.entries who u.answer
      c'.header c'.entries u.after.header who'

abbrev pub wait_blocking : Double mutex_kind condvar_kind
wait_blocking = record { first = mutex.release; second = condvar.wait; wrote = only_at 2; Contract = WaitedWith }
