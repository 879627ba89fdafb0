-- The whole statement: laws that hold of our step and of no other kernel, and what follows for every kernel that keeps them, from every start, after
-- every history.
use Rattle.std.specs.Prelude.{◌≡◌, List, [], ◌∷◌, ℕ, ◌-◌, ◌≤◌, ◌<◌}
use Rattle.thread.specs.Code.{ok}
use Rattle.kind.specs.Kind.{Kind}
use Rattle.sem.specs.Sem.{Sem, take, try_take, sem_kind}
use Rattle.sem.specs.Sem as sem
use Rattle.mutex.specs.Mutex.{Mutex, nobody, thread, lock, try_lock, max_count, mutex_kind}
use Rattle.mutex.specs.Mutex as mutex
use Rattle.system.specs.System.{waiting, object, Sys, Op, invoke, done, Kernel}
use Rattle.system.specs.Part.{Part}
use Rattle.system.specs.Rules.{Placed, Known, Bare, Formed, Own, Kept, Start}
use Rattle.system.specs.Run.{Run, run}
use Rattle.system.specs.Order.{Ordered, Best}
use Rattle.system.specs.Life.{Life, Refuses}
use Rattle.system.specs.Ledger.{Ledgers}
use Rattle.system.specs.Laws.{Laws}
use Rattle.system.specs.Determined.{Determined}
use Rattle.system.specs.Rtos.{rtos, members, sem_part, mutex_part}

-- of semaphores, in any system that has them
module _ {K : Kind} (P : Part sem_kind K) (R : Run K) (past : List (Op K)) where
  -- whose call k is answered 0 had one: the count was above 0, and is one less
  abbrev pub Took : sem.Call → Type 0
  Took k =
      (i o : ℕ) (n : Sem) → (R.state past).slot o ≡ object (P.num n) → R.answer past (invoke i o (P.call k)) ≡ done ok
      → (0 < n.count) × ((R.state (invoke i o (P.call k) ∷ past)).slot o ≡ object (P.num (record { count = n.count - 1; limit = n.limit })))

  pub record Semaphores : Type 0 where
    -- the count is at most the limit, and nobody waits unless it is 0
    pub limited : (o : ℕ) (n : Sem) → (R.state past).slot o ≡ object (P.num n) → n.count ≤ n.limit
    pub empty : (o : ℕ) (n : Sem) → (R.state past).slot o ≡ object (P.num n) → 0 < n.count → (R.state past).queue o ≡ []
    pub took : Took take
    pub tried : Took try_take

-- the thread i owns the mutex o
pub record Owns {K : Kind} (P : Part mutex_kind K) (s : Sys K) (o i : ℕ) : Type 0 where
  pub locks : ℕ
  pub is : s.slot o ≡ object (P.num (record { owner = thread i; count = locks }))
  pub least : 0 < locks

-- of mutexes
module _ {K : Kind} (P : Part mutex_kind K) (R : Run K) (past : List (Op K)) where
  -- whose call k is answered 0 owns it
  abbrev pub Got : mutex.Call → Type 0
  Got k = (i o : ℕ) (m : Mutex) → (R.state past).slot o ≡ object (P.num m) → R.answer past (invoke i o (P.call k)) ≡ done ok
      → Owns P (R.state (invoke i o (P.call k) ∷ past)) o i

  pub record Mutexes : Type 0 where
    -- one that somebody owns has at least one lock; a free one has none, and nobody waits for it
    pub locked : (o i : ℕ) (m : Mutex) → (R.state past).slot o ≡ object (P.num m) → m.owner ≡ thread i → 0 < m.count
    pub idle : (o : ℕ) (m : Mutex) → (R.state past).slot o ≡ object (P.num m) → m.owner ≡ nobody → (m.count ≡ 0) × ((R.state past).queue o ≡ [])
    -- the owner does not wait for it
    pub apart : (o i : ℕ) (m : Mutex) → (R.state past).slot o ≡ object (P.num m) → m.owner ≡ thread i → (R.state past).state i ≡ waiting o → ⊥
    pub got : Got lock
    pub tried : Got try_lock

-- what holds after a history
pub record Theorems (R : Run rtos) (past : List (Op rtos)) : Type 0 where
  -- every thread is running, ready, or in exactly one queue, once; it has a 32-bit id and a priority, which its entry tells
  pub placed : Placed (R.state past)
  pub known : Known (R.state past)
  pub own : Own (R.state past)
  -- each object is as it should be, and nobody waits where there is none
  pub formed : Formed (R.state past)
  pub bare : Bare (R.state past)
  -- no thread waits while what it waits for is there
  pub kept : Kept (R.state past)
  -- every queue is in the order in which it is to be woken, and who is woken comes before all that wait on
  pub ordered : Ordered R past
  pub best : (x : Op rtos) → Best R past x
  -- all that the next operation can do to a thread
  pub life : (x : Op rtos) (t : ℕ) → Life rtos (R.state past).wish x (R.answer past x) t ((R.state past).state t) ((R.state (x ∷ past)).state t)
  -- a refusal changes nothing
  pub refuses : (x : Op rtos) → Refuses R past x
  -- each object is what its ledger says
  pub ledgers : Ledgers R past
  pub semaphores : Semaphores sem_part R past
  pub mutexes : Mutexes mutex_part R past
  -- a mutex is locked at most 2^32 - 1 times
  pub limited : (o : ℕ) (m : Mutex) → (R.state past).slot o ≡ object (mutex_part.num m) → m.count ≤ max_count

pub record Whole : Type 0 where
  -- our step keeps the laws, and whatever keeps them is our step
  pub determined : Determined members
  -- and this follows
  pub theorems : (f : Kernel rtos) → Laws members f → (s : Sys rtos) → Start s → (past : List (Op rtos)) → Theorems (run f s) past
