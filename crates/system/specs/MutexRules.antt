-- The data sheet of a mutex, in any system that has mutexes: what each call of a thread that runs is answered, and what it changes.
use Rattle.std.specs.Prelude.{◌≡◌, List, [], ◌∷◌, ℕ, suc, ◌-◌, ◌≤◌, ◌<◌, pos}
use Rattle.thread.specs.Code.{ok, eperm, ebusy, einval, edeadlk, eoverflow}
use Rattle.wait_queue.specs.Queue.{ident}
use Rattle.kind.specs.Kind.{Kind}
use Rattle.mutex.specs.Mutex.{Owner, nobody, thread, Mutex, Call, lock, try_lock, unlock, release, max_count, mutex_kind}
use Rattle.system.specs.System.{Sys, Kernel}
use Rattle.system.specs.Part.{Part}
use Rattle.system.specs.Effect.{has_numbers, Gets, Fails, Waits, WakesFirst}

-- it is made free
abbrev pub MutexMakes : Mutex → Type 0
MutexMakes m = (m.owner ≡ nobody) × (m.count ≡ 0)

module _ {K : Kind} (P : Part mutex_kind K) (f : Kernel K) (s : Sys K) (i o : ℕ) (m : Mutex) where
  -- its numbers: who owns it, and how often it is locked
  abbrev pub owned : Owner → ℕ → K.Num
  owned w c = P.num (record { owner = w; count = c })

  -- a call that locks it; where another owns it, E
  pub record Locks (k : Call) (E : Type 0) : Type 0 where
    pub free : m.owner ≡ nobody → Gets f s i o (P.call k) ok (has_numbers o (owned (thread i) 1) ∷ [])
    pub again : m.owner ≡ thread i → m.count < max_count → Gets f s i o (P.call k) ok (has_numbers o (owned (thread i) (suc m.count)) ∷ [])
    pub often : m.owner ≡ thread i → max_count ≤ m.count → Fails f s i o (P.call k) eoverflow
    pub theirs : (j : ℕ) → m.owner ≡ thread j → (j ≡ i → ⊥) → E

  -- a call that gives it back, to the first that waits or to nobody; where it is locked more than once, E
  pub record Unlocks (k : Call) (E : Type 0) : Type 0 where
    pub free : m.owner ≡ nobody → Fails f s i o (P.call k) einval
    pub theirs : (j : ℕ) → m.owner ≡ thread j → (j ≡ i → ⊥) → Fails f s i o (P.call k) eperm
    pub nested : m.owner ≡ thread i → 1 < m.count → E
    pub last : m.owner ≡ thread i → m.count ≡ 1 → s.queue o ≡ [] → Gets f s i o (P.call k) (pos 1) (has_numbers o (owned nobody 0) ∷ [])
    pub passed : m.owner ≡ thread i → m.count ≡ 1 → (x : ℕ) (q : List ℕ) → s.queue o ≡ x ∷ q
        → WakesFirst f s i o (P.call k) (pos 2) (has_numbers o (owned (thread (ident x)) 1) ∷ []) x q

  pub record MutexRules : Type 0 where
    -- free, the caller owns it; its own, it has one lock more; another's, it waits, or is told that it would
    pub locks : Locks lock (Waits f s i o (P.call lock) (P.wish tt))
    pub tries : Locks try_lock (Fails f s i o (P.call try_lock) ebusy)
    -- nobody's and another's are refused; nested it has one lock less; the last one hands it over or frees it
    pub unlocks : Unlocks unlock (Gets f s i o (P.call unlock) (pos 0) (has_numbers o (owned (thread i) (m.count - 1)) ∷ []))
    -- by a wait at a condition variable: nested it is refused
    pub releases : Unlocks release (Fails f s i o (P.call release) edeadlk)
