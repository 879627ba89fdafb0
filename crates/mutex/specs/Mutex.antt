-- The mutex: who owns it, and how often its owner has locked it.
use Rattle.std.specs.Prelude.{◌≡◌, Bool, true, false, cond, not, List, [], ◌∷◌, ℕ, suc, ◌-◌, eqb, ltb, ℤ, pos, negsuc}
use Rattle.thread.specs.Code.{ok, eperm, ebusy, einval, edeadlk, eoverflow}
use Rattle.wait_queue.specs.Turn.{waits}
use Rattle.kind.specs.Verdict.{up_to, keep, park, wake, Verdict, deny, allow}
use Rattle.kind.specs.Kind.{Kind, Balance, balanced, impossible}

pub data Owner : Type 0 where
  nobody : Owner
  thread : ℕ → Owner

pub record Mutex : Type 0 where
  pub owner : Owner
  pub count : ℕ

pub data Call : Type 0 where
  lock try_lock unlock release : Call

-- somebody owns it
abbrev pub held : Owner → Bool
held nobody = false
held (thread i) = true

-- the thread i owns it
abbrev pub owns : ℕ → Owner → Bool
owns i nobody = false
owns i (thread j) = eqb j i

-- another than the thread i owns it
abbrev pub Another : Owner → ℕ → Type 0
Another nobody i = ⊥
Another (thread j) i = j ≡ i → ⊥

-- an owner has a count; a free mutex has none, and nobody waits for it
abbrev pub formed : Mutex → Bool → Bool
formed m w = cond (held m.owner) (ltb 0 m.count) (cond (eqb m.count 0) (not w) false)

-- how often an owner can lock it
abbrev pub max_count : ℕ
max_count = 4294967295

-- what an unlock answers: the owner keeps it; it is free; the first that waited owns it
abbrev pub released : ℤ
released = pos 0

abbrev pub unlocked : ℤ
unlocked = pos 1

abbrev pub transferred : ℤ
transferred = pos 2

abbrev pub free : Mutex
free = record { owner = nobody; count = 0 }

-- the thread i has just become the owner
abbrev pub taken : ℕ → Mutex
taken i = record { owner = thread i; count = 1 }

abbrev pub counting : ℕ → Mutex → Mutex
counting c m = record { owner = m.owner; count = c }

-- free, the caller w gets it; its own, it counts one more; else the verdict d
abbrev pub locks : Mutex → ℕ → Verdict Mutex (Unit {0}) → Verdict Mutex (Unit {0})
locks m w d =
    cond (held m.owner)
    (cond (owns w m.owner) (cond (ltb m.count max_count) (allow (counting (suc m.count) m) keep ok) (deny eoverflow)) d)
    (allow (taken w) keep ok)

-- the last unlock: the first that waits is woken with 0 and owns it; with nobody waiting it is free
abbrev pub passes : List ℕ → Verdict Mutex (Unit {0})
passes [] = allow free keep unlocked
passes (t ∷ q) = allow (taken t) (wake (up_to 1) (λ t. ok)) transferred

-- nobody's and another's cannot be unlocked; one that is locked more than once gets the verdict d
abbrev pub unlocks : Mutex → ℕ → List ℕ → Verdict Mutex (Unit {0}) → Verdict Mutex (Unit {0})
unlocks m w q d = cond (held m.owner) (cond (owns w m.owner) (cond (ltb 1 m.count) d (passes q)) (deny eperm)) (deny einval)

abbrev pub decide : Mutex → (ℕ → Unit {0}) → List ℕ → ℕ → Call → Verdict Mutex (Unit {0})
-- another's: the caller waits
decide m v q w lock = locks m w (allow m (park tt) waits)
-- another's: it cannot be had
decide m v q w try_lock = locks m w (deny ebusy)
-- nested: it counts one less
decide m v q w unlock = unlocks m w q (allow (counting (m.count - 1) m) keep released)
-- what a wait at a condition variable does to its mutex. Nested: the caller would wait and keep it
decide m v q w release = unlocks m w q (deny edeadlk)

-- what a call owes to those that it wakes: a lock wakes nobody
abbrev pub Owed : Call → ℤ → Type 0
Owed lock r = ⊥
Owed try_lock r = ⊥
Owed unlock r = r ≡ ok
Owed release r = r ≡ ok

-- it is made free
abbrev pub new : Mutex → Bool
new m = cond (held m.owner) false (eqb m.count 0)

-- the books. Whose lock is answered 0 owns it: it was free, or its own, and has one lock more, up to 2^32 - 1. Who waits for it found another's
abbrev pub locked_by : Mutex → ℕ → ℤ → Balance Mutex
locked_by m w (pos r) =
    cond (held m.owner)
    (cond (owns w m.owner)
    (cond (eqb r 0) (cond (ltb m.count max_count) (balanced (counting (suc m.count) m)) impossible) impossible)
    (cond (eqb r 0) impossible (balanced m)))
    (cond (eqb r 0) (balanced (taken w)) impossible)
locked_by m w (negsuc r) = impossible

-- an unlock is its owner's. Answered 0 it has one lock less and keeps it; else it is free, or whoever was woken owns it
abbrev pub handed_to : List ℕ → Balance Mutex
handed_to [] = balanced free
handed_to (t ∷ l) = balanced (taken t)

abbrev pub unlocked_by : Mutex → ℕ → ℤ → List ℕ → Balance Mutex
unlocked_by m w (pos r) l =
    cond (owns w m.owner) (cond (eqb r 0) (cond (ltb 1 m.count) (balanced (counting (m.count - 1) m)) impossible) (handed_to l)) impossible
unlocked_by m w (negsuc r) l = impossible

abbrev pub books : Mutex → ℕ → Call → ℤ → List ℕ → Balance Mutex
books m w lock r l = locked_by m w r
books m w try_lock r l = locked_by m w r
books m w unlock r l = unlocked_by m w r l
books m w release r l = unlocked_by m w r l

abbrev pub mutex_kind : Kind
mutex_kind =
    record {
      Num = Mutex;
      Call = Call;
      Wish = Unit {0};
      formed = formed;
      decide = decide;
      Blocked = λ m t x. Another m.owner t;
      Owes = λ k x r. Owed k r;
      new = new;
      books = books;
    }
