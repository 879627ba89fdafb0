-- The contracts of Gale's sem.rs, in our words: s and q are the numbers and the queue before a call, s' and q' after it, r its answer.
use Rattle.std.specs.Prelude.{◌≡◌, Bool, true, false, ◌⊎◌, List, [], ℕ, suc, ◌+◌, ◌-◌, ◌≤◌, ◌<◌, ℤ, pos, length}
use Rattle.thread.specs.Code.{ok, eagain, ebusy, einval}
use Rattle.wait_queue.specs.Queue.{Well}
use Rattle.wait_queue.specs.Turn.{waits}
use Rattle.wait_queue.specs.Upstream.{FirstIsWoken, AllAreWoken}
use Rattle.kind.specs.Effect.{Barred, Leaves}
use Rattle.sem.specs.Sem.{Sem, woke, incremented, saturated, counting}

-- Semaphore::inv
pub record Inv (s : Sem) (q : List ℕ) : Type 0 where
  pub limited : 0 < s.limit
  pub under : s.count ≤ s.limit
  pub queue : Well q

-- what upstream's invariant leaves out: nobody waits unless the count is 0
abbrev pub Idle : Sem → List ℕ → Type 0
Idle s q = 0 < length q → s.count ≡ 0

-- give_decide
pub record GiveDecide (count limit : ℕ) (waiter : Bool) (r : ℤ) : Type 0 where
  -- has_waiter ==> WakeThread
  pub wakes : waiter ≡ true → r ≡ woke
  -- !has_waiter && count < limit ==> Increment
  pub increments : waiter ≡ false → count < limit → r ≡ incremented
  -- !has_waiter && count >= limit ==> Saturated
  pub saturates : waiter ≡ false → limit ≤ count → r ≡ saturated

-- take_decide
pub record TakeDecide (count : ℕ) (no_wait : Bool) (r : ℤ) : Type 0 where
  -- count > 0 ==> Acquired
  pub acquires : 0 < count → r ≡ ok
  -- count == 0 && is_no_wait ==> WouldBlock
  pub blocks : count ≡ 0 → no_wait ≡ true → r ≡ ebusy
  -- count == 0 && !is_no_wait ==> Pend
  pub pends : count ≡ 0 → no_wait ≡ false → r ≡ waits

-- init
pub record Init (count limit : ℕ) (r : ℤ) (s' : Sem) (q' : List ℕ) : Type 0 where
  -- Ok(sem): inv, count, limit, an empty queue
  pub inv : r ≡ ok → Inv s' q'
  pub counted : r ≡ ok → s'.count ≡ count
  pub limited : r ≡ ok → s'.limit ≡ limit
  pub empty : r ≡ ok → length q' ≡ 0
  -- Err(e): EINVAL, and limit == 0 || initial_count > limit
  pub code : (r ≡ ok → ⊥) → r ≡ einval
  pub reason : (r ≡ ok → ⊥) → (limit ≡ 0) ⊎ (limit < count)

-- give
pub record Give (s : Sem) (q : List ℕ) (r : ℤ) (s' : Sem) (q' : List ℕ) : Type 0 where
  pub inv : Inv s' q'
  pub limit : s'.limit ≡ s.limit
  -- no waiters, below limit -> increment
  pub increments : length q ≡ 0 → s.count < s.limit → s'.count ≡ s.count + 1
  -- no waiters, at limit -> saturate
  pub saturates : length q ≡ 0 → s.count ≡ s.limit → s'.count ≡ s.count
  -- waiters present -> count unchanged, one waiter removed
  pub kept : 0 < length q → s'.count ≡ s.count
  pub fewer : 0 < length q → length q' ≡ length q - 1

-- what give's clauses leave out is the answer, and who is woken: w is the word for the thread before the call, w' after it
pub record GiveInFull (s : Sem) (q : List ℕ) (w : ℕ) (r : ℤ) (s' : Sem) (q' : List ℕ) (w' : ℕ) : Type 0 where
  -- somebody waits: the first is woken with the result 0, and no number changes
  pub wakes : 0 < length q → (r ≡ woke) × (s' ≡ s) × FirstIsWoken ok q w' q'
  -- nobody waits: one more is there, and at the limit nothing changes; the word stays as it was
  pub increments : length q ≡ 0 → s.count < s.limit → Leaves incremented (counting (suc s.count) s) q r s' q' × (w' ≡ w)
  pub saturates : length q ≡ 0 → s.limit ≤ s.count → Leaves saturated s q r s' q' × (w' ≡ w)

-- try_take
pub record TryTake (s : Sem) (q : List ℕ) (r : ℤ) (s' : Sem) (q' : List ℕ) : Type 0 where
  pub inv : Inv s' q'
  pub limit : s'.limit ≡ s.limit
  pub waiters : length q' ≡ length q
  -- available -> decrement
  pub taken : 0 < s.count → s'.count ≡ s.count - 1
  pub acquired : 0 < s.count → r ≡ ok
  -- unavailable -> unchanged
  pub kept : s.count ≡ 0 → s'.count ≡ s.count
  pub blocked : s.count ≡ 0 → r ≡ ebusy

-- take_blocking: true is the answer `waits`
pub record TakeBlocking (s : Sem) (q : List ℕ) (r : ℤ) (s' : Sem) (q' : List ℕ) : Type 0 where
  pub inv : Inv s' q'
  pub limit : s'.limit ≡ s.limit
  pub count : s'.count ≡ s.count
  pub joined : r ≡ waits → length q' ≡ length q + 1
  pub stayed : (r ≡ waits → ⊥) → length q' ≡ length q

-- reset
pub record Reset (s : Sem) (q : List ℕ) (r : ℤ) (s' : Sem) (q' : List ℕ) : Type 0 where
  pub inv : Inv s' q'
  pub count : s'.count ≡ 0
  pub limit : s'.limit ≡ s.limit
  pub empty : length q' ≡ 0
  pub woken : r ≡ pos (length q)

-- what reset's clauses leave out is who is woken: out is the room to hand them out before the call, out' after it
pub record ResetInFull (s : Sem) (q h e out : List ℕ) (r : ℤ) (s' : Sem) (q' h' e' out' : List ℕ) : Type 0 where
  -- all that waited, in their order, each with the result -11
  pub all : length q ≤ length out → Leaves (pos (length q)) (counting 0 s) [] r s' q' × AllAreWoken eagain q out out'
  -- with less room it is refused, and all wait on
  pub short : length out < length q → Barred einval h e r h' e' × (out' ≡ out)

-- count_get
pub record CountGet (s : Sem) (r : ℤ) : Type 0 where
  pub result : ℕ
  pub is : r ≡ pos result
  -- result == self.count
  pub counted : result ≡ s.count
  -- result <= self.limit
  pub under : result ≤ s.limit

-- limit_get
pub record LimitGet (s : Sem) (r : ℤ) : Type 0 where
  pub result : ℕ
  pub is : r ≡ pos result
  -- result == self.limit
  pub limited : result ≡ s.limit
  -- result > 0
  pub above : 0 < result

-- num_waiters: result == self.wait_q.len_spec()
abbrev pub NumWaiters : List ℕ → ℤ → Type 0
NumWaiters q r = r ≡ pos (length q)
