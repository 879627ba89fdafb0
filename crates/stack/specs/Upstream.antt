-- The contracts of Gale's stack.rs, in our words: s is the stack before a call, s' after it, r its answer; upstream's count is the depth.
-- Upstream's text stands above each field.
use Rattle.std.specs.Prelude.{◌≡◌, Bool, true, false, List, [], ◌∷◌, ℕ, ◌+◌, ◌-◌, ◌≤◌, ◌<◌, ℤ, pos, length, get_or}
use Rattle.thread.specs.Code.{ok, enomem, ebusy, einval}
use Rattle.thread.specs.Upstream.{Tells}
use Rattle.store.specs.Store.{refuse, out, settled}
use Rattle.stack.specs.Stack.{Stack, wakes_waiter, waits, pushes, pops, push, pop, free, used, size, fresh, may}
use Rattle.stack.specs.History.{Call, pushing, popping, next, depth}

-- Stack::inv
pub record Inv (s : Stack) : Type 0 where
  -- self.capacity > 0
  pub some_room : 0 < s.capacity
  -- self.count <= self.capacity
  pub within : depth s ≤ s.capacity

-- what upstream has no word for: the header is there, and memory for all that it can hold
pub record Housed (h w : List ℕ) : Type 0 where
  pub words : 2 ≤ length h
  pub memory : get_or h 0 0 ≤ length w

-- init: match result
pub record Init (capacity : ℕ) (r : ℤ) (s' : Stack) : Type 0 where
  -- Ok(s) => s.inv()
  pub inv : r ≡ ok → Inv s'
  -- s.count == 0
  pub count : r ≡ ok → depth s' ≡ 0
  -- s.capacity == capacity
  pub room : r ≡ ok → s'.capacity ≡ capacity
  -- Err(e) => e == EINVAL
  pub code : (r ≡ ok → ⊥) → r ≡ einval
  -- capacity == 0
  pub refused : (r ≡ ok → ⊥) → capacity ≡ 0

-- push
pub record Push (s : Stack) (r : ℤ) (s' : Stack) : Type 0 where
  -- self.inv()
  pub inv : Inv s'
  -- self.capacity == old(self).capacity
  pub room : s'.capacity ≡ s.capacity
  -- old(self).count < old(self).capacity ==> rc == OK
  pub stored : depth s < s.capacity → r ≡ ok
  -- and self.count == old(self).count + 1
  pub counted : depth s < s.capacity → depth s' ≡ depth s + 1
  -- old(self).count >= old(self).capacity ==> rc == ENOMEM
  pub full : s.capacity ≤ depth s → r ≡ enomem
  -- and self.count == old(self).count
  pub stayed : s.capacity ≤ depth s → depth s' ≡ depth s

-- pop
pub record Pop (s : Stack) (r : ℤ) (s' : Stack) : Type 0 where
  -- self.inv()
  pub inv : Inv s'
  -- self.capacity == old(self).capacity
  pub room : s'.capacity ≡ s.capacity
  -- old(self).count > 0 ==> rc == OK
  pub taken : 0 < depth s → r ≡ ok
  -- and self.count == old(self).count - 1
  pub counted : 0 < depth s → depth s' ≡ depth s - 1
  -- old(self).count == 0 ==> rc == EBUSY
  pub nothing : depth s ≡ 0 → r ≡ ebusy
  -- and self.count == old(self).count
  pub stayed : depth s ≡ 0 → depth s' ≡ depth s

-- what these clauses leave out is the words: x is on top of the others, and the one on top is handed out
pub record Stored (x : ℕ) (s s' : Stack) : Type 0 where
  pub held : s'.held ≡ x ∷ s.held

pub record Taken (x : ℕ) (s s' : Stack) : Type 0 where
  pub held : s.held ≡ x ∷ s'.held

-- num_free: r == self.capacity - self.count
abbrev pub NumFree : Stack → ℤ → Type 0
NumFree s r = r ≡ pos (s.capacity - depth s)

-- num_used: r == self.count
abbrev pub NumUsed : Stack → ℤ → Type 0
NumUsed s r = r ≡ pos (depth s)

-- is_full: r == (self.count == self.capacity)
abbrev pub IsFull : Stack → ℤ → Type 0
IsFull s r = Tells (pos 1) (pos 0) r (depth s ≡ s.capacity)

-- is_empty: r == (self.count == 0)
abbrev pub IsEmpty : Stack → ℤ → Type 0
IsEmpty s r = Tells (pos 1) (pos 0) r (depth s ≡ 0)

-- capacity: r == self.capacity
abbrev pub Capacity : Stack → ℤ → Type 0
Capacity s r = r ≡ pos s.capacity

-- push_decide: Store is 0, WakeWaiter 1, and Full -12; new_count is the word m', which was m
pub record PushDecide (n c : ℕ) (waiting : Bool) (m : ℕ) (r : ℤ) (m' : ℕ) : Type 0 where
  -- has_waiter ==> result.decision === PushDecision::WakeWaiter
  pub wakes : waiting ≡ true → r ≡ wakes_waiter
  -- and result.new_count == count
  pub wakes_count : waiting ≡ true → m' ≡ n
  -- !has_waiter && count < capacity ==> result.decision === PushDecision::Store
  pub stores : waiting ≡ false → n < c → r ≡ ok
  -- and result.new_count == count + 1
  pub stores_count : waiting ≡ false → n < c → m' ≡ n + 1
  -- !has_waiter && count >= capacity ==> result.decision === PushDecision::Full
  pub full : waiting ≡ false → c ≤ n → r ≡ enomem
  -- and result.new_count == count: if it held the count
  pub full_count : waiting ≡ false → c ≤ n → m ≡ n → m' ≡ n

-- pop_decide: Pop is 0, Pend 1, and Busy -16
pub record PopDecide (n : ℕ) (no_wait : Bool) (m : ℕ) (r : ℤ) (m' : ℕ) : Type 0 where
  -- count > 0 ==> result.decision === PopDecision::Pop
  pub takes : 0 < n → r ≡ ok
  -- and result.new_count == (count - 1) as u32
  pub takes_count : 0 < n → m' ≡ n - 1
  -- count == 0 && is_no_wait ==> result.decision === PopDecision::Busy
  pub busy : n ≡ 0 → no_wait ≡ true → r ≡ ebusy
  -- and result.new_count == 0: if it held the count
  pub busy_count : n ≡ 0 → no_wait ≡ true → m ≡ n → m' ≡ 0
  -- count == 0 && !is_no_wait ==> result.decision === PopDecision::Pend
  pub pends : n ≡ 0 → no_wait ≡ false → r ≡ waits
  -- and result.new_count == 0
  pub pends_count : n ≡ 0 → no_wait ≡ false → m' ≡ 0

-- upstream's lemmas. What they say of numbers is said of the calls too

-- lemma_invariant_inductive, which ends in `ensures true`. Its comments: init establishes inv, push and pop preserve inv
pub record Inductive : Type 0 where
  pub init : (c : ℕ) (w : List ℕ) → may c w ≡ true → Inv (fresh c w)
  pub calls : (s : Stack) (k : Call) → Inv s → Inv (next s k)

-- lemma_push_pop_roundtrip, where there is room
pub record PushPop (s : Stack) (x : ℕ) : Type 0 where
  -- after_pop == count
  pub count : settled (λ n. n) (pops (settled (λ n. n) (pushes (depth s) s.capacity false) 0) true) 0 ≡ depth s
  -- the pop hands out what was pushed, and the stack holds what it held
  pub word : out (pop (next s (pushing x))) ≡ x ∷ []
  pub held : (next (next s (pushing x)) popping).held ≡ s.held

-- lemma_capacity_conservation: (capacity - count) + count == capacity
pub record Conservation (s : Stack) : Type 0 where
  pub sum : (s.capacity - depth s) + depth s ≡ s.capacity
  -- of what the functions answer
  pub answers : (f u c : ℕ) → free s ≡ pos f → used s ≡ pos u → size s ≡ pos c → f + u ≡ c

-- lemma_full_rejects_push: count >= capacity, of a full one
pub record FullRejects (s : Stack) (x : ℕ) : Type 0 where
  pub over : s.capacity ≤ depth s
  -- so a push is refused
  pub refused : push x s ≡ refuse enomem

-- lemma_empty_rejects_pop: count == 0, of an empty one
pub record EmptyRejects (s : Stack) : Type 0 where
  pub none_held : depth s ≡ 0
  -- so a pop is refused
  pub refused : pop s ≡ refuse ebusy

-- lemma_pop_push_roundtrip, where x is on top
pub record PopPush (s : Stack) (x : ℕ) : Type 0 where
  -- after_push == count
  pub count : settled (λ n. n) (pushes (settled (λ n. n) (pops (depth s) true) 0) s.capacity false) 0 ≡ depth s
  -- the word that was popped is pushed again: no word of the stack has changed
  pub same : next (next s popping) (pushing x) ≡ s
