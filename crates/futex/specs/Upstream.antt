-- The contracts of Gale's futex.rs, in our words: s and q are the value and the queue before a call, s' and q' after it, r its answer.
-- Upstream's text stands above each field.
use Rattle.std.specs.Prelude.{◌≡◌, Bool, true, false, List, [], ◌∷◌, ℕ, ◌+◌, ◌-◌, ◌≤◌, ◌<◌, ℤ, pos, length, drop}
use Rattle.seq.specs.List.{All}
use Rattle.thread.specs.Code.{ok, eagain}
use Rattle.thread.specs.Thread.{running}
use Rattle.store.specs.Store.{refuse, accept, answer, left, out, reply}
use Rattle.wait_queue.specs.Queue.{max_waiters, entry, woken, joined, NoLower, Well}
use Rattle.wait_queue.specs.Turn.{waits}
use Rattle.kind.specs.Object.{Object}
use Rattle.kind.specs.History.{calls, asks}
use Rattle.futex.specs.Futex.{Futex, wait, wake_one}
use Rattle.futex.specs.Post.{place, wait_out, wake_out}
use Rattle.futex.specs.History.{fresh, after}

-- Futex::inv: self.wait_q.inv()
abbrev pub Inv : List ℕ → Type 0
Inv q = Well q

-- init
pub record Init (initial : ℕ) (s' : Futex) (q' : List ℕ) : Type 0 where
  -- result.inv()
  pub inv : Inv q'
  -- result.val == initial_val
  pub val : s'.val ≡ initial
  -- result.wait_q.len_spec() == 0
  pub empty : length q' ≡ 0

-- wait: Blocked is 1, and Mismatch is -11
pub record Wait (expected : ℕ) (s : Futex) (q : List ℕ) (r : ℤ) (s' : Futex) (q' : List ℕ) : Type 0 where
  -- self.inv()
  pub inv : Inv q'
  -- self.val == old(self).val
  pub val : s'.val ≡ s.val
  -- old(self).val == expected ==> result == WaitResult::Blocked
  pub blocked : s.val ≡ expected → r ≡ waits
  -- and self.wait_q.len_spec() == old(self).wait_q.len_spec() + 1
  pub joined : s.val ≡ expected → length q' ≡ length q + 1
  -- old(self).val != expected ==> result == WaitResult::Mismatch
  pub mismatch : (s.val ≡ expected → ⊥) → r ≡ eagain
  -- and self.wait_q.len_spec() == old(self).wait_q.len_spec()
  pub stayed : (s.val ≡ expected → ⊥) → length q' ≡ length q

-- wake: woken is the answer
pub record Wake (all : Bool) (s : Futex) (q : List ℕ) (r : ℤ) (s' : Futex) (q' : List ℕ) : Type 0 where
  pub woken : ℕ
  pub is : r ≡ pos woken
  -- self.inv()
  pub inv : Inv q'
  -- self.val == old(self).val
  pub val : s'.val ≡ s.val
  -- result.woken <= old(self).wait_q.len_spec()
  pub few : woken ≤ length q
  -- !wake_all ==> result.woken <= 1
  pub one_few : all ≡ false → woken ≤ 1
  -- wake_all ==> result.woken == old(self).wait_q.len_spec()
  pub all_woken : all ≡ true → woken ≡ length q
  -- and self.wait_q.len_spec() == 0
  pub all_empty : all ≡ true → length q' ≡ 0
  -- !wake_all && old(self).wait_q.len_spec() > 0 ==> result.woken == 1
  pub one_woken : all ≡ false → 0 < length q → woken ≡ 1
  -- and self.wait_q.len_spec() == old(self).wait_q.len_spec() - 1
  pub one_fewer : all ≡ false → 0 < length q → length q' ≡ length q - 1
  -- old(self).wait_q.len_spec() == 0 ==> result.woken == 0
  pub nobody : length q ≡ 0 → woken ≡ 0
  -- result.woken <= MAX_WAITERS
  pub bounded : woken ≤ max_waiters

-- with too little room a wake is refused; with any room, and of any memory, an answer that is no refusal is how many are woken
pub record WakeFew (all : Bool) (q : List ℕ) (r : ℤ) : Type 0 where
  -- result.woken <= old(self).wait_q.len_spec()
  pub few : (n : ℕ) → r ≡ pos n → n ≤ length q
  -- !wake_all ==> result.woken <= 1
  pub one_few : all ≡ false → (n : ℕ) → r ≡ pos n → n ≤ 1
  -- result.woken <= MAX_WAITERS
  pub bounded : (n : ℕ) → r ≡ pos n → n ≤ max_waiters

-- what wake's clauses leave out is who is woken. One, where x waits first, then q: out is the room before the call, out' after it
pub record FirstWoken (x : ℕ) (q out out' q' : List ℕ) : Type 0 where
  -- it is the first, with the result 0
  pub told : out' ≡ woken ok x ∷ drop 1 out
  -- the others wait on, in their order, and none of them is of higher priority
  pub others : q' ≡ q
  pub highest : All (NoLower x) q

-- val_set
pub record ValSet (new : ℕ) (q : List ℕ) (s' : Futex) (q' : List ℕ) : Type 0 where
  -- self.inv()
  pub inv : Inv q'
  -- self.val == new_val
  pub val : s'.val ≡ new
  -- self.wait_q.len_spec() == old(self).wait_q.len_spec()
  pub waiters : length q' ≡ length q

-- val_get: result == self.val
abbrev pub ValGet : Futex → ℤ → Type 0
ValGet s r = r ≡ pos s.val

-- num_waiters: result == self.wait_q.len_spec()
abbrev pub NumWaiters : List ℕ → ℤ → Type 0
NumWaiters q r = r ≡ pos (length q)

-- wait_decide: Block is 1, and Mismatch is -11
pub record WaitDecide (val expected : ℕ) (r : ℤ) : Type 0 where
  -- val == expected ==> result === WaitDecision::Block
  pub blocks : val ≡ expected → r ≡ waits
  -- val != expected ==> result === WaitDecision::Mismatch
  pub mismatch : (val ≡ expected → ⊥) → r ≡ eagain

-- wake_decide: result.woken is the answer, and result.remaining the word m'
pub record WakeDecide (n : ℕ) (all : Bool) (r : ℤ) (m' : ℕ) : Type 0 where
  -- num_waiters == 0 ==> result.woken == 0
  pub none_woken : n ≡ 0 → r ≡ pos 0
  -- and result.remaining == 0
  pub none_remaining : n ≡ 0 → m' ≡ 0
  -- wake_all && num_waiters > 0 ==> result.woken == num_waiters
  pub all_woken : all ≡ true → 0 < n → r ≡ pos n
  -- and result.remaining == 0
  pub all_remaining : all ≡ true → 0 < n → m' ≡ 0
  -- !wake_all && num_waiters > 0 ==> result.woken == 1
  pub one_woken : all ≡ false → 0 < n → r ≡ pos 1
  -- and result.remaining == num_waiters - 1
  pub one_remaining : all ≡ false → 0 < n → m' ≡ n - 1

-- three lemmas end in `ensures true`. What their comments say:

-- lemma_wait_gating_condition: a thread i of priority p that runs, has not waited here and finds a place waits exactly if the value is the
-- expected one; else nothing changes, and it is told to try again
pub record Gating (expected i p : ℕ) (s : Object Futex) : Type 0 where
  pub blocks : s.num.val ≡ expected
      → wait_out expected i p running s ≡ accept (record { num = s.num; queue = joined (entry p i) s.queue }) waits []
  pub returns : (s.num.val ≡ expected → ⊥) → wait_out expected i p running s ≡ refuse eagain

-- lemma_wake_semantics: a wake of one takes at most one from the queue, a wake of all empties it, and nobody is lost
pub record WakeSemantics (s : Object Futex) (room : ℕ) : Type 0 where
  pub one : length (out (wake_out false room s)) ≤ 1
  pub one_lost : length (out (wake_out false room s)) + length (left (wake_out false room s) s).queue ≡ length s.queue
  pub all : length s.queue ≤ room → (left (wake_out true room s) s).queue ≡ []
  pub all_lost : length (out (wake_out true room s)) + length (left (wake_out true room s) s).queue ≡ length s.queue

-- lemma_wait_wake_roundtrip: the thread i of priority p waits at a new futex for its value and is the one in the queue; a wake of one
-- wakes it, with the result 0, and the futex is as new
pub record Roundtrip (v i p : ℕ) (small : i < 4294967296) : Type 0 where
  pub waited : answer (wait_out v i p running (fresh v)) ≡ waits
  pub queued : after v (asks i p running small (wait v) ∷ []) ≡ record { num = (fresh v).num; queue = entry p i ∷ [] }
  pub woke : wake_out false 1 (record { num = (fresh v).num; queue = entry p i ∷ [] }) ≡ accept (fresh v) (pos 1) (woken ok (entry p i) ∷ [])
  pub back : after v (calls i wake_one ∷ asks i p running small (wait v) ∷ []) ≡ fresh v

-- lemma_woken_bounded
pub record Bounded (all : Bool) (room : ℕ) (h e : List ℕ) : Type 0 where
  -- MAX_WAITERS <= u32::MAX
  pub limit : max_waiters ≤ 4294967295
  -- its comment: woken <= queue length <= MAX_WAITERS. Of any memory: what wake answers is at most 64
  pub woken : (n : ℕ) → answer (reply place (wake_out all room) h e) ≡ pos n → n ≤ max_waiters
