-- Any sequence of calls on one object of any lawful kind.
use Rattle.std.specs.Prelude.{◌≡◌, Bool, true, cond, List, [], ◌∷◌, ◌++◌, ℕ, ◌<◌, ◌≤◌, eqb, length}
use Rattle.seq.specs.List.{chosen, Sorted, Sub}
use Rattle.store.specs.Store.{Reply, left}
use Rattle.store.specs.History.{after}
use Rattle.wait_queue.specs.Queue.{max_waiters, entry, prio, ident, holds, NoLower, Single, Well}
use Rattle.wait_queue.specs.Turn.{remove}
use Rattle.kind.specs.Kind.{Kind}
use Rattle.kind.specs.Object.{Object, queued, named, thread, fine, call}

-- what can happen to an object: a call by the thread i, which cannot wait in it; a call in which it can; its time is over and it
-- leaves. Ids are 32-bit numbers
pub data Event (C : Type 0) : Type 0 where
  calls : (i : ℕ) → C → Event C
  asks : (i p st : ℕ) → i < 4294967296 → C → Event C
  leaves : ℕ → Event C

abbrev pub of_priority : ℕ → ℕ → Bool
of_priority p x = eqb (prio x) p

-- the thread of x is in the queue q
abbrev pub stays : List ℕ → ℕ → Bool
stays q x = holds (ident x) q

module _ (K : Kind) (v : ℕ → K.Wish) where
  abbrev pub happens : Object K.Num → Event K.Call → Reply (Object K.Num)
  happens s (calls i k) = call K v (named i) k s
  happens s (asks i p st h k) = call K v (thread i p st) k s
  happens s (leaves i) = queued s.num (remove i s.queue)

  abbrev pub next : Object K.Num → Event K.Call → Object K.Num
  next s x = left (happens s x) s

  -- after these events, of which the last stands first
  abbrev pub run : Object K.Num → List (Event K.Call) → Object K.Num
  run = after next

  -- the entry of the caller, if it is in the queue after the event and was not before
  abbrev pub came : Object K.Num → Event K.Call → List ℕ
  came s (calls i k) = []
  came s (asks i p st h k) =
      cond (holds i s.queue) [] (cond (holds i (next s (asks i p st h k)).queue) (entry p i ∷ []) [])
  came s (leaves i) = []

  -- all that began to wait, in the order of time
  abbrev pub arrivals : Object K.Num → List (Event K.Call) → List ℕ
  arrivals s [] = []
  arrivals s (x ∷ past) = arrivals s past ++ came (run s past) x

  -- the line of those that wait, by arrival alone: who is no longer in the queue is out of it, and who begins to wait is its last
  abbrev pub line : Object K.Num → List (Event K.Call) → List ℕ
  line s [] = s.queue
  line s (x ∷ past) = chosen (stays (run s (x ∷ past)).queue) (line s past) ++ came (run s past) x

  -- an object as it should be: in particular nobody waits with numbers with which nobody waits
  pub record Good (s : Object K.Num) : Type 0 where
    pub numbers : fine K s ≡ true
    pub queue : Well s.queue

  -- what the queue of an object promises after any events
  pub record Queued (s : Object K.Num) (xs : List (Event K.Call)) : Type 0 where
    -- no more wait than can
    pub short : length (run s xs).queue ≤ max_waiters
    -- no lower priority stands before a higher one
    pub sorted : Sorted NoLower (run s xs).queue
    -- no thread waits twice
    pub single : Single (run s xs).queue
    -- threads of one priority stand in the order of their arrival
    pub stable : (p : ℕ) → Sub (chosen (of_priority p) (run s xs).queue) (chosen (of_priority p) (s.queue ++ arrivals s xs))
    -- also a thread that left and came again: it stands where it came last
    pub order : (p : ℕ) → chosen (of_priority p) (run s xs).queue ≡ chosen (of_priority p) (line s xs)

  -- after any events the object is as it should be, and so is the order of its queue
  pub record Lasting (s : Object K.Num) (xs : List (Event K.Call)) : Type 0 where
    pub good : Good (run s xs)
    pub queue : Queued s xs
