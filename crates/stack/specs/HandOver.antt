-- Somebody waits for a word. A push is then told to hand its word over, and no number changes: it is as if the word were pushed, and the one
-- that waits had popped it at once. So all that holds of pushes and pops holds with those that wait.
use Rattle.std.specs.Prelude.{◌≡◌, Bool, true, cond, List, [], ◌∷◌, ◌++◌, ℕ, suc, ◌-◌, ◌<◌, ltb}
use Rattle.seq.specs.List.{any}
use Rattle.thread.specs.Code.{ebusy}
use Rattle.store.specs.Store.{Reply, refuse, accept, answer, left, out, carry, settled}
use Rattle.store.specs.History.{after}
use Rattle.stack.specs.Stack.{Stack, wakes_waiter, waits, right, pops, push_decide, push, pop}
use Rattle.stack.specs.History.{Call, pushing, popping, does, next, depth}

-- a stack, and how many wait for a word of it
pub record Waited : Type 0 where
  pub stack : Stack
  pub waiting : ℕ

-- a push; a pop whose caller may wait, or may not
pub data Event : Type 0 where
  put : ℕ → Event
  get : (no_wait : Bool) → Event

-- what is done, and answered. The word that goes out goes to the first that waits, or to the caller
abbrev pub happens : Event → Waited → Reply Waited
happens (put x) u =
    cond (ltb 0 u.waiting) (accept (record { stack = u.stack; waiting = u.waiting - 1 }) wakes_waiter (x ∷ []))
    (carry (λ s. record { stack = s; waiting = u.waiting }) (push x u.stack))
happens (get no_wait) u =
    cond (any u.stack.held) (carry (λ s. record { stack = s; waiting = u.waiting }) (pop u.stack))
    (cond no_wait (refuse ebusy) (accept (record { stack = u.stack; waiting = suc u.waiting }) waits []))

abbrev pub step : Waited → Event → Waited
step u e = left (happens e u) u

-- after the events es, of which the last stands first
abbrev pub ends : Waited → List Event → Waited
ends = after step

-- the pushes and pops that come to the same, the last first: a word that is handed over is pushed and popped; who begins to wait does nothing
abbrev pub calls : Waited → Event → List Call
calls s (put x) = cond (ltb 0 s.waiting) (popping ∷ pushing x ∷ []) (pushing x ∷ [])
calls s (get no_wait) = cond (any s.stack.held) (popping ∷ []) []

abbrev pub all_calls : Waited → List Event → List Call
all_calls s [] = []
all_calls s (e ∷ es) = calls (ends s es) e ++ all_calls s es

-- the words that go out, the last first
abbrev pub words_out : {S K : Type 0} → (K → S → Reply S) → S → List K → List ℕ
words_out does s [] = []
words_out does s (k ∷ ks) = out (does k (after (λ t j. left (does j t) t) s ks)) ++ words_out does s ks

-- what push_decide and pop_decide decide of the numbers
abbrev pub decided : Event → Waited → Reply ℕ
decided (put x) u = push_decide (depth u.stack) u.stack.capacity (ltb 0 u.waiting)
decided (get no_wait) u = pops (depth u.stack) no_wait

-- told the numbers of u, they answer what is done, and the new counts are theirs
pub record Decides (u : Waited) : Type 0 where
  -- the numbers are right
  pub numbers : right (depth u.stack) u.stack.capacity (ltb 0 u.waiting) ≡ true
  pub code : (e : Event) → answer (decided e u) ≡ answer (happens e u)
  pub count : (e : Event) → settled (λ n. n) (decided e u) (depth u.stack) ≡ depth (step u e).stack

-- after any events on a new stack s, on which nobody waits
pub record Alike (s : Waited) (es : List Event) : Type 0 where
  -- nobody waits while it holds a word
  pub idle : 0 < (ends s es).waiting → (ends s es).stack.held ≡ []
  -- it holds what it would hold after the pushes and pops, and the same words went out, in the same order
  pub held : (ends s es).stack.held ≡ (after next s.stack (all_calls s es)).held
  pub went : words_out happens s es ≡ words_out does s.stack (all_calls s es)
  pub decides : Decides (ends s es)
