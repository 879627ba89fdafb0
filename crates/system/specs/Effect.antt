-- The words of the laws: what an operation can change, and what it does, of any kernel.
use Rattle.std.specs.Prelude.{◌≡◌, cond, List, [], ◌∷◌, ◌++◌, map, ℕ, ◌≤◌, ◌<◌, eqb, ℤ, pos, length}
use Rattle.seq.specs.List.{All}
use Rattle.thread.specs.Code.{ok, enomem}
use Rattle.wait_queue.specs.Queue.{max_waiters, entry, ident}
use Rattle.kind.specs.Kind.{Kind}
use Rattle.system.specs.System.{State, absent, running, ready, waiting, object, Sys, Op, invoke, Answer, done, denied, Woken, Kernel, upd}

-- what can change
pub data Effect (K : Kind) : Type 0 where
  -- the thread i is now in the state x; it has the priority p; it waits with the wish w
  is_now : (i : ℕ) (x : State) → Effect K
  has_priority : (i p : ℕ) → Effect K
  has_wish : (i : ℕ) (w : K.Wish) → Effect K
  -- all that wait on the object o are now ready, with the result r
  all_ready : (o : ℕ) (r : ℤ) → Effect K
  -- the object o has the numbers n; its queue is q
  has_numbers : (o : ℕ) (n : K.Num) → Effect K
  has_queue : (o : ℕ) (q : List ℕ) → Effect K

-- ready with r, if it waits on o
abbrev pub freed : ℕ → ℤ → State → State
freed o r absent = absent
freed o r running = running
freed o r (ready x) = ready x
freed o r (waiting x) = cond (eqb x o) (ready r) (waiting x)

-- s with this change, and no other
abbrev pub put : {K : Kind} → Sys K → Effect K → Sys K
put s (is_now i x) = record { prio = s.prio; state = upd s.state i x; wish = s.wish; slot = s.slot; queue = s.queue }
put s (has_priority i p) = record { prio = upd s.prio i p; state = s.state; wish = s.wish; slot = s.slot; queue = s.queue }
put s (has_wish i w) = record { prio = s.prio; state = s.state; wish = upd s.wish i w; slot = s.slot; queue = s.queue }
put s (all_ready o r) = record { prio = s.prio; state = λ t. freed o r (s.state t); wish = s.wish; slot = s.slot; queue = s.queue }
put s (has_numbers o n) = record { prio = s.prio; state = s.state; wish = s.wish; slot = upd s.slot o (object n); queue = s.queue }
put s (has_queue o q) = record { prio = s.prio; state = s.state; wish = s.wish; slot = s.slot; queue = upd s.queue o q }

abbrev pub puts : {K : Kind} → Sys K → List (Effect K) → Sys K
puts s [] = s
puts s (e ∷ es) = puts (put s e) es

-- a place for the thread i in the queue q: behind all of equal or higher priority, before all of lower; 0 is the highest
pub record Place {K : Kind} (s : Sys K) (i : ℕ) (q : List ℕ) : Type 0 where
  pub ahead : List ℕ
  pub behind : List ℕ
  pub all : q ≡ ahead ++ behind
  pub high : All (λ x. s.prio (ident x) ≤ s.prio i) ahead
  pub low : All (λ x. s.prio i < s.prio (ident x)) behind

-- the thread t is woken with r
abbrev pub woke : ℕ → ℤ → Woken
woke t r = record { thread = t; result = r }

module _ {K : Kind} (f : Kernel K) (s : Sys K) where
  -- the operation x is answered a and wakes the threads w; it changes es, and nothing else
  abbrev pub Does : Op K → Answer → List (Effect K) → List Woken → Type 0
  Does x a es w = f s x ≡ (puts s es, a, w)

  -- it is refused with the code c, changes nothing and wakes nobody
  abbrev pub Denies : Op K → ℤ → Type 0
  Denies x c = Does x (denied c) [] []

  -- the thread i, which runs, calls the object o
  module _ (i o : ℕ) where
    -- its call k is answered a, changes es and nothing else, and wakes nobody; or it is refused
    abbrev pub Gets : K.Call → ℤ → List (Effect K) → Type 0
    Gets k a es = Does (invoke i o k) (done a) es []

    abbrev pub Fails : K.Call → ℤ → Type 0
    Fails k c = Denies (invoke i o k) c

    -- it begins to wait there, with the wish w; where as many wait as can, it is refused
    pub record Waits (k : K.Call) (w : K.Wish) : Type 0 where
      pub full : max_waiters ≤ length (s.queue o) → Fails k enomem
      pub room : length (s.queue o) < max_waiters → Place s i (s.queue o)
      pub joins : (l : length (s.queue o) < max_waiters)
          → Gets k (pos 1) (is_now i (waiting o) ∷ has_wish i w ∷ has_queue o ((room l).ahead ++ (entry (s.prio i) i ∷ (room l).behind)) ∷ [])

    -- it wakes the first of the queue, with the result 0; es changes too
    abbrev pub WakesFirst : K.Call → ℤ → List (Effect K) → ℕ → List ℕ → Type 0
    WakesFirst k a es x q = Does (invoke i o k) (done a) (es ++ (is_now (ident x) (ready ok) ∷ has_queue o q ∷ [])) (woke (ident x) ok ∷ [])

    -- it wakes the first, and nothing else changes; with nobody waiting, E
    pub record WakesOne (k : K.Call) (a : ℤ) (E : Type 0) : Type 0 where
      pub first : (x : ℕ) (q : List ℕ) → s.queue o ≡ x ∷ q → WakesFirst k a [] x q
      pub alone : s.queue o ≡ [] → E

    -- it wakes all that wait, with the result r, in the order of the queue, and is answered how many they are; es changes too
    abbrev pub WakesAll : K.Call → ℤ → List (Effect K) → Type 0
    WakesAll k r es =
        Does (invoke i o k) (done (pos (length (s.queue o)))) (es ++ (all_ready o r ∷ has_queue o [] ∷ [])) (map (λ x. woke (ident x) r) (s.queue o))
