-- What holds of threads and objects together.
use Rattle.std.specs.Prelude.{◌≡◌, true, cond, List, [], ◌∷◌, map, ℕ, suc, ◌<◌, eqb}
use Rattle.seq.specs.List.{any, All}
use Rattle.thread.specs.Priority.{max_priority}
use Rattle.wait_queue.specs.Queue.{entry, ident, Well}
use Rattle.kind.specs.Kind.{Kind, Rightly}
use Rattle.system.specs.System.{State, absent, running, ready, waiting, vacant, object, Sys}

-- how often the thread t stands in a queue
abbrev pub times : ℕ → List ℕ → ℕ
times t [] = 0
times t (x ∷ q) = cond (eqb (ident x) t) (suc (times t q)) (times t q)

-- 1 if the thread in this state waits on o, else 0
abbrev pub on : ℕ → State → ℕ
on o absent = 0
on o running = 0
on o (ready r) = 0
on o (waiting x) = cond (eqb x o) 1 0

-- (1) every thread is running, ready, or in exactly one queue, once
abbrev pub Placed : {K : Kind} → Sys K → Type 0
Placed s = (o t : ℕ) → times t (s.queue o) ≡ on o (s.state t)

-- (2) no thread waits while what it waits for is there
abbrev pub Kept : {K : Kind} → Sys K → Type 0
Kept {K} s = (o : ℕ) (n : K.Num) → s.slot o ≡ object n → Rightly K n s.wish (map ident (s.queue o))

-- each object is as it should be, and nobody waits where there is none
abbrev pub Formed : {K : Kind} → Sys K → Type 0
Formed {K} s = (o : ℕ) (n : K.Num) → s.slot o ≡ object n → K.formed n (any (s.queue o)) ≡ true

abbrev pub Bare : {K : Kind} → Sys K → Type 0
Bare s = (o : ℕ) → s.slot o ≡ vacant → s.queue o ≡ []

-- each queue is as it should be, and each entry is that of its thread
abbrev pub Queues : {K : Kind} → Sys K → Type 0
Queues s = (o : ℕ) → Well (s.queue o)

abbrev pub Own : {K : Kind} → Sys K → Type 0
Own s = (o : ℕ) → All (λ x. x ≡ entry (s.prio (ident x)) (ident x)) (s.queue o)

-- who is there has a 32-bit id and a priority
abbrev pub Known : {K : Kind} → Sys K → Type 0
Known s = (t : ℕ) → (s.state t ≡ absent → ⊥) → (t < 4294967296) × (s.prio t < max_priority)

pub record Fine {K : Kind} (s : Sys K) : Type 0 where
  pub placed : Placed s
  pub kept : Kept s
  pub formed : Formed s
  pub bare : Bare s
  pub queues : Queues s
  pub own : Own s
  pub known : Known s

-- no threads and no objects; x: the wish of a thread that is not there
abbrev pub empty : {K : Kind} → K.Wish → Sys K
empty x = record { prio = λ t. 0; state = λ t. absent; wish = λ t. x; slot = λ o. vacant; queue = λ o. [] }

-- at the start there is no object, and nobody waits
pub record Start {K : Kind} (s : Sys K) : Type 0 where
  pub none : (o : ℕ) → s.slot o ≡ vacant
  pub empty : (o : ℕ) → s.queue o ≡ []
  pub awake : (o t : ℕ) → on o (s.state t) ≡ 0
  pub known : Known s
