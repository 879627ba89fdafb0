-- Who is woken: of the highest priority, and of those the one that has waited longest.
use Rattle.std.specs.Prelude.{◌≡◌, cond, ◌⊎◌, List, [], ◌∷◌, map, ℕ, suc, ◌<◌, ltb, ℤ}
use Rattle.seq.specs.List.{Sorted}
use Rattle.wait_queue.specs.Queue.{ident}
use Rattle.kind.specs.Kind.{Kind}
use Rattle.system.specs.System.{ready, waiting, Op, expire}
use Rattle.system.specs.Rules.{on}
use Rattle.system.specs.Run.{Run}

-- the thread t is to be woken before u: it is of higher priority, or of the same and has waited longer
abbrev pub Before : (prio age : ℕ → ℕ) → ℕ → ℕ → Type 0
Before p a t u = (p t < p u) ⊎ ((p t ≡ p u) × (a u < a t))

module _ {K : Kind} (R : Run K) where
  -- for how many of the last operations, without a break, the thread t has been waiting on the object o
  abbrev pub age : List (Op K) → ℕ → ℕ → ℕ
  age [] o t = 0
  age (x ∷ past) o t = cond (ltb 0 (on o ((R.state (x ∷ past)).state t))) (suc (age past o t)) 0

  -- every queue is in the order in which it is to be woken
  abbrev pub Ordered : List (Op K) → Type 0
  Ordered past = (o : ℕ) → Sorted (Before (R.state past).prio (age past o)) (map ident ((R.state past).queue o))

  -- of two threads that wait on one object a call wakes t, and u waits on: t is to be woken before u
  abbrev pub Best : List (Op K) → Op K → Type 0
  Best past x =
      (o t u : ℕ) (r : ℤ) → (R.state past).state t ≡ waiting o → (R.state past).state u ≡ waiting o → (x ≡ expire t → ⊥)
      → (R.state (x ∷ past)).state t ≡ ready r → (R.state (x ∷ past)).state u ≡ waiting o → Before (R.state past).prio (age past o) t u
