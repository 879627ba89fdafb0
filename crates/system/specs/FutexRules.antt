-- The data sheet of a futex, in any system that has futexes.
use Rattle.std.specs.Prelude.{◌≡◌, [], ◌∷◌, ℕ, ◌<◌, pos}
use Rattle.thread.specs.Code.{ok, eagain}
use Rattle.kind.specs.Kind.{Kind}
use Rattle.futex.specs.Futex.{Futex, wait, wake_one, wake_all, set, futex_kind}
use Rattle.system.specs.System.{Sys, Kernel}
use Rattle.system.specs.Part.{Part}
use Rattle.system.specs.Effect.{has_numbers, Gets, Fails, Waits, WakesOne, WakesAll}

-- its value has 32 bits
abbrev pub FutexMakes : Futex → Type 0
FutexMakes v = v.val < 4294967296

pub record FutexRules {K : Kind} (P : Part futex_kind K) (f : Kernel K) (s : Sys K) (i o : ℕ) (v : Futex) : Type 0 where
  -- who expects the value waits; who expects another is to try again
  pub waits : Waits f s i o (P.call (wait v.val)) (P.wish tt)
  pub differs : (x : ℕ) → (v.val ≡ x → ⊥) → Fails f s i o (P.call (wait x)) eagain
  -- the first that waits is woken with 0, or all; the answer is how many
  pub wakes : WakesOne f s i o (P.call wake_one) (pos 1) (Gets f s i o (P.call wake_one) (pos 0) [])
  pub wakes_all : WakesAll f s i o (P.call wake_all) ok []
  -- another value, and nobody is woken
  pub sets : (x : ℕ) → Gets f s i o (P.call (set x)) ok (has_numbers o (P.num (record { val = x })) ∷ [])
