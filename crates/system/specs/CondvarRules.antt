-- The data sheet of a condition variable, in any system that has condition variables.
use Rattle.std.specs.Prelude.{[], ℕ, pos}
use Rattle.thread.specs.Code.{ok, eagain}
use Rattle.kind.specs.Kind.{Kind}
use Rattle.condvar.specs.Condvar.{signal, broadcast, wait, try_wait, condvar_kind}
use Rattle.system.specs.System.{Sys, Kernel}
use Rattle.system.specs.Part.{Part}
use Rattle.system.specs.Effect.{Gets, Fails, Waits, WakesOne, WakesAll}

pub record CondvarRules {K : Kind} (P : Part condvar_kind K) (f : Kernel K) (s : Sys K) (i o : ℕ) : Type 0 where
  -- the first that waits is woken with 0; the answer is how many
  pub signals : WakesOne f s i o (P.call signal) (pos 1) (Gets f s i o (P.call signal) (pos 0) [])
  pub broadcasts : WakesAll f s i o (P.call broadcast) ok []
  pub waits : Waits f s i o (P.call wait) (P.wish tt)
  pub tries : Fails f s i o (P.call try_wait) eagain
