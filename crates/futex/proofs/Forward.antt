-- What upstream's clauses leave out, or demand of the caller, our contracts force: the answers, and who waits. Assumes nothing.
use mathlib.Core.Path.{◌≡◌, refl}
use mathlib.Core.Bool.{true}
use mathlib.Core.List.{List}
use Prim.Native.Nat.{ℕ, ◌<◌}
use lib.IntN.{ℤ, negsuc}
use lib.ListN.{length, get_or}
use borrow.Author.Tests.{eq-eqb}
use Rattle.thread.specs.Code.{ok, einval}
use Rattle.thread.specs.Priority.{max_priority}
use Rattle.thread.specs.Caller.{caller_code}
use Rattle.thread.specs.Thread.{running}
use Rattle.wait_queue.specs.Queue.{waiting}
use Rattle.wait_queue.specs.Turn.{waits}
use Rattle.kind.specs.Kind.{plain}
use Rattle.kind.specs.Object.{anyone, thread, sane}
use Rattle.kind.specs.Effect as effect
use Rattle.kind.specs.Effect.{Barred, Leaves}
use Rattle.kind.proofs.Forward.{caller_barred, kept_by, waits-by, start-refused}
use Rattle.futex.specs.Futex.{wait, set, futex_kind}
use Rattle.futex.specs.Post.{layout, Starts, Waits, SetsVal}
use Rattle.futex.proofs.Law.{mk}

-- memory is as it should be
module _ (h e : List ℕ) (s : sane futex_kind layout h e ≡ true) (r : ℤ) (h' : List ℕ) where
  -- wait: a priority above 31, a thread that waits already or does not run
  pub wait-caller-refuses : (x i p st k : ℕ) (e' : List ℕ) → caller_code p st ≡ negsuc k → Waits x i p st h e r h' e' → Barred (negsuc k) h e r h' e'
  wait-caller-refuses x i p st k e' z d = caller_barred futex_kind layout plain (thread i p st) (wait x) h e s r h' e' d k z

  -- with the expected value it waits. Upstream's answers that the thread of a full queue is blocked, and it is in no queue
  pub futex-waits : (x i p : ℕ) (e' : List ℕ) → i < 4294967296 → p < max_priority → get_or h 0 0 ≡ x → Waits x i p running h e r h' e'
      → effect.Waits i p (layout.num h) (waiting e (get_or h 1 0)) h e r (layout.num h') (waiting e' (get_or h' 1 0)) h' e'
  futex-waits x i p e' small valid z d = waits-by futex_kind layout plain i p (wait x) h e s tt waits (rw (eq-eqb (get_or h 0 0) x z)) r h' e' d small valid

  -- val_set: the answer is 0, and the same threads wait, in the same order
  pub val-set-keeps : (x : ℕ) → SetsVal x h e r h' → Leaves ok (mk x) (waiting e (get_or h 1 0)) r (layout.num h') (waiting e (get_or h' 1 0))
  val-set-keeps x d = kept_by futex_kind layout plain anyone (set x) h e s r h' e 0 refl (mk x) ok refl d

-- a header of fewer than two words
pub init-refuses : (val : ℕ) (h : List ℕ) (r : ℤ) (h' : List ℕ) → length h < 2 → Starts val h r h' → (r ≡ einval) × (h' ≡ h)
init-refuses val h r h' k s = start-refused futex_kind layout (mk val) h r h' s k
