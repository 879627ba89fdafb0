-- The contracts of threads as C holds them leave nothing open. Assumes nothing.
use mathlib.Core.Path.{◌≡◌, sym, ◌∙◌}
use Prim.Native.Nat.{ℕ}
use lib.IntN.{ℤ, pos}
use Rattle.seq.specs.Only.{Only}
use Rattle.seq.proofs.Only.{said}
use Rattle.thread.specs.Thread.{dispatched, blocked_now}
use Rattle.thread.specs.declared.Thread.{Thread}
use Rattle.thread.specs.declared.Errno.{Errno}
use Rattle.std.specs.Prelude.{Result}
use Rattle.waitqueue.specs.Threads.{Moves, Wakes}
use Rattle.waitqueue.specs.Determined.{Determined}

-- there is a thread: its id and its result are 0
moves-only : (f : Thread → Result Thread Errno) (p s : ℕ) → Only (λ ((r, s') : ℤ × ℕ). Moves f p s r s')
moves-only f p s x y m k =
    let a = m 0 (pos 0) in
    let b = k 0 (pos 0) in
    let r : x.0 ≡ y.0 = a.0 ∙ sym b.0 in
    let t = a.1 ∙ sym b.1 in
    λ i. (r i, (t i).state)

wakes-only : (p : ℕ) (z : ℤ) (s : ℕ) (x : ℤ) → Only (λ ((r, s', x') : ℤ × ℕ × ℤ). Wakes p z s x r s' x')
wakes-only p z s x y w m k =
    let a = m 0 in
    let b = k 0 in
    let r : y.0 ≡ w.0 = a.0 ∙ sym b.0 in
    let t = a.1 ∙ sym b.1 in
    λ i. (r i, (t i).state, (t i).return_value)

pub determined : Determined
determined =
    record {
      may_wait = λ p st. said _;
      wq_priority_new = λ value. said _;
      wq_thread_dispatch = moves-only dispatched;
      wq_thread_block = moves-only blocked_now;
      wq_thread_wake = wakes-only;
    }
