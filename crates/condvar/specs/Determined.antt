-- No contract of a public function leaves anything open: of two outcomes from the same memory and the same numbers that both meet it, the answers
-- are the same, and so is every word. The number that a clause names tells which answer it is.
use Rattle.std.specs.Prelude.{◌≡◌, Bool, List, ℕ, ℤ}
use Rattle.seq.specs.Only.{Only}
use Rattle.condvar.specs.Post.{Starts, Signals, Broadcasts, Waits, CountsWaiters, SaysHasWaiters, Audits, SignalDecided, BroadcastDecided, WaitDecided}
use Rattle.condvar.specs.Answer.{to_signal}
use Rattle.condvar.specs.declared.SignalAction.{SignalAction}

pub record Determined : Type 0 where
  pub signal_decide : (waiter : Bool) → Only (λ (r : ℤ). SignalDecided waiter r)
  pub broadcast_decide : (n : ℕ) → Only (λ (r : ℤ). BroadcastDecided n r)
  pub wait_decide : (no_wait : Bool) → Only (λ (r : ℤ). WaitDecided no_wait r)
  pub init : (h : List ℕ) → Only (λ ((r, h') : ℤ × List ℕ). Starts h r h')
  pub signal : (h e : List ℕ) (w : ℕ) → Only (λ ((r, h', w') : ℤ × List ℕ × ℕ). Signals h e w r h' w')
  pub broadcast : (h e out : List ℕ) → Only (λ ((r, h', out') : ℤ × List ℕ × List ℕ). Broadcasts h e out r h' out')
  pub wait_blocking : (i p st : ℕ) (h e m d : List ℕ) (w : ℕ)
      → Only (λ ((r, h', e', m', w') : ℤ × List ℕ × List ℕ × List ℕ × ℕ). Waits i p st h e m d w r h' e' m' w')
  pub num_waiters : (h e : List ℕ) → Only (λ (r : ℤ). CountsWaiters h e r)
  pub has_waiters : (h e : List ℕ) → Only (λ (r : ℤ). SaysHasWaiters h e r)
  pub audit : (h e : List ℕ) → Only (λ (r : Bool). Audits h e r)
  pub signal_decide_answer : (x y : SignalAction) → to_signal x ≡ to_signal y → x ≡ y
