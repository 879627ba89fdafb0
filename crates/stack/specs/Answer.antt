-- What is decided: the number that C is told, and how many words are held then, of count.
use Rattle.std.specs.Prelude.{ℕ, ℤ}
use Rattle.thread.specs.Code.{ok}
use Rattle.stack.specs.declared.PushDecision.{PushDecision}
use Rattle.stack.specs.declared.PushDecision.TheVariants.{Store, WakeWaiter}
use Rattle.stack.specs.declared.PopDecision.{PopDecision}
use Rattle.stack.specs.declared.PopDecision.TheVariants.{Pop, Pend}
use Rattle.stack.specs.Stack.{wakes_waiter, waits}

abbrev pub push_number : PushDecision → ℤ
push_number (Store n) = ok
push_number WakeWaiter = wakes_waiter

abbrev pub push_count : ℕ → PushDecision → ℕ → ℕ
push_count count (Store n) m = n
push_count count WakeWaiter m = count

abbrev pub pop_number : PopDecision → ℤ
pop_number (Pop n) = ok
pop_number Pend = waits

abbrev pub pop_count : ℕ → PopDecision → ℕ → ℕ
pop_count count (Pop n) m = n
pop_count count Pend m = count
