-- What is decided on plain numbers. Assumes nothing.
use mathlib.Core.Path.{◌≡◌}
use mathlib.Core.Bool.{Bool, true, false}
use mathlib.Core.List.{[]}
use Prim.Native.Nat.{ℕ, suc, ◌-◌, ◌<◌}
use native.Mathlib.Omega.{arith}
use borrow.Author.Tests.{lt-ltb, le-ltb, le-leb, eq-eqb}
use Rattle.thread.specs.Code.{ok, enomem, ebusy}
use Rattle.store.specs.Store.{refuse, accept}
use Rattle.stack.specs.Stack.{wakes_waiter, waits, pops, push_decide}

module _ (n c : ℕ) (b : Bool) (a : 0 < c) where
  pub push-wakes : b ≡ true → n ≡ 0 → push_decide n c b ≡ accept n wakes_waiter []
  push-wakes e k = rw (e, lt-ltb 0 c a, eq-eqb n 0 k)

  pub push-full : b ≡ false → n ≡ c → push_decide n c b ≡ refuse enomem
  push-full e k = rw (e, lt-ltb 0 c a, le-leb n c (omega arith), le-ltb n c (omega arith))

  pub push-stores : b ≡ false → n < c → push_decide n c b ≡ accept (suc n) ok []
  push-stores e k = rw (e, lt-ltb 0 c a, le-leb n c (omega arith), lt-ltb n c k)

module _ (n : ℕ) (b : Bool) where
  pub pop-takes : 0 < n → pops n b ≡ accept (n - 1) ok []
  pop-takes k = rw (lt-ltb 0 n k)

  pub pop-busy : b ≡ true → n ≡ 0 → pops n b ≡ refuse ebusy
  pop-busy e k = rw (e, k)

  pub pop-pends : b ≡ false → n ≡ 0 → pops n b ≡ accept 0 waits []
  pop-pends e k = rw (e, k)
