-- What is decided, of a whole timeout. Assumes nothing.
use mathlib.Core.Path.{◌≡◌}
use mathlib.Core.Bool.{true, false}
use mathlib.Core.List.{List, []}
use Prim.Native.Nat.{ℕ, ◌+◌, ◌≤◌, ◌<◌}
use native.Mathlib.Omega.{arith}
use lib.IntN.{pos}
use borrow.Author.Tests.{lt-ltb, le-ltb}
use Rattle.thread.specs.Code.{ok, ebusy, einval}
use Rattle.store.specs.Store.{Reply, refuse, accept}
use Rattle.store.proofs.Laws.{either, less}
use Rattle.timeout.specs.Timeout.{Timeout, timeout, never, is_active, fires, arm, abort, announce}
use Rattle.timeout.proofs.Numbers.{announces-none, announces-quiet, announces-fires}

module _ (t : Timeout) where
  module _ (y : Reply ℕ) where
    pub set-busy : 0 < t.active → arm y t ≡ refuse ebusy
    set-busy k = rw (lt-ltb 0 t.active k)

    module _ (k : t.active ≡ 0) where
      pub set_no : y ≡ refuse einval → arm y t ≡ refuse einval
      set_no e = rw (le-ltb 0 t.active (omega arith), e)

      pub set_is : {x : ℕ} {l : List ℕ} → y ≡ accept x ok l → arm y t ≡ accept (timeout x 1 t.clock) ok l
      set_is e = rw (le-ltb 0 t.active (omega arith), e)

  pub abort_no : t.active ≡ 0 → abort t ≡ refuse einval
  abort_no k = rw (le-ltb 0 t.active (omega arith))

  pub abort-is : 0 < t.active → abort t ≡ accept (timeout t.deadline 0 t.clock) ok []
  abort-is k = rw (lt-ltb 0 t.active k)

  module _ (n : ℕ) where
    pub announce-late : never ≤ t.clock + n → announce n t ≡ refuse einval
    announce-late k = rw (announces-none (is_active t) t.deadline t.clock n k)

    module _ (k : t.clock + n < never) where
      pub announce-quiet : fires (is_active t) t.deadline (t.clock + n) ≡ false
          → announce n t ≡ accept (timeout t.deadline t.active (t.clock + n)) ok []
      announce-quiet e = rw (announces-quiet (is_active t) t.deadline t.clock n k e, e)

      pub announce_rings : fires (is_active t) t.deadline (t.clock + n) ≡ true
          → announce n t ≡ accept (timeout t.deadline 0 (t.clock + n)) (pos 1) []
      announce_rings e = rw (announces-fires (is_active t) t.deadline t.clock n k e, e)

    -- one of the three
    pub by-announce : (P : Reply Timeout → Type 0) → (never ≤ t.clock + n → P (refuse einval))
        → (t.clock + n < never → fires (is_active t) t.deadline (t.clock + n) ≡ false → P (accept (timeout t.deadline t.active (t.clock + n)) ok []))
        → (t.clock + n < never → fires (is_active t) t.deadline (t.clock + n) ≡ true → P (accept (timeout t.deadline 0 (t.clock + n)) (pos 1) []))
        → P (announce n t)
    by-announce P f g r =
        less (t.clock + n) never
        (λ k. either (fires (is_active t) t.deadline (t.clock + n)) (λ e. rw (announce_rings k e) (r k e)) (λ e. rw (announce-quiet k e) (g k e)))
        (λ k. rw (announce-late k) (f k))
