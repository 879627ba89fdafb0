-- What is told of a timeout, active or not. Assumes nothing.
use mathlib.Core.Path.{◌≡◌}
use mathlib.Core.List.{[], ◌∷◌}
use Prim.Native.Nat.{◌<◌}
use native.Mathlib.Omega.{arith}
use borrow.Author.Tests.{lt-ltb, le-ltb}
use Rattle.thread.specs.Code.{ok}
use Rattle.store.specs.Store.{accept}
use Rattle.timeout.specs.Timeout.{Timeout, until, remaining, expires}

module _ (t : Timeout) where
  module _ (e : t.active ≡ 0) where
    pub remaining-none : remaining t ≡ accept t ok (0 ∷ [])
    remaining-none = rw (le-ltb 0 t.active (omega arith))

    pub expires-idle : expires t ≡ accept t ok (t.clock ∷ [])
    expires-idle = rw (le-ltb 0 t.active (omega arith))

  module _ (k : 0 < t.active) where
    pub remaining-some : remaining t ≡ accept t ok (until t.deadline t.clock ∷ [])
    remaining-some = rw (lt-ltb 0 t.active k)

    pub expires-active : expires t ≡ accept t ok (t.deadline ∷ [])
    expires-active = rw (lt-ltb 0 t.active k)
