-- What a wait answers, by its number's test and its condition. Assumes nothing.
use mathlib.Core.Path.{◌≡◌}
use mathlib.Core.Bool.{Bool, true, false}
use mathlib.Core.List.{[]}
use Prim.Native.Nat.{ℕ, ◌≤◌, ◌<◌}
use borrow.Author.Tests.{le-leb, lt-leb}
use Rattle.thread.specs.Code.{ebusy, einval}
use Rattle.store.specs.Store.{refuse, accept}
use Rattle.event.specs.Event.{matching, met, waits}
use Rattle.event.specs.Event as event

-- a wait type above 1
pub no_type : (e d t : ℕ) (b : Bool) → 1 < t → waits e d t b ≡ refuse einval
no_type e d t b k = rw (lt-leb t 1 k)

module _ (e d t : ℕ) (b : Bool) (k : t ≤ 1) where
  pub met-now : met t d e ≡ true → waits e d t b ≡ accept (matching d e) event.matched []
  met-now p = rw (le-leb t 1 k, p)

  pub wait-busy : met t d e ≡ false → b ≡ true → waits e d t b ≡ refuse ebusy
  wait-busy p q = rw (le-leb t 1 k, p, q)

  pub wait-pends : met t d e ≡ false → b ≡ false → waits e d t b ≡ accept 0 event.pends []
  wait-pends p q = rw (le-leb t 1 k, p, q)
