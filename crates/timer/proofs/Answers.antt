-- What an expiry answers, by the count and the period. Assumes nothing.
use mathlib.Core.Path.{◌≡◌}
use mathlib.Core.List.{[]}
use Prim.Native.Nat.{ℕ, suc, ◌≤◌, ◌<◌}
use lib.IntN.{pos}
use borrow.Author.Tests.{lt-ltb, le-ltb, eq-eqb, ne_eqb}
use Rattle.thread.specs.Code.{eoverflow}
use Rattle.store.specs.Store.{Reply, refuse, accept}
use Rattle.store.proofs.Laws.{less}
use Rattle.timer.specs.Timer.{Timer, timer, most, unless_zero, expire_decide, expire}

pub zero_no : (n : ℕ) → n ≡ 0 → unless_zero n ≡ pos 0
zero_no n e = rw (eq-eqb n 0 e)

pub other_yes : (n : ℕ) → (n ≡ 0 → ⊥) → unless_zero n ≡ pos 1
other_yes n e = rw (ne_eqb n 0 e)

-- on plain numbers
module _ (s p : ℕ) where
  pub decide-most : s ≡ most → expire_decide s p ≡ refuse eoverflow
  decide-most e = rw e

  pub decide-once : s < most → p ≡ 0 → expire_decide s p ≡ accept (suc s) (pos 0) []
  decide-once b e = rw (lt-ltb s most b, zero_no p e)

  pub decide-again : s < most → (p ≡ 0 → ⊥) → expire_decide s p ≡ accept (suc s) (pos 1) []
  decide-again b e = rw (lt-ltb s most b, other_yes p e)

-- an expiry counts, or is refused
pub by_expiry : (P : Reply Timer → Type 0) (t : Timer)
    → (t.status < most → P (accept (timer (suc t.status) t.period t.running) (pos (suc t.status)) []))
    → (most ≤ t.status → P (refuse eoverflow)) → P (expire t)
by_expiry P t f g = less t.status most (λ b. rw (lt-ltb t.status most b) (f b)) (λ b. rw (le-ltb t.status most b) (g b))
