-- What one call does to a stack: it stores, it takes, or nothing changes. Assumes nothing.
use mathlib.Core.Path.{◌≡◌, refl}
use mathlib.Core.Bool.{Bool, true, false}
use mathlib.Core.List.{List, [], ◌∷◌}
use Prim.Native.Nat.{ℕ, ◌≤◌, ◌<◌}
use native.Mathlib.Omega.{arith}
use lib.Dec.{ltb}
use lib.ListN.{length, drop}
use borrow.Author.Tests.{ltb-true, ltb-false, lt-ltb, le-ltb}
use Rattle.thread.specs.Code.{ok, enomem, ebusy}
use Rattle.store.specs.Store.{Reply, refuse, accept}
use Rattle.stack.specs.Stack.{Stack, push, pop}
use Rattle.stack.specs.History.{Call, pushing, popping, does}

abbrev pub mk : ℕ → List ℕ → List ℕ → Stack
mk c l p = record { capacity = c; held = l; spare = p }

module _ (c : ℕ) (l p : List ℕ) where
  pub push-some : (x : ℕ) → length l < c → push x (mk c l p) ≡ accept (mk c (x ∷ l) (drop 1 p)) ok []
  push-some x b = rw (lt-ltb (length l) c b)

  pub push-none : (x : ℕ) → c ≤ length l → push x (mk c l p) ≡ refuse enomem
  push-none x b = rw (le-ltb (length l) c b)

  pub pop-some : (y : ℕ) → pop (mk c (y ∷ l) p) ≡ accept (mk c l (y ∷ p)) ok (y ∷ [])
  pop-some y = rw (lt-ltb 0 (length (y ∷ l)) (omega arith))

-- the call, the reply, and what is held then
pub data Does (c : ℕ) : List ℕ → List ℕ → Call → Reply Stack → Type 0 where
  stores : {l p : List ℕ} {x : ℕ} → length l < c → Does c l p (pushing x) (accept (mk c (x ∷ l) (drop 1 p)) ok [])
  no_room : {l p : List ℕ} {x : ℕ} → c ≤ length l → Does c l p (pushing x) (refuse enomem)
  takes : {l p : List ℕ} {y : ℕ} → Does c (y ∷ l) p popping (accept (mk c l (y ∷ p)) ok (y ∷ []))
  nothing : {p : List ℕ} → Does c [] p popping (refuse ebusy)

pub which : (c : ℕ) (l p : List ℕ) (k : Call) → Does c l p k (does k (mk c l p))
which c l p (pushing x) = go (ltb (length l) c) refl
  where
    go : (b : Bool) → ltb (length l) c ≡ b → Does c l p (pushing x) (push x (mk c l p))
    go true e = let b = ltb-true (length l) c e in rw (push-some c l p x b) (stores b)
    go false e = let b = ltb-false (length l) c e in rw (push-none c l p x b) (no_room b)
which c [] p popping = nothing
which c (y ∷ l) p popping = rw (pop-some c l p y) takes
