-- What one event does to a stack with those that wait, beside what its calls do to one without. Assumes nothing.
use mathlib.Core.Path.{◌≡◌, refl, ap}
use mathlib.Core.Bool.{Bool, true, false}
use mathlib.Core.List.{List, [], ◌∷◌}
use Prim.Native.Nat.{ℕ, suc, ◌≤◌, ◌<◌}
use native.Mathlib.Omega.{arith}
use lib.Dec.{ltb}
use lib.ListN.{length}
use borrow.Author.Tests.{ltb-true, ltb-false, lt-ltb, le-leb}
use Rattle.store.specs.Store.{answer, out, settled}
use Rattle.store.specs.History.{after}
use Rattle.stack.specs.Stack.{Stack, right, pushes, pops}
use Rattle.stack.specs.History.{does, next, depth}
use Rattle.stack.specs.HandOver.{Waited, Event, put, get, happens, step, calls, words_out, decided, Decides}
use Rattle.stack.proofs.Calls.{mk, push-some, push-none, pop-some}

abbrev with : ℕ → Stack → Waited
with n s = record { stack = s; waiting = n }

-- the one with those that wait holds what the other holds; nobody waits while there is a word
pub data Same : Waited → Stack → Type 0 where
  same : {c n : ℕ} {l p q : List ℕ} → 0 < c → length l ≤ c → (0 < n → l ≡ []) → Same (with n (mk c l p)) (mk c l q)

abbrev Goes : Waited → Stack → Event → Type 0
Goes u t e = Same (step u e) (after next t (calls u e)) × (out (happens e u) ≡ words_out does t (calls u e))

pub goes : {u : Waited} {t : Stack} → Same u t → (e : Event) → Goes u t e
goes (same {c} {n} {l} {p} {q} a b i) (put x) = go (ltb 0 n) (ltb (length l) c) refl refl
  where
    go : (d f : Bool) → ltb 0 n ≡ d → ltb (length l) c ≡ f → Goes (with n (mk c l p)) (mk c l q) (put x)
    go true f e g = rw (i (ltb-true 0 n e), e, push-some c [] q x a) (same {l = []} a (omega arith) (λ z. refl), refl)
    go false true e g =
        let d = ltb-true (length l) c g in
        rw (e, push-some c l p x d, push-some c l q x d) (same {n = n} a d (λ z. absurd (omega (arith, ltb-false 0 n e))), refl)
    go false false e g =
        let d = ltb-false (length l) c g in
        rw (e, push-none c l p x d, push-none c l q x d) (same a b i, refl)
goes (same {l = []} a b i) (get true) = (same a b i, refl)
goes (same {l = []} a b i) (get false) = (same a b (λ z. refl), refl)
goes (same {c} {n} {l = y ∷ l} {p} {q} a b i) (get no_wait) =
    rw (pop-some c l p y, pop-some c l q y) (same {n = n} {l = l} a (omega arith) (λ z. absurd (omega (arith, ap length (i z)))), refl)

-- the decide functions
pub decides : {u : Waited} {t : Stack} → Same u t → Decides u
decides (same {c} {n} {l} {p} a b i) = record { numbers = numbers; code = λ e. (meets e).0; count = λ e. (meets e).1 }
  where
    numbers : right (length l) c (ltb 0 n) ≡ true
    numbers = go (ltb 0 n) refl
      where
        go : (d : Bool) → ltb 0 n ≡ d → right (length l) c (ltb 0 n) ≡ true
        go true e = rw (e, lt-ltb 0 c a, i (ltb-true 0 n e))
        go false e = rw (e, lt-ltb 0 c a) (le-leb (length l) c b)

    meets : (e : Event) → (answer (decided e (with n (mk c l p))) ≡ answer (happens e (with n (mk c l p))))
        × (settled (λ m. m) (decided e (with n (mk c l p))) (length l) ≡ depth (step (with n (mk c l p)) e).stack)
    meets (put x) = rw numbers (go (ltb 0 n) (ltb (length l) c) refl refl)
      where
        go : (d f : Bool) → ltb 0 n ≡ d → ltb (length l) c ≡ f
            → (answer (pushes (length l) c (ltb 0 n)) ≡ answer (happens (put x) (with n (mk c l p))))
            × (settled (λ m. m) (pushes (length l) c (ltb 0 n)) (length l) ≡ depth (step (with n (mk c l p)) (put x)).stack)
        go true f e g = rw e (refl, refl)
        go false true e g = rw (e, g) (refl, refl)
        go false false e g = rw (e, g) (refl, refl)
    meets (get no_wait) = go l no_wait
      where
        go : (m : List ℕ) (no_wait : Bool) → (answer (pops (length m) no_wait) ≡ answer (happens (get no_wait) (with n (mk c m p))))
            × (settled (λ k. k) (pops (length m) no_wait) (length m) ≡ depth (step (with n (mk c m p)) (get no_wait)).stack)
        go [] true = (refl, refl)
        go [] false = (refl, refl)
        go (y ∷ m) no_wait = rw (lt-ltb 0 (suc (length m)) (omega arith)) (refl, omega arith)

pub alike : {u : Waited} {t : Stack} → Same u t → (0 < u.waiting → u.stack.held ≡ []) × (u.stack.held ≡ t.held)
alike (same a b i) = (i, refl)
