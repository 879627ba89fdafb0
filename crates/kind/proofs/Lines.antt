-- Those of a queue that are still in it after an event, in their order. Assumes nothing.
use mathlib.Core.Path.{◌≡◌, refl, sym, ap, ◌∙◌}
use mathlib.Core.Bool.{Bool, true, false, cond}
use mathlib.Core.List.{List, [], ◌∷◌}
use Prim.Native.Nat.{ℕ}
use lib.Dec.{eqb}
use borrow.Author.Tests.{eq-eqb, ne_eqb, eqb-false}
use Rattle.seq.specs.List.{chosen, All, Sub, end, skip, have}
use Rattle.seq.proofs.Order.{clash, all_map, has-insert}
use Rattle.seq.proofs.Sub.{sub_has}
use Rattle.wait_queue.specs.Queue.{prio, ident, of, holds, joined, Single}
use Rattle.kind.specs.History.{stays}

pub chosen_swap : (f g : ℕ → Bool) (l : List ℕ) → chosen f (chosen g l) ≡ chosen g (chosen f l)
chosen_swap f g [] = refl
chosen_swap f g (x ∷ l) = go (f x) (g x) refl refl (chosen_swap f g l)
  where
    go : (a b : Bool) → f x ≡ a → g x ≡ b → chosen f (chosen g l) ≡ chosen g (chosen f l)
        → chosen f (cond b (x ∷ chosen g l) (chosen g l)) ≡ chosen g (cond a (x ∷ chosen f l) (chosen f l))
    go true true p q ih = rw (p, q) (ap (λ (m : List ℕ). x ∷ m) ih)
    go true false p q ih = rw q ih
    go false true p q ih = rw p ih
    go false false p q ih = ih

pub chosen-same : (f g : ℕ → Bool) (l : List ℕ) → All (λ x. f x ≡ g x) l → chosen f l ≡ chosen g l
chosen-same f g [] a = refl
chosen-same f g (x ∷ l) a = rw (a.0, chosen-same f g l a.1)

pub chosen-all : (f : ℕ → Bool) (l : List ℕ) → All (λ x. f x ≡ true) l → chosen f l ≡ l
chosen-all f [] a = refl
chosen-all f (x ∷ l) a = rw (a.0, chosen-all f l a.1)

-- who is not in a queue is none of its threads
others : (i : ℕ) (q : List ℕ) → holds i q ≡ false → All (λ y. eqb i (ident y) ≡ false) q
others i [] h = tt
others i (x ∷ q) h = go (eqb (ident x) i) refl h (λ k. others i q k)
  where
    go : (b : Bool) → eqb (ident x) i ≡ b → cond b true (holds i q) ≡ false → (holds i q ≡ false → All (λ y. eqb i (ident y) ≡ false) q)
        → (eqb i (ident x) ≡ false) × All (λ y. eqb i (ident y) ≡ false) q
    go true e z ih = clash z
    go false e z ih = (ne_eqb i (ident x) (λ q. eqb-false (ident x) i e (sym q)), ih z)

-- of a queue in which nobody stands twice, those that are in a part of it are that part
pub stay_sub : {l m : List ℕ} → Sub l m → Single m → chosen (stays l) m ≡ l
stay_sub end s = refl
stay_sub (skip {x = x} t) s = rw (sub_has (of (ident x)) t s.0) (stay_sub t s.1)
stay_sub (have {x = x} {l = l} {m = m} t) s =
    let a : All (λ y. stays (x ∷ l) y ≡ stays l y) m =
    all_map (λ y. eqb (ident x) (ident y) ≡ false) (λ y. stays (x ∷ l) y ≡ stays l y) m (λ y e. rw e) (others (ident x) m s.0) in
    rw (eq-eqb (ident x) (ident x) refl) (ap (λ (k : List ℕ). x ∷ k) (chosen-same (stays (x ∷ l)) (stays l) m a ∙ stay_sub t s.1))

-- each thread of a queue is in it, and in one that has one more
each : (q : List ℕ) → All (λ x. stays q x ≡ true) q
each [] = tt
each (x ∷ q) = (
  rw (eq-eqb (ident x) (ident x) refl),
  all_map (λ y. stays q y ≡ true) (λ y. stays (x ∷ q) y ≡ true) q (λ y e. more (eqb (ident x) (ident y)) y e) (each q),
)
  where
    more : (b : Bool) (y : ℕ) → stays q y ≡ true → cond b true (stays q y) ≡ true
    more true y e = refl
    more false y e = e

pub stay_joined : (w : ℕ) (q : List ℕ) → chosen (stays (joined w q)) q ≡ q
stay_joined w q = chosen-all (stays (joined w q)) q (all_map (λ y. stays q y ≡ true) (λ y. stays (joined w q) y ≡ true) q (λ y e. one y e) (each q))
  where
    more : (b c : Bool) → c ≡ true → cond b true c ≡ true
    more true c e = refl
    more false c e = e

    one : (y : ℕ) → stays q y ≡ true → stays (joined w q) y ≡ true
    one y e = has-insert prio (of (ident y)) w q ∙ more (eqb (ident w) (ident y)) (stays q y) e
