-- Those that are woken and those that stay, as entries and as threads. Assumes nothing.
use mathlib.Core.Path.{◌≡◌, refl, ap}
use mathlib.Core.Bool.{Bool, true, false, cond}
use mathlib.Core.List.{List, [], ◌∷◌, map}
use Prim.Native.Nat.{ℕ, zero, suc}
use lib.Dec.{ltb}
use lib.ListN.{take, drop}
use Rattle.seq.specs.List.{any, chosen, others, All, Sub}
use Rattle.seq.proofs.Order.{clash}
use Rattle.seq.proofs.Sub.{sub_none, sub_drop, others_sub}
use Rattle.wait_queue.specs.Queue.{prio, joined}
use Rattle.kind.specs.Verdict.{Pick, up_to, everybody, those, gone, spared}
use Rattle.kind.specs.Kind.{itself}

-- what holds of every thread holds of all that wait
pub all_of : (P : ℕ → Type 0) → ((t : ℕ) → P t) → (q : List ℕ) → All P q
all_of P f [] = tt
all_of P f (t ∷ q) = (f t, all_of P f q)

pub any-joined : (w : ℕ) (q : List ℕ) → any (joined w q) ≡ true
any-joined w [] = refl
any-joined w (x ∷ q) = go (ltb (prio w) (prio x))
  where
    go : (b : Bool) → any (cond b (w ∷ x ∷ q) (x ∷ joined w q)) ≡ true
    go true = refl
    go false = refl

pub none_any : (q : List ℕ) → any q ≡ false → q ≡ []
none_any [] h = refl
none_any (x ∷ q) h = clash h

pub any-map : (f : ℕ → ℕ) (q : List ℕ) → any (map f q) ≡ any q
any-map f [] = refl
any-map f (x ∷ q) = refl

pub spared_sub : (f : ℕ → ℕ) (p : Pick) (q : List ℕ) → Sub (spared f p q) q
spared_sub f (up_to n) q = sub_drop n q
spared_sub f everybody q = sub_none q
spared_sub f (those t) q = others_sub (λ x. t (f x)) q

drop-map : (f : ℕ → ℕ) (n : ℕ) (q : List ℕ) → drop n (map f q) ≡ map f (drop n q)
drop-map f zero q = refl
drop-map f (suc n) [] = refl
drop-map f (suc n) (x ∷ q) = drop-map f n q

take-map : (f : ℕ → ℕ) (n : ℕ) (q : List ℕ) → take n (map f q) ≡ map f (take n q)
take-map f zero q = refl
take-map f (suc n) [] = refl
take-map f (suc n) (x ∷ q) = ap (λ (l : List ℕ). f x ∷ l) (take-map f n q)

others-map : (f : ℕ → ℕ) (t : ℕ → Bool) (q : List ℕ) → others t (map f q) ≡ map f (others (λ x. t (f x)) q)
others-map f t [] = refl
others-map f t (x ∷ q) = go (t (f x)) (others-map f t q)
  where
    go : (b : Bool) → others t (map f q) ≡ map f (others (λ x. t (f x)) q)
        → cond b (others t (map f q)) (f x ∷ others t (map f q)) ≡ map f (cond b (others (λ x. t (f x)) q) (x ∷ others (λ x. t (f x)) q))
    go true ih = ih
    go false ih = ap (λ (l : List ℕ). f x ∷ l) ih

chosen-map : (f : ℕ → ℕ) (t : ℕ → Bool) (q : List ℕ) → chosen t (map f q) ≡ map f (chosen (λ x. t (f x)) q)
chosen-map f t [] = refl
chosen-map f t (x ∷ q) = go (t (f x)) (chosen-map f t q)
  where
    go : (b : Bool) → chosen t (map f q) ≡ map f (chosen (λ x. t (f x)) q)
        → cond b (f x ∷ chosen t (map f q)) (chosen t (map f q)) ≡ map f (cond b (x ∷ chosen (λ x. t (f x)) q) (chosen (λ x. t (f x)) q))
    go true ih = ap (λ (l : List ℕ). f x ∷ l) ih
    go false ih = ih

-- to pick of the entries and to pick of their threads is the same
pub spared-map : (f : ℕ → ℕ) (p : Pick) (q : List ℕ) → spared itself p (map f q) ≡ map f (spared f p q)
spared-map f (up_to n) q = drop-map f n q
spared-map f everybody q = refl
spared-map f (those t) q = others-map f t q

pub gone-map : (f : ℕ → ℕ) (p : Pick) (q : List ℕ) → gone itself p (map f q) ≡ map f (gone f p q)
gone-map f (up_to n) q = take-map f n q
gone-map f everybody q = refl
gone-map f (those t) q = chosen-map f t q
