-- How often a thread stands in a queue, and tables. Assumes nothing.
use mathlib.Core.Path.{◌≡◌, refl, sym, ap, ◌∙◌}
use mathlib.Core.Bool.{Bool, true, false, cond}
use mathlib.Core.List.{List, [], ◌∷◌, map}
use Prim.Native.Nat.{ℕ, zero, suc, ◌+◌, ◌≤◌, ◌<◌}
use native.Mathlib.Omega.{arith}
use lib.Dec.{eqb, ltb}
use lib.ListN.{take, drop}
use borrow.Author.Tests.{eq-eqb, ne_eqb, eqb-true, eqb-false}
use Rattle.seq.specs.List.{chosen, others, All}
use Rattle.seq.proofs.Order.{clash, cond_same, all_map}
use Rattle.wait_queue.specs.Queue.{prio, ident, holds, joined, without, Single}
use Rattle.wait_queue.proofs.Well.{Other, holds-none}
use Rattle.kind.specs.Kind.{Kind, Distinct}
use Rattle.kind.specs.Verdict.{Pick, up_to, everybody, those, gone, spared}
use Rattle.system.specs.System.{State, absent, running, ready, waiting, Sys, upd}
use Rattle.system.specs.Rules.{times, on, Placed}

pub times-joined : (t w : ℕ) (q : List ℕ) → times t (joined w q) ≡ cond (eqb (ident w) t) (suc (times t q)) (times t q)
times-joined t w [] = refl
times-joined t w (x ∷ q) = go (ltb (prio w) (prio x)) (eqb (ident x) t) (eqb (ident w) t) refl refl (times-joined t w q)
  where
    go : (a b c : Bool) → eqb (ident x) t ≡ b → eqb (ident w) t ≡ c → times t (joined w q) ≡ cond (eqb (ident w) t) (suc (times t q)) (times t q)
        → times t (cond a (w ∷ x ∷ q) (x ∷ joined w q)) ≡ cond c (suc (cond b (suc (times t q)) (times t q))) (cond b (suc (times t q)) (times t q))
    go true true true u v ih = rw (u, v)
    go true true false u v ih = rw (u, v)
    go true false true u v ih = rw (u, v)
    go true false false u v ih = rw (u, v)
    go false true true u v ih = rw (u, ih, v)
    go false true false u v ih = rw (u, ih, v)
    go false false true u v ih = rw (u, ih, v)
    go false false false u v ih = rw (u, ih, v)

pub times-take : (t n : ℕ) (q : List ℕ) → times t q ≡ times t (take n q) + times t (drop n q)
times-take t zero q = omega arith
times-take t (suc n) [] = refl
times-take t (suc n) (x ∷ q) = go (eqb (ident x) t) refl (times-take t n q)
  where
    go : (b : Bool) → eqb (ident x) t ≡ b → times t q ≡ times t (take n q) + times t (drop n q)
        → cond b (suc (times t q)) (times t q) ≡ cond b (suc (times t (take n q))) (times t (take n q)) + times t (drop n q)
    go true u ih = omega arith
    go false u ih = ih

pub times-chosen : (t : ℕ) (f : ℕ → Bool) (q : List ℕ) → times t q ≡ times t (chosen f q) + times t (others f q)
times-chosen t f [] = refl
times-chosen t f (x ∷ q) = go (f x) (eqb (ident x) t) refl (times-chosen t f q)
  where
    go : (a b : Bool) → eqb (ident x) t ≡ b → times t q ≡ times t (chosen f q) + times t (others f q)
        → cond b (suc (times t q)) (times t q) ≡ times t (cond a (x ∷ chosen f q) (chosen f q)) + times t (cond a (others f q) (x ∷ others f q))
    go true true u ih = rw u (omega arith)
    go true false u ih = rw u ih
    go false true u ih = rw u (omega arith)
    go false false u ih = rw u ih

pub times_pick : (t : ℕ) (p : Pick) (q : List ℕ) → times t q ≡ times t (gone ident p q) + times t (spared ident p q)
times_pick t (up_to n) q = times-take t n q
times_pick t everybody q = omega arith
times_pick t (those f) q = times-chosen t (λ x. f (ident x)) q

-- who is in a queue
pub held : (t : ℕ) (q : List ℕ) → holds t q ≡ true → 0 < times t q
held t [] h = clash (sym h)
held t (x ∷ q) h = go (eqb (ident x) t) h (held t q)
  where
    go : (b : Bool) → cond b true (holds t q) ≡ true → (holds t q ≡ true → 0 < times t q) → 0 < cond b (suc (times t q)) (times t q)
    go true z ih = omega arith
    go false z ih = ih z

pub unheld : (t : ℕ) (q : List ℕ) → holds t q ≡ false → times t q ≡ 0
unheld t [] h = refl
unheld t (x ∷ q) h = go (eqb (ident x) t) h (unheld t q)
  where
    go : (b : Bool) → cond b true (holds t q) ≡ false → (holds t q ≡ false → times t q ≡ 0) → cond b (suc (times t q)) (times t q) ≡ 0
    go true z ih = clash z
    go false z ih = ih z

pub not-held : (t : ℕ) (q : List ℕ) → times t q ≡ 0 → holds t q ≡ false
not-held t q z = go (holds t q) refl
  where
    go : (b : Bool) → holds t q ≡ b → b ≡ false
    go true h = absurd (omega (arith, held t q h))
    go false h = refl

pub times-without : (t i : ℕ) (q : List ℕ) → times t (without i q) ≡ cond (eqb i t) 0 (times t q)
times-without t i [] = sym (cond_same (eqb i t) 0)
times-without t i (x ∷ q) = go (eqb (ident x) i) (eqb i t) (eqb (ident x) t) refl refl refl (times-without t i q)
  where
    go : (a b c : Bool) → eqb (ident x) i ≡ a → eqb i t ≡ b → eqb (ident x) t ≡ c → times t (without i q) ≡ cond (eqb i t) 0 (times t q)
        → times t (cond a (without i q) (x ∷ without i q)) ≡ cond b 0 (cond c (suc (times t q)) (times t q))
    go true true c u v w ih = rw (ih, v)
    go true false true u v w ih = absurd (eqb-false i t v (sym (eqb-true (ident x) i u) ∙ eqb-true (ident x) t w))
    go true false false u v w ih = rw (ih, v)
    go false true true u v w ih = absurd (eqb-false (ident x) i u (eqb-true (ident x) t w ∙ sym (eqb-true i t v)))
    go false true false u v w ih = rw (w, ih, v)
    go false false true u v w ih = rw (w, ih, v)
    go false false false u v w ih = rw (w, ih, v)

-- the place that a state names
pub on-is : (o : ℕ) (x : State) → 0 < on o x → x ≡ waiting o
on-is o absent h = absurd (omega arith)
on-is o running h = absurd (omega arith)
on-is o (ready r) h = absurd (omega arith)
on-is o (waiting y) h = go (eqb y o) refl h
  where
    go : (b : Bool) → eqb y o ≡ b → 0 < cond b 1 0 → waiting y ≡ waiting o
    go true z k = ap waiting (eqb-true y o z)
    go false z k = absurd (omega arith)

pub on_one : (o : ℕ) (x : State) → on o x ≤ 1
on_one o absent = omega arith
on_one o running = omega arith
on_one o (ready r) = omega arith
on_one o (waiting y) = go (eqb y o)
  where
    go : (b : Bool) → cond b 1 0 ≤ 1
    go true = omega arith
    go false = omega arith

-- who is picked waited there
pub picked : {K : Kind} (s : Sys K) → Placed s → (o t : ℕ) (p : Pick) → holds t (gone ident p (s.queue o)) ≡ true → s.state t ≡ waiting o
picked s g o t p z = on-is o (s.state t) (omega (arith, held t (gone ident p (s.queue o)) z, times_pick t p (s.queue o), g o t))

-- a table at a place, and at another
pub upd-at : {A : Type 0} (f : ℕ → A) (i : ℕ) (x : A) → upd f i x i ≡ x
upd-at f i x = rw (eq-eqb i i refl)

pub upd_off : {A : Type 0} (f : ℕ → A) (i : ℕ) (x : A) (t : ℕ) → (i ≡ t → ⊥) → upd f i x t ≡ f t
upd_off f i x t n = rw (ne_eqb i t n)

-- what holds of each of a list that is made of another
pub all_list : {A : Type 0} (P : A → Type 0) (f : ℕ → A) (q : List ℕ) → All P (map f q) → All (λ x. P (f x)) q
all_list P f [] a = tt
all_list P f (x ∷ q) a = (a.0, all_list P f q a.1)

pub list_all : {A : Type 0} (P : A → Type 0) (f : ℕ → A) (q : List ℕ) → All (λ x. P (f x)) q → All P (map f q)
list_all P f [] a = tt
list_all P f (x ∷ q) a = (a.0, list_all P f q a.1)

-- who stands in a queue once is no other there
pub distinct : (q : List ℕ) → Single q → Distinct (map ident q)
distinct [] s = tt
distinct (x ∷ q) s = (
  list_all (λ u. ident x ≡ u → ⊥) ident q (all_map (Other (ident x)) (λ y. ident x ≡ ident y → ⊥) q (λ y n e. n (sym e))
      (holds-none (ident x) q s.0)),
  distinct q s.1,
)

-- where each thread stands once at most, none waits twice
pub single : (q : List ℕ) → ((t : ℕ) → times t q ≤ 1) → Single q
single [] h = tt
single (x ∷ q) h = (
  not-held (ident x) q (let z : suc (times (ident x) q) ≤ 1 = rw (eq-eqb (ident x) (ident x) refl) at (h (ident x)) in omega arith),
  single q (λ t. omega (arith, h t, more t (eqb (ident x) t))),
)
  where
    more : (t : ℕ) (b : Bool) → times t q ≤ cond b (suc (times t q)) (times t q)
    more t true = omega arith
    more t false = omega arith
