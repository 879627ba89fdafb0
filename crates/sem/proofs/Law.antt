-- The semaphore is a lawful kind. Assumes nothing.
use mathlib.Core.Path.{◌≡◌, refl, sym, ◌∙◌}
use mathlib.Core.Bool.{Bool, true, false, cond}
use mathlib.Core.List.{List, [], ◌∷◌}
use Prim.Native.Nat.{ℕ, suc, ◌-◌, ◌≤◌, ◌<◌}
use native.Mathlib.Omega.{arith}
use lib.Dec.{ltb, leb, eqb}
use borrow.Author.Tests.{lt-ltb, le-ltb, ltb-true, ltb-false, le-leb, lt-leb, leb-true, eq-eqb, ne_eqb, eqb-true}
use Rattle.seq.specs.List.{any, All}
use Rattle.seq.proofs.Order.{clash, cond_same}
use Rattle.thread.specs.Code.{eagain}
use Rattle.kind.specs.Kind.{Lawful, Rightly, Sound, Right, small}
use Rattle.kind.proofs.Picks.{all_of}
use Rattle.sem.specs.Sem.{Sem, Call, give, take, try_take, reset, formed, decide, new, sem_kind}
use Rattle.sem.proofs.Books.{books-right}

abbrev pub mk : ℕ → ℕ → Sem
mk c l = record { count = c; limit = l }

-- the numbers
module _ (c l : ℕ) where
  pub no_limit : (w : Bool) → l ≡ 0 → formed (mk c l) w ≡ false
  no_limit w h = let z : l ≤ 0 = omega arith in rw (le-ltb 0 l z)

  pub over : (w : Bool) → l < c → formed (mk c l) w ≡ false
  over w h = rw (lt-leb c l h) (cond_same (ltb 0 l) false)

  pub idle : 0 < l → c ≤ l → formed (mk c l) false ≡ true
  idle h k = rw (lt-ltb 0 l h, le-leb c l k)

  crowded : 0 < l → formed (mk c l) true ≡ eqb c 0
  crowded h = rw (lt-ltb 0 l h) (go (eqb c 0) refl)
    where
      go : (b : Bool) → eqb c 0 ≡ b → cond (leb c l) b false ≡ b
      go true z = let y : c ≤ l = omega (arith, eqb-true c 0 z) in rw (le-leb c l y)
      go false z = cond_same (leb c l) false

  pub mixed : 0 < c → formed (mk c l) true ≡ false
  mixed h = go (ltb 0 l) refl
    where
      go : (b : Bool) → ltb 0 l ≡ b → formed (mk c l) true ≡ false
      go true z = crowded (ltb-true 0 l z) ∙ ne_eqb c 0 (λ y. absurd (omega arith))
      go false z = rw z

  pub record Fine (w : Bool) : Type 0 where
    pub limited : 0 < l
    pub under : c ≤ l
    pub empty : w ≡ true → c ≡ 0

  pub is-fine : (w : Bool) → formed (mk c l) w ≡ true → Fine w
  is-fine w h = go (ltb 0 l) (leb c l) refl refl h
    where
      busy : (b : Bool) → cond b (eqb c 0) true ≡ true → b ≡ true → c ≡ 0
      busy true z q = eqb-true c 0 z
      busy false z q = clash (sym q)

      go : (a b : Bool) → ltb 0 l ≡ a → leb c l ≡ b → cond a (cond b (cond w (eqb c 0) true) false) false ≡ true → Fine w
      go true true x y z = record { limited = ltb-true 0 l x; under = leb-true c l y; empty = busy w z }
      go true false x y z = clash (sym z)
      go false b x y z = clash (sym z)

  pub fine-is : (w : Bool) → 0 < l → c ≤ l → (w ≡ true → c ≡ 0) → formed (mk c l) w ≡ true
  fine-is true h k z = crowded h ∙ eq-eqb c 0 (z refl)
  fine-is false h k z = idle h k

-- one fewer, one more, none
less : (c l : ℕ) (w : Bool) → 0 < c → formed (mk c l) w ≡ true → formed (mk (c - 1) l) w ≡ true
less c l w h f =
    let k : Fine c l w = is-fine c l w f in
    fine-is (c - 1) l w k.limited (omega (arith, k.under)) (λ z. absurd (omega (arith, k.empty z)))

zeroed : (c l : ℕ) (w u : Bool) → formed (mk c l) w ≡ true → formed (mk 0 l) u ≡ true
zeroed c l w u f = fine-is 0 l u (is-fine c l w f).limited (omega arith) (λ z. refl)

nobody : (c l : ℕ) → formed (mk c l) true ≡ true → formed (mk c l) false ≡ true
nobody c l f = let k : Fine c l true = is-fine c l true f in idle c l k.limited k.under

-- after a give to those that wait the count is still 0
after : (c l : ℕ) (q : List ℕ) → formed (mk c l) true ≡ true → formed (mk c l) (any q) ≡ true
after c l [] f = nobody c l f
after c l (x ∷ q) f = f

sound : (c l : ℕ) (v : ℕ → Unit {0}) (q : List ℕ) (w : ℕ) (k : Call) → formed (mk c l) (any q) ≡ true → Sound sem_kind q (decide (mk c l) v q w k)
sound c l v [] w give f = go (ltb c l) refl
  where
    go : (b : Bool) → ltb c l ≡ b → Sound sem_kind [] (decide (mk c l) v [] w give)
    go true z = rw z (idle (suc c) l (omega (arith, ltb-true c l z)) (ltb-true c l z))
    go false z = rw z f
sound c l v (x ∷ q) w give f = after c l q f
sound c l v q w take f = go (ltb 0 c) refl
  where
    go : (b : Bool) → ltb 0 c ≡ b → Sound sem_kind q (decide (mk c l) v q w take)
    go true z = rw z (less c l (any q) (ltb-true 0 c z) f)
    go false z =
        let h : c ≤ 0 = ltb-false 0 c z in
        let k : Fine c l (any q) = is-fine c l (any q) f in
        rw z (fine-is c l true k.limited k.under (λ y. omega arith))
sound c l v q w try_take f = go (ltb 0 c) refl
  where
    go : (b : Bool) → ltb 0 c ≡ b → Sound sem_kind q (decide (mk c l) v q w try_take)
    go true z = rw z (less c l (any q) (ltb-true 0 c z) f)
    go false z = rw z tt
sound c l v q w reset f = zeroed c l (any q) false f

right : (c l : ℕ) (v : ℕ → Unit {0}) (q : List ℕ) (w : ℕ) (k : Call) → formed (mk c l) (any q) ≡ true → Rightly sem_kind (mk c l) v q
    → Right sem_kind v q w k (decide (mk c l) v q w k)
right c l v [] w give f r = go (ltb c l) refl
  where
    go : (b : Bool) → ltb c l ≡ b → Right sem_kind v [] w give (decide (mk c l) v [] w give)
    go true z = rw z tt
    go false z = rw z tt
right c l v (x ∷ q) w give f r = (r.1, (refl, tt))
right c l v q w take f r = go (ltb 0 c) q refl f r
  where
    go : (b : Bool) (m : List ℕ) → ltb 0 c ≡ b → formed (mk c l) (any m) ≡ true → All (λ t. c ≡ 0) m → Right sem_kind v m w take (decide (mk c l) v m w take)
    go true [] z g a = rw z tt
    go true (x ∷ m) z g a = absurd (omega (arith, ltb-true 0 c z, a.0))
    go false m z g a = let h : c ≤ 0 = ltb-false 0 c z in rw z (omega arith, a)
right c l v q w try_take f r = go (ltb 0 c) q refl r
  where
    go : (b : Bool) (m : List ℕ) → ltb 0 c ≡ b → All (λ t. c ≡ 0) m → Right sem_kind v m w try_take (decide (mk c l) v m w try_take)
    go true [] z a = rw z tt
    go true (x ∷ m) z a = absurd (omega (arith, ltb-true 0 c z, a.0))
    go false m z a = rw z tt
right c l v q w reset f r = (tt, all_of (λ t. eagain ≡ eagain) (λ t. refl) q)

-- what can be made
made : (n : Sem) → new n ≡ true → formed n false ≡ true
made n h = go (small n.limit) h
  where
    go : (b : Bool) → cond b (formed n false) false ≡ true → formed n false ≡ true
    go true z = z
    go false z = clash (sym z)

pub sem_lawful : Lawful sem_kind
sem_lawful =
    record {
      sound = λ n v q w k f. sound n.count n.limit v q w k f;
      right = λ n v q w k f d r. right n.count n.limit v q w k f r;
      fewer = λ n f. nobody n.count n.limit f;
      made = made;
      booked = λ n v q w k f. books-right n v q w k;
    }
