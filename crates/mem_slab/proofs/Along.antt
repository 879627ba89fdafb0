-- Counting, and lists along links. Assumes nothing.
use mathlib.Core.Path.{◌≡◌, refl, ap}
use mathlib.Core.Bool.{Bool, true, false, cond}
use mathlib.Core.List.{List, ◌∷◌}
use Prim.Native.Nat.{ℕ, zero, suc, ◌+◌, ◌-◌, ◌≤◌, ◌<◌}
use native.Mathlib.Omega.{arith}
use lib.Dec.{eqb}
use lib.ListN.{get_or, set}
use lib.Seq.{get_or-set_other}
use borrow.Author.Tests.{ne_eqb, eqb-true, eqb-false}
use Rattle.mem_slab.specs.Slab.{up_from}
use Rattle.mem_slab.specs.History.{count, number, along}

-- where b stands nowhere along the links, its own is not read
pub along-same : (l : List ℕ) (b v c m : ℕ) → count b (along l c m) ≡ 0 → along (set l b v) c m ≡ along l c m
along-same l b v c zero e = refl
along-same l b v c (suc m) e = go (eqb c b) refl e (along-same l b v (get_or l c 0 - 1) m)
  where
    go : (t : Bool) → eqb c b ≡ t → cond t (suc (count b (along l (get_or l c 0 - 1) m))) (count b (along l (get_or l c 0 - 1) m)) ≡ 0
        → (count b (along l (get_or l c 0 - 1) m) ≡ 0 → along (set l b v) (get_or l c 0 - 1) m ≡ along l (get_or l c 0 - 1) m)
        → along (set l b v) c (suc m) ≡ along l c (suc m)
    go true t z ih = absurd (omega arith)
    go false t z ih = rw (get_or-set_other l b c v 0 (eqb-false c b t)) (ap (λ (k : List ℕ). c ∷ k) (ih z))

-- each link names the next: the numbers in order
pub along_up : (l : List ℕ) (n i m : ℕ) → i + m ≤ n → ((j : ℕ) → suc j < n → get_or l j 0 ≡ suc (suc j)) → along l i m ≡ up_from i m
along_up l n i zero h f = refl
along_up l n i (suc zero) h f = refl
along_up l n i (suc (suc m)) h f =
    let z : get_or l i 0 - 1 ≡ suc i = omega (arith, f i (omega arith)) in
    rw z (ap (λ (k : List ℕ). i ∷ k) (along_up l n (suc i) (suc m) (omega arith) f))

-- one that passes more
module _ (f g : ℕ → Bool) (b : ℕ) (was : f b ≡ false) (is : g b ≡ true) (same : (i : ℕ) → (i ≡ b → ⊥) → g i ≡ f i) where
  number_same : (n : ℕ) → n ≤ b → number g n ≡ number f n
  number_same zero h = refl
  number_same (suc n) h = rw (same n (λ e. omega arith), number_same n (omega arith))

  pub number_more : (n : ℕ) → b < n → number g n ≡ suc (number f n)
  number_more zero h = absurd (omega arith)
  number_more (suc n) h = go (eqb n b) refl (number_more n)
    where
      other : (c : Bool) (m : ℕ) → cond c (suc (suc m)) (suc m) ≡ suc (cond c (suc m) m)
      other true m = refl
      other false m = refl

      go : (t : Bool) → eqb n b ≡ t → (b < n → number g n ≡ suc (number f n)) → number g (suc n) ≡ suc (number f (suc n))
      go true t ih = let e : n ≡ b = eqb-true n b t in rw (e, is, was, number_same b (omega arith))
      go false t ih = let d : n ≡ b → ⊥ = eqb-false n b t in rw (same n d, ih (omega arith)) (other (f n) (number f n))

pub number-none : (f : ℕ → Bool) (n : ℕ) → ((i : ℕ) → f i ≡ false) → number f n ≡ 0
number-none f zero h = refl
number-none f (suc n) h = rw (h n, number-none f n h)

pub number_ext : (f g : ℕ → Bool) (n : ℕ) → ((i : ℕ) → f i ≡ g i) → number f n ≡ number g n
number_ext f g zero h = refl
number_ext f g (suc n) h = rw (h n, number_ext f g n h)

-- the numbers from k on, each once
pub count_none : (b k n : ℕ) → (k ≤ b → k + n ≤ b) → count b (up_from k n) ≡ 0
count_none b k zero h = refl
count_none b k (suc n) h = rw (ne_eqb k b (λ e. omega (arith, h (omega arith)))) (count_none b (suc k) n (λ e. omega (arith, h (omega arith))))

pub count_up : (b k n : ℕ) → k ≤ b → b < k + n → count b (up_from k n) ≡ 1
count_up b k zero h e = absurd (omega arith)
count_up b k (suc n) h e = go (eqb k b) refl (count_up b (suc k) n)
  where
    go : (t : Bool) → eqb k b ≡ t → (suc k ≤ b → b < suc k + n → count b (up_from (suc k) n) ≡ 1) → count b (up_from k (suc n)) ≡ 1
    go true t ih = rw t (ap suc (count_none b (suc k) n (λ e. omega (arith, eqb-true k b t))))
    go false t ih = let d : k ≡ b → ⊥ = eqb-false k b t in rw t (ih (omega arith) (omega arith))
