-- What a function does to the part that it is lent, it does to the whole. Assumes nothing.
use mathlib.Core.Path.{◌≡◌, refl, sym, ap, ◌∙◌}
use mathlib.Core.Bool.{Bool, true, false}
use mathlib.Core.List.{List, ◌++◌}
use Prim.Native.Nat.{ℕ, ◌+◌, ◌-◌, ◌≤◌, ◌<◌}
use native.Mathlib.Omega.{arith}
use lib.Dec.{ltb}
use lib.IntN.{ℤ}
use lib.ListN.{length, get_or, take, drop, length-take, length-drop, length-append, get_or-append}
use lib.Seq.{length-take-le, take_at, drop_at, ext_get_or, get_or-take, get_or-drop, get_or-append-add}
use borrow.Author.Tests.{ltb-true, ltb-false}
use borrow.Rule.Slice.PartMut.{put_mid, post_of}
use Rattle.seq.specs.Part.{part, Within, At}

module _ (a n : ℕ) (l : List ℕ) (fits : a + n ≤ length l) where
  pub part-long : length (part a n l) ≡ n
  unfolding part
  part-long = length-take-le n (drop a l) (omega (arith, length-drop a l))

  -- the part comes back as y
  module _ (y : List ℕ) (long : length y ≡ n) where
    front_long : length (take a l) ≡ a
    front_long = length-take-le a l (omega arith)

    pub part-put : part a n (put_mid a n l y) ≡ y
    unfolding part
    part-put = ap (take n) (drop_at (take a l) (y ++ post_of a n l) a front_long) ∙ take_at y (post_of a n l) n long

    pub within-put : Within a n l (put_mid a n l y)
    within-put =
        record {
          long =
              omega (arith, length-append (take a l) (y ++ post_of a n l), length-append y (post_of a n l), front_long, length-drop n (drop a l), length-drop a l);
          below = λ j h. get_or-append (take a l) (y ++ post_of a n l) 0 j (omega (arith, front_long)) ∙ get_or-take a l j 0 h;
          above = λ j h. behind j (j - a - n) (omega (arith, h));
        }
      where
        behind : (j m : ℕ) → j ≡ a + (n + m) → get_or (put_mid a n l y) j 0 ≡ get_or l j 0
        behind j m z =
            ap (λ (b : ℕ). get_or (put_mid a n l y) b 0) (z ∙ ap (λ (b : ℕ). b + (n + m)) (sym front_long))
            ∙ get_or-append-add (take a l) (y ++ post_of a n l) (n + m) 0
            ∙ ap (λ (b : ℕ). get_or (y ++ post_of a n l) (b + m) 0) (sym long)
            ∙ get_or-append-add y (post_of a n l) m 0
            ∙ get_or-drop n (drop a l) m 0
            ∙ get_or-drop a l (n + m) 0
            ∙ ap (λ (b : ℕ). get_or l b 0) (sym z)

module _ (a m : ℕ) (l l' : List ℕ) (w : Within a m l l') where
  part_by : (c n : ℕ) → ((j : ℕ) → c ≤ j → j < c + n → get_or l' j 0 ≡ get_or l j 0) → part c n l' ≡ part c n l
  unfolding part
  part_by c n h =
      let d : length (drop c l') ≡ length (drop c l) = length-drop c l' ∙ ap (λ (x : ℕ). x - c) w.long ∙ sym (length-drop c l) in
      ext_get_or 0 (take n (drop c l')) (take n (drop c l)) (length-take n (drop c l') ∙ rw d (sym (length-take n (drop c l))))
      (λ i k. let z : i < n = omega (arith, k, length-take n (drop c l')) in
      get_or-take n (drop c l') i 0 z ∙ get_or-drop c l' i 0 ∙ h (c + i) (omega arith) (omega arith) ∙ sym (get_or-drop c l i 0) ∙ sym (get_or-take n (drop c l) i 0 z))

  -- another part stays
  pub part-below : (c n : ℕ) → c + n ≤ a → part c n l' ≡ part c n l
  part-below c n h = part_by c n (λ j x y. w.below j (omega arith))

  pub part-above : (c n : ℕ) → a + m ≤ c → part c n l' ≡ part c n l
  part-above c n h = part_by c n (λ j x y. w.above j (omega arith))

  -- if the part stays, all does
  pub whole-stays : part a m l' ≡ part a m l → l' ≡ l
  unfolding part
  whole-stays h = ext_get_or 0 l' l w.long (λ j k. at j (ltb j a) refl (ltb j (a + m)) refl)
    where
      inside : (i j : ℕ) → j ≡ a + i → i < m → get_or l' j 0 ≡ get_or l j 0
      inside i j e z =
          ap (λ (c : ℕ). get_or l' c 0) e ∙ sym (get_or-drop a l' i 0) ∙ sym (get_or-take m (drop a l') i 0 z)
          ∙ ap (λ (c : List ℕ). get_or c i 0) h ∙ get_or-take m (drop a l) i 0 z ∙ get_or-drop a l i 0 ∙ ap (λ (c : ℕ). get_or l c 0) (sym e)

      at : (j : ℕ) (x : Bool) → ltb j a ≡ x → (y : Bool) → ltb j (a + m) ≡ y → get_or l' j 0 ≡ get_or l j 0
      at j true f y g = w.below j (ltb-true j a f)
      at j false f false g = w.above j (ltb-false j (a + m) g)
      at j false f true g = inside (j - a) j (omega (arith, ltb-false j a f)) (omega (arith, ltb-true j (a + m) g, ltb-false j a f))

pub within_same : (a n : ℕ) (l : List ℕ) → Within a n l l
within_same a n l = record { long = refl; below = λ j h. refl; above = λ j h. refl }

-- a slice from a to b is lent, and comes back as y
module _ (a b n : ℕ) (l y : List ℕ) (is : b - a ≡ n) (fits : a + n ≤ length l) (long : length y ≡ length (take (b - a) (drop a l))) where
  pub cut : part a n l ≡ take (b - a) (drop a l)
  unfolding part
  cut = rw is

  lent-long : length y ≡ n
  lent-long = long ∙ rw is (length-take-le n (drop a l) (omega (arith, length-drop a l)))

  pub lent-now : part a n (put_mid a (b - a) l y) ≡ y
  lent-now = rw is (part-put a n l fits y lent-long)

  pub lent-within : Within a n l (put_mid a (b - a) l y)
  lent-within = rw is (within-put a n l fits y lent-long)

-- a slice of h from a to x and one of b from c to y are lent to a function that meets C
module _ (C : List ℕ → List ℕ → ℤ → List ℕ → List ℕ → Type 0) (a x n c y m : ℕ) (h b : List ℕ) (r : ℤ) (v : List ℕ)
    (is : x - a ≡ n) (fits : a + n ≤ length h) (long : length v ≡ length (take (x - a) (drop a h))) (is' : y - c ≡ m) (fits' : c + m ≤ length b) where
  pub at_parts : (w : List ℕ) → length w ≡ length (take (y - c) (drop c b)) → C (take (x - a) (drop a h)) (take (y - c) (drop c b)) r v w
      → At C a n c m h b r (put_mid a (x - a) h v) (put_mid c (y - c) b w)
  at_parts w k d =
      record {
        does =
            rw (cut a x n h v is fits long, cut c y m b w is' fits' k, lent-now a x n h v is fits long, lent-now c y m b w is' fits' k) d;
        header = lent-within a x n h v is fits long;
        memory = lent-within c y m b w is' fits' k;
      }

  -- the second is only read
  pub at_part : C (take (x - a) (drop a h)) (take (y - c) (drop c b)) r v (take (y - c) (drop c b)) → At C a n c m h b r (put_mid a (x - a) h v) b
  at_part d =
      record {
        does = rw (cut a x n h v is fits long, cut c y m b (take (y - c) (drop c b)) is' fits' refl, lent-now a x n h v is fits long) d;
        header = lent-within a x n h v is fits long;
        memory = within_same c m b;
      }

-- a refusal changes no word of the whole
pub at-refused : {C : List ℕ → List ℕ → ℤ → List ℕ → List ℕ → Type 0} {a n c m : ℕ} {h b : List ℕ} {r : ℤ} {h' b' : List ℕ}
    → (C (part a n h) (part c m b) r (part a n h') (part c m b') → (part a n h' ≡ part a n h) × (part c m b' ≡ part c m b))
    → At C a n c m h b r h' b' → (h' ≡ h) × (b' ≡ b)
at-refused {C} {a} {n} {c} {m} {h} {b} {r} {h'} {b'} f t =
    let p = f t.does in
    (whole-stays a n h h' t.header p.0, whole-stays c m b b' t.memory p.1)
