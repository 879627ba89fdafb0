-- A stack in memory: when it is as it should be, and what a store to the header or to the words makes of it. Assumes nothing.
use mathlib.Core.Path.{◌≡◌, refl}
use mathlib.Core.Bool.{true, false}
use mathlib.Core.List.{List, ◌∷◌, ◌++◌}
use Prim.Native.Nat.{ℕ, suc, ◌-◌, ◌≤◌, ◌<◌}
use native.Mathlib.Omega.{arith}
use lib.Dec.{ltb, leb}
use lib.ListN.{length, get_or, set, take, drop}
use lib.Seq.{drop-cons, set-get_or, get_or-set_same, drop-set-lt}
use borrow.Author.Tests.{ltb-true, leb-true, lt-ltb, le-leb}
use Rattle.seq.proofs.Words.{by-words}
use Rattle.seq.proofs.Back.{back-set}
use Rattle.store.specs.Store.{Becomes}
use Rattle.store.proofs.Laws.{both_true, refuted}
use Rattle.stack.specs.Stack.{may}
use Rattle.stack.specs.Post.{stack_of, place}

-- what a header and words that are as they should be show
pub record Sound (h w : List ℕ) : Type 0 where
  pub words : 2 ≤ length h
  pub some_room : 0 < get_or h 0 0
  pub within : get_or h 1 0 ≤ get_or h 0 0
  pub housed : get_or h 0 0 ≤ length w

pub is-sound : (h w : List ℕ) → place.formed h w ≡ true → Sound h w
is-sound h w e =
    let a = both_true (leb 2 (length h)) _ e in
    let b = both_true (ltb 0 (get_or h 0 0)) _ a.1 in
    let c = both_true (leb (get_or h 1 0) (get_or h 0 0)) _ b.1 in
    record { words = leb-true _ _ a.0; some_room = ltb-true _ _ b.0; within = leb-true _ _ c.0; housed = leb-true _ _ c.1 }

pub formed : (h w : List ℕ) → Sound h w → place.formed h w ≡ true
formed h w s =
    rw (le-leb 2 (length h) s.words, lt-ltb 0 (get_or h 0 0) s.some_room, le-leb (get_or h 1 0) (get_or h 0 0) s.within, le-leb (get_or h 0 0) (length w) s.housed)

pub malformed : (h w : List ℕ) → (Sound h w → ⊥) → place.formed h w ≡ false
malformed h w n = refuted (λ e. n (is-sound h w e))

-- what a stack that there can be shows
pub may-is : (c : ℕ) (w : List ℕ) → may c w ≡ true → (0 < c) × (c ≤ length w)
may-is c w e = let a = both_true (ltb 0 c) _ e in (ltb-true _ _ a.0, leb-true _ _ a.1)

-- a header with this capacity and this count, over words that are the same from the capacity on
pub becomes : (h w w' : List ℕ) (c n : ℕ) → 2 ≤ length h → 0 < c → n ≤ c → c ≤ length w → length w' ≡ length w → drop c w' ≡ drop c w
    → Becomes place (stack_of c n w') h w (set (set h 0 c) 1 n) w'
becomes h w w' c n k a b e l d =
    by-words 2 (λ h. Becomes place (stack_of c n w') h w (set (set h 0 c) 1 n) w')
    (λ x y t. record {
      formed = formed (c ∷ n ∷ t) w' (record { words = omega arith; some_room = a; within = b; housed = omega arith });
      object = refl;
      beside = refl;
      rest = d;
      long = (refl, l);
    }) h k

-- the capacity stays
pub counts : (h w w' : List ℕ) (n : ℕ) → Sound h w → n ≤ get_or h 0 0 → length w' ≡ length w → drop (get_or h 0 0) w' ≡ drop (get_or h 0 0) w
    → Becomes place (stack_of (get_or h 0 0) n w') h w (set h 1 n) w'
counts h w w' n s b l d = rw (set-get_or h 0 0) at (becomes h w w' (get_or h 0 0) n s.words s.some_room b s.housed l d)

module _ (c n : ℕ) (w : List ℕ) (b : n < c) (k : c ≤ length w) where
  -- the spare words begin with word n
  next : take (c - n) (drop n w) ≡ get_or w n 0 ∷ take (c - suc n) (drop (suc n) w)
  next = let e : c - n ≡ suc (c - suc n) = omega arith in rw (e, drop-cons w n 0 (omega arith))

  pub one_more : (x : ℕ) → stack_of c (suc n) (set w n x) ≡ record { capacity = c; held = x ∷ (stack_of c n w).held; spare = drop 1 (stack_of c n w).spare }
  one_more x = rw (next, get_or-set_same w n x 0 (omega arith), back-set w n n x (omega arith), drop-set-lt (suc n) w n x (omega arith))

  pub one_fewer : stack_of c n w ≡ record { capacity = c; held = drop 1 (stack_of c (suc n) w).held; spare = take 1 (stack_of c (suc n) w).held ++ (stack_of c (suc n) w).spare }
  one_fewer = rw next
