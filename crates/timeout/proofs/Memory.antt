-- A timeout in memory: what a header that is as it should be shows. Assumes nothing.
use mathlib.Core.Path.{◌≡◌}
use mathlib.Core.Bool.{Bool, true, cond}
use mathlib.Core.List.{List, []}
use mathlib.Core.Logic.{◌⊎◌, inl, inr}
use Prim.Native.Nat.{ℕ, ◌≤◌, ◌<◌}
use lib.Dec.{eqb, ltb, leb}
use lib.ListN.{length, get_or}
use borrow.Author.Tests.{ltb-true, leb-true, eqb-true, lt-ltb}
use Rattle.store.proofs.Laws.{both_true, either}
use Rattle.timeout.specs.Timeout.{never, right}
use Rattle.timeout.specs.Post.{place}

-- what a header that is as it should be shows
pub record Sound (h : List ℕ) : Type 0 where
  pub words : 3 ≤ length h
  pub below : get_or h 2 0 < never
  pub ahead : 0 < get_or h 1 0 → (get_or h 0 0 ≡ 0) ⊎ (get_or h 2 0 ≤ get_or h 0 0)

pub right_is : (b : Bool) (d c : ℕ) → right b d c ≡ true → (c < never) × (b ≡ true → (d ≡ 0) ⊎ (c ≤ d))
right_is b d c e =
    let t = both_true (ltb c never) (cond b (cond (eqb d 0) true (leb c d)) true) e in
    (ltb-true c never t.0, λ f. either (eqb d 0) (λ g. inl (eqb-true d 0 g)) (λ g. inr (leb-true c d (rw (f, g) at t.1))))

pub sound : (h : List ℕ) → place.formed h [] ≡ true → Sound h
sound h e =
    let t = both_true (leb 3 (length h)) (right (ltb 0 (get_or h 1 0)) (get_or h 0 0) (get_or h 2 0)) e in
    let u = right_is (ltb 0 (get_or h 1 0)) (get_or h 0 0) (get_or h 2 0) t.1 in
    record { words = leb-true 3 (length h) t.0; below = u.0; ahead = λ k. u.1 (lt-ltb 0 (get_or h 1 0) k) }
