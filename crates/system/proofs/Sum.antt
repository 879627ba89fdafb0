-- A sum of lawful kinds is a lawful kind. Assumes nothing.
use mathlib.Core.Path.{◌≡◌, ap}
use mathlib.Core.Bool.{true, false}
use mathlib.Core.Logic.{◌⊎◌, inl, inr}
use mathlib.Core.List.{List}
use Prim.Native.Nat.{ℕ}
use Rattle.seq.specs.List.{any}
use lib.IntN.{pos, negsuc}
use Rattle.kind.specs.Verdict.{keep, park, wake, Verdict, deny, allow}
use Rattle.kind.specs.Kind.{Lawful, Rightly, Distinct, Sound, Right, Booked}
use Rattle.system.specs.Sum.{Member, ◌⊕◌, mapped, balance, on_left, on_right}

module _ (A B : Member) (a : Lawful A.kind) (b : Lawful B.kind) where
  sound-left : (q : List ℕ) (d : Verdict A.kind.Num A.kind.Wish) → Sound A.kind q d → Sound (A ⊕ B).kind q (mapped inl inl d)
  sound-left q (deny r) s = tt
  sound-left q (allow n keep r) s = s
  sound-left q (allow n (park x) r) s = s
  sound-left q (allow n (wake p f) r) s = s

  sound-right : (q : List ℕ) (d : Verdict B.kind.Num B.kind.Wish) → Sound B.kind q d → Sound (A ⊕ B).kind q (mapped inr inr d)
  sound-right q (deny r) s = tt
  sound-right q (allow n keep r) s = s
  sound-right q (allow n (park x) r) s = s
  sound-right q (allow n (wake p f) r) s = s

  right-left : (v : ℕ → A.kind.Wish ⊎ B.kind.Wish) (q : List ℕ) (w : ℕ) (k : A.kind.Call) (d : Verdict A.kind.Num A.kind.Wish)
      → Right A.kind (λ t. on_left A.idle (v t)) q w k d → Right (A ⊕ B).kind v q w (inl k) (mapped inl inl d)
  right-left v q w k (deny r) s = tt
  right-left v q w k (allow n keep r) s = s
  right-left v q w k (allow n (park x) r) s = s
  right-left v q w k (allow n (wake p f) r) s = s

  right-right : (v : ℕ → A.kind.Wish ⊎ B.kind.Wish) (q : List ℕ) (w : ℕ) (k : B.kind.Call) (d : Verdict B.kind.Num B.kind.Wish)
      → Right B.kind (λ t. on_right B.idle (v t)) q w k d → Right (A ⊕ B).kind v q w (inr k) (mapped inr inr d)
  right-right v q w k (deny r) s = tt
  right-right v q w k (allow n keep r) s = s
  right-right v q w k (allow n (park x) r) s = s
  right-right v q w k (allow n (wake p f) r) s = s

  sound : (n : A.kind.Num ⊎ B.kind.Num) (v : ℕ → A.kind.Wish ⊎ B.kind.Wish) (q : List ℕ) (w : ℕ) (k : A.kind.Call ⊎ B.kind.Call)
      → (A ⊕ B).kind.formed n (any q) ≡ true → Sound (A ⊕ B).kind q ((A ⊕ B).kind.decide n v q w k)
  sound (inl m) v q w (inl k) f = sound-left q (A.kind.decide m (λ t. on_left A.idle (v t)) q w k) (a.sound m (λ t. on_left A.idle (v t)) q w k f)
  sound (inl m) v q w (inr k) f = tt
  sound (inr n) v q w (inl k) f = tt
  sound (inr n) v q w (inr k) f = sound-right q (B.kind.decide n (λ t. on_right B.idle (v t)) q w k) (b.sound n (λ t. on_right B.idle (v t)) q w k f)

  right : (n : A.kind.Num ⊎ B.kind.Num) (v : ℕ → A.kind.Wish ⊎ B.kind.Wish) (q : List ℕ) (w : ℕ) (k : A.kind.Call ⊎ B.kind.Call)
      → (A ⊕ B).kind.formed n (any q) ≡ true → Distinct q → Rightly (A ⊕ B).kind n v q → Right (A ⊕ B).kind v q w k ((A ⊕ B).kind.decide n v q w k)
  right (inl m) v q w (inl k) f d r = right-left v q w k (A.kind.decide m (λ t. on_left A.idle (v t)) q w k)
      (a.right m (λ t. on_left A.idle (v t)) q w k f d r)
  right (inl m) v q w (inr k) f d r = tt
  right (inr n) v q w (inl k) f d r = tt
  right (inr n) v q w (inr k) f d r = right-right v q w k (B.kind.decide n (λ t. on_right B.idle (v t)) q w k)
      (b.right n (λ t. on_right B.idle (v t)) q w k f d r)

  fewer : (n : A.kind.Num ⊎ B.kind.Num) → (A ⊕ B).kind.formed n true ≡ true → (A ⊕ B).kind.formed n false ≡ true
  fewer (inl m) f = a.fewer m f
  fewer (inr n) f = b.fewer n f

  made : (n : A.kind.Num ⊎ B.kind.Num) → (A ⊕ B).kind.new n ≡ true → (A ⊕ B).kind.formed n false ≡ true
  made (inl m) f = a.made m f
  made (inr n) f = b.made n f

  booked-left : (n : A.kind.Num) (q : List ℕ) (w : ℕ) (k : A.kind.Call) (d : Verdict A.kind.Num A.kind.Wish) → Booked A.kind n q w k d
      → Booked (A ⊕ B).kind (inl n) q w (inl k) (mapped inl inl d)
  booked-left n q w k (deny (pos r)) s = s
  booked-left n q w k (deny (negsuc r)) s = tt
  booked-left n q w k (allow m keep (pos r)) s = ap (balance inl) s
  booked-left n q w k (allow m keep (negsuc r)) s = s
  booked-left n q w k (allow m (park x) r) s = ap (balance inl) s
  booked-left n q w k (allow m (wake p f) (pos r)) s = ap (balance inl) s
  booked-left n q w k (allow m (wake p f) (negsuc r)) s = s

  booked-right : (n : B.kind.Num) (q : List ℕ) (w : ℕ) (k : B.kind.Call) (d : Verdict B.kind.Num B.kind.Wish) → Booked B.kind n q w k d
      → Booked (A ⊕ B).kind (inr n) q w (inr k) (mapped inr inr d)
  booked-right n q w k (deny (pos r)) s = s
  booked-right n q w k (deny (negsuc r)) s = tt
  booked-right n q w k (allow m keep (pos r)) s = ap (balance inr) s
  booked-right n q w k (allow m keep (negsuc r)) s = s
  booked-right n q w k (allow m (park x) r) s = ap (balance inr) s
  booked-right n q w k (allow m (wake p f) (pos r)) s = ap (balance inr) s
  booked-right n q w k (allow m (wake p f) (negsuc r)) s = s

  booked : (n : A.kind.Num ⊎ B.kind.Num) (v : ℕ → A.kind.Wish ⊎ B.kind.Wish) (q : List ℕ) (w : ℕ) (k : A.kind.Call ⊎ B.kind.Call)
      → (A ⊕ B).kind.formed n (any q) ≡ true → Booked (A ⊕ B).kind n q w k ((A ⊕ B).kind.decide n v q w k)
  booked (inl m) v q w (inl k) f = booked-left m q w k (A.kind.decide m (λ t. on_left A.idle (v t)) q w k)
      (a.booked m (λ t. on_left A.idle (v t)) q w k f)
  booked (inl m) v q w (inr k) f = tt
  booked (inr n) v q w (inl k) f = tt
  booked (inr n) v q w (inr k) f = booked-right n q w k (B.kind.decide n (λ t. on_right B.idle (v t)) q w k)
      (b.booked n (λ t. on_right B.idle (v t)) q w k f)

  pub sum_lawful : Lawful (A ⊕ B).kind
  sum_lawful = record { sound = sound; right = right; fewer = fewer; made = made; booked = booked }
