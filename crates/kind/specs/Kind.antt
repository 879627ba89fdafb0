-- A kind of kernel object, and what it has to prove to get every law of this crate.
use Rattle.std.specs.Prelude.{◌≡◌, Bool, true, false, cond, List, [], ◌∷◌, ℕ, ltb, ℤ, pos, negsuc}
use Rattle.seq.specs.List.{any, All}
use Rattle.thread.specs.Code.{einval}
use Rattle.wait_queue.specs.Turn.{waits}
use Rattle.kind.specs.Verdict.{gone, spared, keep, park, wake, Verdict, deny, allow}

-- what the books say: the numbers are these now; or no object can have given that answer
pub data Balance (N : Type 0) : Type 0 where
  balanced : N → Balance N
  impossible : Balance N

pub record Kind : Type 1 where
  pub Num : Type 0
  pub Call : Type 0
  -- what a thread waits with
  pub Wish : Type 0
  -- numbers as they should be, of an object on which somebody waits (true) or nobody
  pub formed : Num → Bool → Bool
  -- from the numbers, the wishes and the threads of those that wait, the caller and the call
  pub decide : Num → (ℕ → Wish) → List ℕ → ℕ → Call → Verdict Num Wish
  -- with such numbers this thread waits with this wish: what it waits for is not there
  pub Blocked : Num → ℕ → Wish → Type 0
  -- the result that a call owes to one that it wakes and that waited with this wish
  pub Owes : Call → Wish → ℤ → Type 0
  -- of which numbers a new object can be made
  pub new : Num → Bool
  -- the numbers after a call that was not refused, told by the caller, the call, its answer and the threads that it woke
  pub books : Num → ℕ → Call → ℤ → List ℕ → Balance Num

-- malformed numbers are refused first: this is what decide functions and objects answer
abbrev pub judge : (K : Kind) → K.Num → (ℕ → K.Wish) → List ℕ → ℕ → K.Call → Verdict K.Num K.Wish
judge K n v q w k = cond (K.formed n (any q)) (K.decide n v q w k) (deny einval)

-- nobody of q waits for what is there
abbrev pub Rightly : (K : Kind) → K.Num → (ℕ → K.Wish) → List ℕ → Type 0
Rightly K n v q = All (λ t. K.Blocked n t (v t)) q

-- nobody stands in q twice
abbrev pub Distinct : List ℕ → Type 0
Distinct [] = Unit {0}
Distinct (t ∷ q) = All (λ u. t ≡ u → ⊥) q × Distinct q

-- 32 bits
abbrev pub small : ℕ → Bool
small n = ltb n 4294967296

-- nobody waits with a wish of its own
abbrev pub plain : ℕ → Unit {0}
plain t = tt

-- the threads that wait: each stands for itself
abbrev pub itself : ℕ → ℕ
itself t = t

-- a verdict leaves numbers as they should be
abbrev pub Sound : (K : Kind) → List ℕ → Verdict K.Num K.Wish → Type 0
Sound K q (deny r) = Unit {0}
Sound K q (allow n keep r) = K.formed n (any q) ≡ true
Sound K q (allow n (park x) r) = K.formed n true ≡ true
Sound K q (allow n (wake p f) r) = K.formed n (any (spared itself p q)) ≡ true

-- a verdict on the call k of the thread w leaves nobody waiting for what is there, and pays what it owes
abbrev pub Right : (K : Kind) → (ℕ → K.Wish) → List ℕ → ℕ → K.Call → Verdict K.Num K.Wish → Type 0
Right K v q w k (deny r) = Unit {0}
Right K v q w k (allow n keep r) = Rightly K n v q
Right K v q w k (allow n (park x) r) = K.Blocked n w x × Rightly K n v q
Right K v q w k (allow n (wake p f) r) = Rightly K n v (spared itself p q) × All (λ t. K.Owes k (v t) (f t)) (gone itself p q)

-- a verdict on the call k of the thread w leaves what the books say; a refusal's code is below 0, and no other answer is
abbrev pub Booked : (K : Kind) → K.Num → List ℕ → ℕ → K.Call → Verdict K.Num K.Wish → Type 0
Booked K n q w k (deny (pos r)) = ⊥
Booked K n q w k (deny (negsuc r)) = Unit {0}
Booked K n q w k (allow m keep (negsuc r)) = ⊥
Booked K n q w k (allow m keep (pos r)) = K.books n w k (pos r) [] ≡ balanced m
Booked K n q w k (allow m (park x) r) = K.books n w k waits [] ≡ balanced m
Booked K n q w k (allow m (wake p f) (negsuc r)) = ⊥
Booked K n q w k (allow m (wake p f) (pos r)) = K.books n w k (pos r) (gone itself p q) ≡ balanced m

-- all that a kind has to prove
pub record Lawful (K : Kind) : Type 0 where
  pub sound : (n : K.Num) (v : ℕ → K.Wish) (q : List ℕ) (w : ℕ) (k : K.Call) → K.formed n (any q) ≡ true
      → Sound K q (K.decide n v q w k)
  pub right : (n : K.Num) (v : ℕ → K.Wish) (q : List ℕ) (w : ℕ) (k : K.Call) → K.formed n (any q) ≡ true → Distinct q → Rightly K n v q
      → Right K v q w k (K.decide n v q w k)
  -- who leaves changes no number
  pub fewer : (n : K.Num) → K.formed n true ≡ true → K.formed n false ≡ true
  -- what is made is as it should be
  pub made : (n : K.Num) → K.new n ≡ true → K.formed n false ≡ true
  -- the books are right
  pub booked : (n : K.Num) (v : ℕ → K.Wish) (q : List ℕ) (w : ℕ) (k : K.Call) → K.formed n (any q) ≡ true
      → Booked K n q w k (K.decide n v q w k)
