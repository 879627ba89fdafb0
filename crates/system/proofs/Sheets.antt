-- What a member of a system has to prove, so that its data sheet holds of our step and of no other kernel; a sum of members has proved it.
-- Assumes nothing.
use mathlib.Core.Path.{◌≡◌, refl, ap, ◌∙◌}
use mathlib.Core.Bool.{Bool, true}
use mathlib.Core.Logic.{inl, inr}
use mathlib.Core.List.{List}
use Prim.Native.Nat.{ℕ}
use Rattle.seq.specs.List.{any}
use Rattle.thread.specs.Code.{einval}
use Rattle.kind.specs.Verdict.{keep, park, wake, Verdict, deny, allow}
use Rattle.kind.specs.Kind.{Kind, Lawful}
use Rattle.system.specs.System.{running, object, Sys, invoke, Kernel, step}
use Rattle.system.specs.Part.{Part, whole, within}
use Rattle.system.specs.Sum.{Member, ◌⊕◌, mapped, on_left, on_right, in_left, in_right, Members, ◌&◌, sum, Has, first, later, part_of}
use Rattle.system.specs.Rules.{Fine}
use Rattle.system.proofs.Sum.{sum_lawful}
use Rattle.system.proofs.Bests.{InTurn, Turnwise}

-- a part decides as the kind alone does
pub record Fits {A K : Kind} (P : Part A K) : Type 0 where
  pub decides : (n : A.Num) (v : ℕ → K.Wish) (q : List ℕ) (w : ℕ) (k : A.Call)
      → K.decide (P.num n) v q w (P.call k) ≡ mapped P.num P.wish (A.decide n (λ t. P.seen (v t)) q w k)
  -- its numbers are as they should be, and can be made, where the kind says so
  pub formed : (n : A.Num) (w : Bool) → K.formed (P.num n) w ≡ A.formed n w
  pub new : (n : A.Num) → K.new (P.num n) ≡ A.new n
  -- who waits there waits with the kind's wish
  pub blocks : (n : A.Num) (t : ℕ) (x : K.Wish) → K.Blocked (P.num n) t x → A.Blocked n t (P.seen x)

-- verdicts in words of the whole
mapped-same : {N X : Type 0} (d : Verdict N X) → d ≡ mapped (λ n. n) (λ x. x) d
mapped-same (deny r) = refl
mapped-same (allow n keep r) = refl
mapped-same (allow n (park x) r) = refl
mapped-same (allow n (wake p f) r) = refl

mapped-twice : {L M N X Y Z : Type 0} (f : L → M) (g : M → N) (a : X → Y) (b : Y → Z) (d : Verdict L X)
    → mapped g b (mapped f a d) ≡ mapped (λ n. g (f n)) (λ x. b (a x)) d
mapped-twice f g a b (deny r) = refl
mapped-twice f g a b (allow n keep r) = refl
mapped-twice f g a b (allow n (park x) r) = refl
mapped-twice f g a b (allow n (wake p h) r) = refl

mapped-turn : {M N X Y : Type 0} (f : M → N) (g : X → Y) (d : Verdict M X) → InTurn d → InTurn (mapped f g d)
mapped-turn f g (deny r) h = tt
mapped-turn f g (allow n keep r) h = tt
mapped-turn f g (allow n (park x) r) h = tt
mapped-turn f g (allow n (wake p w) r) h = h

pub whole-fits : (K : Kind) → Fits (whole K)
whole-fits K = record { decides = λ n v q w k. mapped-same (K.decide n v q w k); formed = λ n w. refl; new = λ n. refl; blocks = λ n t x b. b }

module _ (A B : Member) {K : Kind} (P : Part (A ⊕ B).kind K) (h : Fits P) where
  pub left-fits : Fits (in_left A B P)
  left-fits =
      record {
        decides =
            λ n v q w k.
            h.decides (inl n) v q w (inl k) ∙ mapped-twice inl P.num inl P.wish (A.kind.decide n (λ t. on_left A.idle (P.seen (v t))) q w k);
        formed = λ n w. h.formed (inl n) w;
        new = λ n. h.new (inl n);
        blocks = λ n t x b. h.blocks (inl n) t x b;
      }

  pub right-fits : Fits (in_right A B P)
  right-fits =
      record {
        decides =
            λ n v q w k.
            h.decides (inr n) v q w (inr k) ∙ mapped-twice inr P.num inr P.wish (B.kind.decide n (λ t. on_right B.idle (P.seen (v t))) q w k);
        formed = λ n w. h.formed (inr n) w;
        new = λ n. h.new (inr n);
        blocks = λ n t x b. h.blocks (inr n) t x b;
      }

pub within-fits : {A B K : Kind} (P : Part A B) (Q : Part B K) → Fits P → Fits Q → Fits (within P Q)
within-fits {A} P Q g h =
    record {
      decides =
          λ n v q w k.
          h.decides (P.num n) v q w (P.call k) ∙ ap (mapped Q.num Q.wish) (g.decides n (λ t. Q.seen (v t)) q w k)
          ∙ mapped-twice P.num Q.num P.wish Q.wish (A.decide n (λ t. P.seen (Q.seen (v t))) q w k);
      formed = λ n w. h.formed (P.num n) w ∙ g.formed n w;
      new = λ n. h.new (P.num n) ∙ g.new n;
      blocks = λ n t x b. g.blocks n t (Q.seen x) (h.blocks (P.num n) t x b);
    }

-- a kind of a system fits
pub fits-of : {A : Member} {l : Members} (h : Has A l) → Fits (part_of h)
fits-of {A} (first {l = l}) = left-fits A (sum l) (whole (sum (A & l)).kind) (whole-fits (sum (A & l)).kind)
fits-of (later {B = B} {l = l} h) =
    within-fits (part_of h) (in_right B (sum l) (whole (sum (B & l)).kind)) (fits-of h)
    (right-fits B (sum l) (whole (sum (B & l)).kind) (whole-fits (sum (B & l)).kind))

pub record Sheet (M : Member) : Type 1 where
  pub lawful : Lawful M.kind
  -- it wakes from the front
  pub turnwise : Turnwise M.kind
  -- it can be made of what it says
  pub makes : (n : M.kind.Num) → M.Makes n → M.kind.new n ≡ true
  pub made : (n : M.kind.Num) → M.kind.new n ≡ true → M.Makes n
  -- a call for another kind is refused
  pub foreign : (n : M.kind.Num) (v : ℕ → M.kind.Wish) (q : List ℕ) (w : ℕ) (k : M.kind.Call) → M.Foreign n k → M.kind.decide n v q w k ≡ deny einval
  -- our step keeps the data sheet
  pub keeps : {K : Kind} (P : Part M.kind K) → Fits P → (s : Sys K) → Fine s → (i o : ℕ) (n : M.kind.Num) → s.slot o ≡ object (P.num n)
      → s.state i ≡ running
      → M.Rules P step s i o n
  -- two kernels that keep it do the same
  pub fixes : {K : Kind} (P : Part M.kind K) (f g : Kernel K) (s : Sys K) (i o : ℕ) (n : M.kind.Num) (k : M.kind.Call)
      → M.kind.formed n (any (s.queue o)) ≡ true → M.Rules P f s i o n → M.Rules P g s i o n
      → (M.Foreign n k → f s (invoke i o (P.call k)) ≡ g s (invoke i o (P.call k))) → f s (invoke i o (P.call k)) ≡ g s (invoke i o (P.call k))

module _ {A B : Member} (a : Sheet A) (b : Sheet B) where
  turnwise_sum : Turnwise (A ⊕ B).kind
  turnwise_sum (inl n) v q w (inl k) = mapped-turn inl inl (A.kind.decide n (λ t. on_left A.idle (v t)) q w k)
      (a.turnwise n (λ t. on_left A.idle (v t)) q w k)
  turnwise_sum (inl n) v q w (inr k) = tt
  turnwise_sum (inr n) v q w (inl k) = tt
  turnwise_sum (inr n) v q w (inr k) = mapped-turn inr inr (B.kind.decide n (λ t. on_right B.idle (v t)) q w k)
      (b.turnwise n (λ t. on_right B.idle (v t)) q w k)

  makes_sum : (n : (A ⊕ B).kind.Num) → (A ⊕ B).Makes n → (A ⊕ B).kind.new n ≡ true
  makes_sum (inl n) e = a.makes n e
  makes_sum (inr n) e = b.makes n e

  made-sum : (n : (A ⊕ B).kind.Num) → (A ⊕ B).kind.new n ≡ true → (A ⊕ B).Makes n
  made-sum (inl n) e = a.made n e
  made-sum (inr n) e = b.made n e

  foreign_sum : (n : (A ⊕ B).kind.Num) (v : ℕ → (A ⊕ B).kind.Wish) (q : List ℕ) (w : ℕ) (k : (A ⊕ B).kind.Call) → (A ⊕ B).Foreign n k
      → (A ⊕ B).kind.decide n v q w k ≡ deny einval
  foreign_sum (inl n) v q w (inl k) e = ap (mapped inl inl) (a.foreign n (λ t. on_left A.idle (v t)) q w k e)
  foreign_sum (inl n) v q w (inr k) e = refl
  foreign_sum (inr n) v q w (inl k) e = refl
  foreign_sum (inr n) v q w (inr k) e = ap (mapped inr inr) (b.foreign n (λ t. on_right B.idle (v t)) q w k e)

  keeps-sum : {K : Kind} (P : Part (A ⊕ B).kind K) → Fits P → (s : Sys K) → Fine s → (i o : ℕ) (n : (A ⊕ B).kind.Num) → s.slot o ≡ object (P.num n)
      → s.state i ≡ running → (A ⊕ B).Rules P step s i o n
  keeps-sum P h s g i o (inl n) e r = a.keeps (in_left A B P) (left-fits A B P h) s g i o n e r
  keeps-sum P h s g i o (inr n) e r = b.keeps (in_right A B P) (right-fits A B P h) s g i o n e r

  fixes_sum : {K : Kind} (P : Part (A ⊕ B).kind K) (f g : Kernel K) (s : Sys K) (i o : ℕ) (n : (A ⊕ B).kind.Num) (k : (A ⊕ B).kind.Call)
      → (A ⊕ B).kind.formed n (any (s.queue o)) ≡ true → (A ⊕ B).Rules P f s i o n → (A ⊕ B).Rules P g s i o n
      → ((A ⊕ B).Foreign n k → f s (invoke i o (P.call k)) ≡ g s (invoke i o (P.call k))) → f s (invoke i o (P.call k)) ≡ g s (invoke i o (P.call k))
  fixes_sum P f g s i o (inl n) (inl k) w x y e = a.fixes (in_left A B P) f g s i o n k w x y e
  fixes_sum P f g s i o (inl n) (inr k) w x y e = e tt
  fixes_sum P f g s i o (inr n) (inl k) w x y e = e tt
  fixes_sum P f g s i o (inr n) (inr k) w x y e = b.fixes (in_right A B P) f g s i o n k w x y e

  both_sheets : Sheet (A ⊕ B)
  both_sheets =
      record {
        lawful = sum_lawful A B a.lawful b.lawful;
        turnwise = turnwise_sum;
        makes = makes_sum;
        made = made-sum;
        foreign = foreign_sum;
        keeps = keeps-sum;
        fixes = fixes_sum;
      }

infixr 40 ◌and◌
pub ◌and◌ : {A B : Member} → Sheet A → Sheet B → Sheet (A ⊕ B)
a and b = both_sheets a b
