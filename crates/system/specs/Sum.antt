-- Objects of several kinds: a call of one kind on an object of another is refused.
use Rattle.std.specs.Prelude.{Bool, ◌⊎◌, List, ℕ, ℤ}
use Rattle.std.proofs.Common.{inl, inr}
use Rattle.thread.specs.Code.{einval}
use Rattle.kind.specs.Verdict.{keep, park, wake, Verdict, deny, allow}
use Rattle.kind.specs.Kind.{Kind, Balance, balanced, impossible}
use Rattle.system.specs.System.{Sys, Kernel}
use Rattle.system.specs.Part.{Part, whole, within}

-- a kind of object of the system
pub record Member : Type 1 where
  pub kind : Kind
  -- a wish that stands for a thread that does not wait there
  pub idle : kind.Wish
  -- of which numbers it can be made
  pub Makes : kind.Num → Type 0
  -- its data sheet, in any system that has it: what a kernel f does in the state s with the calls of the thread i, which runs, of the object o
  pub Rules : {K : Kind} → Part kind K → Kernel K → Sys K → ℕ → ℕ → kind.Num → Type 0
  -- the call is for another kind of object
  pub Foreign : kind.Num → kind.Call → Type 0

abbrev pub on_left : {A B : Type 0} → A → A ⊎ B → A
on_left a (inl x) = x
on_left a (inr y) = a

abbrev pub on_right : {A B : Type 0} → B → A ⊎ B → B
on_right b (inl x) = b
on_right b (inr y) = y

abbrev pub mapped : {M N X Y : Type 0} → (M → N) → (X → Y) → Verdict M X → Verdict N Y
mapped f g (deny r) = deny r
mapped f g (allow n keep r) = allow (f n) keep r
mapped f g (allow n (park x) r) = allow (f n) (park (g x)) r
mapped f g (allow n (wake p h) r) = allow (f n) (wake p h) r

abbrev pub balance : {M N : Type 0} → (M → N) → Balance M → Balance N
balance f (balanced m) = balanced (f m)
balance f impossible = impossible

module _ (A B : Member) where
  abbrev pub formed_sum : A.kind.Num ⊎ B.kind.Num → Bool → Bool
  formed_sum (inl m) w = A.kind.formed m w
  formed_sum (inr n) w = B.kind.formed n w

  abbrev pub decide_sum : A.kind.Num ⊎ B.kind.Num → (ℕ → A.kind.Wish ⊎ B.kind.Wish) → List ℕ → ℕ → A.kind.Call ⊎ B.kind.Call
      → Verdict (A.kind.Num ⊎ B.kind.Num) (A.kind.Wish ⊎ B.kind.Wish)
  decide_sum (inl m) v q w (inl k) = mapped inl inl (A.kind.decide m (λ t. on_left A.idle (v t)) q w k)
  decide_sum (inl m) v q w (inr k) = deny einval
  decide_sum (inr n) v q w (inl k) = deny einval
  decide_sum (inr n) v q w (inr k) = mapped inr inr (B.kind.decide n (λ t. on_right B.idle (v t)) q w k)

  abbrev pub BlockedSum : A.kind.Num ⊎ B.kind.Num → ℕ → A.kind.Wish ⊎ B.kind.Wish → Type 0
  BlockedSum (inl m) t x = A.kind.Blocked m t (on_left A.idle x)
  BlockedSum (inr n) t x = B.kind.Blocked n t (on_right B.idle x)

  abbrev pub OwesSum : A.kind.Call ⊎ B.kind.Call → A.kind.Wish ⊎ B.kind.Wish → ℤ → Type 0
  OwesSum (inl k) x r = A.kind.Owes k (on_left A.idle x) r
  OwesSum (inr k) x r = B.kind.Owes k (on_right B.idle x) r

  abbrev pub new_sum : A.kind.Num ⊎ B.kind.Num → Bool
  new_sum (inl m) = A.kind.new m
  new_sum (inr n) = B.kind.new n

  abbrev pub books_sum : A.kind.Num ⊎ B.kind.Num → ℕ → A.kind.Call ⊎ B.kind.Call → ℤ → List ℕ → Balance (A.kind.Num ⊎ B.kind.Num)
  books_sum (inl m) w (inl k) r l = balance inl (A.kind.books m w k r l)
  books_sum (inl m) w (inr k) r l = impossible
  books_sum (inr n) w (inl k) r l = impossible
  books_sum (inr n) w (inr k) r l = balance inr (B.kind.books n w k r l)

  abbrev pub MakesSum : A.kind.Num ⊎ B.kind.Num → Type 0
  MakesSum (inl m) = A.Makes m
  MakesSum (inr n) = B.Makes n

  abbrev pub ForeignSum : A.kind.Num ⊎ B.kind.Num → A.kind.Call ⊎ B.kind.Call → Type 0
  ForeignSum (inl m) (inl k) = A.Foreign m k
  ForeignSum (inl m) (inr k) = Unit {0}
  ForeignSum (inr n) (inl k) = Unit {0}
  ForeignSum (inr n) (inr k) = B.Foreign n k

  abbrev pub sum_kind : Kind
  sum_kind =
      record {
        Num = A.kind.Num ⊎ B.kind.Num;
        Call = A.kind.Call ⊎ B.kind.Call;
        Wish = A.kind.Wish ⊎ B.kind.Wish;
        formed = formed_sum;
        decide = decide_sum;
        Blocked = BlockedSum;
        Owes = OwesSum;
        new = new_sum;
        books = books_sum;
      }

  -- a system that has both has each
  abbrev pub in_left : {K : Kind} → Part sum_kind K → Part A.kind K
  in_left P = record { num = λ n. P.num (inl n); call = λ k. P.call (inl k); wish = λ x. P.wish (inl x); seen = λ x. on_left A.idle (P.seen x) }

  abbrev pub in_right : {K : Kind} → Part sum_kind K → Part B.kind K
  in_right P = record { num = λ n. P.num (inr n); call = λ k. P.call (inr k); wish = λ x. P.wish (inr x); seen = λ x. on_right B.idle (P.seen x) }

  abbrev pub RulesSum : {K : Kind} → Part sum_kind K → Kernel K → Sys K → ℕ → ℕ → A.kind.Num ⊎ B.kind.Num → Type 0
  RulesSum P f s i o (inl m) = A.Rules (in_left P) f s i o m
  RulesSum P f s i o (inr n) = B.Rules (in_right P) f s i o n

infixr 40 ◌⊕◌
abbrev pub ◌⊕◌ : Member → Member → Member
A ⊕ B = record { kind = sum_kind A B; idle = inl A.idle; Makes = MakesSum A B; Rules = RulesSum A B; Foreign = ForeignSum A B }

-- no call of a kind itself is for another
abbrev pub own : {N C : Type 0} → N → C → Type 0
own n k = ⊥

-- the end of a sum: there is no such object
abbrev pub none_kind : Kind
none_kind =
    record {
      Num = ⊥;
      Call = ⊥;
      Wish = Unit {0};
      formed = λ n w. absurd n;
      decide = λ n v q w k. absurd n;
      Blocked = λ n t x. absurd n;
      Owes = λ k x r. absurd k;
      new = λ n. absurd n;
      books = λ n w k r l. absurd n;
    }

abbrev pub nones : Member
nones = record { kind = none_kind; idle = tt; Makes = λ n. absurd n; Rules = λ P f s i o n. absurd n; Foreign = own }

-- the kinds of a system, one after the other
infixr 30 ◌&◌
pub data Members : Type 1 where
  end : Members
  ◌&◌ : Member → Members → Members

abbrev pub sum : Members → Member
sum end = nones
sum (A & l) = A ⊕ sum l

-- where a kind stands among them
pub data Has (A : Member) : Members → Type 1 where
  first : {l : Members} → Has A (A & l)
  later : {B : Member} {l : Members} → Has A l → Has A (B & l)

-- so it is a part of the system
abbrev pub part_of : {A : Member} {l : Members} → Has A l → Part A.kind (sum l).kind
part_of {A} (first {l = l}) = in_left A (sum l) (whole (sum (A & l)).kind)
part_of (later {B = B} {l = l} h) = within (part_of h) (in_right B (sum l) (whole (sum (B & l)).kind))
