-- An object in lent memory: a header and a buffer. What a call answers, what it does to the object, and what it hands out.
use Rattle.std.specs.Prelude.{◌≡◌, Bool, true, cond, List, [], ◌∷◌, ◌++◌, ℕ, leb, ℤ, pos, negsuc, length, drop}
use Rattle.thread.specs.Code.{ok, einval}

-- no, with a code, and nothing changes; or what it is now, the answer, and what is handed out
pub data Reply (S : Type 0) : Type 0 where
  refuse : ℤ → Reply S
  accept : S → ℤ → List ℕ → Reply S

-- the answer alone
abbrev pub answer : {S : Type 0} → Reply S → ℤ
answer (refuse r) = r
answer (accept s r o) = r

-- what a reply leaves of s
abbrev pub left : {S : Type 0} → Reply S → S → S
left (refuse r) s = s
left (accept t r o) s = t

-- what it hands out
abbrev pub out : {S : Type 0} → Reply S → List ℕ
out (refuse r) = []
out (accept s r o) = o

-- what is decided on numbers, done to the whole object
abbrev pub carry : {N S : Type 0} → (N → S) → Reply N → Reply S
carry f (refuse r) = refuse r
carry f (accept n r o) = accept (f n) r o

-- and l is handed out
abbrev pub handing : {S : Type 0} → List ℕ → Reply S → Reply S
handing l (refuse r) = refuse r
handing l (accept s r o) = accept s r l

-- y, if the code that was asked for before is no refusal
abbrev pub asked : {S : Type 0} → ℤ → Reply S → Reply S
asked (pos c) y = y
asked (negsuc c) y = refuse (negsuc c)

-- the operation f, if the place for what it hands out has room for all of it
abbrev pub fitting : {S : Type 0} → ℕ → (S → Reply S) → S → Reply S
fitting room f s = cond (leb (length (out (f s))) room) (f s) (refuse einval)

-- P, if the answer is a refusal; if it is none
abbrev pub Refused : ℤ → Type 0 → Type 0
Refused (pos n) P = Unit {0}
Refused (negsuc n) P = P

abbrev pub Allowed : ℤ → Type 0 → Type 0
Allowed (pos n) P = P
Allowed (negsuc n) P = Unit {0}

-- a refusal is answered below 0, and nothing else is
abbrev pub Signed : {S : Type 0} → Reply S → Type 0
Signed (refuse (pos c)) = ⊥
Signed (refuse (negsuc c)) = Unit {0}
Signed (accept s (pos c) o) = Unit {0}
Signed (accept s (negsuc c) o) = ⊥

-- a number that is the decision's, and stays if that is a refusal
abbrev pub settled : {N : Type 0} → (N → ℕ) → Reply N → ℕ → ℕ
settled f (refuse r) x = x
settled f (accept n r o) x = f n

-- on plain numbers: the answer is d's, and so is the number n, which stays if that is a refusal
pub record Decided (d : Reply ℕ) (n : ℕ) (r : ℤ) (n' : ℕ) : Type 0 where
  pub code : r ≡ answer d
  pub number : n' ≡ settled (λ m. m) d n

-- where an object stands: how many words of the header are its own and, by the header, how many elements of the buffer; what they mean; and
-- whether they are as they should be
pub record Place (S : Type 0) : Type 0 where
  pub words : ℕ
  pub size : List ℕ → ℕ
  pub object : List ℕ → List ℕ → S
  pub formed : List ℕ → List ℕ → Bool

-- the operation f on an object in memory: a malformed one is refused before all else
abbrev pub reply : {S : Type 0} → Place S → (S → Reply S) → List ℕ → List ℕ → Reply S
reply P f h b = cond (P.formed h b) (f (P.object h b)) (refuse einval)

-- the object is s now, in memory that was h and b and is h' and b'; what is not its own stays
pub record Becomes {S : Type 0} (P : Place S) (s : S) (h b h' b' : List ℕ) : Type 0 where
  pub formed : P.formed h' b' ≡ true
  pub object : P.object h' b' ≡ s
  pub beside : drop P.words h' ≡ drop P.words h
  pub rest : drop (P.size h') b' ≡ drop (P.size h') b
  pub long : (length h' ≡ length h) × (length b' ≡ length b)

-- what a reply does to the memory
abbrev pub After : {S : Type 0} → Place S → Reply S → List ℕ → List ℕ → List ℕ → List ℕ → Type 0
After P (refuse r) h b h' b' = (h' ≡ h) × (b' ≡ b)
After P (accept s r o) h b h' b' = Becomes P s h b h' b'

-- the operation f was done, with the answer r
pub record Did {S : Type 0} (P : Place S) (f : S → Reply S) (h b : List ℕ) (r : ℤ) (h' b' : List ℕ) : Type 0 where
  pub code : r ≡ answer (reply P f h b)
  pub after : After P (reply P f h b) h b h' b'

-- a number of an object that is as it should be
abbrev pub looks : {S : Type 0} → Place S → (S → ℤ) → List ℕ → List ℕ → ℤ
looks P f h b = cond (P.formed h b) (f (P.object h b)) einval

-- l stands first in what was o, and the others stay
abbrev pub Filled : List ℕ → List ℕ → List ℕ → Type 0
Filled l o o' = o' ≡ l ++ drop (length l) o

-- the first of l; x, if there is none
abbrev pub first : ℕ → List ℕ → ℕ
first x [] = x
first x (y ∷ l) = y

-- the operation f was done, and the buffer stays; what it hands out went to the place o
abbrev pub Fills : {S : Type 0} → Place S → (S → Reply S) → List ℕ → List ℕ → List ℕ → ℤ → List ℕ → List ℕ → Type 0
Fills P f h b o r h' o' = Did P f h b r h' b × Filled (out (reply P f h b)) o o'

-- the first of it went to the word x
abbrev pub Hands : {S : Type 0} → Place S → (S → Reply S) → List ℕ → List ℕ → ℕ → ℤ → List ℕ → ℕ → Type 0
Hands P f h b x r h' x' = Did P f h b r h' b × (x' ≡ first x (out (reply P f h b)))

-- a new object s, if it may be; refused, nothing changes
pub record Started {S : Type 0} (P : Place S) (may : Bool) (s : S) (h b : List ℕ) (r : ℤ) (h' b' : List ℕ) : Type 0 where
  pub code : r ≡ cond (leb P.words (length h)) (cond may ok einval) einval
  pub made : r ≡ ok → Becomes P s h b h' b'
  pub kept : (n : ℕ) → r ≡ negsuc n → (h' ≡ h) × (b' ≡ b)
