-- The ledger of an object: what it is, told by how it was made and by the calls on it, their answers and whom they woke, and by nothing else.
use Rattle.std.specs.Prelude.{◌≡◌, cond, List, [], ◌∷◌, ◌++◌, map, ℕ, eqb, ℤ}
use Rattle.kind.specs.Kind.{Kind, Balance, balanced, impossible}
use Rattle.system.specs.System.{Slot, vacant, object, Op, invoke, both, dispatch, yield, expire, spawn, create, Answer, done, denied}
use Rattle.system.specs.Run.{Run}

-- it was made; or the thread i called k, was answered, and these threads were woken
pub data Note (K : Kind) : Type 0 where
  made : K.Num → Note K
  called : (i : ℕ) (k : K.Call) (answer : ℤ) (woken : List ℕ) → Note K

-- what stands in the books; an answer that no object can have given leaves no object
abbrev pub settle : {N : Type 0} → Balance N → Slot N
settle (balanced n) = object n
settle impossible = vacant

abbrev pub entered : {N : Type 0} → (N → Balance N) → Slot N → Slot N
entered f vacant = vacant
entered f (object n) = settle (f n)

-- what its notes say that the object is, the newest note in front
abbrev pub ledger : {K : Kind} → List (Note K) → Slot K.Num
ledger [] = vacant
ledger (made n ∷ l) = object n
ledger {K} (called i k r w ∷ l) = entered (λ n. K.books n i k r w) (ledger l)

-- a note, unless the answer is a refusal
abbrev pub noted : {K : Kind} → Answer → (ℤ → Note K) → List (Note K)
noted (done r) f = f r ∷ []
noted (denied c) f = []

abbrev pub allowed : {A : Type 0} → Answer → List A → List A
allowed (done r) l = l
allowed (denied c) l = []

module _ {K : Kind} (R : Run K) (o : ℕ) where
  -- the note of a call, if it is of the object o
  abbrev pub call_note : List (Op K) → ℕ → ℕ → K.Call → List (Note K)
  call_note past i a k =
      cond (eqb a o) (noted (R.answer past (invoke i a k)) (λ r. called i k r (map (λ w. w.thread) (R.woken past (invoke i a k))))) []

  -- of an operation; two calls that are done together are noted one after the other
  abbrev pub notes_of : List (Op K) → Op K → List (Note K)
  notes_of past (invoke i a k) = call_note past i a k
  notes_of past (both i a j b k) = allowed (R.answer past (both i a j b k)) (call_note (invoke i a j ∷ past) i b k ++ call_note past i a j)
  notes_of past (dispatch i) = []
  notes_of past (yield i) = []
  notes_of past (expire i) = []
  notes_of past (spawn i p) = []
  notes_of past (create a n) = cond (eqb a o) (noted (R.answer past (create a n)) (λ r. made n)) []

  abbrev pub notes : List (Op K) → List (Note K)
  notes [] = []
  notes (x ∷ past) = notes_of past x ++ notes past

-- each object is what its ledger says
abbrev pub Ledgers : {K : Kind} → Run K → List (Op K) → Type 0
Ledgers R past = (o : ℕ) → (R.state past).slot o ≡ ledger (notes R o past)
