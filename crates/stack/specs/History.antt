-- What holds of a stack after any sequence of calls, refused ones too: told from the calls, their answers, and the word that then stands in the
-- place that was lent to a pop.
use Rattle.std.specs.Prelude.{◌≡◌, true, cond, List, [], ◌∷◌, ◌++◌, ℕ, suc, ◌+◌, ◌-◌, ◌≤◌, ◌<◌, ltb, ℤ, pos, negsuc, length, get_or}
use Rattle.thread.specs.Code.{ok, enomem, ebusy}
use Rattle.store.specs.Store.{Reply, answer, left}
use Rattle.store.specs.History.{Step}
use Rattle.stack.specs.Stack.{Stack, push, pop}
use Rattle.stack.specs.Post.{place}

pub data Call : Type 0 where
  pushing : ℕ → Call
  popping : Call

abbrev pub does : Call → Stack → Reply Stack
does (pushing x) s = push x s
does popping s = pop s

abbrev pub next : Stack → Call → Stack
next s k = left (does k s) s

-- how many words are held
abbrev pub depth : Stack → ℕ
depth s = length s.held

-- ---- from the calls, their answers and their places, of which the last stands first

-- how many words are held: the pushes less the pops, of those that were not refused
abbrev pub counted : Call → ℤ → ℕ → ℕ
counted (pushing x) (pos a) n = suc n
counted (pushing x) (negsuc a) n = n
counted popping (pos a) n = n - 1
counted popping (negsuc a) n = n

abbrev pub count : List (Step Call) → ℕ
count [] = 0
count (t ∷ ts) = counted t.call t.answer (count ts)

-- x was pushed onto d others, and more than d words have been held ever since
pub data Lies (x d : ℕ) : List (Step Call) → Type 0 where
  pushed : {t : Step Call} {ts : List (Step Call)} → t.call ≡ pushing x → t.answer ≡ ok → count ts ≡ d → Lies x d (t ∷ ts)
  stayed : {t : Step Call} {ts : List (Step Call)} → Lies x d ts → d < count (t ∷ ts) → Lies x d (t ∷ ts)

-- what a call is told on a stack of c words, after the steps ts; o is its place after it
abbrev pub Told : ℕ → Call → ℤ → List ℕ → List (Step Call) → Type 0
Told c (pushing x) a o ts = a ≡ cond (ltb (count ts) c) ok enomem
-- a pop that is not refused hands out the last word that was pushed and has not been popped
Told c popping a o ts = (a ≡ cond (ltb 0 (count ts)) ok ebusy) × (a ≡ ok → Lies (get_or o 0 0) (count ts - 1) ts)

abbrev pub AllTold : ℕ → List (Step Call) → Type 0
AllTold c [] = Unit {0}
AllTold c (t ∷ ts) = Told c t.call t.answer t.out ts × AllTold c ts

-- x stands on d others in l, where the last in is first
pub record Stands (x d : ℕ) (l : List ℕ) : Type 0 where
  pub over : List ℕ
  pub below : List ℕ
  pub is : l ≡ over ++ x ∷ below
  pub low : length below ≡ d

-- after these steps a new stack of c words is s
pub record Promise (c : ℕ) (ts : List (Step Call)) (s : Stack) : Type 0 where
  -- each call was told what it should be, and each pop got the word that it should get; there is only one
  pub told : AllTold c ts
  pub one : (x y d : ℕ) → Lies x d ts → Lies y d ts → x ≡ y
  -- never more than it can hold, and each word of its memory is either held or spare
  pub fixed : s.capacity ≡ c
  pub counts : depth s ≡ count ts
  pub bounded : count ts ≤ c
  pub whole : depth s + length s.spare ≡ c
  -- what was pushed stays, where it was, until the stack is as low as before; and nothing else is held
  pub stands : (x d : ℕ) → Lies x d ts → Stands x d s.held
  pub lies : (x d : ℕ) → Stands x d s.held → Lies x d ts
  -- a call that is answered below 0 changes nothing
  pub refused : (k : Call) (n : ℕ) → answer (does k s) ≡ negsuc n → next s k ≡ s

-- the same of memory; and the word that lies on d others is word d
pub record Kept (c : ℕ) (ts : List (Step Call)) (h w : List ℕ) : Type 0 where
  pub formed : place.formed h w ≡ true
  pub promise : Promise c ts (place.object h w)
  pub word : (x d : ℕ) → Lies x d ts → get_or w d 0 ≡ x
