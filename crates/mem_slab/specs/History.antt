-- What holds of a slab after any sequence of calls from init: its free blocks are a stack.
use Rattle.std.specs.Prelude.{◌≡◌, Bool, true, false, cond, not, ◌&&◌, List, [], ◌∷◌, ℕ, zero, suc, ◌-◌, ◌<◌, ltb, eqb, ℤ, pos, negsuc, get_or, drop}
use Rattle.thread.specs.Code.{ok, enomem, einval}
use Rattle.store.specs.History.{Step}
use Rattle.mem_slab.specs.Slab.{Slab, is_out, up_from}
use Rattle.mem_slab.specs.Post.{slab, Starts}
use Rattle.mem_slab.specs.Blocks.{Call, alloc_call, free_call, Runs, held}

-- how often x stands in l
abbrev pub count : ℕ → List ℕ → ℕ
count x [] = 0
count x (y ∷ l) = cond (eqb y x) (suc (count x l)) (count x l)

-- how many numbers below n pass the test
abbrev pub number : (ℕ → Bool) → ℕ → ℕ
number f zero = 0
number f (suc n) = cond (f n) (suc (number f n)) (number f n)

-- n blocks, from b on along the links
abbrev pub along : List ℕ → ℕ → ℕ → List ℕ
along l b zero = []
along l b (suc n) = b ∷ along l (get_or l b 0 - 1) n

-- the blocks that are free, in the order in which they are given
abbrev pub free_list : Slab → List ℕ
free_list s = along s.link s.next (s.blocks - s.used)

-- a block, and not out
abbrev pub is_free : Slab → ℕ → Bool
is_free s b = ltb b s.blocks && not (is_out s b)

-- what alloc answers if f is the free list
abbrev pub top : List ℕ → ℤ
top [] = enomem
top (b ∷ f) = pos b

-- ---- from the calls and their answers

-- the blocks that can be had, the next first: all, by their numbers; an alloc takes the first, a free puts its block in front
abbrev pub restocked : Call → ℤ → List ℕ → List ℕ
restocked alloc_call (pos i) f = drop 1 f
restocked alloc_call (negsuc i) f = f
restocked (free_call b) (pos i) f = b ∷ f
restocked (free_call b) (negsuc i) f = f

abbrev pub stock : ℕ → List (Step Call) → List ℕ
stock n [] = up_from 0 n
stock n (x ∷ xs) = restocked x.call x.answer (stock n xs)

-- what a call is told after the steps xs: an alloc the first of the stock, or -12; a free 0 if the block is held, else -22
abbrev pub Told : ℕ → Call → ℤ → List (Step Call) → Type 0
Told n alloc_call a xs = a ≡ top (stock n xs)
Told n (free_call b) a xs = a ≡ cond (held xs b) ok einval

abbrev pub AllTold : ℕ → List (Step Call) → Type 0
AllTold n [] = Unit {0}
AllTold n (x ∷ xs) = Told n x.call x.answer xs × AllTold n xs

-- n blocks of the size z, after the steps xs, the last in front; the slab is s now
pub record Promise (z n : ℕ) (xs : List (Step Call)) (s : Slab) : Type 0 where
  pub blocks : s.blocks ≡ n
  pub size : s.size ≡ z
  -- each call was told what it should be: last freed, first given
  pub told : AllTold n xs
  -- the free list is the stock. A block that nobody holds stands there once, and nothing else does
  pub list : free_list s ≡ stock n xs
  pub once : (b : ℕ) → count b (stock n xs) ≡ cond (ltb b n && not (held xs b)) 1 0
  -- a block is out exactly if somebody holds it, and as many are out as are held
  pub out : (b : ℕ) → is_out s b ≡ held xs b
  pub used : s.used ≡ number (held xs) n
  -- there is none exactly if all blocks are held
  pub all_held : stock n xs ≡ [] → (b : ℕ) → b < n → held xs b ≡ true
  pub some_free : (b : ℕ) → b < n → held xs b ≡ false → stock n xs ≡ [] → ⊥

-- from any memory in which init made a slab, h₀ and l₀
abbrev pub Always : ℕ → ℕ → Type 0
Always z n =
    (h l h₀ l₀ : List ℕ) → Starts z n h l ok h₀ l₀ → (xs : List (Step Call)) (h' l' : List ℕ) → Runs h₀ l₀ xs h' l' → Promise z n xs (slab h' l')
