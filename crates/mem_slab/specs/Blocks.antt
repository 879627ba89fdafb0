-- What a caller may believe of blocks, in any memory: as init made it or not, malformed, with any links.
use Rattle.std.specs.Prelude.{◌≡◌, Bool, true, false, cond, List, [], ◌∷◌, ℕ, ◌<◌, eqb, ℤ, pos, negsuc, get_or}
use Rattle.store.specs.Store.{Reply, Did}
use Rattle.store.specs.History.{Step, Made}
use Rattle.mem_slab.specs.Slab.{Slab, is_out, alloc, free}
use Rattle.mem_slab.specs.Post.{slab, place, led}

-- the calls that change a slab
pub data Call : Type 0 where
  alloc_call : Call
  free_call : (block : ℕ) → Call

-- what each means
abbrev pub meant : Call → Slab → Reply Slab
meant alloc_call = alloc
meant (free_call b) = free b

-- of a slab that leads; any other is refused
abbrev pub does : Call → Slab → Reply Slab
does k = led (meant k)

-- the call k on the memory h and l: the answer r, and the memory after it
abbrev pub Calls : Call → List ℕ → List ℕ → ℤ → List ℕ → List ℕ → Type 0
Calls k = Did place (does k)

-- the steps xs, the last in front, from the memory h₀ and l₀ to the memory h and l
abbrev pub Runs : List ℕ → List ℕ → List (Step Call) → List ℕ → List ℕ → Type 0
Runs = Made place does

-- what a call and its answer change of whether somebody has the block b
abbrev pub changed : Call → ℤ → ℕ → Bool → Bool
changed alloc_call (pos i) b was = cond (eqb i b) true was
changed alloc_call (negsuc n) b was = was
changed (free_call i) (pos n) b was = cond (eqb i b) false was
changed (free_call i) (negsuc n) b was = was

-- somebody has it: from an alloc that answers it to a free of it that answers no refusal. Nothing but calls and answers is looked at
abbrev pub held : List (Step Call) → ℕ → Bool
held [] b = false
held (x ∷ xs) b = changed x.call x.answer b (held xs b)

-- it is out, by the memory
abbrev pub out : List ℕ → List ℕ → ℕ → Bool
out h l b = is_out (slab h l) b

abbrev pub OthersStay : ℕ → List ℕ → List ℕ → List ℕ → List ℕ → Type 0
OthersStay b h l h' l' = (i : ℕ) → (i ≡ b → ⊥) → out h' l' i ≡ out h l i

-- alloc answered b: it is a block, was not out, and is; no other block's state changes
pub record Given (b : ℕ) (h l h' l' : List ℕ) : Type 0 where
  pub here : b < get_or h 0 0
  pub before : out h l b ≡ false
  pub after : out h' l' b ≡ true
  pub others : OthersStay b h l h' l'

-- a free of b answered 0: it was out, and is not; no other block's state changes
pub record Returned (b : ℕ) (h l h' l' : List ℕ) : Type 0 where
  pub before : out h l b ≡ true
  pub after : out h' l' b ≡ false
  pub others : OthersStay b h l h' l'

-- all that a call can do to blocks
abbrev pub Outcome : Call → ℤ → List ℕ → List ℕ → List ℕ → List ℕ → Type 0
Outcome alloc_call (pos b) h l h' l' = Given b h l h' l'
Outcome alloc_call (negsuc n) h l h' l' = (h' ≡ h) × (l' ≡ l)
Outcome (free_call b) (pos n) h l h' l' = (n ≡ 0) × Returned b h l h' l'
Outcome (free_call b) (negsuc n) h l h' l' = (h' ≡ h) × (l' ≡ l)

-- no two callers have one block: after any calls, alloc never answers a block that is held
abbrev pub NoTwo : List ℕ → List ℕ → Type 0
NoTwo h₀ l₀ =
    (xs : List (Step Call)) (h l h' l' : List ℕ) (b : ℕ) → Runs h₀ l₀ xs h l → Calls alloc_call h l (pos b) h' l' → held xs b ≡ false
