-- The memory slab: blocks of one size, each free or out. The free ones are a list: each names the one that is given after it.
use Rattle.std.specs.Prelude.{Bool, true, false, cond, ◌&&◌, List, [], ◌∷◌, ◌++◌, ℕ, zero, suc, ◌-◌, ltb, leb, eqb, ℤ, pos, length, get_or, set}
use Rattle.thread.specs.Code.{ok, enomem, einval}
use Rattle.store.specs.Store.{Reply, refuse, accept, carry}

pub record Slab : Type 0 where
  -- how many there are, and how long each is
  pub blocks : ℕ
  pub size : ℕ
  -- how many are out
  pub used : ℕ
  -- the block that is given next
  pub next : ℕ
  -- of each block: 0 if it is out, else 1 + the block that is given after it
  pub link : List ℕ

-- b is a block, and it is out
abbrev pub is_out : Slab → ℕ → Bool
is_out s b = ltb b s.blocks && eqb (get_or s.link b 0) 0

-- the numbers are those of a slab, and each block has a link
abbrev pub sound : Slab → Bool
sound s =
    ltb 0 s.blocks
    && (ltb 0 s.size && (leb s.used s.blocks && (ltb s.next s.blocks && leb s.blocks (length s.link))))

-- unless all are out, the block that is given next is free, and names a block
abbrev pub leads : Slab → Bool
leads s = cond (ltb s.used s.blocks) (ltb 0 (get_or s.link s.next 0) && leb (get_or s.link s.next 0) s.blocks) true

-- what an answer of 1 means: of an allocation, that the caller is to wait; of a free, that the block goes to one that waits
abbrev pub waits : ℤ
waits = pos 1

abbrev pub woke : ℤ
woke = pos 1

-- how many are out after an allocation: one more, if a block is free
abbrev pub allocs : ℕ → ℕ → Bool → Reply ℕ
allocs used blocks no_wait = cond (ltb used blocks) (accept (suc used) ok []) (cond no_wait (refuse enomem) (accept used waits []))

-- and after a free: one fewer; as many, if somebody waits, who has the block then
abbrev pub frees : ℕ → Bool → Reply ℕ
frees used waiter = cond (eqb used 0) (refuse einval) (cond waiter (accept used woke []) (accept (used - 1) ok []))

-- the next block goes out, and the one that it names is next
abbrev pub given : Slab → ℕ → Slab
given s used =
    record { blocks = s.blocks; size = s.size; used = used; next = get_or s.link s.next 0 - 1; link = set s.link s.next 0 }

-- the block b comes back, and is next
abbrev pub returned : Slab → ℕ → ℕ → Slab
returned s b used =
    record { blocks = s.blocks; size = s.size; used = used; next = b; link = set s.link b (suc s.next) }

-- the answer a, unless it is a refusal
abbrev pub telling : {S : Type 0} → ℤ → Reply S → Reply S
telling a (refuse r) = refuse r
telling a (accept s r o) = accept s a o

-- the answer is the block
abbrev pub alloc : Slab → Reply Slab
alloc s = telling (pos s.next) (carry (given s) (allocs s.used s.blocks true))

-- only a block that is out can be freed
abbrev pub free : ℕ → Slab → Reply Slab
free b s = cond (is_out s b) (carry (returned s b) (frees s.used false)) (refuse einval)

-- n numbers, from k on
abbrev pub up_from : ℕ → ℕ → List ℕ
up_from k zero = []
up_from k (suc n) = k ∷ up_from (suc k) n

-- the links of n blocks: each names the one after it, and the last names the first
abbrev pub new_links : ℕ → List ℕ
new_links n = up_from 2 (n - 1) ++ 1 ∷ []

-- a new slab: no block is out, and they are given in the order of their numbers
abbrev pub fresh : ℕ → ℕ → Slab
fresh size blocks = record { blocks = blocks; size = size; used = 0; next = 0; link = new_links blocks }
