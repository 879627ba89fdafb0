-- The slab in memory: h = how many blocks, a block's size, how many are out, the block that is given next; l = the links. What each
-- function does.
use Rattle.std.specs.Prelude.{◌≡◌, Bool, true, false, cond, ◌&&◌, List, ℕ, ◌-◌, ltb, leb, eqb, ℤ, pos, length, get_or, take}
use Rattle.thread.specs.Code.{einval}
use Rattle.store.specs.Store.{Reply, refuse, Decided, Place, Did, looks, Started}
use Rattle.mem_slab.specs.Slab.{Slab, sound, leads, allocs, frees, alloc, free, fresh}

abbrev pub slab : List ℕ → List ℕ → Slab
slab h l = record { blocks = get_or h 0 0; size = get_or h 1 0; used = get_or h 2 0; next = get_or h 3 0; link = take (get_or h 0 0) l }

abbrev pub place : Place Slab
place = record { words = 4; size = λ h. get_or h 0 0; object = slab; formed = λ h l. leb 4 (length h) && sound (slab h l) }

-- as it should be, as far as constant work can tell
abbrev pub fit : List ℕ → List ℕ → Bool
fit h l = place.formed h l && leads (slab h l)

-- f, of a slab that leads; any other is refused. Links that init did not make can lead for one alloc and no longer: so this is tested at
-- each call, and is no part of the place, which stays as it should be
abbrev pub led : {S : Type 0} → (Slab → Reply S) → Slab → Reply S
led f s = cond (leads s) (f s) (refuse einval)

-- the block that is given next is out
abbrev pub Allocs : List ℕ → List ℕ → ℤ → List ℕ → List ℕ → Type 0
Allocs h l r h' l' = Did place (led alloc) h l r h' l'

-- the block b is not out any more; it is given next
abbrev pub Frees : ℕ → List ℕ → List ℕ → ℤ → List ℕ → List ℕ → Type 0
Frees b h l r h' l' = Did place (led (free b)) h l r h' l'

-- a number of a slab
abbrev pub sees : (Slab → ℤ) → List ℕ → List ℕ → ℤ
sees f = looks place (λ s. cond (leads s) (f s) einval)

-- 1: yes; 0: no
abbrev pub truth : Bool → ℤ
truth true = pos 1
truth false = pos 0

-- all are out
abbrev pub is_full : Slab → ℤ
is_full s = truth (eqb s.used s.blocks)

-- none is
abbrev pub is_empty : Slab → ℤ
is_empty s = truth (eqb s.used 0)

abbrev pub CountsUsed : List ℕ → List ℕ → ℤ → Type 0
CountsUsed h l r = r ≡ sees (λ (s : Slab). pos s.used) h l

abbrev pub CountsFree : List ℕ → List ℕ → ℤ → Type 0
CountsFree h l r = r ≡ sees (λ (s : Slab). pos (s.blocks - s.used)) h l

abbrev pub CountsBlocks : List ℕ → List ℕ → ℤ → Type 0
CountsBlocks h l r = r ≡ sees (λ (s : Slab). pos s.blocks) h l

abbrev pub GetsBlockSize : List ℕ → List ℕ → ℤ → Type 0
GetsBlockSize h l r = r ≡ sees (λ (s : Slab). pos s.size) h l

abbrev pub SaysFull : List ℕ → List ℕ → ℤ → Type 0
SaysFull h l r = r ≡ sees is_full h l

abbrev pub SaysEmpty : List ℕ → List ℕ → ℤ → Type 0
SaysEmpty h l r = r ≡ sees is_empty h l

-- a new slab, of some blocks of some size, each with a link
abbrev pub Starts : ℕ → ℕ → List ℕ → List ℕ → ℤ → List ℕ → List ℕ → Type 0
Starts size blocks h l r h' l' = Started place (ltb 0 size && (ltb 0 blocks && leb blocks (length l))) (fresh size blocks) h l r h' l'

-- on plain numbers: how many are out then
abbrev pub AllocDecided : ℕ → ℕ → Bool → ℕ → ℤ → ℕ → Type 0
AllocDecided used blocks no_wait n r n' = Decided (cond (ltb 0 blocks && leb used blocks) (allocs used blocks no_wait) (refuse einval)) n r n'

abbrev pub FreeDecided : ℕ → Bool → ℕ → ℤ → ℕ → Type 0
FreeDecided used waiter n r n' = Decided (frees used waiter) n r n'
