-- The contracts of Gale's mem_slab.rs, in our words: s is the slab before a call, s' after it, r its answer. Upstream's text stands above
-- each field.
use Rattle.std.specs.Prelude.{◌≡◌, Bool, true, false, ◌⊎◌, List, [], ℕ, suc, ◌+◌, ◌-◌, ◌≤◌, ◌<◌, ℤ, pos}
use Rattle.thread.specs.Code.{ok, enomem, einval}
use Rattle.store.specs.Store.{refuse, accept}
use Rattle.mem_slab.specs.Slab.{Slab, allocs, frees, waits, woke}
use Rattle.mem_slab.specs.Post.{CountsUsed, CountsFree, CountsBlocks, slab, fit, Allocs, Frees, Starts}
use Rattle.mem_slab.specs.Blocks.{Call, Calls}

-- MemSlab::inv
pub record Inv (s : Slab) : Type 0 where
  -- self.num_blocks > 0
  pub blocks : 0 < s.blocks
  -- self.block_size > 0
  pub sized : 0 < s.size
  -- self.num_used <= self.num_blocks
  pub few : s.used ≤ s.blocks

-- init of n blocks of the size z
pub record Init (z n : ℕ) (r : ℤ) (s' : Slab) : Type 0 where
  -- Ok(s) => s.inv()
  pub inv : r ≡ ok → Inv s'
  -- s.num_used == 0
  pub used : r ≡ ok → s'.used ≡ 0
  -- s.num_blocks == num_blocks
  pub blocks : r ≡ ok → s'.blocks ≡ n
  -- s.block_size == block_size
  pub size : r ≡ ok → s'.size ≡ z
  -- Err(e) => e == EINVAL
  pub code : (r ≡ ok → ⊥) → r ≡ einval
  -- block_size == 0 || num_blocks == 0
  pub reason : (r ≡ ok → ⊥) → (z ≡ 0) ⊎ (n ≡ 0)

-- what alloc and free say alike
pub record Keeps (s s' : Slab) : Type 0 where
  -- self.inv()
  pub inv : Inv s'
  -- self.num_blocks == old(self).num_blocks
  pub blocks : s'.blocks ≡ s.blocks
  -- self.block_size == old(self).block_size
  pub size : s'.size ≡ s.size

-- alloc: OK is the block
pub record Alloc (s : Slab) (r : ℤ) (s' : Slab) : Type 0 where
  pub keeps : Keeps s s'
  -- old(self).num_used < old(self).num_blocks ==> rc == OK
  pub gives : s.used < s.blocks → r ≡ pos s.next
  -- and self.num_used == old(self).num_used + 1
  pub more : s.used < s.blocks → s'.used ≡ s.used + 1
  -- old(self).num_used >= old(self).num_blocks ==> rc == ENOMEM
  pub refuses : s.blocks ≤ s.used → r ≡ enomem
  -- and self.num_used == old(self).num_used
  pub kept : s.blocks ≤ s.used → s'.used ≡ s.used

-- free
pub record Free (s : Slab) (r : ℤ) (s' : Slab) : Type 0 where
  pub keeps : Keeps s s'
  -- old(self).num_used > 0 ==> rc == OK
  pub frees : 0 < s.used → r ≡ ok
  -- and self.num_used == old(self).num_used - 1
  pub fewer : 0 < s.used → s'.used ≡ s.used - 1
  -- old(self).num_used == 0 ==> rc == EINVAL
  pub refuses : s.used ≡ 0 → r ≡ einval
  -- and self.num_used == old(self).num_used
  pub kept : s.used ≡ 0 → s'.used ≡ s.used

-- num_used_get: r == self.num_used
abbrev pub NumUsedGet : Slab → ℤ → Type 0
NumUsedGet s r = r ≡ pos s.used

-- num_free_get: r == self.num_blocks - self.num_used
abbrev pub NumFreeGet : Slab → ℤ → Type 0
NumFreeGet s r = r ≡ pos (s.blocks - s.used)

-- num_blocks_get: r == self.num_blocks
abbrev pub NumBlocksGet : Slab → ℤ → Type 0
NumBlocksGet s r = r ≡ pos s.blocks

-- block_size_get: r == self.block_size
abbrev pub BlockSizeGet : Slab → ℤ → Type 0
BlockSizeGet s r = r ≡ pos s.size

-- is_full: r == (self.num_used == self.num_blocks)
pub record IsFull (s : Slab) (r : ℤ) : Type 0 where
  pub full : s.used ≡ s.blocks → r ≡ pos 1
  pub other : (s.used ≡ s.blocks → ⊥) → r ≡ pos 0

-- is_empty: r == (self.num_used == 0)
pub record IsEmpty (s : Slab) (r : ℤ) : Type 0 where
  pub empty : s.used ≡ 0 → r ≡ pos 1
  pub other : (s.used ≡ 0 → ⊥) → r ≡ pos 0

-- alloc_decide: Alloc is 0, Pend 1, NoMem -12; result.new_num_used is the word m', which was m
pub record AllocDecide (used blocks : ℕ) (no_wait : Bool) (m : ℕ) (r : ℤ) (m' : ℕ) : Type 0 where
  -- num_used < num_blocks ==> result.decision === AllocDecision::Alloc
  pub gives : used < blocks → r ≡ ok
  -- and result.new_num_used == num_used + 1
  pub more : used < blocks → m' ≡ used + 1
  -- num_used >= num_blocks && is_no_wait ==> result.decision === AllocDecision::NoMem
  pub refuses : blocks ≤ used → no_wait ≡ true → r ≡ enomem
  -- and result.new_num_used == num_used: a refusal writes nothing, so a word that was num_used is
  pub kept : blocks ≤ used → no_wait ≡ true → m ≡ used → m' ≡ used
  -- num_used >= num_blocks && !is_no_wait ==> result.decision === AllocDecision::Pend
  pub pends : blocks ≤ used → no_wait ≡ false → r ≡ waits
  -- and result.new_num_used == num_used
  pub same : blocks ≤ used → no_wait ≡ false → m' ≡ used

-- free_decide, with some that are out: Free is 0, WakeThread 1
pub record FreeDecide (used : ℕ) (waiter : Bool) (r : ℤ) (m' : ℕ) : Type 0 where
  -- has_waiter ==> result.decision === FreeDecision::WakeThread
  pub wakes : waiter ≡ true → r ≡ woke
  -- and result.new_num_used == num_used
  pub same : waiter ≡ true → m' ≡ used
  -- !has_waiter && num_used > 0 ==> result.decision === FreeDecision::Free
  pub frees : waiter ≡ false → r ≡ ok
  -- and result.new_num_used == (num_used - 1) as u32
  pub fewer : waiter ≡ false → m' ≡ used - 1

-- lemma_invariant_inductive ends in `ensures true`. What its comments say, in any memory
pub record Inductive (h l : List ℕ) (r : ℤ) (h' l' : List ℕ) : Type 0 where
  -- init establishes inv
  pub init : (size blocks : ℕ) → Starts size blocks h l ok h' l' → Inv (slab h' l')
  -- alloc preserves inv, free preserves inv
  pub calls : (k : Call) → Inv (slab h l) → Calls k h l r h' l' → Inv (slab h' l')

-- lemma_alloc_free_roundtrip: after_free == num_used
pub record AllocFree (used blocks : ℕ) : Type 0 where
  pub alloc : (no_wait : Bool) → allocs used blocks no_wait ≡ accept (suc used) ok []
  pub free : frees (suc used) false ≡ accept used ok []

-- in memory: a block that is allocated and freed again leaves each word as it was
abbrev pub AllocFreeMemory : List ℕ → List ℕ → Type 0
AllocFreeMemory h l =
    (b : ℕ) (h₁ l₁ h' l' : List ℕ) (r : ℤ) → Allocs h l (pos b) h₁ l₁ → fit h₁ l₁ ≡ true → Frees b h₁ l₁ r h' l' → (r ≡ ok) × (h' ≡ h) × (l' ≡ l)

-- lemma_free_alloc_roundtrip: after_alloc == num_used. In memory: HandOver
pub record FreeAlloc (used blocks : ℕ) : Type 0 where
  pub free : frees used false ≡ accept (used - 1) ok []
  pub alloc : (no_wait : Bool) → allocs (used - 1) blocks no_wait ≡ accept used ok []

-- lemma_conservation: (num_blocks - num_used) + num_used == num_blocks, of the answers
abbrev pub Conserves : List ℕ → List ℕ → Type 0
Conserves h l =
    (f u n : ℕ) → CountsFree h l (pos f) → CountsUsed h l (pos u) → CountsBlocks h l (pos n) → f + u ≡ n

-- lemma_full_rejects_alloc ensures what it requires. What its name says
abbrev pub FullRejects : ℕ → ℕ → Type 0
FullRejects used blocks = allocs used blocks true ≡ refuse enomem

-- lemma_all_free_rejects_free, too
abbrev pub AllFreeRejects : ℕ → Type 0
AllFreeRejects used = (waiter : Bool) → frees used waiter ≡ refuse einval
