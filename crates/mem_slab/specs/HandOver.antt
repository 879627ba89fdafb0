-- A free while somebody waits. C does the waiting: the decide functions are told that somebody waits, and the block goes straight to them.
use Rattle.std.specs.Prelude.{◌≡◌, Bool, true, false, cond, List, [], ℕ, suc, ◌-◌, ◌≤◌, ◌<◌, ltb, eqb, ℤ, pos, negsuc, get_or}
use Rattle.thread.specs.Code.{ok}
use Rattle.store.specs.Store.{Reply, refuse, accept}
use Rattle.store.specs.History.{after}
use Rattle.mem_slab.specs.Slab.{allocs, frees, woke}
use Rattle.mem_slab.specs.Post.{Allocs, Frees}

-- a free of b and then the alloc of the one that waits, in any memory: that one has b, and no word is another than before. So a hand-over
-- touches nothing, and the count of those that are out stays, which is what free_decide answers
pub record HandedOver (b : ℕ) (h l : List ℕ) (r : ℤ) (h' l' : List ℕ) : Type 0 where
  pub block : r ≡ pos b
  pub header : h' ≡ h
  pub links : l' ≡ l
  pub count : frees (get_or h 2 0) true ≡ accept (get_or h 2 0) woke []

abbrev pub HandOver : ℕ → List ℕ → List ℕ → Type 0
HandOver b h l =
    (h₁ l₁ h' l' : List ℕ) (r : ℤ) → Frees b h l ok h₁ l₁ → Allocs h₁ l₁ r h' l' → HandedOver b h l r h' l'

-- how many are out, and how many wait
pub record Counts : Type 0 where
  pub out : ℕ
  pub waiting : ℕ

pub data Ask : Type 0 where
  allocates : (no_wait : Bool) → Ask
  releases : Ask

-- the answer is 1
abbrev pub is_one : ℤ → Bool
is_one (pos n) = eqb n 1
is_one (negsuc n) = false

-- what is done with a decision: after an answer of 1, w wait
abbrev pub settle : Reply ℕ → ℕ → Counts → Counts
settle (refuse r) w c = c
settle (accept u r o) w c = record { out = u; waiting = cond (is_one r) w c.waiting }

-- of n blocks. An allocation that is answered 1 waits; a free is told whether somebody waits, and answered 1 it wakes one
abbrev pub next : ℕ → Counts → Ask → Counts
next n c (allocates no_wait) = settle (allocs c.out n no_wait) (suc c.waiting) c
next n c releases = settle (frees c.out (ltb 0 c.waiting)) (c.waiting - 1) c

abbrev pub counts : ℕ → List Ask → Counts
counts n = after (next n) (record { out = 0; waiting = 0 })

-- after any asks, the last in front: nobody waits unless all are out
pub record NoneInVain (n : ℕ) (xs : List Ask) : Type 0 where
  pub few : (counts n xs).out ≤ n
  pub waiting : 0 < (counts n xs).waiting → (counts n xs).out ≡ n
