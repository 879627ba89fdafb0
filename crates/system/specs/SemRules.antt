-- The data sheet of a semaphore, in any system that has semaphores: what each call of a thread that runs is answered, and what it changes.
use Rattle.std.specs.Prelude.{◌≡◌, [], ◌∷◌, ℕ, suc, ◌-◌, ◌≤◌, ◌<◌, pos}
use Rattle.thread.specs.Code.{ok, eagain, ebusy}
use Rattle.kind.specs.Kind.{Kind}
use Rattle.sem.specs.Sem.{Sem, Call, give, take, try_take, reset, sem_kind}
use Rattle.system.specs.System.{Sys, Kernel}
use Rattle.system.specs.Part.{Part}
use Rattle.system.specs.Effect.{has_numbers, Gets, Fails, Waits, WakesOne, WakesAll}

-- of which numbers it can be made
abbrev pub SemMakes : Sem → Type 0
SemMakes n = (0 < n.limit) × (n.limit < 4294967296) × (n.count ≤ n.limit)

module _ {K : Kind} (P : Part sem_kind K) (f : Kernel K) (s : Sys K) (i o : ℕ) (n : Sem) where
  -- its numbers are the count c and the limit that it has
  abbrev pub counted : ℕ → K.Num
  counted c = P.num (record { count = c; limit = n.limit })

  -- a call that takes: one less; at 0 E
  pub record Takes (k : Call) (E : Type 0) : Type 0 where
    pub there : 0 < n.count → Gets f s i o (P.call k) ok (has_numbers o (counted (n.count - 1)) ∷ [])
    pub empty : n.count ≡ 0 → E

  -- a give with nobody waiting
  pub record Raises : Type 0 where
    pub below : n.count < n.limit → Gets f s i o (P.call give) (pos 1) (has_numbers o (counted (suc n.count)) ∷ [])
    pub full : n.limit ≤ n.count → Gets f s i o (P.call give) (pos 2) []

  pub record SemRules : Type 0 where
    -- the first that waits is woken with 0, and the count stays; with nobody waiting it goes up, to its limit
    pub gives : WakesOne f s i o (P.call give) (pos 0) Raises
    -- one less; at 0 the caller waits, or is told that it would
    pub takes : Takes take (Waits f s i o (P.call take) (P.wish tt))
    pub tries : Takes try_take (Fails f s i o (P.call try_take) ebusy)
    -- the count is 0, and all that wait are woken with -11
    pub clears : WakesAll f s i o (P.call reset) eagain (has_numbers o (counted 0) ∷ [])
