-- Event flags: 32 flags, one in each bit of a word.
use Rattle.std.specs.Prelude.{◌≡◌, Bool, true, cond, not, ◌&&◌, ◌||◌, [], ℕ, ◌<◌, eqb, leb, ℤ, pos, Result, MatchResult}
use Rattle.seq.specs.Bits.{bit, bits, any_of, all_of}
use Rattle.thread.specs.Code.{ok, ebusy, einval}
use Rattle.thread.specs.declared.Errno.{Errno}
use Rattle.thread.specs.declared.Errno.TheVariants.{EINVAL}
use Rattle.store.specs.Store.{Reply, refuse, accept}
use Rattle.event.specs.declared.WaitType.{WaitType}
use Rattle.event.specs.declared.WaitType.TheVariants.{Any, All}
use Rattle.event.specs.declared.WaitDecision.{WaitDecision}
use Rattle.event.specs.declared.WaitDecision.TheVariants.{Matched, Pend}
use Rattle.event.specs.declared.WaitDecideResult.{WaitDecideResult}

abbrev pub width : ℕ
width = 32

-- the flags e, and those of new
abbrev pub posted : (new e : ℕ) → ℕ
posted new e = bits width (λ i. bit i e || bit i new)

-- the flags of the mask are as in new, the others as in e
abbrev pub masked : (new mask e : ℕ) → ℕ
masked new mask e = bits width (λ i. cond (bit i mask) (bit i new) (bit i e))

-- the flags e, but none of gone
abbrev pub cleared : (gone e : ℕ) → ℕ
cleared gone e = bits width (λ i. bit i e && not (bit i gone))

-- what a call leaves, and what it answers: the new flags, or the old ones
abbrev pub post : ℕ → ℕ → Reply ℕ
post new e = accept (posted new e) (pos (posted new e)) []

abbrev pub set : ℕ → ℕ → Reply ℕ
set new e = accept new (pos e) []

abbrev pub set_masked : (new mask : ℕ) → ℕ → Reply ℕ
set_masked new mask e = accept (masked new mask e) (pos e) []

abbrev pub clear : ℕ → ℕ → Reply ℕ
clear gone e = accept (cleared gone e) (pos (cleared gone e)) []

-- one desired flag is there
abbrev pub any_there : (desired e : ℕ) → Bool
any_there desired e = any_of width (λ i. bit i e && bit i desired)

-- each desired flag is there
abbrev pub all_there : (desired e : ℕ) → Bool
all_there desired e = all_of width (λ i. cond (bit i desired) (bit i e) true)

-- the desired flags that are there
abbrev pub matching : (desired e : ℕ) → ℕ
matching desired e = bits width (λ i. bit i e && bit i desired)

-- 1: yes; 0: no
abbrev pub told : Bool → ℤ
told b = cond b (pos 1) (pos 0)

-- for what a thread waits: 0, for any desired flag; 1, for all of them
abbrev pub wait_any : ℕ
wait_any = 0

abbrev pub wait_all : ℕ
wait_all = 1

-- the number of a type, and the type that a number is read as: no other has one
abbrev pub type_number : WaitType → ℕ
type_number Any = wait_any
type_number All = wait_all

abbrev pub ReadsType : ℕ → Result WaitType Errno → Type 0
ReadsType n r = MatchResult r (λ t. type_number t ≡ n) (λ e. (e ≡ EINVAL) × (wait_all < n))

abbrev pub met : (type desired e : ℕ) → Bool
met type desired e = cond (eqb type wait_all) (all_there desired e) (any_there desired e)

-- a wait answers: it is over at once; the caller is to wait
abbrev pub matched : ℤ
matched = ok

abbrev pub pends : ℤ
pends = pos 1

-- the number of a decision, the answer of its result, and the flags that go to a word
abbrev pub decision_number : WaitDecision → ℤ
decision_number Matched = matched
decision_number Pend = pends

abbrev pub decided : WaitDecideResult → ℤ
decided r = decision_number r.decision

abbrev pub its_flags : WaitDecideResult → ℕ → ℕ
its_flags r n = r.matched_events

-- what a wait is to do, and the flags for which it is over
abbrev pub waits : (e desired type : ℕ) → (no_wait : Bool) → Reply ℕ
waits e desired type no_wait =
    cond (leb type wait_all) (cond (met type desired e) (accept (matching desired e) matched []) (cond no_wait (refuse ebusy) (accept 0 pends [])))
    (refuse einval)
