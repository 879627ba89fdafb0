-- The contracts of Gale's event.rs, in our words: e is the flags before a call, e' after it, r its answer; & is bit_and, | is bit_or.
-- Upstream's text stands above each field.
use Rattle.std.specs.Prelude.{◌≡◌, true, ℕ, ◌-◌, ◌<◌, ℤ, pos}
use Rattle.std.specs.Int.Bits.{bit_and, bit_or}
use Rattle.seq.specs.Bits.{bit}
use Rattle.thread.specs.Code.{ok}
use Rattle.thread.specs.Upstream.{Tells}
use Rattle.event.specs.Event.{width, any_there, all_there, matched, pends}
use Rattle.event.specs.History.{Call, posting, setting, setting_masked, clearing, next}

-- Event::inv is true: a u32
abbrev pub Inv : ℕ → Type 0
Inv e = e < 4294967296

-- !x
abbrev pub complement : ℕ → ℕ
complement x = 4294967295 - x

-- init: it always succeeds
pub record Init (r : ℤ) (e' : ℕ) : Type 0 where
  pub done : r ≡ ok
  -- result.inv()
  pub inv : Inv e'
  -- result.events == 0u32
  pub events : e' ≡ 0

-- post
pub record Post (new e : ℕ) (r : ℤ) (e' : ℕ) : Type 0 where
  -- self.inv()
  pub inv : Inv e'
  -- self.events == (old(self).events | new_events)
  pub events : e' ≡ bit_or e new
  -- result == self.events
  pub result : r ≡ pos e'
  -- old(self).events & self.events == old(self).events
  pub monotonic : bit_and e e' ≡ e

-- set
pub record Set (new e : ℕ) (r : ℤ) (e' : ℕ) : Type 0 where
  -- self.inv()
  pub inv : Inv e'
  -- self.events == new_events
  pub events : e' ≡ new
  -- result == old(self).events
  pub result : r ≡ pos e

-- set_masked
pub record SetMasked (new mask e : ℕ) (r : ℤ) (e' : ℕ) : Type 0 where
  -- self.inv()
  pub inv : Inv e'
  -- self.events == ((old(self).events & !mask) | (new_events & mask))
  pub events : e' ≡ bit_or (bit_and e (complement mask)) (bit_and new mask)
  -- result == old(self).events
  pub result : r ≡ pos e

-- clear
pub record Clear (gone e : ℕ) (r : ℤ) (e' : ℕ) : Type 0 where
  -- self.inv()
  pub inv : Inv e'
  -- self.events == (old(self).events & !clear_events)
  pub events : e' ≡ bit_and e (complement gone)
  -- result == self.events
  pub result : r ≡ pos e'

-- wait_check_any: result == ((self.events & desired) != 0u32)
abbrev pub WaitCheckAny : (desired e : ℕ) → ℤ → Type 0
WaitCheckAny desired e r = Tells (pos 1) (pos 0) r (bit_and e desired ≡ 0 → ⊥)

-- wait_check_all: result == ((self.events & desired) == desired)
abbrev pub WaitCheckAll : (desired e : ℕ) → ℤ → Type 0
WaitCheckAll desired e r = Tells (pos 1) (pos 0) r (bit_and e desired ≡ desired)

-- events_get: result == self.events
abbrev pub EventsGet : ℕ → ℤ → Type 0
EventsGet e r = r ≡ pos e

-- wait_decide: Matched is 0, Pend 1, and Timeout -16; matched_events is the word m', which was m
pub record WaitDecide (e desired m : ℕ) (r : ℤ) (m' : ℕ) : Type 0 where
  -- result.decision === WaitDecision::Matched ==> result.matched_events == (current_events & desired)
  pub matches : r ≡ matched → m' ≡ bit_and e desired
  -- result.decision !== WaitDecision::Matched ==> result.matched_events == 0u32: if the caller waits, and else if it held 0
  pub waiting : r ≡ pends → m' ≡ 0
  pub not_matched : (r ≡ matched → ⊥) → m ≡ 0 → m' ≡ 0

-- post_decide: result == ((current_events & !mask) | (new_events & mask))
abbrev pub PostDecide : (e new mask r : ℕ) → Type 0
PostDecide e new mask r = r ≡ bit_or (bit_and e (complement mask)) (bit_and new mask)

-- upstream's lemmas. What they say of words is said of the calls too

-- the words of a call
abbrev pub Words : Call → Type 0
Words (posting new) = Inv new
Words (setting new) = Inv new
Words (setting_masked new mask) = Inv new × Inv mask
Words (clearing gone) = Inv gone

-- lemma_invariant_inductive, which ends in `ensures true`. Its comments: init establishes inv, post, set, set_masked and clear preserve inv
pub record Inductive : Type 0 where
  pub init : Inv 0
  pub calls : (e : ℕ) (k : Call) → Inv e → Words k → Inv (next e k)

-- lemma_post_monotonic
pub record Monotonic (e new : ℕ) : Type 0 where
  -- (events | new_events) & events == events
  pub words : bit_and (bit_or e new) e ≡ e
  -- a flag that is there is there after a post
  pub call : (i : ℕ) → i < width → bit i e ≡ true → bit i (next e (posting new)) ≡ true

-- lemma_set_clear_roundtrip
pub record SetClear (e value : ℕ) : Type 0 where
  -- value & !value == 0u32
  pub words : bit_and value (complement value) ≡ 0
  pub call : next (next e (setting value)) (clearing value) ≡ 0

-- lemma_wait_conditions_correct, for a desired flag
pub record AllAny (e desired : ℕ) : Type 0 where
  -- (events & desired) == desired gives (events & desired) != 0u32
  pub words : bit_and e desired ≡ desired → bit_and e desired ≡ 0 → ⊥
  pub call : all_there desired e ≡ true → any_there desired e ≡ true

-- lemma_post_idempotent
pub record Idempotent (e new : ℕ) : Type 0 where
  -- (events | new_events) | new_events == events | new_events
  pub words : bit_or (bit_or e new) new ≡ bit_or e new
  pub call : next (next e (posting new)) (posting new) ≡ next e (posting new)

-- lemma_set_masked_full
pub record MaskedFull (e new : ℕ) : Type 0 where
  -- (events & !0xFFFF_FFFFu32) | (new_events & 0xFFFF_FFFFu32) == new_events
  pub words : bit_or (bit_and e (complement 4294967295)) (bit_and new 4294967295) ≡ new
  pub call : next e (setting_masked new 4294967295) ≡ next e (setting new)

-- lemma_set_masked_zero
pub record MaskedZero (e new : ℕ) : Type 0 where
  -- (events & !0u32) | (new_events & 0u32) == events
  pub words : bit_or (bit_and e (complement 0)) (bit_and new 0) ≡ e
  pub call : next e (setting_masked new 0) ≡ e
