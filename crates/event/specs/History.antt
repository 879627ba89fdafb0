-- What holds of event flags after any sequence of calls.
use Rattle.std.specs.Prelude.{◌≡◌, Bool, true, false, cond, List, [], ℕ, ◌≤◌, ◌<◌, length, get_or}
use Rattle.seq.specs.Bits.{bit}
use Rattle.thread.specs.Code.{ok}
use Rattle.store.specs.Store.{Reply, left}
use Rattle.store.specs.History.{Step, after, Made}
use Rattle.event.specs.Event.{width, post, set, set_masked, clear, posted, masked, cleared}
use Rattle.event.specs.Post.{Starts, place}

pub data Call : Type 0 where
  posting : (new : ℕ) → Call
  setting : (new : ℕ) → Call
  setting_masked : (new mask : ℕ) → Call
  clearing : (gone : ℕ) → Call

abbrev pub does : Call → ℕ → Reply ℕ
does (posting new) e = post new e
does (setting new) e = set new e
does (setting_masked new mask) e = set_masked new mask e
does (clearing gone) e = clear gone e

-- the flags after a call
abbrev pub next : ℕ → Call → ℕ
next e k = left (does k e) e

-- what a call says of a flag: nothing, or whether it is there from now on
pub data Remark : Type 0 where
  silent : Remark
  there : Bool → Remark

abbrev pub says : Call → ℕ → Remark
says (posting new) i = cond (bit i new) (there true) silent
says (setting new) i = there (bit i new)
says (setting_masked new mask) i = cond (bit i mask) (there (bit i new)) silent
says (clearing gone) i = cond (bit i gone) (there false) silent

abbrev pub heard : Remark → Bool → Bool
heard silent b = b
heard (there c) b = c

-- what the last call that spoke of flag i said; b, if none did
abbrev pub last_said : Bool → ℕ → List (Step Call) → Bool
last_said b i es = after (λ (c : Bool) (e : Step Call). heard (says e.call i) c) b es

-- before the steps es a flag i was there if b i says so; f are the flags after them: a flag is there exactly if the last call that spoke of it
-- put it there
abbrev pub Promise : (b : ℕ → Bool) → List (Step Call) → ℕ → Type 0
Promise b es f = (i : ℕ) → i < width → bit i f ≡ last_said (b i) i es

-- any steps, in memory
abbrev pub Always : Type 0
Always = (h h' : List ℕ) (es : List (Step Call)) → 1 ≤ length h → Made place does h [] es h' [] → Promise (λ i. bit i (get_or h 0 0)) es (get_or h' 0 0)

-- and from an init on, where no flag is there
abbrev pub FromInit : Type 0
FromInit = (h h₀ h' : List ℕ) (es : List (Step Call)) → Starts h ok h₀ → Made place does h₀ [] es h' [] → Promise (λ i. false) es (get_or h' 0 0)

-- each call is one that replaces the flags of a mask, as post_decide does
pub record AllMasked (e x : ℕ) : Type 0 where
  pub posts : posted x e ≡ masked x x e
  pub sets : x ≡ masked x 4294967295 e
  pub clears : cleared x e ≡ masked 0 x e
