-- What each call makes of each flag, and so any sequence of calls. Assumes nothing.
use mathlib.Core.Path.{◌≡◌, refl, sym, ap, ◌∙◌}
use mathlib.Core.Bool.{Bool, true, false, cond, not, ◌&&◌, ◌||◌}
use mathlib.Core.List.{List}
use Prim.Native.Nat.{ℕ, ◌<◌}
use borrow.Author.Tests.{le-leb}
use lib.ListN.{length}
use Rattle.seq.specs.Bits.{bit}
use Rattle.seq.proofs.Bits.{bit-bits, bits-same, by_bits}
use Rattle.seq.proofs.Masks.{bit-none, bit-full}
use Rattle.store.specs.History.{Step, Ran}
use Rattle.store.proofs.Histories.{throughout, runs, from_start}
use Rattle.event.specs.Event.{width}
use Rattle.event.specs.Post.{place}
use Rattle.event.specs.History.{Call, posting, setting, setting_masked, clearing, does, next, silent, there, says, heard, Promise}
use Rattle.event.specs.History.{Always, FromInit, AllMasked}

said : (c d b : Bool) → cond c d b ≡ heard (cond c (there d) silent) b
said true d b = refl
said false d b = refl

or_cond : (b c : Bool) → b || c ≡ cond c true b
or_cond true true = refl
or_cond true false = refl
or_cond false true = refl
or_cond false false = refl

and_cond : (b c : Bool) → b && not c ≡ cond c false b
and_cond true true = refl
and_cond true false = refl
and_cond false true = refl
and_cond false false = refl

-- a flag is what the call says of it, or stays
module _ (i : ℕ) (h : i < width) where
  pub bit-next : (k : Call) (e : ℕ) → bit i (next e k) ≡ heard (says k i) (bit i e)
  bit-next (posting x) e = bit-bits width i _ h ∙ or_cond (bit i e) (bit i x) ∙ said (bit i x) true (bit i e)
  bit-next (setting x) e = refl
  bit-next (setting_masked x m) e = bit-bits width i _ h ∙ said (bit i m) (bit i x) (bit i e)
  bit-next (clearing x) e = bit-bits width i _ h ∙ and_cond (bit i e) (bit i x) ∙ said (bit i x) false (bit i e)

told : (b : ℕ → Bool) {e : ℕ} → ((i : ℕ) → i < width → bit i e ≡ b i) → {es : List (Step Call)} {f : ℕ} → Ran does e es f → Promise b es f
told b s m = throughout does (Promise b) (λ k es e o p i h. bit-next i h k e ∙ ap (heard (says k i)) (p i h)) s m

pub always : Always
always h h' es k m = told _ (λ i b. refl) (runs place does (le-leb 1 (length h) k) m).1

pub from-init : FromInit
from-init h h₀ h' es s m = told _ (λ i b. bit-none i) (from_start place does s m).1

pub all-masked : (e x : ℕ) → x < 4294967296 → AllMasked e x
all-masked e x b =
    record {
      posts = bits-same width _ _ (λ i h. or_cond (bit i e) (bit i x) ∙ same (bit i x) (bit i e));
      sets = by_bits width x _ b (λ i h. rw (bit-full width i h));
      clears = bits-same width _ _ (λ i h. and_cond (bit i e) (bit i x) ∙ ap (λ (d : Bool). cond (bit i x) d (bit i e)) (sym (bit-none i)));
    }
  where
    same : (c b : Bool) → cond c true b ≡ cond c c b
    same true b = refl
    same false b = refl
