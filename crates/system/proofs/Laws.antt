-- Our step keeps the laws of any system whose members have their data sheets. Assumes nothing.
use mathlib.Core.Path.{◌≡◌, refl}
use mathlib.Core.Bool.{Bool, true, false}
use mathlib.Core.List.{[]}
use Prim.Native.Nat.{ℕ}
use Rattle.thread.specs.Code.{einval}
use Rattle.system.specs.System.{running, object, Sys, refuse, free, called, created, step, after}
use Rattle.system.specs.Part.{whole}
use Rattle.system.specs.Sum.{Member}
use Rattle.system.specs.Rules.{Fine}
use Rattle.system.specs.Laws.{OfObjects, LawsAt, Laws}
use Rattle.system.proofs.Steps.{always}
use Rattle.system.proofs.ThreadLaws.{threads}
use Rattle.system.proofs.CallerLaws.{callers, pairs}
use Rattle.system.proofs.Effects as effects
use Rattle.system.proofs.Sheets.{Sheet, whole-fits}

module _ {M : Member} (h : Sheet M) where
  -- a call for another kind of object
  pub other-kind : (s : Sys M.kind) → Fine s → (i o : ℕ) (k : M.kind.Call) (n : M.kind.Num) → s.slot o ≡ object n → s.state i ≡ running
      → M.Foreign n k → called s i o k ≡ (s, einval, [])
  other-kind s g i o k n e r z = effects.denied s g i o k n e r 21 (h.foreign n s.wish _ i k z)

  objects : (s : Sys M.kind) → Fine s → OfObjects M step s
  objects s g =
      record {
        made = λ o n e m. rw (e, h.makes n m);
        there = λ o m n e. rw e;
        made_not = λ o n e. at-made o n e (free (s.slot o)) (M.kind.new n) refl refl;
        other = λ i o k n e r z. effects.refuses s i o k 21 (other-kind s g i o k n e r z);
      }
    where
      at-made : (o : ℕ) (n : M.kind.Num) → (M.Makes n → ⊥) → (a b : Bool) → free (s.slot o) ≡ a → M.kind.new n ≡ b → created s o n ≡ refuse s einval
      at-made o n e true true x y = absurd (e (h.made n y))
      at-made o n e true false x y = rw (x, y)
      at-made o n e false b x y = rw x

  pub laws_at : (s : Sys M.kind) → Fine s → LawsAt M step s
  laws_at s g =
      record {
        threads = threads s g;
        callers = callers s g;
        pairs = pairs s g;
        objects = objects s g;
        rules = λ i o n e r. h.keeps (whole M.kind) (whole-fits M.kind) s g i o n e r;
      }

  pub laws : Laws M step
  laws s b past = laws_at (after s past) (always h.lawful s b past)
