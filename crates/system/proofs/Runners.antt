-- Who is answered that its call was done runs. Assumes nothing.
use mathlib.Core.Path.{◌≡◌, refl, sym, ap, ◌∙◌}
use Prim.Native.Nat.{ℕ}
use native.Mathlib.Omega.{arith}
use lib.IntN.{ℤ}
use Rattle.kind.specs.Kind.{Kind}
use Rattle.system.specs.System.{State, absent, running, ready, waiting, object, Sys, invoke, done, denied, Reply, step}
use Rattle.system.specs.Rules.{Fine}
use Rattle.system.proofs.CallerLaws.{callers}

pub refused : {A : Type 0} {x y : ℤ} → done x ≡ denied y → A
refused h = absurd (let z : ◌≡◌ {A = ℕ} 0 1 = cc in omega arith)

pub done-runs : {K : Kind} (s : Sys K) → Fine s → (i o : ℕ) (k : K.Call) (n : K.Num) (c : ℤ) → s.slot o ≡ object n → (step s (invoke i o k)).1 ≡ done c
    → s.state i ≡ running
done-runs {K} s g i o k n c h e = go (s.state i) refl
  where
    off : {d : ℤ} → (step s (invoke i o k)).1 ≡ denied d → s.state i ≡ running
    off z = refused (sym e ∙ z)

    go : (x : State) → s.state i ≡ x → s.state i ≡ running
    go absent r = off (ap (λ (z : Reply K). z.1) ((callers s g).gone i o k n h r))
    go running r = r
    go (ready v) r = off (ap (λ (z : Reply K). z.1) ((callers s g).idle i o k n v h r))
    go (waiting a) r = off (ap (λ (z : Reply K). z.1) ((callers s g).blocked i o a k n h r))
