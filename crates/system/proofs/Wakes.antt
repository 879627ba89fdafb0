-- A call by a thread that runs is what the object decides. Assumes nothing.
use mathlib.Core.Path.{◌≡◌, refl, sym, ap, ◌∙◌}
use Prim.Native.Nat.{ℕ}
use native.Mathlib.Omega.{arith}
use lib.IntN.{pos}
use Rattle.thread.specs.Caller.{caller_code}
use Rattle.wait_queue.proofs.Answers.{right-caller}
use Rattle.kind.specs.Verdict.{Verdict}
use Rattle.kind.specs.Kind.{Kind}
use Rattle.store.specs.Store as store
use Rattle.kind.specs.Object.{thread, carried}
use Rattle.system.specs.System.{absent, running, number, Slot, object, Sys, serve, thing, outcome, verdict, visited, called}
use Rattle.system.specs.Rules.{Fine}
use Rattle.system.proofs.Calls.{granted}

module _ {K : Kind} (u : Sys K) (g : Fine u) (i o : ℕ) (k : K.Call) (n : K.Num) (h : u.slot o ≡ object n) (r : u.state i ≡ running) where
  -- it is there
  pub there : u.state i ≡ absent → ⊥
  there a = let v : running ≡ absent = sym r ∙ a in absurd (let y : ◌≡◌ {A = ℕ} 0 1 = cc in omega arith)

  fit : caller_code (u.prio i) (number (u.state i)) ≡ pos 0
  fit = rw r (right-caller (u.prio i) 1 refl (g.known i there).1)

  -- a call by a thread that runs is what the object decides
  pub decided : (d : Verdict K.Num K.Wish) → verdict u i o k n ≡ d → outcome u i o k n ≡ carried (thread i (u.prio i) 1) d (thing u o n)
  decided d y = granted u i o k n (g.formed o n h) 0 fit ∙ rw y

  pub served : (d : Verdict K.Num K.Wish) (c : ℕ) → verdict u i o k n ≡ d → store.answer (carried (thread i (u.prio i) 1) d (thing u o n)) ≡ pos c
      → (called u i o k).0 ≡ serve u i o d (store.left (carried (thread i (u.prio i) 1) d (thing u o n)) (thing u o n))
  served d c y z = rw (h, decided d y, y, z)

  pub answered : (d : Verdict K.Num K.Wish) → verdict u i o k n ≡ d → (called u i o k).1 ≡ store.answer (carried (thread i (u.prio i) 1) d (thing u o n))
  answered d y = ap (λ (x : Slot K.Num). (visited x u i o k).1) h ∙ ap store.answer (decided d y)
