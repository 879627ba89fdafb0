-- What an operation leaves of the objects that it does not touch, and that those of the kernel alone wake nobody. Assumes nothing.
use mathlib.Core.Path.{◌≡◌, refl, sym, ◌∙◌}
use mathlib.Core.Bool.{Bool, true, false, cond}
use mathlib.Core.List.{[]}
use Prim.Native.Nat.{ℕ}
use native.Mathlib.Omega.{arith}
use lib.Dec.{ltb}
use lib.IntN.{ℤ, pos, negsuc}
use borrow.Author.Tests.{ne_eqb}
use Rattle.thread.specs.Code.{ok, einval}
use Rattle.thread.specs.Priority.{valid}
use Rattle.kind.specs.Kind.{Kind}
use Rattle.system.specs.System.{State, absent, running, ready, waiting, vacant, object, Sys, Op, invoke, both, dispatch, yield, expire, spawn}
use Rattle.system.specs.System.{create, Reply, denied, accept, refuse, unless, free, gone_by, called, dispatched, yielded, left, spawned, born}
use Rattle.system.specs.System.{placed, created, answers, step}
use Rattle.system.specs.World.{OfThreads, actor}
use Rattle.system.proofs.Link.{slot_kept, queue-kept}

-- the object x is in t as it is in s
pub record Kept {K : Kind} (s t : Sys K) (x : ℕ) : Type 0 where
  pub slot : t.slot x ≡ s.slot x
  pub queue : t.queue x ≡ s.queue x

same : {K : Kind} (s : Sys K) (x : ℕ) → Kept s s x
same s x = record { slot = refl; queue = refl }

module _ {K : Kind} (s : Sys K) (x : ℕ) where
  pub call_kept : (i o : ℕ) (k : K.Call) → (o ≡ x → ⊥) → Kept s (called s i o k).0 x
  call_kept i o k off = record { slot = slot_kept s i o k x off; queue = queue-kept s i o k x off }

  pub both-kept : (i a : ℕ) (j : K.Call) (b : ℕ) (k : K.Call) → (a ≡ b → ⊥) → (a ≡ x → ⊥) → (b ≡ x → ⊥) → Kept s (step s (both i a j b k)).0 x
  both-kept i a j b k n p q = rw (ne_eqb a b n) (go (answers s i a j b k))
    where
      go : (z : ℤ) → Kept s (unless z s (called (called s i a j).0 i b k).0) x
      go (pos c) =
          record {
            slot = slot_kept (called s i a j).0 i b k x q ∙ slot_kept s i a j x p;
            queue = queue-kept (called s i a j).0 i b k x q ∙ queue-kept s i a j x p;
          }
      go (negsuc c) = same s x

  pub left-kept : (i o : ℕ) → (o ≡ x → ⊥) → Kept s (left s i o) x
  left-kept i o n = record { slot = refl; queue = rw (ne_eqb o x n) }

  module _ (o : ℕ) (n : K.Num) (v : s.slot o ≡ vacant) where
    pub create-kept : (o ≡ x → ⊥) → Kept s (created s o n).0 x
    create-kept off = rw v (go (K.new n))
      where
        go : (b : Bool) → Kept s (cond {A = Reply K} b (accept (placed s o n) ok) (refuse s einval)).0 x
        go true = record { slot = rw (ne_eqb o x off); queue = refl }
        go false = same s x

    pub create-silent : (created s o n).2 ≡ []
    create-silent = rw v (go (K.new n))
      where
        go : (b : Bool) → (cond {A = Reply K} b (accept (placed s o n) ok) (refuse s einval)).2 ≡ []
        go true = refl
        go false = refl

    -- where it is refused there is no object
    pub create-denied : (c : ℤ) (m : K.Num) → denied c ≡ (created s o n).1 → (created s o n).0.slot o ≡ object m → ⊥
    create-denied c m = rw v (go (K.new n))
      where
        go : (b : Bool) → denied c ≡ (cond {A = Reply K} b (accept (placed s o n) ok) (refuse s einval)).1
            → (cond {A = Reply K} b (accept (placed s o n) ok) (refuse s einval)).0.slot o ≡ object m → ⊥
        go true e z = absurd (let y : ◌≡◌ {A = ℕ} 0 1 = cc in omega arith)
        go false e z = let u : vacant ≡ object m = sym v ∙ z in absurd (let y : ◌≡◌ {A = ℕ} 0 1 = cc in omega arith)

  dispatch-kept : (i : ℕ) (y : State) → Kept s (dispatched y s i).0 x × ((dispatched y s i).2 ≡ [])
  dispatch-kept i absent = (same s x, refl)
  dispatch-kept i running = (same s x, refl)
  dispatch-kept i (ready r) = (record { slot = refl; queue = refl }, refl)
  dispatch-kept i (waiting o) = (same s x, refl)

  yield-kept : (i : ℕ) (y : State) → Kept s (yielded y s i).0 x × ((yielded y s i).2 ≡ [])
  yield-kept i absent = (same s x, refl)
  yield-kept i running = (record { slot = refl; queue = refl }, refl)
  yield-kept i (ready r) = (same s x, refl)
  yield-kept i (waiting o) = (same s x, refl)

  spawn-kept : (i p : ℕ) → Kept s (spawned s i p).0 x × ((spawned s i p).2 ≡ [])
  spawn-kept i p = go (gone_by (s.state i)) (ltb i 4294967296) (valid p)
    where
      go : (a b c : Bool) → Kept s (cond {A = Reply K} a (cond b (cond c (accept (born s i p) ok) (refuse s einval)) (refuse s einval)) (refuse s einval)).0 x
          × ((cond {A = Reply K} a (cond b (cond c (accept (born s i p) ok) (refuse s einval)) (refuse s einval)) (refuse s einval)).2 ≡ [])
      go true true true = (record { slot = refl; queue = refl }, refl)
      go true true false = (same s x, refl)
      go true false c = (same s x, refl)
      go false b c = (same s x, refl)

  pub moves-kept : (y : Op K) → OfThreads y → Kept s (step s y).0 x × ((step s y).2 ≡ [])
  moves-kept (invoke i o k) z = absurd z
  moves-kept (both i a j b k) z = absurd z
  moves-kept (dispatch i) z = dispatch-kept i (s.state i)
  moves-kept (yield i) z = yield-kept i (s.state i)
  moves-kept (expire i) z = absurd z
  moves-kept (spawn i p) z = spawn-kept i p
  moves-kept (create o n) z = absurd z

-- whose state an operation of the kernel alone can change
module _ {K : Kind} (s : Sys K) (t : ℕ) where
  dispatch-others : (i : ℕ) (y : State) → (i ≡ t → ⊥) → (dispatched y s i).0.state t ≡ s.state t
  dispatch-others i absent n = refl
  dispatch-others i running n = refl
  dispatch-others i (ready r) n = rw (ne_eqb i t n)
  dispatch-others i (waiting o) n = refl

  yield-others : (i : ℕ) (y : State) → (i ≡ t → ⊥) → (yielded y s i).0.state t ≡ s.state t
  yield-others i absent n = refl
  yield-others i running n = rw (ne_eqb i t n)
  yield-others i (ready r) n = refl
  yield-others i (waiting o) n = refl

  spawn-others : (i p : ℕ) → (i ≡ t → ⊥) → (spawned s i p).0.state t ≡ s.state t
  spawn-others i p n = go (gone_by (s.state i)) (ltb i 4294967296) (valid p)
    where
      go : (a b c : Bool)
          → (cond {A = Reply K} a (cond b (cond c (accept (born s i p) ok) (refuse s einval)) (refuse s einval)) (refuse s einval)).0.state t ≡ s.state t
      go true true true = rw (ne_eqb i t n)
      go true true false = refl
      go true false c = refl
      go false b c = refl

  pub moves-others : (y : Op K) → OfThreads y → (actor y ≡ t → ⊥) → (step s y).0.state t ≡ s.state t
  moves-others (invoke i o k) z n = absurd z
  moves-others (both i a j b k) z n = absurd z
  moves-others (dispatch i) z n = dispatch-others i (s.state i) n
  moves-others (yield i) z n = yield-others i (s.state i) n
  moves-others (expire i) z n = absurd z
  moves-others (spawn i p) z n = spawn-others i p n
  moves-others (create o m) z n = absurd z

  pub create-states : (o : ℕ) (m : K.Num) → (created s o m).0.state t ≡ s.state t
  create-states o m = go (free (s.slot o)) (K.new m)
    where
      go : (a b : Bool) → (cond {A = Reply K} a (cond b (accept (placed s o m) ok) (refuse s einval)) (refuse s einval)).0.state t ≡ s.state t
      go true true = refl
      go true false = refl
      go false b = refl
