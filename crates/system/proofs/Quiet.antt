-- An operation on a thread alone changes no object and hands nobody out. Assumes nothing.
use mathlib.Core.Path.{◌≡◌, refl}
use mathlib.Core.Bool.{Bool, true, false, cond}
use mathlib.Core.List.{[]}
use lib.Dec.{ltb}
use Rattle.thread.specs.Code.{ok, einval}
use Rattle.thread.specs.Priority.{valid}
use Rattle.kind.specs.Kind.{Kind}
use Rattle.system.specs.System.{State, absent, running, ready, waiting, Sys, Op, invoke, both, dispatch, yield, expire, spawn, create, Reply, accept, refuse, gone_by, dispatched, yielded, expired, born, step}

-- dispatch, yield, expire, spawn
abbrev pub OnThread : {K : Kind} → Op K → Type 0
OnThread (invoke i o k) = ⊥
OnThread (both i a j b k) = ⊥
OnThread (dispatch i) = Unit {0}
OnThread (yield i) = Unit {0}
OnThread (expire i) = Unit {0}
OnThread (spawn i p) = Unit {0}
OnThread (create o n) = ⊥

pub record Quiet {K : Kind} (s : Sys K) (r : Reply K) : Type 0 where
  pub slots : r.0.slot ≡ s.slot
  pub nobody : r.2 ≡ []

pub quiet : {K : Kind} (s : Sys K) (x : Op K) → OnThread x → Quiet s (step s x)
quiet s (invoke i o k) h = absurd h
quiet s (both i a j b k) h = absurd h
quiet s (dispatch i) h = go (s.state i)
  where
    go : (y : State) → Quiet s (dispatched y s i)
    go absent = record { slots = refl; nobody = refl }
    go running = record { slots = refl; nobody = refl }
    go (ready r) = record { slots = refl; nobody = refl }
    go (waiting o) = record { slots = refl; nobody = refl }
quiet s (yield i) h = go (s.state i)
  where
    go : (y : State) → Quiet s (yielded y s i)
    go absent = record { slots = refl; nobody = refl }
    go running = record { slots = refl; nobody = refl }
    go (ready r) = record { slots = refl; nobody = refl }
    go (waiting o) = record { slots = refl; nobody = refl }
quiet s (expire i) h = go (s.state i)
  where
    go : (y : State) → Quiet s (expired y s i)
    go absent = record { slots = refl; nobody = refl }
    go running = record { slots = refl; nobody = refl }
    go (ready r) = record { slots = refl; nobody = refl }
    go (waiting o) = record { slots = refl; nobody = refl }
quiet {K} s (spawn i p) h = go (gone_by (s.state i)) (ltb i 4294967296) (valid p)
  where
    go : (a b c : Bool) → Quiet {K = K} s (cond a (cond b (cond c (accept (born s i p) ok) (refuse s einval)) (refuse s einval)) (refuse s einval))
    go true true true = record { slots = refl; nobody = refl }
    go true true false = record { slots = refl; nobody = refl }
    go true false c = record { slots = refl; nobody = refl }
    go false b c = record { slots = refl; nobody = refl }
quiet s (create o n) h = absurd h
