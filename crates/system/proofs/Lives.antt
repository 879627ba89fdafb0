-- A refusal changes nothing, and what a step can do to a thread. Assumes nothing.
use mathlib.Core.Path.{◌≡◌, refl, sym, ap, ◌∙◌}
use mathlib.Core.Bool.{Bool, true, false, cond}
use mathlib.Core.Logic.{◌⊎◌, inl, inr}
use mathlib.Core.List.{List, [], ◌++◌, map}
use Prim.Native.Nat.{ℕ}
use native.Mathlib.Omega.{arith}
use lib.Dec.{eqb, ltb}
use lib.IntN.{ℤ, pos, negsuc}
use lib.ListN.{length}
use borrow.Author.Tests.{ne_eqb, eqb-true}
use Rattle.seq.specs.List.{All}
use Rattle.seq.proofs.Order.{clash}
use Rattle.thread.specs.Code.{ok, eagain, einval}
use Rattle.thread.specs.Priority.{valid}
use Rattle.thread.specs.Caller.{caller_code}
use Rattle.wait_queue.specs.Queue.{max_waiters, entry, ident, holds}
use Rattle.wait_queue.proofs.Well.{in_all}
use Rattle.store.specs.Store as store
use Rattle.kind.specs.Verdict.{gone, keep, park, wake, Verdict, deny, allow}
use Rattle.kind.specs.Kind.{Kind, Lawful, Right}
use Rattle.kind.specs.Object.{thread, carried}
use Rattle.kind.proofs.Picks.{any-map, gone-map}
use Rattle.system.specs.System.{State, absent, running, ready, waiting, number, Slot, vacant, object, Sys, Op, invoke, both, dispatch, yield, expire, spawn, create, deed, wishes, unless, serve, thing, outcome, verdict, visited, called, dispatched, yielded, expired, spawned, created, free, gone_by, answers, Answer, done, denied, reply, step, Woken, Reply, accept, refuse, paired, placed}
use Rattle.system.specs.System as system
use Rattle.system.specs.Rules.{Fine}
use Rattle.system.specs.Life.{Calls, direct, former, latter, Life, stays, began, woken, late, back, aside, born}
use Rattle.system.proofs.Times.{picked, all_list, distinct}
use Rattle.system.proofs.Quiet.{quiet}
use Rattle.system.proofs.Calls.{runs, barred, granted, called-fine}

never : {A : Type 0} {x y : ℤ} → done x ≡ denied y → A
never h = absurd (let z : ◌≡◌ {A = ℕ} 0 1 = cc in omega arith)

module _ {K : Kind} (s : Sys K) where
  undone : (z c : ℤ) (u : Sys K) → reply z ≡ denied c → unless z s u ≡ s
  undone (pos n) c u h = never h
  undone (negsuc n) c u h = refl

  pub refuses : (x : Op K) (c : ℤ) → (step s x).1 ≡ denied c → (step s x).0 ≡ s
  refuses (invoke i o k) c = go (s.slot o)
    where
      go : (y : Slot K.Num) → reply (visited y s i o k).1 ≡ denied c → (visited y s i o k).0 ≡ s
      go vacant h = refl
      go (object n) h = undone (store.answer (outcome s i o k n)) c (serve s i o (verdict s i o k n) (store.left (outcome s i o k n) (thing s o n))) h
  refuses (both i a j b k) c = go (eqb a b)
    where
      go : (y : Bool) → (cond {A = Reply K} y (refuse s einval) (paired s i a j b k)).1 ≡ denied c
          → (cond {A = Reply K} y (refuse s einval) (paired s i a j b k)).0 ≡ s
      go true h = refl
      go false h = undone (answers s i a j b k) c (called (called s i a j).0 i b k).0 h
  refuses (dispatch i) c = go (s.state i)
    where
      go : (y : State) → (dispatched y s i).1 ≡ denied c → (dispatched y s i).0 ≡ s
      go absent h = refl
      go running h = refl
      go (ready r) h = never h
      go (waiting o) h = refl
  refuses (yield i) c = go (s.state i)
    where
      go : (y : State) → (yielded y s i).1 ≡ denied c → (yielded y s i).0 ≡ s
      go absent h = refl
      go running h = never h
      go (ready r) h = refl
      go (waiting o) h = refl
  refuses (expire i) c = go (s.state i)
    where
      go : (y : State) → (expired y s i).1 ≡ denied c → (expired y s i).0 ≡ s
      go absent h = refl
      go running h = refl
      go (ready r) h = refl
      go (waiting o) h = never h
  refuses (spawn i p) c = go (gone_by (s.state i)) (ltb i 4294967296) (valid p) refl refl refl
    where
      go : (a b d : Bool) → gone_by (s.state i) ≡ a → ltb i 4294967296 ≡ b → valid p ≡ d → (spawned s i p).1 ≡ denied c → (spawned s i p).0 ≡ s
      go true true true x y z h = never (rw (x, y, z) at h)
      go true true false x y z h = rw (x, y, z)
      go true false d x y z h = rw (x, y)
      go false b d x y z h = rw x
  refuses (create o n) c = go (free (s.slot o)) (K.new n) refl refl
    where
      go : (a b : Bool) → free (s.slot o) ≡ a → K.new n ≡ b → (created s o n).1 ≡ denied c → (created s o n).0 ≡ s
      go true true x y h = never (rw (x, y) at h)
      go true false x y h = rw (x, y)
      go false b x y h = rw x

-- and it wakes nobody
none : (z c : ℤ) (w : List Woken) → reply z ≡ denied c → unless z [] w ≡ []
none (pos n) c w h = never h
none (negsuc n) c w h = refl

pub silent : {K : Kind} (s : Sys K) (x : Op K) (c : ℤ) → (step s x).1 ≡ denied c → (step s x).2 ≡ []
silent {K} s (invoke i o k) c h = go (s.slot o) h
  where
    go : (y : Slot K.Num) → reply (visited y s i o k).1 ≡ denied c → (visited y s i o k).2 ≡ []
    go vacant h = refl
    go (object n) h = none (store.answer (outcome s i o k n)) c (system.woken (deed (verdict s i o k n)) (s.queue o)) h
silent {K} s (both i a j b k) c h = go (eqb a b) h
  where
    go : (y : Bool) → (cond {A = Reply K} y (refuse s einval) (paired s i a j b k)).1 ≡ denied c
        → (cond {A = Reply K} y (refuse s einval) (paired s i a j b k)).2 ≡ []
    go true h = refl
    go false h = none (answers s i a j b k) c ((called s i a j).2 ++ (called (called s i a j).0 i b k).2) h
silent s (dispatch i) c h = (quiet s (dispatch i) tt).nobody
silent s (yield i) c h = (quiet s (yield i) tt).nobody
silent s (expire i) c h = (quiet s (expire i) tt).nobody
silent s (spawn i p) c h = (quiet s (spawn i p) tt).nobody
silent {K} s (create o n) c h = go (free (s.slot o)) (K.new n)
  where
    go : (a b : Bool) → (cond a (cond b (accept (placed s o n) ok) (refuse s einval)) (refuse s einval)).2 ≡ []
    go true true = refl
    go true false = refl
    go false b = refl

-- what one call of the thread i can do to the thread t
pub data Does (K : Kind) (v : ℕ → K.Wish) (i o : ℕ) (k : K.Call) (t : ℕ) (f f' : State) : Type 0 where
  nothing : f' ≡ f → Does K v i o k t f f'
  waits : t ≡ i → f ≡ running → f' ≡ waiting o → Does K v i o k t f f'
  wakes : (r : ℤ) → (t ≡ i → ⊥) → f ≡ waiting o → f' ≡ ready r → K.Owes k (v t) r → Does K v i o k t f f'

-- of those that are woken, each is owed its result
pub owed : (P : ℕ → Type 0) (t : ℕ) (q : List ℕ) → holds t q ≡ true → All P (map ident q) → P t
owed P t q h a = in_all P q t (all_list P ident q a) h

module _ {K : Kind} (law : Lawful K) (s : Sys K) (g : Fine s) (i o : ℕ) (k : K.Call) (n : K.Num) (h : s.slot o ≡ object n) (t : ℕ) where
  abbrev q : List ℕ
  q = s.queue o

  by-verdict : (d : Verdict K.Num K.Wish) → s.state i ≡ running → Right K s.wish (map ident q) i k d
      → Does K s.wish i o k t (s.state t) ((unless (store.answer (carried (thread i (s.prio i) 1) d (thing s o n))) s
      (serve s i o d (store.left (carried (thread i (s.prio i) 1) d (thing s o n)) (thing s o n)))).state t)
  by-verdict (deny (negsuc c)) r a = nothing refl
  by-verdict (deny (pos c)) r a = nothing refl
  by-verdict (allow m keep (negsuc c)) r a = nothing refl
  by-verdict (allow m keep (pos c)) r a = nothing refl
  by-verdict (allow m (wake p f) (negsuc c)) r a = nothing refl
  by-verdict (allow m (wake p f) (pos c)) r a = go (holds t (gone ident p q)) refl
    where
      go : (b : Bool) → holds t (gone ident p q) ≡ b → Does K s.wish i o k t (s.state t) (cond b (ready (f t)) (s.state t))
      go true e =
          let w : s.state t ≡ waiting o = picked s g.placed o t p e in
          wakes (f t) (λ z. let y : waiting o ≡ running = sym w ∙ ap s.state z ∙ r in absurd (let x : ◌≡◌ {A = ℕ} 0 1 = cc in omega arith)) w refl
          (owed (λ x. K.Owes k (s.wish x) (f x)) t (gone ident p q) e (rw (gone-map ident p q) at a.1))
      go false e = nothing refl
  by-verdict (allow m (park x) c) r a = go (holds (ident (entry (s.prio i) i)) q) (ltb (length q) max_waiters) refl refl
    where
      joins : (b : Bool) → eqb i t ≡ b → Does K s.wish i o k t (s.state t) (cond b (waiting o) (s.state t))
      joins true e = waits (sym (eqb-true i t e)) (rw (sym (eqb-true i t e)) r) refl
      joins false e = nothing refl

      go : (y z : Bool) → holds (ident (entry (s.prio i) i)) q ≡ y → ltb (length q) max_waiters ≡ z
          → Does K s.wish i o k t (s.state t) ((unless (store.answer (carried (thread i (s.prio i) 1) (allow m (park x) c) (thing s o n))) s
          (serve s i o (allow m (park x) c) (store.left (carried (thread i (s.prio i) 1) (allow m (park x) c) (thing s o n)) (thing s o n)))).state t)
      go true z u v = rw u (nothing refl)
      go false true u v = rw (u, v) (joins (eqb i t) refl)
      go false false u v = rw (u, v) (nothing refl)

pub called-does : {K : Kind} → Lawful K → (s : Sys K) → Fine s → (i o : ℕ) (k : K.Call) (t : ℕ)
    → Does K s.wish i o k t (s.state t) ((called s i o k).0.state t)
called-does {K} law s g i o k t = go (s.slot o) refl
  where
    go : (x : Slot K.Num) → s.slot o ≡ x → Does K s.wish i o k t (s.state t) ((visited x s i o k).0.state t)
    go vacant h = nothing refl
    go (object n) h = by (caller_code (s.prio i) (number (s.state i))) refl
      where
        by : (z : ℤ) → caller_code (s.prio i) (number (s.state i)) ≡ z → Does K s.wish i o k t (s.state t) ((visited (object n) s i o k).0.state t)
        by (negsuc c) z = rw (barred s i o k n (g.formed o n h) c z) (nothing refl)
        by (pos c) z =
            rw (granted s i o k n (g.formed o n h) c z)
            (by-verdict law s g i o k n h t (verdict s i o k n) (runs (s.prio i) (s.state i) c z)
            (law.right n s.wish (map ident (s.queue o)) i k (rw (any-map ident (s.queue o)) (g.formed o n h))
            (distinct (s.queue o) (g.queues o).single) (g.kept o n h)))

-- after a call the caller runs on, or waits on this object
pub caller-life : {K : Kind} → Lawful K → (s : Sys K) → Fine s → (i o : ℕ) (k : K.Call) → s.state i ≡ running
    → ((called s i o k).0.state i ≡ running) ⊎ ((called s i o k).0.state i ≡ waiting o)
caller-life {K} law s g i o k run = go (called-does law s g i o k i)
  where
    go : Does K s.wish i o k i (s.state i) ((called s i o k).0.state i) → ((called s i o k).0.state i ≡ running) ⊎ ((called s i o k).0.state i ≡ waiting o)
    go (nothing e) = inl (e ∙ run)
    go (waits e r w) = inr w
    go (wakes r n f w d) = absurd (n refl)

-- a call changes no wish but its caller's
called-wish : {K : Kind} (s : Sys K) (i o : ℕ) (k : K.Call) (t : ℕ) → (t ≡ i → ⊥) → (called s i o k).0.wish t ≡ s.wish t
called-wish {K} s i o k t e = go (s.slot o)
  where
    kept : (d : Verdict K.Num K.Wish) → wishes (deed d) i s.wish t ≡ s.wish t
    kept (deny r) = refl
    kept (allow m keep r) = refl
    kept (allow m (park x) r) = rw (ne_eqb i t (λ z. e (sym z)))
    kept (allow m (wake p f) r) = refl

    either : (z : ℤ) (u : Sys K) → u.wish t ≡ s.wish t → (unless z s u).wish t ≡ s.wish t
    either (pos c) u w = w
    either (negsuc c) u w = refl

    go : (x : Slot K.Num) → (visited x s i o k).0.wish t ≡ s.wish t
    go vacant = refl
    go (object n) = either (store.answer (outcome s i o k n)) (serve s i o (verdict s i o k n) (store.left (outcome s i o k n) (thing s o n))) (kept (verdict s i o k n))

module _ {K : Kind} (v : ℕ → K.Wish) (x : Op K) (a : Answer) (i t : ℕ) where
  -- of one call
  alone : {o : ℕ} {k : K.Call} {f f' : State} → Calls K x i o k → Does K v i o k t f f' → Life K v x a t f f'
  alone c (nothing e) = rw e stays
  alone {o} {k} c (waits z b e) = let d : Calls K x t o k = rw z c in rw (b, e) (began d)
  alone c (wakes r n b e w) = rw (b, e) (woken c w)

  clashed : {A : Type 0} {o : ℕ} {y : State} → y ≡ running → y ≡ waiting o → A
  clashed {o = o} b c = let z : running ≡ waiting o = sym b ∙ c in absurd (let y : ◌≡◌ {A = ℕ} 0 1 = cc in omega arith)

  crossed : {A : Type 0} {o : ℕ} {r : ℤ} {y : State} → y ≡ ready r → y ≡ waiting o → A
  crossed {o = o} {r = r} b c = let z : ready r ≡ waiting o = sym b ∙ c in absurd (let y : ◌≡◌ {A = ℕ} 0 1 = cc in omega arith)

  -- of two, one after the other
  together : (v' : ℕ → K.Wish) {o p : ℕ} {j k : K.Call} {f g h : State} → ((t ≡ i → ⊥) → v' t ≡ v t) → Calls K x i o j → Calls K x i p k
      → Does K v i o j t f g → Does K v' i p k t g h → Life K v x a t f h
  together v' same c d (nothing e) (nothing e') = rw (e', e) stays
  together v' {p = p} {k = k} same c d (nothing e) (waits z b e') = let y : Calls K x t p k = rw z d in rw (e', sym e ∙ b) (began y)
  together v' same c d (nothing e) (wakes r n b e' w) = rw (e', sym e ∙ b) (woken d (rw (same n) at w))
  together v' {o = o} {j = j} same c d (waits z b e) (nothing e') = let y : Calls K x t o j = rw z c in rw (e' ∙ e, b) (began y)
  together v' same c d (waits z b e) (waits z' b' e') = clashed b' e
  together v' same c d (waits z b e) (wakes r n b' e' w) = absurd (n z)
  together v' same c d (wakes r n b e w) (nothing e') = rw (e' ∙ e, b) (woken c w)
  together v' same c d (wakes r n b e w) (waits z b' e') = absurd (n z)
  together v' same c d (wakes r n b e w) (wakes r' n' b' e' w') = crossed e b'

-- (4)
module _ {K : Kind} (law : Lawful K) (s : Sys K) (g : Fine s) (t : ℕ) where
  pub lives : (x : Op K) → Life K s.wish x (step s x).1 t (s.state t) ((step s x).0.state t)
  lives (invoke i o k) = alone s.wish (invoke i o k) (reply (called s i o k).1) i t direct (called-does law s g i o k t)
  lives (both i a j b k) = go (eqb a b)
    where
      u : Sys K
      u = (called s i a j).0

      either : (z : ℤ) → Life K s.wish (both i a j b k) (reply z) t (s.state t) ((unless z s (called (called s i a j).0 i b k).0).state t)
      either (negsuc c) = stays
      either (pos c) =
          together s.wish (both i a j b k) (done (pos c)) i t (called s i a j).0.wish (λ n. called-wish s i a j t n) former latter
          (called-does law s g i a j t)
          (called-does law (called s i a j).0 (called-fine law s g i a j) i b k t)

      go : (y : Bool) → Life K s.wish (both i a j b k) (cond {A = Reply K} y (refuse s einval) (paired s i a j b k)).1 t (s.state t)
          ((cond {A = Reply K} y (refuse s einval) (paired s i a j b k)).0.state t)
      go true = stays
      go false = either (answers s i a j b k)
  lives (dispatch i) = go (s.state i) refl
    where
      at : (r : ℤ) → s.state i ≡ ready r → (c : Bool) → eqb i t ≡ c → Life K s.wish (dispatch i) (done r) t (s.state t) (cond c running (s.state t))
      at r h true e = let y : s.state t ≡ ready r = ap s.state (sym (eqb-true i t e)) ∙ h in rw (y, eqb-true i t e) back
      at r h false e = stays

      go : (y : State) → s.state i ≡ y → Life K s.wish (dispatch i) (dispatched y s i).1 t (s.state t) ((dispatched y s i).0.state t)
      go absent h = stays
      go running h = stays
      go (ready r) h = at r h (eqb i t) refl
      go (waiting o) h = stays
  lives (yield i) = go (s.state i) refl
    where
      at : s.state i ≡ running → (c : Bool) → eqb i t ≡ c → Life K s.wish (yield i) (done ok) t (s.state t) (cond c (ready ok) (s.state t))
      at h true e = let y : s.state t ≡ running = ap s.state (sym (eqb-true i t e)) ∙ h in rw (y, eqb-true i t e) aside
      at h false e = stays

      go : (y : State) → s.state i ≡ y → Life K s.wish (yield i) (yielded y s i).1 t (s.state t) ((yielded y s i).0.state t)
      go absent h = stays
      go running h = at h (eqb i t) refl
      go (ready r) h = stays
      go (waiting o) h = stays
  lives (expire i) = go (s.state i) refl
    where
      at : (o : ℕ) → s.state i ≡ waiting o → (c : Bool) → eqb i t ≡ c
          → Life K s.wish (expire i) (done ok) t (s.state t) (cond c (ready eagain) (s.state t))
      at o h true e = let y : s.state t ≡ waiting o = ap s.state (sym (eqb-true i t e)) ∙ h in rw (y, eqb-true i t e) late
      at o h false e = stays

      go : (y : State) → s.state i ≡ y → Life K s.wish (expire i) (expired y s i).1 t (s.state t) ((expired y s i).0.state t)
      go absent h = stays
      go running h = stays
      go (ready r) h = stays
      go (waiting o) h = at o h (eqb i t) refl
  lives (spawn i p) = go (gone_by (s.state i)) (ltb i 4294967296) (valid p) refl refl refl
    where
      nobody : (y : State) → gone_by y ≡ true → y ≡ absent
      nobody absent z = refl
      nobody running z = clash (sym z)
      nobody (ready r) z = clash (sym z)
      nobody (waiting o) z = clash (sym z)

      at : s.state i ≡ absent → (c : Bool) → eqb i t ≡ c → Life K s.wish (spawn i p) (done ok) t (s.state t) (cond c (ready ok) (s.state t))
      at h true e = let y : s.state t ≡ absent = ap s.state (sym (eqb-true i t e)) ∙ h in rw (y, eqb-true i t e) born
      at h false e = stays

      go : (a b d : Bool) → gone_by (s.state i) ≡ a → ltb i 4294967296 ≡ b → valid p ≡ d
          → Life K s.wish (spawn i p) (spawned s i p).1 t (s.state t) ((spawned s i p).0.state t)
      go true true true x y z = rw (x, y, z) (at (nobody (s.state i) x) (eqb i t) refl)
      go true true false x y z = rw (x, y, z) stays
      go true false d x y z = rw (x, y) stays
      go false b d x y z = rw x stays
  lives (create o n) = go (free (s.slot o)) (K.new n) refl refl
    where
      go : (a b : Bool) → free (s.slot o) ≡ a → K.new n ≡ b → Life K s.wish (create o n) (created s o n).1 t (s.state t) ((created s o n).0.state t)
      go true true x y = rw (x, y) stays
      go true false x y = rw (x, y) stays
      go false b x y = rw x stays
