-- Every queue is in the order of priority, and of waiting. Assumes nothing.
use mathlib.Core.Path.{◌≡◌, refl, sym, ap, ◌∙◌}
use mathlib.Core.Bool.{Bool, true, false, cond}
use mathlib.Core.Logic.{◌⊎◌, inl, inr}
use mathlib.Core.List.{List, [], ◌∷◌, map}
use Prim.Native.Nat.{ℕ, suc, ◌≤◌, ◌<◌}
use native.Mathlib.Omega.{arith}
use lib.Dec.{eqb, ltb}
use lib.IntN.{ℤ, pos, negsuc}
use lib.ListN.{length}
use borrow.Author.Tests.{lt-ltb, le-ltb, ltb-true, ltb-false, eq-eqb, ne_eqb, eqb-true, eqb-false}
use Rattle.seq.specs.List.{All, Sorted, Sub}
use Rattle.seq.proofs.Order.{all_map, all_insert}
use Rattle.seq.proofs.Sub.{sub_all, sub_sorted, others_sub}
use Rattle.thread.specs.Caller.{caller_code}
use Rattle.wait_queue.specs.Queue.{max_waiters, entry, prio, ident, of, holds, joined, without, NoLower}
use Rattle.wait_queue.proofs.Answers.{ident-entry}
use Rattle.store.specs.Store as store
use Rattle.kind.specs.Verdict.{keep, park, wake, Verdict, deny, allow}
use Rattle.kind.specs.Kind.{Kind, Lawful}
use Rattle.kind.specs.Object.{thread, carried}
use Rattle.kind.proofs.Picks.{spared_sub}
use Rattle.system.specs.System.{State, absent, running, ready, waiting, number, Slot, vacant, object, Sys, Op, invoke, both, dispatch, yield, expire, spawn, create, unless, serve, thing, outcome, verdict, visited, called, dispatched, yielded, expired, spawned, created, free, gone_by, answers, step, after, Reply, refuse, paired}
use Rattle.thread.specs.Code.{einval}
use Rattle.thread.specs.Priority.{valid}
use Rattle.system.specs.Rules.{times, on, Fine, Start}
use Rattle.system.specs.Run.{run}
use Rattle.system.specs.Order.{Before, age, Ordered}
use Rattle.system.proofs.Times.{times-joined}
use Rattle.system.proofs.Calls.{all_two, runs, barred, granted, called-fine}
use Rattle.system.proofs.Steps.{always}
use Rattle.system.proofs.Places.{tells}

-- the entry x is to be woken before y, by the priorities in the words
abbrev Earlier : (ℕ → ℕ) → ℕ → ℕ → Type 0
Earlier f x y = (prio x < prio y) ⊎ ((prio x ≡ prio y) × (f (ident y) < f (ident x)))

-- a list in order stays so under another order of its members
sorted_mono : (R S : ℕ → ℕ → Type 0) (M : ℕ → Type 0) → ((x y : ℕ) → M x → M y → R x y → S x y) → (q : List ℕ) → All M q → Sorted R q → Sorted S q
sorted_mono R S M f [] a r = tt
sorted_mono R S M f (x ∷ q) a r = (row q a.1 r.0, sorted_mono R S M f q a.1 r.1)
  where
    row : (l : List ℕ) → All M l → All (R x) l → All (S x) l
    row [] b c = tt
    row (y ∷ l) b c = (f x y a.0 b.0 c.0, row l b.1 c.1)

module _ (f : ℕ → ℕ) (w : ℕ) where
  -- who came last stands behind all of its priority
  sorted-joined : (q : List ℕ) → Sorted NoLower q → Sorted (Earlier f) q → All (λ y. f (ident w) < f (ident y)) q → Sorted (Earlier f) (joined w q)
  sorted-joined [] a b c = (tt, tt)
  sorted-joined (x ∷ q) a b c = go (ltb (prio w) (prio x)) refl (sorted-joined q a.1 b.1 c.1)
    where
      go : (l : Bool) → ltb (prio w) (prio x) ≡ l → Sorted (Earlier f) (joined w q) → Sorted (Earlier f) (cond l (w ∷ x ∷ q) (x ∷ joined w q))
      go true z ih =
          let h : prio w < prio x = ltb-true (prio w) (prio x) z in
          ((inl h, all_map (NoLower x) (Earlier f w) q (λ y e. inl (omega (arith, e))) a.0), b)
      go false z ih = (all_insert prio (Earlier f x) w q (last (ltb (prio x) (prio w)) refl) b.0, ih)
        where
          h : prio x ≤ prio w
          h = ltb-false (prio w) (prio x) z

          last : (k : Bool) → ltb (prio x) (prio w) ≡ k → Earlier f x w
          last true y = inl (ltb-true (prio x) (prio w) y)
          last false y = inr (omega (arith, h, ltb-false (prio x) (prio w) y), c.0)

more_or : (b : Bool) (n : ℕ) → 0 < n → 0 < cond b (suc n) n
more_or true n h = omega arith
more_or false n h = h

-- each member of a queue is in it
members : (q : List ℕ) → All (λ y. 0 < times (ident y) q) q
members [] = tt
members (x ∷ q) = (
  rw (eq-eqb (ident x) (ident x) refl) (omega arith),
  all_map (λ y. 0 < times (ident y) q) (λ y. 0 < times (ident y) (x ∷ q)) q
      (λ y h. more_or (eqb (ident x) (ident y)) (times (ident y) q) h) (members q),
)

-- what a step makes of the queue q: some leave it; or one that did not wait joins it
pub data Next (o : ℕ) (f : ℕ → State) (q q' : List ℕ) : Type 0 where
  fewer : Sub q' q → Next o f q q'
  more : (p i : ℕ) → ident (entry p i) ≡ i → on o (f i) ≡ 0 → q' ≡ joined (entry p i) q → Next o f q q'

module _ {K : Kind} (s : Sys K) (g : Fine s) (i o : ℕ) (n : K.Num) (h : s.slot o ≡ object n) where
  by-verdict : (d : Verdict K.Num K.Wish) → s.state i ≡ running
      → Next o s.state (s.queue o) ((unless (store.answer (carried (thread i (s.prio i) 1) d (thing s o n))) s
      (serve s i o d (store.left (carried (thread i (s.prio i) 1) d (thing s o n)) (thing s o n)))).queue o)
  by-verdict (deny (negsuc c)) r = fewer (sub_all (s.queue o))
  by-verdict (deny (pos c)) r = rw (eq-eqb o o refl) (fewer (sub_all (s.queue o)))
  by-verdict (allow m keep (negsuc c)) r = fewer (sub_all (s.queue o))
  by-verdict (allow m keep (pos c)) r = rw (eq-eqb o o refl) (fewer (sub_all (s.queue o)))
  by-verdict (allow m (wake p f) (negsuc c)) r = fewer (sub_all (s.queue o))
  by-verdict (allow m (wake p f) (pos c)) r = rw (eq-eqb o o refl) (fewer (spared_sub ident p (s.queue o)))
  by-verdict (allow m (park x) c) r = go (holds (ident (entry (s.prio i) i)) (s.queue o)) (ltb (length (s.queue o)) max_waiters) refl refl
    where
      there : s.state i ≡ absent → ⊥
      there a = let v : running ≡ absent = sym r ∙ a in absurd (let y : ◌≡◌ {A = ℕ} 0 1 = cc in omega arith)

      go : (a b : Bool) → holds (ident (entry (s.prio i) i)) (s.queue o) ≡ a → ltb (length (s.queue o)) max_waiters ≡ b
          → Next o s.state (s.queue o) ((unless (store.answer (carried (thread i (s.prio i) 1) (allow m (park x) c) (thing s o n))) s
          (serve s i o (allow m (park x) c) (store.left (carried (thread i (s.prio i) 1) (allow m (park x) c) (thing s o n)) (thing s o n)))).queue o)
      go true b y z = rw y (fewer (sub_all (s.queue o)))
      go false true y z = rw (y, z, eq-eqb o o refl) (more (s.prio i) i (ident-entry (s.prio i) i (g.known i there).0) (rw r refl) refl)
      go false false y z = rw (y, z) (fewer (sub_all (s.queue o)))

-- the object that is called
called-here : {K : Kind} (s : Sys K) → Fine s → (i o : ℕ) (k : K.Call) → Next o s.state (s.queue o) ((called s i o k).0.queue o)
called-here {K} s g i o k = go (s.slot o) refl
  where
    go : (x : Slot K.Num) → s.slot o ≡ x → Next o s.state (s.queue o) ((visited x s i o k).0.queue o)
    go vacant h = fewer (sub_all (s.queue o))
    go (object n) h = by (caller_code (s.prio i) (number (s.state i))) refl
      where
        by : (z : ℤ) → caller_code (s.prio i) (number (s.state i)) ≡ z → Next o s.state (s.queue o) ((visited (object n) s i o k).0.queue o)
        by (negsuc c) z = rw (barred s i o k n (g.formed o n h) c z) (fewer (sub_all (s.queue o)))
        by (pos c) z = rw (granted s i o k n (g.formed o n h) c z) (by-verdict s g i o n h (verdict s i o k n) (runs (s.prio i) (s.state i) c z))

-- the others
pub called-there : {K : Kind} (s : Sys K) (i o : ℕ) (k : K.Call) (y : ℕ) → (o ≡ y → ⊥) → (called s i o k).0.queue y ≡ s.queue y
called-there {K} s i o k y e = go (s.slot o)
  where
    either : (z : ℤ) (u : Sys K) → u.queue y ≡ s.queue y → (unless z s u).queue y ≡ s.queue y
    either (pos c) u w = w
    either (negsuc c) u w = refl

    go : (x : Slot K.Num) → (visited x s i o k).0.queue y ≡ s.queue y
    go vacant = refl
    go (object n) = either (store.answer (outcome s i o k n)) (serve s i o (verdict s i o k n) (store.left (outcome s i o k n) (thing s o n))) (rw (ne_eqb o y e))

-- any step
module _ {K : Kind} (law : Lawful K) (s : Sys K) (g : Fine s) where
  same : (y : ℕ) (q : List ℕ) → q ≡ s.queue y → Next y s.state (s.queue y) q
  same y q e = rw e (fewer (sub_all (s.queue y)))

  one-call : (i o : ℕ) (k : K.Call) (y : ℕ) → Next y s.state (s.queue y) ((called s i o k).0.queue y)
  one-call i o k y = go (eqb o y) refl
    where
      go : (b : Bool) → eqb o y ≡ b → Next y s.state (s.queue y) ((called s i o k).0.queue y)
      go true e = rw (sym (eqb-true o y e)) (called-here s g i o k)
      go false e = same y ((called s i o k).0.queue y) (called-there s i o k y (eqb-false o y e))

  -- the queue of b is as it was when the second call comes
  module _ (i a : ℕ) (j : K.Call) (b : ℕ) (k : K.Call) (e : a ≡ b → ⊥) where
    abbrev u : Sys K
    u = (called s i a j).0

    u_fine : Fine u
    u_fine = called-fine law s g i a j

    moved : (q' : List ℕ) → Next b u.state (u.queue b) q' → Next b s.state (s.queue b) q'
    moved q' (fewer t) = fewer (rw (called-there s i a j b e) at t)
    moved q' (more p t x y z) =
        let w : times t (u.queue b) ≡ times t (s.queue b) = ap (times t) (called-there s i a j b e) in
        more p t x (sym (g.placed b t) ∙ sym w ∙ u_fine.placed b t ∙ y) (z ∙ rw (called-there s i a j b e))

    two-calls : (y : ℕ) → Next y s.state (s.queue y) ((called u i b k).0.queue y)
    two-calls y = go (eqb b y) refl
      where
        go : (c : Bool) → eqb b y ≡ c → Next y s.state (s.queue y) ((called u i b k).0.queue y)
        go true z = rw (sym (eqb-true b y z)) (moved ((called u i b k).0.queue b) (called-here u u_fine i b k))
        go false z = rw (called-there u i b k y (eqb-false b y z)) (one-call i a j y)

  pub step-next : (x : Op K) (y : ℕ) → Next y s.state (s.queue y) ((step s x).0.queue y)
  step-next (invoke i o k) y = one-call i o k y
  step-next (both i a j b k) y = go (eqb a b) refl
    where
      either : (z : ℤ) → (a ≡ b → ⊥) → Next y s.state (s.queue y) ((unless z s (called (called s i a j).0 i b k).0).queue y)
      either (pos c) e = two-calls i a j b k e y
      either (negsuc c) e = same y (s.queue y) refl

      go : (c : Bool) → eqb a b ≡ c
          → Next y s.state (s.queue y) ((cond {A = Reply K} c (refuse s einval) (paired s i a j b k)).0.queue y)
      go true z = same y (s.queue y) refl
      go false z = either (answers s i a j b k) (eqb-false a b z)
  step-next (dispatch i) y = same y ((dispatched (s.state i) s i).0.queue y) (go (s.state i))
    where
      go : (x : State) → (dispatched x s i).0.queue y ≡ s.queue y
      go absent = refl
      go running = refl
      go (ready r) = refl
      go (waiting o) = refl
  step-next (yield i) y = same y ((yielded (s.state i) s i).0.queue y) (go (s.state i))
    where
      go : (x : State) → (yielded x s i).0.queue y ≡ s.queue y
      go absent = refl
      go running = refl
      go (ready r) = refl
      go (waiting o) = refl
  step-next (expire i) y = go (s.state i)
    where
      gone : (o : ℕ) (b : Bool) → eqb o y ≡ b → Next y s.state (s.queue y) (cond b (without i (s.queue o)) (s.queue y))
      gone o true e = rw (sym (eqb-true o y e)) (fewer (others_sub (of i) (s.queue o)))
      gone o false e = fewer (sub_all (s.queue y))

      go : (x : State) → Next y s.state (s.queue y) ((expired x s i).0.queue y)
      go absent = same y (s.queue y) refl
      go running = same y (s.queue y) refl
      go (ready r) = same y (s.queue y) refl
      go (waiting o) = gone o (eqb o y) refl
  step-next (spawn i p) y = same y ((spawned s i p).0.queue y) (go (gone_by (s.state i)) (ltb i 4294967296) (valid p) refl refl refl)
    where
      go : (a b c : Bool) → gone_by (s.state i) ≡ a → ltb i 4294967296 ≡ b → valid p ≡ c → (spawned s i p).0.queue y ≡ s.queue y
      go true true true x w z = rw (x, w, z)
      go true true false x w z = rw (x, w, z)
      go true false c x w z = rw (x, w)
      go false b c x w z = rw x
  step-next (create o n) y = same y ((created s o n).0.queue y) (go (free (s.slot o)) (K.new n) refl refl)
    where
      go : (a b : Bool) → free (s.slot o) ≡ a → K.new n ≡ b → (created s o n).0.queue y ≡ s.queue y
      go true true x z = rw (x, z)
      go true false x z = rw (x, z)
      go false b x z = rw x

-- by the priorities of the threads
by-threads : (p a : ℕ → ℕ) (q : List ℕ) → All (λ x. x ≡ entry (p (ident x)) (ident x)) q → Sorted (Earlier a) q → Sorted (Before p a) (map ident q)
by-threads p a [] o s = tt
by-threads p a (x ∷ q) o s = (row q o.1 s.0, by-threads p a q o.1 s.1)
  where
    one : (y : ℕ) → y ≡ entry (p (ident y)) (ident y) → Earlier a x y → Before p a (ident x) (ident y)
    one y e (inl l) = inl (rw (sym (tells x (p (ident x)) o.0), sym (tells y (p (ident y)) e)) l)
    one y e (inr l) = inr (rw (sym (tells x (p (ident x)) o.0), sym (tells y (p (ident y)) e)) l.0, l.1)

    row : (l : List ℕ) → All (λ y. y ≡ entry (p (ident y)) (ident y)) l → All (Earlier a x) l → All (Before p a (ident x)) (map ident l)
    row [] c d = tt
    row (y ∷ l) c d = (one y c.0 d.0, row l c.1 d.1)

-- every history
module _ {K : Kind} (law : Lawful K) (s : Sys K) (b : Start s) where
  abbrev aged : List (Op K) → ℕ → ℕ → ℕ
  aged = age (run step s)

  -- who waits has waited for a step at least, and who does not, for none
  age-some : (past : List (Op K)) (o t : ℕ) → 0 < on o ((after s past).state t) → 0 < aged past o t
  age-some [] o t h = absurd (omega (arith, b.awake o t))
  age-some (x ∷ past) o t h = rw (lt-ltb 0 (on o ((after s (x ∷ past)).state t)) h) (omega arith)

  age-none : (past : List (Op K)) (o t : ℕ) → on o ((after s past).state t) ≡ 0 → aged past o t ≡ 0
  age-none [] o t h = refl
  age-none (x ∷ past) o t h = let z : on o ((after s (x ∷ past)).state t) ≤ 0 = omega arith in rw (le-ltb 0 (on o ((after s (x ∷ past)).state t)) z)

  module _ (x₀ : Op K) (past : List (Op K)) (o : ℕ) where
    abbrev old : Sys K
    old = after s past

    abbrev now : Sys K
    now = after s (x₀ ∷ past)

    grown : (t : ℕ) → 0 < times t (now.queue o) → aged (x₀ ∷ past) o t ≡ suc (aged past o t)
    grown t h = rw (lt-ltb 0 (on o (now.state t)) (omega (arith, (always law s b (x₀ ∷ past)).placed o t)))

    older : (q : List ℕ) → All (λ y. 0 < times (ident y) (now.queue o)) q → Sorted (Earlier (aged past o)) q → Sorted (Earlier (aged (x₀ ∷ past) o)) q
    older q a c =
        sorted_mono (Earlier (aged past o)) (Earlier (aged (x₀ ∷ past) o)) (λ y. 0 < times (ident y) (now.queue o))
        (λ y z m l r. later y z m l r) q a c
      where
        later : (y z : ℕ) → 0 < times (ident y) (now.queue o) → 0 < times (ident z) (now.queue o) → Earlier (aged past o) y z
            → Earlier (aged (x₀ ∷ past) o) y z
        later y z m l (inl h) = inl h
        later y z m l (inr h) = inr (h.0, omega (arith, h.1, grown (ident y) m, grown (ident z) l))

    ordered_step : Sorted (Earlier (aged past o)) (old.queue o) → Sorted (Earlier (aged (x₀ ∷ past) o)) (now.queue o)
    ordered_step c = go (step-next law old (always law s b past) x₀ o) (members (now.queue o))
      where
        go : Next o old.state (old.queue o) (now.queue o) → All (λ y. 0 < times (ident y) (now.queue o)) (now.queue o)
            → Sorted (Earlier (aged (x₀ ∷ past) o)) (now.queue o)
        go (fewer t) a = older (now.queue o) a (sub_sorted (Earlier (aged past o)) t c)
        go (more p i y z e) a =
            let w : ℕ = entry p i in
            let q : List ℕ = old.queue o in
            let g : Fine old = always law s b past in
            let j : (t : ℕ) → times t (now.queue o) ≡ cond (eqb i t) (suc (times t q)) (times t q) = λ t. ap (times t) e ∙ times-joined t w q ∙ rw y in
            let here : All (λ x. 0 < times (ident x) (now.queue o)) q =
            all_map (λ x. 0 < times (ident x) q) (λ x. 0 < times (ident x) (now.queue o)) q
            (λ x h. rw (j (ident x)) (more_or (eqb i (ident x)) (times (ident x) q) h)) (members q) in
            let self : 0 < times i (now.queue o) = rw (j i, eq-eqb i i refl) (omega arith) in
            let late : All (λ x. aged (x₀ ∷ past) o (ident w) < aged (x₀ ∷ past) o (ident x)) q =
            all_two (λ x. 0 < times (ident x) (now.queue o)) (λ x. 0 < times (ident x) q) (λ x. aged (x₀ ∷ past) o (ident w) < aged (x₀ ∷ past) o (ident x)) q
            (λ x m k. rw y (omega (
              arith,
              grown i self,
              grown (ident x) m,
              age-none past o i z,
              age-some past o (ident x)
                  (omega (arith, g.placed o (ident x))),
            ))) here (members q) in
            rw e (sorted-joined (aged (x₀ ∷ past) o) w q (g.queues o).sorted (older q here c) late)

  in_order : (past : List (Op K)) (o : ℕ) → Sorted (Earlier (aged past o)) ((after s past).queue o)
  in_order [] o = rw (b.empty o) tt
  in_order (x ∷ past) o = ordered_step x past o (in_order past o)

  pub ordered : (past : List (Op K)) → Ordered (run step s) past
  ordered past o = by-threads (after s past).prio (aged past o) ((after s past).queue o) ((always law s b past).own o) (in_order past o)
