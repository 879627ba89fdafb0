-- Every operation keeps what holds of threads and objects together. Assumes nothing.
use mathlib.Core.Path.{◌≡◌, refl, sym, ◌∙◌}
use mathlib.Core.Bool.{Bool, true, false, cond}
use mathlib.Core.List.{List, [], ◌∷◌, map}
use Prim.Native.Nat.{ℕ, ◌<◌}
use native.Mathlib.Omega.{arith}
use lib.Dec.{eqb, ltb}
use lib.IntN.{ℤ, pos, negsuc}
use borrow.Author.Tests.{eq-eqb, ne_eqb, eqb-true, ltb-true}
use Rattle.seq.specs.List.{any, All}
use Rattle.seq.proofs.Order.{clash}
use Rattle.seq.proofs.Sub.{sub_holds, others_sub}
use Rattle.thread.specs.Code.{ok, eagain, einval}
use Rattle.thread.specs.Priority.{max_priority, valid}
use Rattle.wait_queue.specs.Queue.{entry, ident, of, without, Well}
use Rattle.wait_queue.proofs.Well.{Other, holds-none, well_empty, well_sub}
use Rattle.kind.specs.Kind.{Kind, Lawful, Rightly}
use Rattle.system.specs.System.{answers, State, absent, running, ready, waiting, Slot, vacant, object, Sys, Op, invoke, both, dispatch, yield, expire, spawn, create, upd, unless, free, gone_by, called, set_state, dispatched, yielded, left, expired, spawned, created, step, after, Reply, accept, refuse, paired, placed}
use Rattle.system.specs.Rules.{times, on, Fine, empty, Start}
use Rattle.system.proofs.Times.{times-without, not-held, all_list, list_all}
use Rattle.system.proofs.Calls.{called-fine}

module _ {K : Kind} (s : Sys K) (g : Fine s) where
  -- a thread changes its state, and waits neither before nor after
  set-fine : (i : ℕ) (x : State) → ((o : ℕ) → on o (s.state i) ≡ 0) → ((o : ℕ) → on o x ≡ 0) → (s.state i ≡ absent → ⊥) → Fine (set_state s i x)
  set-fine i x a b n =
      record {
        placed = λ o t. place o t (eqb i t) refl;
        kept = g.kept;
        formed = g.formed;
        bare = g.bare;
        queues = g.queues;
        own = g.own;
        known = λ t z. g.known t (there t (eqb i t) refl z);
      }
    where
      place : (o t : ℕ) (c : Bool) → eqb i t ≡ c → times t (s.queue o) ≡ on o (cond c x (s.state t))
      place o t true e = rw (sym (eqb-true i t e)) (g.placed o i ∙ a o ∙ sym (b o))
      place o t false e = g.placed o t

      there : (t : ℕ) (c : Bool) → eqb i t ≡ c → (cond c x (s.state t) ≡ absent → ⊥) → s.state t ≡ absent → ⊥
      there t true e z = rw (sym (eqb-true i t e)) n
      there t false e z = z

  dispatch-fine : (i : ℕ) (x : State) → s.state i ≡ x → Fine (dispatched x s i).0
  dispatch-fine i absent h = g
  dispatch-fine i running h = g
  dispatch-fine i (ready r) h =
      set-fine i running (λ o. rw h refl) (λ o. refl) (λ a. let v : ready r ≡ absent = sym h ∙ a in absurd (let y : ◌≡◌ {A = ℕ} 0 1 = cc in omega arith))
  dispatch-fine i (waiting o) h = g

  yield-fine : (i : ℕ) (x : State) → s.state i ≡ x → Fine (yielded x s i).0
  yield-fine i absent h = g
  yield-fine i running h =
      set-fine i (ready ok) (λ o. rw h refl) (λ o. refl) (λ a. let v : running ≡ absent = sym h ∙ a in absurd (let y : ◌≡◌ {A = ℕ} 0 1 = cc in omega arith))
  yield-fine i (ready r) h = g
  yield-fine i (waiting o) h = g

  -- one leaves the queue of o
  module _ (law : Lawful K) (i o : ℕ) (h : s.state i ≡ waiting o) where
    -- where somebody waits, numbers are also right with fewer
    fewer : (n : K.Num) (l q : List ℕ) → (any q ≡ false → ⊥) → K.formed n (any q) ≡ true → K.formed n (any l) ≡ true
    fewer n l [] e f = absurd (e refl)
    fewer n [] (y ∷ q) e f = law.fewer n f
    fewer n (x ∷ l) (y ∷ q) e f = f

    somebody : any (s.queue o) ≡ false → ⊥
    somebody z = go (s.queue o) z (g.placed o i ∙ rw (h, eq-eqb o o refl))
      where
        go : (q : List ℕ) → any q ≡ false → times i q ≡ 1 → ⊥
        go [] y c = absurd (omega arith)
        go (x ∷ q) y c = clash y

    leave-fine : Fine (left s i o)
    leave-fine =
        record {
          placed = λ x t. place x t (eqb o x) (eqb i t) refl refl;
          kept = λ x n z. keep x n z (eqb o x) refl;
          formed = λ x n z. form x n z (eqb o x) refl;
          bare = λ x z. none x z (eqb o x) refl;
          queues = λ x. well x (eqb o x);
          own = λ x. own_of x (eqb o x);
          known = λ t z. g.known t (there t (eqb i t) refl z);
        }
      where
        place : (x t : ℕ) (a b : Bool) → eqb o x ≡ a → eqb i t ≡ b
            → times t (cond a (without i (s.queue o)) (s.queue x)) ≡ on x (cond b (ready eagain) (s.state t))
        place x t true true u v = times-without t i (s.queue o) ∙ rw v
        place x t true false u v = times-without t i (s.queue o) ∙ rw (v, sym (eqb-true o x u)) (g.placed o t)
        place x t false true u v = rw (sym (eqb-true i t v)) (g.placed x i ∙ rw (h, u))
        place x t false false u v = g.placed x t

        keep : (x : ℕ) (n : K.Num) → s.slot x ≡ object n → (a : Bool) → eqb o x ≡ a
            → Rightly K n s.wish (map ident (cond a (without i (s.queue o)) (s.queue x)))
        keep x n z true u =
            list_all (λ t. K.Blocked n t (s.wish t)) ident (without i (s.queue o))
            (sub_holds (λ y. K.Blocked n (ident y) (s.wish (ident y))) (others_sub (of i) (s.queue o))
            (all_list (λ t. K.Blocked n t (s.wish t)) ident (s.queue o) (g.kept o n (rw (sym (eqb-true o x u)) at z))))
        keep x n z false u = g.kept x n z

        form : (x : ℕ) (n : K.Num) → s.slot x ≡ object n → (a : Bool) → eqb o x ≡ a → K.formed n (any (cond a (without i (s.queue o)) (s.queue x))) ≡ true
        form x n z true u = fewer n (without i (s.queue o)) (s.queue o) somebody (g.formed o n (rw (sym (eqb-true o x u)) at z))
        form x n z false u = g.formed x n z

        none : (x : ℕ) → s.slot x ≡ vacant → (a : Bool) → eqb o x ≡ a → cond a (without i (s.queue o)) (s.queue x) ≡ []
        none x z true u = rw (g.bare o (rw (sym (eqb-true o x u)) at z))
        none x z false u = g.bare x z

        well : (x : ℕ) (a : Bool) → Well (cond a (without i (s.queue o)) (s.queue x))
        well x true = well_sub (others_sub (of i) (s.queue o)) (g.queues o)
        well x false = g.queues x

        own_of : (x : ℕ) (a : Bool) → All (λ y. y ≡ entry (s.prio (ident y)) (ident y)) (cond a (without i (s.queue o)) (s.queue x))
        own_of x true = sub_holds (λ y. y ≡ entry (s.prio (ident y)) (ident y)) (others_sub (of i) (s.queue o)) (g.own o)
        own_of x false = g.own x

        there : (t : ℕ) (b : Bool) → eqb i t ≡ b → (cond b (ready eagain) (s.state t) ≡ absent → ⊥) → s.state t ≡ absent → ⊥
        there t true e z = rw (sym (eqb-true i t e)) (λ a. let v : waiting o ≡ absent = sym h ∙ a in absurd (let y : ◌≡◌ {A = ℕ} 0 1 = cc in omega arith))
        there t false e z = z

  expire-fine : Lawful K → (i : ℕ) (x : State) → s.state i ≡ x → Fine (expired x s i).0
  expire-fine law i absent h = g
  expire-fine law i running h = g
  expire-fine law i (ready r) h = g
  expire-fine law i (waiting o) h = leave-fine law i o h

  -- a thread is made
  nobody : (i : ℕ) → gone_by (s.state i) ≡ true → s.state i ≡ absent
  nobody i h = go (s.state i) h
    where
      go : (x : State) → gone_by x ≡ true → x ≡ absent
      go absent z = refl
      go running z = clash (sym z)
      go (ready r) z = clash (sym z)
      go (waiting o) z = clash (sym z)

  module _ (i p : ℕ) (h : s.state i ≡ absent) (small : i < 4294967296) (v : valid p ≡ true) where
    -- nobody of that number stands in a queue
    unknown : (o : ℕ) → times i (s.queue o) ≡ 0
    unknown o = g.placed o i ∙ rw h

    born : Fine {K = K} (record { prio = upd s.prio i p; state = upd s.state i (ready ok); wish = s.wish; slot = s.slot; queue = s.queue })
    born =
        record {
          placed = λ o t. place o t (eqb i t) refl;
          kept = g.kept;
          formed = g.formed;
          bare = g.bare;
          queues = g.queues;
          own = λ o. owns (s.queue o) (holds-none i (s.queue o) (not-held i (s.queue o) (unknown o))) (g.own o);
          known = λ t z. known t (eqb i t) refl z;
        }
      where
        place : (o t : ℕ) (c : Bool) → eqb i t ≡ c → times t (s.queue o) ≡ on o (cond c (ready ok) (s.state t))
        place o t true e = rw (sym (eqb-true i t e)) (unknown o)
        place o t false e = g.placed o t

        owns : (q : List ℕ) → All (Other i) q → All (λ y. y ≡ entry (s.prio (ident y)) (ident y)) q
            → All (λ y. y ≡ entry (upd s.prio i p (ident y)) (ident y)) q
        owns [] a b = tt
        owns (y ∷ q) a b = (rw (ne_eqb i (ident y) (λ e. a.0 (sym e))) b.0, owns q a.1 b.1)

        known : (t : ℕ) (c : Bool) → eqb i t ≡ c → (cond c (ready ok) (s.state t) ≡ absent → ⊥) → (t < 4294967296) × (cond c p (s.prio t) < max_priority)
        known t true e z = (rw (sym (eqb-true i t e)) small, ltb-true p max_priority v)
        known t false e z = g.known t z

  spawn-fine : (i p : ℕ) → Fine (spawned s i p).0
  spawn-fine i p = go (gone_by (s.state i)) (ltb i 4294967296) (valid p) refl refl refl
    where
      go : (a b c : Bool) → gone_by (s.state i) ≡ a → ltb i 4294967296 ≡ b → valid p ≡ c → Fine (spawned s i p).0
      go true true true x y z = rw (x, y, z) (born i p (nobody i x) (ltb-true i 4294967296 y) z)
      go true true false x y z = rw (x, y, z) g
      go true false c x y z = rw (x, y) g
      go false b c x y z = rw x g

  -- an object is made
  create-fine : Lawful K → (o : ℕ) (n : K.Num) → Fine (created s o n).0
  create-fine law o n = go (s.slot o) (K.new n) refl refl
    where
      object-is : {k m : K.Num} → object k ≡ object m → k ≡ m
      object-is h = cc

      go : (x : Slot K.Num) (b : Bool) → s.slot o ≡ x → K.new n ≡ b
          → Fine {K = K} (cond {A = Reply K} (free x) (cond b (accept (placed s o n) ok) (refuse s einval)) (refuse s einval)).0
      go (object m) b h z = g
      go vacant false h z = g
      go vacant true h z =
          record {
            placed = g.placed;
            kept = λ x m y. keep x m (eqb o x) refl y;
            formed = λ x m y. form x m (eqb o x) refl y;
            bare = λ x y. none x (eqb o x) refl y;
            queues = g.queues;
            own = g.own;
            known = g.known;
          }
        where
          keep : (x : ℕ) (m : K.Num) (a : Bool) → eqb o x ≡ a → cond a (object n) (s.slot x) ≡ object m → Rightly K m s.wish (map ident (s.queue x))
          keep x m true u y = rw (sym (eqb-true o x u), g.bare o h) tt
          keep x m false u y = g.kept x m y

          form : (x : ℕ) (m : K.Num) (a : Bool) → eqb o x ≡ a → cond a (object n) (s.slot x) ≡ object m → K.formed m (any (s.queue x)) ≡ true
          form x m true u y = rw (sym (eqb-true o x u), g.bare o h, sym (object-is y)) (law.made n z)
          form x m false u y = g.formed x m y

          none : (x : ℕ) (a : Bool) → eqb o x ≡ a → cond a (object n) (s.slot x) ≡ vacant → s.queue x ≡ []
          none x true u y = rw (sym (eqb-true o x u)) (g.bare o h)
          none x false u y = g.bare x y

-- every operation
pub empty-start : {K : Kind} (x : K.Wish) → Start (empty {K = K} x)
empty-start x = record { none = λ o. refl; empty = λ o. refl; awake = λ o t. refl; known = λ t n. absurd (n refl) }

module _ {K : Kind} (law : Lawful K) where
  pub step-fine : (s : Sys K) (x : Op K) → Fine s → Fine (step s x).0
  step-fine s (invoke i o k) g = called-fine law s g i o k
  step-fine s (both i a j b k) g = go (eqb a b)
    where
      u : Fine (called s i a j).0
      u = called-fine law s g i a j

      either : (z : ℤ) → Fine (unless z s (called (called s i a j).0 i b k).0)
      either (pos c) = called-fine law (called s i a j).0 u i b k
      either (negsuc c) = g

      go : (c : Bool)
          → Fine (cond {A = Reply K} c (refuse s einval) (paired s i a j b k)).0
      go true = g
      go false = either (answers s i a j b k)
  step-fine s (dispatch i) g = dispatch-fine s g i (s.state i) refl
  step-fine s (yield i) g = yield-fine s g i (s.state i) refl
  step-fine s (expire i) g = expire-fine s g law i (s.state i) refl
  step-fine s (spawn i p) g = spawn-fine s g i p
  step-fine s (create o n) g = create-fine s g law o n

  start_fine : (s : Sys K) → Start s → Fine s
  start_fine s b =
      record {
        placed = λ o t. rw (b.empty o) (sym (b.awake o t));
        kept = λ o n z. rw (b.empty o) tt;
        formed = λ o n z. absurd (let v : vacant ≡ object n = sym (b.none o) ∙ z in let y : ◌≡◌ {A = ℕ} 0 1 = cc in omega arith);
        bare = λ o z. b.empty o;
        queues = λ o. rw (b.empty o) well_empty;
        own = λ o. rw (b.empty o) tt;
        known = b.known;
      }

  -- every history
  pub always : (s : Sys K) → Start s → (past : List (Op K)) → Fine (after s past)
  always s b [] = start_fine s b
  always s b (x ∷ past) = step-fine (after s past) x (always s b past)
