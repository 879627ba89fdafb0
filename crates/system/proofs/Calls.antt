-- A call keeps what holds of threads and objects together. Assumes nothing.
use mathlib.Core.Path.{◌≡◌, refl, sym, ◌∙◌}
use mathlib.Core.Bool.{Bool, true, false, cond}
use mathlib.Core.List.{List, [], ◌∷◌, map}
use Prim.Native.Nat.{ℕ, suc, ◌<◌}
use native.Mathlib.Omega.{arith}
use lib.Dec.{eqb, ltb}
use lib.IntN.{ℤ, pos, negsuc}
use lib.ListN.{length}
use borrow.Author.Tests.{eq-eqb, ne_eqb, eqb-true, eqb-false, ltb-true}
use Rattle.seq.specs.List.{any, All}
use Rattle.seq.proofs.Order.{all_insert}
use Rattle.seq.proofs.Sub.{sub_holds}
use Rattle.thread.specs.Priority.{valid}
use Rattle.thread.specs.Caller.{caller_code}
use Rattle.wait_queue.specs.Queue.{max_waiters, entry, prio, ident, holds, joined, Well}
use Rattle.wait_queue.proofs.Answers.{ident-entry}
use Rattle.wait_queue.proofs.Insertion.{prio-entry}
use Rattle.wait_queue.proofs.Well.{Other, holds-none, well_sub, well_joined}
use Rattle.kind.specs.Verdict.{Pick, gone, spared, keep, park, wake, Verdict, deny, allow}
use Rattle.kind.specs.Kind.{Kind, Lawful, Rightly, Sound, Right}
use Rattle.store.specs.Store as store
use Rattle.kind.specs.Object.{Object, thread, carried}
use Rattle.kind.proofs.Picks.{any-joined, any-map, spared_sub, spared-map}
use Rattle.system.specs.System.{State, absent, running, ready, waiting, number, Slot, vacant, object, Sys, upd, states, unless, serve, thing, outcome, verdict, visited, called}
use Rattle.system.specs.Rules.{times, on, Fine}
use Rattle.system.proofs.Times.{times-joined, times_pick, held, unheld, not-held, on_one, picked, all_list, list_all, distinct}

pub all_two : (P Q R : ℕ → Type 0) (l : List ℕ) → ((y : ℕ) → P y → Q y → R y) → All P l → All Q l → All R l
all_two P Q R [] f a b = tt
all_two P Q R (y ∷ l) f a b = (f y a.0 b.0, all_two P Q R l f a.1 b.1)

object-is : {N : Type 0} {m n : N} → object m ≡ object n → m ≡ n
object-is h = cc

full : {N : Type 0} {n : N} {A : Type 0} → object n ≡ vacant → A
full h = absurd (let x : ◌≡◌ {A = ℕ} 0 1 = cc in omega arith)

module _ {K : Kind} (s : Sys K) (g : Fine s) (i o : ℕ) (n : K.Num) (h : s.slot o ≡ object n) where
  -- one object changes: the rules hold if they hold of it, and of the states everywhere
  module _ (d : Verdict K.Num K.Wish) (u : Object K.Num)
      (here : (t : ℕ) → times t u.queue ≡ on o ((serve s i o d u).state t))
      (there : (x t : ℕ) → (o ≡ x → ⊥) → times t (s.queue x) ≡ on x ((serve s i o d u).state t))
      (right : Rightly K u.num (serve s i o d u).wish (map ident u.queue))
      (rights : (x : ℕ) (m : K.Num) → s.slot x ≡ object m → (o ≡ x → ⊥) → Rightly K m (serve s i o d u).wish (map ident (s.queue x)))
      (form : K.formed u.num (any u.queue) ≡ true) (well : Well u.queue)
      (own : All (λ x. x ≡ entry (s.prio (ident x)) (ident x)) u.queue)
      (known : (t : ℕ) → ((serve s i o d u).state t ≡ absent → ⊥) → s.state t ≡ absent → ⊥) where
    changed : Fine (serve s i o d u)
    changed =
        record {
          placed = λ x t. at_place x t (eqb o x) refl;
          kept = λ x m z. at-kept x m (eqb o x) refl z;
          formed = λ x m z. at_form x m (eqb o x) refl z;
          bare = λ x z. at_bare x (eqb o x) refl z;
          queues = λ x. at-queue x (eqb o x) refl;
          own = λ x. at_own x (eqb o x) refl;
          known = λ t z. g.known t (known t z);
        }
      where
        at_place : (x t : ℕ) (b : Bool) → eqb o x ≡ b → times t (cond b u.queue (s.queue x)) ≡ on x ((serve s i o d u).state t)
        at_place x t true e = rw (sym (eqb-true o x e)) (here t)
        at_place x t false e = there x t (eqb-false o x e)

        at-kept : (x : ℕ) (m : K.Num) (b : Bool) → eqb o x ≡ b → cond b (object u.num) (s.slot x) ≡ object m
            → Rightly K m (serve s i o d u).wish (map ident (cond b u.queue (s.queue x)))
        at-kept x m true e z = rw (sym (object-is z)) right
        at-kept x m false e z = rights x m z (eqb-false o x e)

        at_form : (x : ℕ) (m : K.Num) (b : Bool) → eqb o x ≡ b → cond b (object u.num) (s.slot x) ≡ object m
            → K.formed m (any (cond b u.queue (s.queue x))) ≡ true
        at_form x m true e z = rw (sym (object-is z)) form
        at_form x m false e z = g.formed x m z

        at_bare : (x : ℕ) (b : Bool) → eqb o x ≡ b → cond b (object u.num) (s.slot x) ≡ vacant → cond b u.queue (s.queue x) ≡ []
        at_bare x true e z = full z
        at_bare x false e z = g.bare x z

        at-queue : (x : ℕ) (b : Bool) → eqb o x ≡ b → Well (cond b u.queue (s.queue x))
        at-queue x true e = well
        at-queue x false e = g.queues x

        at_own : (x : ℕ) (b : Bool) → eqb o x ≡ b → All (λ y. y ≡ entry (s.prio (ident y)) (ident y)) (cond b u.queue (s.queue x))
        at_own x true e = own
        at_own x false e = g.own x

  abbrev q : List ℕ
  q = s.queue o

  elsewhere : (x : ℕ) (m : K.Num) → s.slot x ≡ object m → (o ≡ x → ⊥) → Rightly K m s.wish (map ident (s.queue x))
  elsewhere x m z n = g.kept x m z

  -- nobody joins and nobody is woken
  stays : (m : K.Num) (r : ℤ) → K.formed m (any q) ≡ true → Rightly K m s.wish (map ident q)
      → Fine (serve s i o (allow m keep r) (store.left (carried {W = K.Wish} (thread i (s.prio i) 1) (allow m keep r) (thing s o n)) (thing s o n)))
  stays m r f k =
      changed (allow m keep r) (store.left (carried {W = K.Wish} (thread i (s.prio i) 1) (allow m keep r) (thing s o n)) (thing s o n)) (λ t. g.placed o t)
      (λ x t e. g.placed x t) k elsewhere f (g.queues o) (g.own o)
      (λ t z. z)

  -- some are woken
  module _ (p : Pick) (f : ℕ → ℤ) (m : K.Num) (r : ℤ) where
    abbrev some : Verdict K.Num K.Wish
    some = allow m (wake p f) r

    -- the states then
    abbrev now : ℕ → State
    now = states {W = K.Wish} (wake p f) i o q s.state

    here-woken : (t : ℕ) (b : Bool) → holds t (gone ident p q) ≡ b → times t (spared ident p q) ≡ on o (now t)
    here-woken t true z = rw z (omega (arith, held t (gone ident p q) z, times_pick t p q, g.placed o t, on_one o (s.state t)))
    here-woken t false z = rw z (omega (arith, unheld t (gone ident p q) z, times_pick t p q, g.placed o t))

    there-woken : (x t : ℕ) → (o ≡ x → ⊥) → (b : Bool) → holds t (gone ident p q) ≡ b → times t (s.queue x) ≡ on x (now t)
    there-woken x t e true z = g.placed x t ∙ rw (z, picked s g.placed o t p z, ne_eqb o x e)
    there-woken x t e false z = g.placed x t ∙ rw z

    known-woken : (t : ℕ) (b : Bool) → holds t (gone ident p q) ≡ b → (now t ≡ absent → ⊥) → s.state t ≡ absent → ⊥
    known-woken t true z c = λ a. let v : waiting o ≡ absent = sym (picked s g.placed o t p z) ∙ a in absurd (let x : ◌≡◌ {A = ℕ} 0 1 = cc in omega arith)
    known-woken t false z c = rw z at c

    wakes : K.formed m (any (spared ident p q)) ≡ true → Rightly K m s.wish (map ident (spared ident p q))
        → Fine (serve s i o some (store.left (carried (thread i (s.prio i) 1) some (thing s o n)) (thing s o n)))
    wakes c k =
        changed some (store.left (carried (thread i (s.prio i) 1) some (thing s o n)) (thing s o n)) (λ t. here-woken t (holds t (gone ident p q)) refl)
        (λ x t e. there-woken x t e (holds t (gone ident p q)) refl) k elsewhere c
        (well_sub (spared_sub ident p q) (g.queues o)) (sub_holds _ (spared_sub ident p q) (g.own o)) (λ t z. known-woken t (holds t (gone ident p q)) refl z)

  -- the caller waits
  module _ (x : K.Wish) (m : K.Num) (r : ℤ) (run : s.state i ≡ running) (few : length q < max_waiters) where
    abbrev w : ℕ
    w = entry (s.prio i) i

    abbrev wait : Verdict K.Num K.Wish
    wait = allow m (park x) r

    abbrev joins : Object K.Num
    joins = record { num = m; queue = joined w q }

    there-is : s.state i ≡ absent → ⊥
    there-is a = let v : running ≡ absent = sym run ∙ a in absurd (let y : ◌≡◌ {A = ℕ} 0 1 = cc in omega arith)

    small : i < 4294967296
    small = (g.known i there-is).0

    its : ident w ≡ i
    its = ident-entry (s.prio i) i small

    -- it stands in no queue yet
    nowhere : (y : ℕ) → times i (s.queue y) ≡ 0
    nowhere y = g.placed y i ∙ rw run

    here-joined : (t : ℕ) (b : Bool) → eqb i t ≡ b → cond b (suc (times t q)) (times t q) ≡ on o (cond b (waiting o) (s.state t))
    here-joined t true e = rw (sym (eqb-true i t e), nowhere o, eq-eqb o o refl) refl
    here-joined t false e = g.placed o t

    there-joined : (y t : ℕ) → (o ≡ y → ⊥) → (b : Bool) → eqb i t ≡ b → times t (s.queue y) ≡ on y (cond b (waiting o) (s.state t))
    there-joined y t n true e = rw (sym (eqb-true i t e), nowhere y, ne_eqb o y n) refl
    there-joined y t n false e = g.placed y t

    known_joined : (t : ℕ) (b : Bool) → eqb i t ≡ b → (cond b (waiting o) (s.state t) ≡ absent → ⊥) → s.state t ≡ absent → ⊥
    known_joined t true e c = rw (sym (eqb-true i t e)) there-is
    known_joined t false e c = c

    -- the others' wishes are as they were
    wish_off : (k : K.Num) (l : List ℕ) → holds i l ≡ false → Rightly K k s.wish (map ident l)
        → All (λ y. K.Blocked k (ident y) (upd s.wish i x (ident y))) l
    wish_off k l z a =
        all_two (λ y. Other i y) (λ y. K.Blocked k (ident y) (s.wish (ident y))) (λ y. K.Blocked k (ident y) (upd s.wish i x (ident y))) l
        (λ y n b. rw (ne_eqb i (ident y) (λ e. n (sym e))) b) (holds-none i l z) (all_list (λ t. K.Blocked k t (s.wish t)) ident l a)

    waits : K.formed m true ≡ true → K.Blocked m i x → Rightly K m s.wish (map ident q) → Fine (serve s i o wait joins)
    waits f b k =
        changed wait joins (λ t. times-joined t w q ∙ rw its (here-joined t (eqb i t) refl)) (λ y t n. there-joined y t n (eqb i t) refl)
        (list_all (λ t. K.Blocked m t (upd s.wish i x t)) ident (joined w q)
        (all_insert prio (λ y. K.Blocked m (ident y) (upd s.wish i x (ident y))) w q (rw (its, eq-eqb i i refl) b)
        (wish_off m q (not-held i q (nowhere o)) k)))
        (λ y l z n. list_all (λ t. K.Blocked l t (upd s.wish i x t)) ident (s.queue y)
        (wish_off l (s.queue y) (not-held i (s.queue y) (nowhere y)) (g.kept y l z)))
        (rw (any-joined w q) f)
        (well_joined w q (g.queues o) (rw its (not-held i q (nowhere o))) few (rw (prio-entry (s.prio i) i small) (g.known i there-is).1))
        (all_insert prio (λ y. y ≡ entry (s.prio (ident y)) (ident y)) w q (rw its refl) (g.own o)) (λ t z. known_joined t (eqb i t) refl z)

  -- a verdict
  pub by-verdict : (law : Lawful K) (k : K.Call) → s.state i ≡ running
      → Fine (unless (store.answer (carried (thread i (s.prio i) 1) (K.decide n s.wish (map ident q) i k) (thing s o n))) s
      (serve s i o (K.decide n s.wish (map ident q) i k) (store.left (carried (thread i (s.prio i) 1) (K.decide n s.wish (map ident q) i k) (thing s o n)) (thing s o n))))
  by-verdict law k run =
      let f : K.formed n (any (map ident q)) ≡ true = rw (any-map ident q) (g.formed o n h) in
      go (K.decide n s.wish (map ident q) i k) (law.sound n s.wish (map ident q) i k f)
      (law.right n s.wish (map ident q) i k f (distinct q (g.queues o).single) (g.kept o n h))
    where
      go : (d : Verdict K.Num K.Wish) → Sound K (map ident q) d → Right K s.wish (map ident q) i k d
          → Fine (unless (store.answer (carried (thread i (s.prio i) 1) d (thing s o n))) s (serve s i o d (store.left (carried (thread i (s.prio i) 1) d (thing s o n)) (thing s o n))))
      go (deny (negsuc c)) a b = g
      go (deny (pos c)) a b =
          changed (deny (pos c)) (store.left (carried {W = K.Wish} (thread i (s.prio i) 1) (deny (pos c)) (thing s o n)) (thing s o n)) (λ t. g.placed o t) (λ x t e. g.placed x t)
          (g.kept o n h) elsewhere (g.formed o n h) (g.queues o) (g.own o)
          (λ t z. z)
      go (allow m keep (negsuc c)) a b = g
      go (allow m keep (pos c)) a b = stays m (pos c) (rw (any-map ident q) at a) b
      go (allow m (wake p r) (negsuc c)) a b = g
      go (allow m (wake p r) (pos c)) a b =
          wakes p r m (pos c) (rw (spared-map ident p q, any-map ident (spared ident p q)) at a) (rw (spared-map ident p q) at b.0)
      go (allow m (park x) c) a b = parks (holds (ident (entry (s.prio i) i)) q) (ltb (length q) max_waiters) refl refl
        where
          parks : (j l : Bool) → holds (ident (entry (s.prio i) i)) q ≡ j → ltb (length q) max_waiters ≡ l
              → Fine (unless (store.answer (carried (thread i (s.prio i) 1) (allow m (park x) c) (thing s o n))) s
              (serve s i o (allow m (park x) c) (store.left (carried (thread i (s.prio i) 1) (allow m (park x) c) (thing s o n)) (thing s o n))))
          parks true l y z = rw y g
          parks false true y z = rw (y, z) (waits x m c run (ltb-true (length q) max_waiters z) a b.0 b.1)
          parks false false y z = rw (y, z) g

-- who is answered no refusal runs
pub runs : (p : ℕ) (x : State) (c : ℕ) → caller_code p (number x) ≡ pos c → x ≡ running
runs p absent c z = never (valid p) z
  where
    never : (b : Bool) → cond b (negsuc 21) (negsuc 21) ≡ pos c → absent ≡ running
    never true y = absurd (let x : ◌≡◌ {A = ℕ} 0 1 = cc in omega arith)
    never false y = absurd (let x : ◌≡◌ {A = ℕ} 0 1 = cc in omega arith)
runs p running c z = refl
runs p (ready r) c z = never (valid p) z
  where
    never : (b : Bool) → cond b (negsuc 21) (negsuc 21) ≡ pos c → ready r ≡ running
    never true y = absurd (let x : ◌≡◌ {A = ℕ} 0 1 = cc in omega arith)
    never false y = absurd (let x : ◌≡◌ {A = ℕ} 0 1 = cc in omega arith)
runs p (waiting o) c z = never (valid p) z
  where
    never : (b : Bool) → cond b (negsuc 15) (negsuc 21) ≡ pos c → waiting o ≡ running
    never true y = absurd (let x : ◌≡◌ {A = ℕ} 0 1 = cc in omega arith)
    never false y = absurd (let x : ◌≡◌ {A = ℕ} 0 1 = cc in omega arith)

module _ {K : Kind} (s : Sys K) (i o : ℕ) (k : K.Call) (n : K.Num) (f : K.formed n (any (s.queue o)) ≡ true) where
  -- a caller that does not run is refused
  pub barred : (c : ℕ) → caller_code (s.prio i) (number (s.state i)) ≡ negsuc c → outcome s i o k n ≡ store.refuse (negsuc c)
  barred c z = rw (f, z)

  -- and one that runs gets what the object decides
  pub granted : (c : ℕ) → caller_code (s.prio i) (number (s.state i)) ≡ pos c
      → outcome s i o k n ≡ carried (thread i (s.prio i) 1) (verdict s i o k n) (thing s o n)
  granted c z =
      let r : s.state i ≡ running = runs (s.prio i) (s.state i) c z in
      let y : caller_code (s.prio i) 1 ≡ pos c = rw r at z in
      rw (f, r, y)

pub called-fine : {K : Kind} → Lawful K → (s : Sys K) → Fine s → (i o : ℕ) (k : K.Call) → Fine (called s i o k).0
called-fine {K} law s g i o k = go (s.slot o) refl
  where
    go : (x : Slot K.Num) → s.slot o ≡ x → Fine (visited x s i o k).0
    go vacant h = g
    go (object n) h = by (caller_code (s.prio i) (number (s.state i))) refl
      where
        by : (z : ℤ) → caller_code (s.prio i) (number (s.state i)) ≡ z → Fine (visited (object n) s i o k).0
        by (negsuc c) z = rw (barred s i o k n (g.formed o n h) c z) g
        by (pos c) z = rw (granted s i o k n (g.formed o n h) c z) (by-verdict s g i o n h law k (runs (s.prio i) (s.state i) c z))
