-- What a call of our step does, as changes of the state, for any kind of object. Assumes nothing.
use mathlib.Core.Path.{◌≡◌, refl, sym, ap, subst, ◌∙◌}
use mathlib.Core.Bool.{Bool, true, false, cond}
use mathlib.Core.List.{List, [], ◌∷◌, ◌++◌, map}
use Prim.Native.Nat.{ℕ, ◌≤◌, ◌<◌}
use native.Mathlib.Omega.{arith}
use lib.Dec.{eqb}
use lib.IntN.{ℤ, pos, negsuc}
use lib.ListN.{length, length-map}
use borrow.Author.Tests.{eq-eqb, eqb-true, lt-ltb, le-ltb}
use Rattle.seq.specs.List.{All}
use Rattle.seq.proofs.Order.{cond_self}
use Rattle.thread.specs.Code.{ok, einval}
use Rattle.wait_queue.specs.Queue.{max_waiters, entry, prio, ident, holds, joined}
use Rattle.wait_queue.proofs.Answers.{ident-entry}
use Rattle.wait_queue.proofs.Insertion.{prio-entry}
use Rattle.kind.specs.Verdict.{up_to, everybody, keep, park, wake, Verdict, deny, allow}
use Rattle.kind.specs.Kind.{Kind}
use Rattle.store.specs.Store as store
use Rattle.kind.specs.Object.{Object, thread, carried}
use Rattle.system.specs.System.{State, absent, running, ready, waiting, Slot, vacant, object, Sys, invoke, Answer, done, reply, Woken, upd, deed, woken, unless, serve, thing, outcome, verdict, visited, called, step}
use Rattle.system.specs.Rules.{on, Fine}
use Rattle.system.specs.Effect.{Effect, is_now, has_wish, all_ready, has_numbers, has_queue, freed, put, puts, Place, woke, Does, Denies, Fails, Waits}
use Rattle.system.proofs.Times.{held, unheld, not-held, on-is}
use Rattle.system.proofs.Calls.{all_two}
use Rattle.system.proofs.Wakes.{there, decided, served, answered}
use Rattle.system.proofs.Places.{Found, find, tells, parts}

-- states that are the same at each place are the same
pub same : {K : Kind} (s u : Sys K) → ((t : ℕ) → s.prio t ≡ u.prio t) → ((t : ℕ) → s.state t ≡ u.state t) → ((t : ℕ) → s.wish t ≡ u.wish t)
    → ((o : ℕ) → s.slot o ≡ u.slot o) → ((o : ℕ) → s.queue o ≡ u.queue o) → s ≡ u
same s u a b c d e = λ j. record { prio = λ t. a t j; state = λ t. b t j; wish = λ t. c t j; slot = λ o. d o j; queue = λ o. e o j }

-- a table with what it has
upd_same : {A : Type 0} (f : ℕ → A) (i : ℕ) (x : A) → f i ≡ x → (t : ℕ) → upd f i x t ≡ f t
upd_same f i x e t = go (eqb i t) refl
  where
    go : (b : Bool) → eqb i t ≡ b → cond b x (f t) ≡ f t
    go true z = sym e ∙ ap f (eqb-true i t z)
    go false z = refl

-- who does not wait on o is as it was
freed_off : (o : ℕ) (r : ℤ) (x : State) → on o x ≡ 0 → freed o r x ≡ x
freed_off o r absent h = refl
freed_off o r running h = refl
freed_off o r (ready y) h = refl
freed_off o r (waiting y) h = go (eqb y o) h
  where
    go : (b : Bool) → ◌≡◌ {A = ℕ} (cond b 1 0) 0 → cond b (ready r) (waiting y) ≡ waiting y
    go true z = absurd (omega arith)
    go false z = refl

-- a call of no object, and one that is refused
pub no_object : {K : Kind} (s : Sys K) (i o : ℕ) (k : K.Call) → s.slot o ≡ vacant → called s i o k ≡ (s, einval, [])
no_object {K} s i o k h = ap (λ (x : Slot K.Num). visited x s i o k) h

pub refusing : {K : Kind} (s : Sys K) (i o : ℕ) (k : K.Call) (n : K.Num) → s.slot o ≡ object n → (c : ℕ)
    → outcome s i o k n ≡ store.refuse (negsuc c) → called s i o k ≡ (s, negsuc c, [])
refusing {K} s i o k n h c e =
    ap (λ (x : Slot K.Num). visited x s i o k) h
    ∙ ap (λ (y : store.Reply (Object K.Num)). (
      unless (store.answer y) s (serve s i o (verdict s i o k n) (store.left y (thing s o n))),
      store.answer y,
      unless (store.answer y) [] (woken (deed (verdict s i o k n)) (s.queue o)),
    )) e

-- as a step
pub refuses : {K : Kind} (s : Sys K) (i o : ℕ) (k : K.Call) (c : ℕ) → called s i o k ≡ (s, negsuc c, []) → Denies step s (invoke i o k) (negsuc c)
refuses {K} s i o k c e = ap (λ (x : Sys K × ℤ × List Woken). (x.0, reply x.1, x.2)) e

pub barring : {K : Kind} (s : Sys K) (i o : ℕ) (k : K.Call) (n : K.Num) → s.slot o ≡ object n → (c : ℕ)
    → outcome s i o k n ≡ store.refuse (negsuc c) → Denies step s (invoke i o k) (negsuc c)
barring s i o k n h c e = refuses s i o k c (refusing s i o k n h c e)

-- a call of the thread i, which runs, by what the object decides
module _ {K : Kind} (s : Sys K) (g : Fine s) (i o : ℕ) (k : K.Call) (n : K.Num) (h : s.slot o ≡ object n) (r : s.state i ≡ running) where
  abbrev given : Verdict K.Num K.Wish → store.Reply (Object K.Num)
  given d = carried (thread i (s.prio i) 1) d (thing s o n)

  tells_whom : (d : Verdict K.Num K.Wish) (c : ℕ) → verdict s i o k n ≡ d → store.answer (given d) ≡ pos c → (called s i o k).2 ≡ woken (deed d) (s.queue o)
  tells_whom d c y z = rw (h, decided s g i o k n h r d y, y, z)

  by : (d : Verdict K.Num K.Wish) (c : ℕ) (es : List (Effect K)) → verdict s i o k n ≡ d → store.answer (given d) ≡ pos c → serve s i o d (store.left (given d) (thing s o n)) ≡ puts s es
      → Does step s (invoke i o k) (done (pos c)) es (woken (deed d) (s.queue o))
  by d c es y z e = λ j. ((served s g i o k n h r d c y z ∙ e) j, reply ((answered s g i o k n h r d y ∙ z) j), tells_whom d c y z j)

  pub denied : (c : ℕ) → verdict s i o k n ≡ deny (negsuc c) → called s i o k ≡ (s, negsuc c, [])
  denied c y = refusing s i o k n h c (decided s g i o k n h r (deny (negsuc c)) y)

  pub denies : (c : ℕ) → verdict s i o k n ≡ deny (negsuc c) → Fails step s i o k (negsuc c)
  denies c y = refuses s i o k c (denied c y)

  -- numbers that stay
  uncounted : (a : Answer) (es : List (Effect K)) (w : List Woken) → Does step s (invoke i o k) a (has_numbers o n ∷ es) w → Does step s (invoke i o k) a es w
  uncounted a es w p =
      let e : put s (has_numbers o n)
      ≡ s = same (put s (has_numbers o n)) s (λ t. refl) (λ t. refl) (λ t. refl) (upd_same s.slot o (object n) h) (λ t. refl) in
      p ∙ (λ j. (puts (e j) es, a, w))

  pub keeps : (m : K.Num) (c : ℕ) → verdict s i o k n ≡ allow m keep (pos c) → Does step s (invoke i o k) (done (pos c)) (has_numbers o m ∷ []) []
  keeps m c y =
      by (allow m keep (pos c)) c (has_numbers o m ∷ []) y refl
      (same _ (puts s (has_numbers o m ∷ [])) (λ t. refl) (λ t. refl) (λ t. refl) (λ t. refl) (upd_same s.queue o (s.queue o) refl))

  pub stays : (c : ℕ) → verdict s i o k n ≡ allow n keep (pos c) → Does step s (invoke i o k) (done (pos c)) [] []
  stays c y = uncounted (done (pos c)) [] [] (keeps n c y)

  pub wakes-one : (m : K.Num) (c : ℕ) (x : ℕ) (q : List ℕ) → s.queue o ≡ x ∷ q → verdict s i o k n ≡ allow m (wake (up_to 1) (λ t. ok)) (pos c)
      → Does step s (invoke i o k) (done (pos c)) (has_numbers o m ∷ is_now (ident x) (ready ok) ∷ has_queue o q ∷ []) (woke (ident x) ok ∷ [])
  wakes-one m c x q e y =
      by (allow m (wake (up_to 1) (λ t. ok)) (pos c)) c (has_numbers o m ∷ is_now (ident x) (ready ok) ∷ has_queue o q ∷ []) y refl
      (same _ (puts s (has_numbers o m ∷ is_now (ident x) (ready ok) ∷ has_queue o q ∷ [])) (λ t. refl) (λ t. rw (e, cond_self (eqb (ident x) t)))
      (λ t. refl) (λ t. refl)
      (λ t. rw e))
      ∙ (λ j. (puts s (has_numbers o m ∷ is_now (ident x) (ready ok) ∷ has_queue o q ∷ []), done (pos c), woken {W = K.Wish} (wake (up_to 1) (λ t. ok)) (e j)))

  pub passes-one : (c : ℕ) (x : ℕ) (q : List ℕ) → s.queue o ≡ x ∷ q → verdict s i o k n ≡ allow n (wake (up_to 1) (λ t. ok)) (pos c)
      → Does step s (invoke i o k) (done (pos c)) (is_now (ident x) (ready ok) ∷ has_queue o q ∷ []) (woke (ident x) ok ∷ [])
  passes-one c x q e y = uncounted (done (pos c)) (is_now (ident x) (ready ok) ∷ has_queue o q ∷ []) (woke (ident x) ok ∷ []) (wakes-one n c x q e y)

  pub wakes-all : (m : K.Num) (v : ℤ) → verdict s i o k n ≡ allow m (wake everybody (λ t. v)) (pos (length (map ident (s.queue o))))
      → Does step s (invoke i o k) (done (pos (length (s.queue o)))) (has_numbers o m ∷ all_ready o v ∷ has_queue o [] ∷ [])
      (map (λ x. woke (ident x) v) (s.queue o))
  wakes-all m v y =
      by (allow m (wake everybody (λ t. v)) (pos (length (s.queue o)))) (length (s.queue o)) (has_numbers o m ∷ all_ready o v ∷ has_queue o [] ∷ [])
      (y ∙ rw (length-map (s.queue o) ident)) refl
      (same _ (puts s (has_numbers o m ∷ all_ready o v ∷ has_queue o [] ∷ [])) (λ t. refl) (λ t. free-at t (holds t (s.queue o)) refl) (λ t. refl)
      (λ t. refl) (λ t. refl))
    where
      free-at : (t : ℕ) (b : Bool) → holds t (s.queue o) ≡ b → cond b (ready v) (s.state t) ≡ freed o v (s.state t)
      free-at t true e = rw (on-is o (s.state t) (omega (arith, g.placed o t, held t (s.queue o) e)), eq-eqb o o refl)
      free-at t false e = sym (freed_off o v (s.state t) (sym (g.placed o t) ∙ unheld t (s.queue o) e))

  pub frees_all : (v : ℤ) → verdict s i o k n ≡ allow n (wake everybody (λ t. v)) (pos (length (map ident (s.queue o))))
      → Does step s (invoke i o k) (done (pos (length (s.queue o)))) (all_ready o v ∷ has_queue o [] ∷ []) (map (λ x. woke (ident x) v) (s.queue o))
  frees_all v y = uncounted (done (pos (length (s.queue o)))) (all_ready o v ∷ has_queue o [] ∷ []) (map (λ x. woke (ident x) v) (s.queue o))
      (wakes-all n v y)

  -- the caller waits
  module _ (w : K.Wish) (c : ℤ) (y : verdict s i o k n ≡ allow n (park w) c) where
    off : holds (ident (entry (s.prio i) i)) (s.queue o) ≡ false
    off = rw (ident-entry (s.prio i) i (g.known i (there s g i o k n h r)).0) (not-held i (s.queue o) (g.placed o i ∙ rw r))

    seats : length (s.queue o) < max_waiters
        → given (allow n (park w) c) ≡ store.accept (record { num = n; queue = joined (entry (s.prio i) i) (s.queue o) }) (pos 1) []
    seats l = rw (off, lt-ltb (length (s.queue o)) max_waiters l)

    spot : Found (entry (s.prio i) i) (s.queue o)
    spot = find (entry (s.prio i) i) (s.queue o) (g.queues o).sorted

    -- in the words of the threads
    place : Place s i (s.queue o)
    place =
        let p : prio (entry (s.prio i) i) ≡ s.prio i = prio-entry (s.prio i) i (g.known i (there s g i o k n h r)).0 in
        let z : All Own spot.ahead × All Own spot.behind = parts Own spot.ahead spot.behind (subst (All Own) spot.all (g.own o)) in
        record {
          ahead = spot.ahead;
          behind = spot.behind;
          all = spot.all;
          high =
              all_two (λ x. prio x ≤ prio (entry (s.prio i) i)) Own (λ x. s.prio (ident x) ≤ s.prio i) spot.ahead
              (λ x l e. rw (sym (tells x (s.prio (ident x)) e), sym p) l) spot.high z.0;
          low =
              all_two (λ x. prio (entry (s.prio i) i) < prio x) Own (λ x. s.prio i < s.prio (ident x)) spot.behind
              (λ x l e. rw (sym (tells x (s.prio (ident x)) e), sym p) l) spot.low z.1;
        }
      where
        Own : ℕ → Type 0
        Own x = x ≡ entry (s.prio (ident x)) (ident x)

    pub waits : Waits step s i o k w
    unfolding place
    waits =
        record {
          full = λ l. barring s i o k n h 11 (decided s g i o k n h r (allow n (park w) c) y ∙ rw (off, le-ltb (length (s.queue o)) max_waiters l));
          room = λ l. place;
          joins =
              λ l.
              by (allow n (park w) c) 1 es y (ap store.answer (seats l))
              (ap (λ (y : store.Reply (Object K.Num)). serve s i o (allow n (park w) c) (store.left y (thing s o n))) (seats l)
              ∙ same _ (puts s es) (λ t. refl) (λ t. refl) (λ t. refl) (upd_same s.slot o (object n) h)
              (λ t. ap (λ (l : List ℕ). upd s.queue o l t) spot.is));
        }
      where
        es : List (Effect K)
        es = is_now i (waiting o) ∷ has_wish i w ∷ has_queue o (spot.ahead ++ (entry (s.prio i) i ∷ spot.behind)) ∷ []
