-- Each object is what its ledger says. Assumes nothing.
use mathlib.Core.Path.{◌≡◌, refl, sym, ap, subst, ◌∙◌}
use mathlib.Core.Bool.{Bool, true, false, cond}
use mathlib.Core.List.{List, [], ◌∷◌, ◌++◌, map, append_assoc}
use Prim.Native.Nat.{ℕ}
use lib.Dec.{eqb, ltb}
use lib.IntN.{ℤ, pos, negsuc}
use lib.ListN.{length}
use borrow.Author.Tests.{eq-eqb, ne_eqb, eqb-true, eqb-false}
use Rattle.thread.specs.Code.{ok, einval}
use Rattle.thread.specs.Caller.{caller_code}
use Rattle.wait_queue.specs.Queue.{max_waiters, entry, ident, holds}
use Rattle.kind.specs.Verdict.{gone, keep, park, wake, Verdict, deny, allow}
use Rattle.kind.specs.Kind.{Kind, Lawful, Booked, balanced}
use Rattle.store.specs.Store as store
use Rattle.kind.specs.Object.{Object, thread, carried}
use Rattle.kind.proofs.Picks.{any-map, gone-map}
use Rattle.system.specs.System.{number, Slot, vacant, object, Sys, Op, invoke, both, dispatch, yield, expire, spawn, create, Woken, Reply, reply, accept, refuse, free, deed, woken, unless, serve, thing, outcome, verdict, visited, called, placed, answers, paired, step, after}
use Rattle.system.specs.Rules.{Fine, Start}
use Rattle.system.specs.Run.{run}
use Rattle.system.specs.Ledger as notes
use Rattle.system.specs.Ledger.{Note, made, entered, ledger, noted, allowed, call_note, Ledgers}
use Rattle.system.proofs.Calls.{barred, granted, called-fine}
use Rattle.system.proofs.Steps.{always}
use Rattle.system.proofs.Quiet.{OnThread, quiet}

-- who was woken, as threads
abbrev names : List Woken → List ℕ
names l = map (λ w. w.thread) l

names_of : (f : ℕ → ℤ) (l : List ℕ) → names (map (λ x. record { thread = ident x; result = f (ident x) }) l) ≡ map ident l
names_of f [] = refl
names_of f (x ∷ l) = ap (λ (m : List ℕ). ident x ∷ m) (names_of f l)

module _ {K : Kind} (law : Lawful K) (s : Sys K) (g : Fine s) (i o : ℕ) (k : K.Call) (l : List (Note K)) where
  -- what is noted of a call with this answer that woke these
  abbrev note : ℤ → List Woken → List (Note K)
  note c w = noted (reply c) (λ r. notes.called i k r (names w))

  module _ (n : K.Num) (h : object n ≡ ledger l) where
    posted : (m : K.Num) (c : ℕ) (w : List Woken) → K.books n i k (pos c) (names w) ≡ balanced m → object m ≡ ledger (note (pos c) w ++ l)
    posted m c w e = sym (ap (λ (z : Slot K.Num). entered (λ n. K.books n i k (pos c) (names w)) z) (sym h) ∙ ap notes.settle e)

    abbrev q : List ℕ
    q = s.queue o

    by-verdict : (z : s.slot o ≡ object n) (d : Verdict K.Num K.Wish) → Booked K n (map ident q) i k d
        → (unless (store.answer (carried (thread i (s.prio i) 1) d (thing s o n))) s (serve s i o d (store.left (carried (thread i (s.prio i) 1) d (thing s o n)) (thing s o n)))).slot o
        ≡ ledger (note (store.answer (carried (thread i (s.prio i) 1) d (thing s o n)))
        (unless (store.answer (carried (thread i (s.prio i) 1) d (thing s o n))) [] (woken (deed d) q)) ++ l)
    by-verdict z (deny (pos c)) b = absurd b
    by-verdict z (deny (negsuc c)) b = z ∙ h
    by-verdict z (allow m keep (negsuc c)) b = absurd b
    by-verdict z (allow m keep (pos c)) b = rw (eq-eqb o o refl) (posted m c [] b)
    by-verdict z (allow m (wake p f) (negsuc c)) b = absurd b
    by-verdict z (allow m (wake p f) (pos c)) b =
        rw (eq-eqb o o refl)
        (posted m c (woken {W = K.Wish} (wake p f) q) (ap (K.books n i k (pos c)) (names_of f (gone ident p q) ∙ sym (gone-map ident p q)) ∙ b))
    by-verdict z (allow m (park x) c) b = go (holds (ident (entry (s.prio i) i)) q) (ltb (length q) max_waiters) refl refl
      where
        go : (y w : Bool) → holds (ident (entry (s.prio i) i)) q ≡ y → ltb (length q) max_waiters ≡ w
            → (unless (store.answer (carried (thread i (s.prio i) 1) (allow m (park x) c) (thing s o n))) s
            (serve s i o (allow m (park x) c) (store.left (carried (thread i (s.prio i) 1) (allow m (park x) c) (thing s o n)) (thing s o n)))).slot o
            ≡ ledger (note (store.answer (carried (thread i (s.prio i) 1) (allow m (park x) c) (thing s o n)))
            (unless (store.answer (carried (thread i (s.prio i) 1) (allow m (park x) c) (thing s o n))) [] []) ++ l)
        go true w d e = rw d (z ∙ h)
        go false true d e = rw (d, e, eq-eqb o o refl) (posted m 1 [] b)
        go false false d e = rw (d, e) (z ∙ h)

  -- the object that is called
  here : s.slot o ≡ ledger l → (called s i o k).0.slot o ≡ ledger (note (called s i o k).1 (called s i o k).2 ++ l)
  here h = go (s.slot o) refl
    where
      go : (x : Slot K.Num) → s.slot o ≡ x → (visited x s i o k).0.slot o ≡ ledger (note (visited x s i o k).1 (visited x s i o k).2 ++ l)
      go vacant z = h
      go (object n) z = by (caller_code (s.prio i) (number (s.state i))) refl
        where
          As : store.Reply (Object K.Num) → Type 0
          As y = (unless (store.answer y) s (serve s i o (verdict s i o k n) (store.left y (thing s o n)))).slot o
              ≡ ledger (note (store.answer y) (unless (store.answer y) [] (woken (deed (verdict s i o k n)) (s.queue o))) ++ l)

          by : (c : ℤ) → caller_code (s.prio i) (number (s.state i)) ≡ c
              → (visited (object n) s i o k).0.slot o ≡ ledger (note (visited (object n) s i o k).1 (visited (object n) s i o k).2 ++ l)
          by (negsuc c) y = subst As (sym (barred s i o k n (g.formed o n z) c y)) h
          by (pos c) y =
              subst As (sym (granted s i o k n (g.formed o n z) c y))
              (by-verdict n (sym z ∙ h) z (verdict s i o k n)
              (law.booked n s.wish (map ident (s.queue o)) i k (rw (any-map ident (s.queue o)) (g.formed o n z))))

-- the others
module _ {K : Kind} (s : Sys K) (i a : ℕ) (k : K.Call) (o : ℕ) (e : a ≡ o → ⊥) where
  there : (called s i a k).0.slot o ≡ s.slot o
  there = go (s.slot a)
    where
      either : (z : ℤ) (u : Sys K) → u.slot o ≡ s.slot o → (unless z s u).slot o ≡ s.slot o
      either (pos c) u w = w
      either (negsuc c) u w = refl

      go : (x : Slot K.Num) → (visited x s i a k).0.slot o ≡ s.slot o
      go vacant = refl
      go (object n) = either (store.answer (outcome s i a k n)) (serve s i a (verdict s i a k n) (store.left (outcome s i a k n) (thing s a n))) (rw (ne_eqb a o e))

-- a call, of any object
called-books : {K : Kind} → Lawful K → (s : Sys K) → Fine s → (i a : ℕ) (k : K.Call) (o : ℕ) (l : List (Note K)) → s.slot o ≡ ledger l
    → (called s i a k).0.slot o ≡ ledger (cond (eqb a o) (noted (reply (called s i a k).1) (λ r. notes.called i k r (names (called s i a k).2))) [] ++ l)
called-books {K} law s g i a k o l h = go (eqb a o) refl
  where
    go : (b : Bool) → eqb a o ≡ b → (called s i a k).0.slot o
        ≡ ledger (cond b (noted (reply (called s i a k).1) (λ r. notes.called i k r (names (called s i a k).2))) [] ++ l)
    go true e = rw (sym (eqb-true a o e)) (here law s g i a k l (ap s.slot (eqb-true a o e) ∙ h))
    go false e = there s i a k o (eqb-false a o e) ∙ h

module _ {K : Kind} (law : Lawful K) (s : Sys K) (b : Start s) where
  abbrev note_of : List (Op K) → Op K → ℕ → List (Note K)
  note_of past x o = notes.notes_of (run step s) o past x

  still : (past : List (Op K)) (o : ℕ) (l : List (Note K)) → (after s past).slot o ≡ ledger l → (x : Op K) → OnThread x
      → (step (after s past) x).0.slot o ≡ ledger l
  still past o l h x t = ap (λ (f : ℕ → Slot K.Num). f o) (quiet (after s past) x t).slots ∙ h

  next : (past : List (Op K)) (o : ℕ) (l : List (Note K)) → (after s past).slot o ≡ ledger l → (x : Op K)
      → (step (after s past) x).0.slot o ≡ ledger (note_of past x o ++ l)
  next past o l h (invoke i a k) = called-books law (after s past) (always law s b past) i a k o l h
  next past o l h (both i a j d k) = go (eqb a d)
    where
      u : Sys K
      u = after s past

      first : List (Note K)
      first = call_note (run step s) o past i a j

      second : List (Note K)
      second = call_note (run step s) o (invoke i a j ∷ past) i d k

      two : (called (called u i a j).0 i d k).0.slot o ≡ ledger ((second ++ first) ++ l)
      two =
          called-books law (called u i a j).0 (called-fine law u (always law s b past) i a j) i d k o (first ++ l)
          (called-books law u (always law s b past) i a j o l h)
          ∙ ap (ledger {K = K}) (sym (append_assoc second first l))

      either : (z : ℤ) → (unless z u (called (called u i a j).0 i d k).0).slot o ≡ ledger (allowed (reply z) (second ++ first) ++ l)
      either (pos c) = two
      either (negsuc c) = h

      go : (c : Bool) → (cond {A = Reply K} c (refuse u einval) (paired u i a j d k)).0.slot o
          ≡ ledger (allowed (cond {A = Reply K} c (refuse u einval) (paired u i a j d k)).1 (second ++ first) ++ l)
      go true = h
      go false = either (answers u i a j d k)
  next past o l h (dispatch i) = still past o l h (dispatch i) tt
  next past o l h (yield i) = still past o l h (yield i) tt
  next past o l h (expire i) = still past o l h (expire i) tt
  next past o l h (spawn i p) = still past o l h (spawn i p) tt
  next past o l h (create a n) = go (free ((after s past).slot a)) (K.new n) (eqb a o) refl
    where
      same : (z : Bool) → (after s past).slot o ≡ ledger (cond z [] [] ++ l)
      same true = h
      same false = h

      go : (x y z : Bool) → eqb a o ≡ z
          → (cond {A = Reply K} x (cond y (accept (placed (after s past) a n) ok) (refuse (after s past) einval)) (refuse (after s past) einval)).0.slot o
          ≡ ledger (cond z (noted {K = K} (cond {A = Reply K} x (cond y (accept (placed (after s past) a n) ok) (refuse (after s past) einval))
          (refuse (after s past) einval)).1 (λ r. made n)) [] ++ l)
      go true true true e = rw e
      go true true false e = rw e h
      go true false z e = same z
      go false y z e = same z

  pub ledgers : (past : List (Op K)) → Ledgers (run step s) past
  ledgers [] o = b.none o
  ledgers (x ∷ past) o = next past o (notes.notes (run step s) o past) (ledgers past o) x
