-- What becomes of the caller of a function: its answer tells. Assumes nothing.
use mathlib.Core.Path.{◌≡◌, refl, sym, subst, ◌∙◌}
use mathlib.Core.Bool.{Bool, true, false, cond}
use mathlib.Core.List.{List, []}
use Prim.Native.Nat.{ℕ}
use native.Mathlib.Omega.{arith}
use lib.IntN.{ℤ, pos, negsuc}
use lib.ListN.{length}
use Rattle.kind.specs.Verdict.{gone, keep, park, wake, Verdict, deny, allow}
use Rattle.kind.specs.Kind.{Kind}
use Rattle.store.specs.Store as store
use Rattle.store.proofs.Laws.{carry-answer}
use Rattle.kind.specs.Object.{Object, thread, carried}
use Rattle.system.specs.System as system
use Rattle.system.specs.Rules.{times, Fine}
use Rattle.system.proofs.Times.{times_pick, not-held}
use lib.Dec.{ltb}
use borrow.Author.Tests.{eq-eqb}
use Rattle.thread.specs.Code.{enomem, ebusy}
use Rattle.thread.specs.Caller.{caller_code}
use Rattle.wait_queue.specs.Queue.{max_waiters, entry, ident, holds, joined}
use Rattle.wait_queue.specs.Turn.{waits, parked}
use Rattle.system.specs.Sum.{mapped}
use Rattle.system.specs.System.{State, running, waiting, number, Slot, Sys, deed, states, unless, upd, serve, thing, outcome, verdict, visited, called}
use Rattle.system.specs.Link.{fate}
use Rattle.system.proofs.Calls.{runs, barred, granted}

-- nobody is to wait
abbrev pub Unparked : {N W : Type 0} → Verdict N W → Type 0
Unparked (deny r) = Unit {0}
Unparked (allow n keep r) = Unit {0}
Unparked (allow n (park x) r) = ⊥
Unparked (allow n (wake p f) r) = Unit {0}

pub unparked : {N W : Type 0} (b : Bool) (d e : Verdict N W) → Unparked d → Unparked e → Unparked (cond b d e)
unparked true d e x y = x
unparked false d e x y = y

-- whether the caller waits is told by the answer
abbrev pub Fated : {N W : Type 0} → Bool → Verdict N W → Type 0
Fated a (deny r) = (o : ℕ) (x : State) → fate a o r x ≡ x
Fated a (allow n keep r) = (o : ℕ) (x : State) → fate a o r x ≡ x
Fated a (allow n (park y) r) = a ≡ true
Fated a (allow n (wake p f) r) = (o : ℕ) (x : State) → fate a o r x ≡ x

pub fated : {N W : Type 0} (a b : Bool) (d e : Verdict N W) → Fated a d → Fated a e → Fated a (cond b d e)
fated a true d e x y = x
fated a false d e x y = y

silent-fate : (o : ℕ) (r : ℤ) (x : State) → fate false o r x ≡ x
silent-fate o (pos r) x = refl
silent-fate o (negsuc r) x = refl

pub stays_fated : {N W : Type 0} (d : Verdict N W) → Unparked d → Fated false d
stays_fated (deny r) x = λ o y. silent-fate o r y
stays_fated (allow n keep r) x = λ o y. silent-fate o r y
stays_fated (allow n (park z) r) x = absurd x
stays_fated (allow n (wake p f) r) x = λ o y. silent-fate o r y

pub fated_part : {M N X Y : Type 0} (f : M → N) (g : X → Y) (a : Bool) (d : Verdict M X) → Fated a d → Fated a (mapped f g d)
fated_part f g a (deny r) x = x
fated_part f g a (allow n keep r) x = x
fated_part f g a (allow n (park y) r) x = x
fated_part f g a (allow n (wake p h) r) x = x

parked-fate : (a : Bool) (o w : ℕ) (q : List ℕ) (x y : State) → a ≡ true → y ≡ waiting o → unless (store.answer (parked w q)) x y ≡ fate a o (store.answer (parked w q)) x
parked-fate a o w q x y e z = go (holds (ident w) q) (ltb (length q) max_waiters)
  where
    go : (b c : Bool) → unless (store.answer (cond b (store.refuse ebusy) (cond c (store.accept (joined w q) waits []) (store.refuse enomem)))) x y
        ≡ fate a o (store.answer (cond b (store.refuse ebusy) (cond c (store.accept (joined w q) waits []) (store.refuse enomem)))) x
    go true c = refl
    go false true = rw (z, e) refl
    go false false = refl

-- the caller's state after a call
module _ {K : Kind} (s : Sys K) (g : Fine s) (i o : ℕ) (k : K.Call) (n : K.Num) (h : s.slot o ≡ system.object n) (a : Bool) where
  abbrev given : Verdict K.Num K.Wish → store.Reply (Object K.Num)
  given d = carried (thread i (s.prio i) 1) d (thing s o n)

  told-fate : s.state i ≡ running → (d : Verdict K.Num K.Wish) → Fated a d
      → unless (store.answer (given d)) (s.state i) (states (deed d) i o (s.queue o) s.state i) ≡ fate a o (store.answer (given d)) (s.state i)
  told-fate run (deny (pos r)) x = sym (x o (s.state i))
  told-fate run (deny (negsuc r)) x = refl
  told-fate run (allow m keep (pos r)) x = sym (x o (s.state i))
  told-fate run (allow m keep (negsuc r)) x = refl
  told-fate run (allow m (park y) r) x =
      subst (λ (z : ℤ). unless z (s.state i) (upd s.state i (waiting o) i) ≡ fate a o z (s.state i)) (sym (carry-answer _ (parked (entry (s.prio i) i) (s.queue o))))
      (parked-fate a o (entry (s.prio i) i) (s.queue o) (s.state i) (upd s.state i (waiting o) i) x (rw (eq-eqb i i refl)))
  told-fate run (allow m (wake p f) (pos r)) x =
      let z : times i (s.queue o) ≡ 0 = g.placed o i ∙ rw run refl in
      rw (not-held i (gone ident p (s.queue o)) (omega (arith, z, times_pick i p (s.queue o)))) (sym (x o (s.state i)))
  told-fate run (allow m (wake p f) (negsuc r)) x = refl

  pub caller-fate : Fated a (verdict s i o k n) → (called s i o k).0.state i ≡ fate a o (called s i o k).1 (s.state i)
  caller-fate x =
      subst (λ (y : Slot K.Num). (visited y s i o k).0.state i ≡ fate a o (visited y s i o k).1 (s.state i)) (sym h)
      (apart (store.answer (outcome s i o k n)) ∙ go (caller_code (s.prio i) (number (s.state i))) refl)
    where
      apart : (z : ℤ) → (unless z s (serve s i o (verdict s i o k n) (store.left (outcome s i o k n) (thing s o n)))).state i
          ≡ unless z (s.state i) (states (deed (verdict s i o k n)) i o (s.queue o) s.state i)
      apart (pos c) = refl
      apart (negsuc c) = refl

      go : (z : ℤ) → caller_code (s.prio i) (number (s.state i)) ≡ z
          → unless (store.answer (outcome s i o k n)) (s.state i) (states (deed (verdict s i o k n)) i o (s.queue o) s.state i)
          ≡ fate a o (store.answer (outcome s i o k n)) (s.state i)
      go (negsuc c) z = rw (barred s i o k n (g.formed o n h) c z) refl
      go (pos c) z = rw (granted s i o k n (g.formed o n h) c z) (told-fate (runs (s.prio i) (s.state i) c z) (verdict s i o k n) x)

-- a thread that runs, and need not wait, still runs
module _ {K : Kind} (s : Sys K) (g : Fine s) (i o : ℕ) (k : K.Call) (run : s.state i ≡ running) where
  states-same : (d : Verdict K.Num K.Wish) → Unparked d → states (deed d) i o (s.queue o) s.state i ≡ s.state i
  states-same (deny r) x = refl
  states-same (allow n keep r) x = refl
  states-same (allow n (park y) r) x = absurd x
  states-same (allow n (wake p f) r) x =
      let z : times i (s.queue o) ≡ 0 = g.placed o i ∙ rw run refl in
      rw (not-held i (gone ident p (s.queue o)) (omega (arith, z, times_pick i p (s.queue o))))

  pub still : (n : K.Num) → s.slot o ≡ system.object n → Unparked (verdict s i o k n) → (called s i o k).0.state i ≡ s.state i
  still n h x = rw h (by (store.answer (outcome s i o k n)))
    where
      by : (z : ℤ) → (unless z s (serve s i o (verdict s i o k n) (store.left (outcome s i o k n) (thing s o n)))).state i ≡ s.state i
      by (pos c) = states-same (verdict s i o k n) x
      by (negsuc c) = refl
