-- The data sheet of a mutex holds of our step, and of no other kernel. Assumes nothing.
use mathlib.Core.Path.{◌≡◌, refl, sym, ap, ◌∙◌}
use mathlib.Core.Bool.{Bool, true, false, cond}
use mathlib.Core.Logic.{⊎_elim}
use mathlib.Core.List.{List, [], ◌∷◌, map}
use Prim.Native.Nat.{ℕ, suc, ◌-◌, ◌<◌}
use native.Mathlib.Omega.{arith}
use lib.Dec.{eqb, ltb}
use lib.IntN.{pos}
use borrow.Author.Tests.{eq-eqb, ne_eqb, eqb-true, lt-ltb, le-ltb, ltb-true}
use Rattle.seq.specs.List.{any}
use Rattle.seq.proofs.Order.{clash}
use Rattle.thread.specs.Code.{ok, eperm, ebusy, einval, edeadlk, eoverflow}
use Rattle.wait_queue.specs.Queue.{ident}
use Rattle.wait_queue.specs.Turn as turn
use Rattle.kind.specs.Verdict.{up_to, keep, park, wake, Verdict, deny, allow}
use Rattle.kind.specs.Kind.{Kind}
use Rattle.mutex.specs.Mutex.{Owner, nobody, thread, Mutex, Call, lock, try_lock, unlock, release, held, owns, max_count, released, unlocked, transferred, free, taken, counting, locks as locking, passes, unlocks as unlocking, new, formed, decide, mutex_kind}
use Rattle.mutex.proofs.Law.{mutex_lawful}
use Rattle.system.specs.System.{running, object, Sys, invoke, Kernel, verdict, step}
use Rattle.system.specs.Part.{Part}
use Rattle.system.specs.Sum.{mapped}
use Rattle.system.specs.Rules.{Fine}
use Rattle.system.specs.Effect.{has_numbers, Gets, Fails, Waits}
use Rattle.system.specs.MutexRules.{MutexMakes, owned, Locks, Unlocks, MutexRules}
use Rattle.system.specs.Rtos.{mutexes}
use Rattle.system.proofs.Effects as effects
use Rattle.system.proofs.Same.{under, alike, one-wait}
use Rattle.system.proofs.Bests.{InTurn, Turnwise, in_turn}
use Rattle.system.proofs.Sheets.{Fits, Sheet}

makes : (m : Mutex) → MutexMakes m → new m ≡ true
makes m e = rw (e.0, e.1)

made : (m : Mutex) → new m ≡ true → MutexMakes m
made m e = go m.owner (eqb m.count 0) refl refl e
  where
    go : (a : Owner) (b : Bool) → m.owner ≡ a → eqb m.count 0 ≡ b → cond (held a) false b ≡ true → MutexMakes m
    go nobody true x y e = (x, eqb-true m.count 0 y)
    go nobody false x y e = clash (sym e)
    go (thread i) b x y e = clash (sym e)

module _ {K : Kind} (P : Part mutex_kind K) (h : Fits P) (s : Sys K) (g : Fine s) (i o : ℕ) (m : Mutex) (e : s.slot o ≡ object (P.num m))
    (r : s.state i ≡ running) where
  abbrev q : List ℕ
  q = map ident (s.queue o)

  -- what it decides, in words of the system
  says : (k : Call) (d : Verdict Mutex (Unit {0})) → decide m (λ t. P.seen (s.wish t)) q i k ≡ d
      → verdict s i o (P.call k) (P.num m) ≡ mapped P.num P.wish d
  says k d z = h.decides m s.wish q i k ∙ ap (mapped P.num P.wish) z

  abbrev mine : Owner → ℕ → K.Num
  mine w c = owned P step s i o m w c

  locks : Locks P step s i o m lock (Waits step s i o (P.call lock) (P.wish tt))
  locks =
      record {
        free = λ z. effects.keeps s g i o (P.call lock) (P.num m) e r (mine (thread i) 1) 0 (says lock (allow (taken i) keep ok) (rw z));
        again =
            λ z l. effects.keeps s g i o (P.call lock) (P.num m) e r (mine (thread i) (suc m.count)) 0
            (says lock (allow (record { owner = thread i; count = suc m.count }) keep ok) (rw (z, eq-eqb i i refl, lt-ltb m.count max_count l)));
        often = λ z l. effects.denies s g i o (P.call lock) (P.num m) e r 138
            (says lock (deny eoverflow) (rw (z, eq-eqb i i refl, le-ltb m.count max_count l)));
        theirs = λ j z n. effects.waits s g i o (P.call lock) (P.num m) e r (P.wish tt) turn.waits (says lock (allow m (park tt) turn.waits) (off j z n));
      }
    where
      off : (j : ℕ) → m.owner ≡ thread j → (j ≡ i → ⊥) → decide m (λ t. P.seen (s.wish t)) q i lock ≡ allow m (park tt) turn.waits
      off j z n = rw (z, ne_eqb j i n)

  tries : Locks P step s i o m try_lock (Fails step s i o (P.call try_lock) ebusy)
  tries =
      record {
        free = λ z. effects.keeps s g i o (P.call try_lock) (P.num m) e r (mine (thread i) 1) 0 (says try_lock (allow (taken i) keep ok) (rw z));
        again =
            λ z l. effects.keeps s g i o (P.call try_lock) (P.num m) e r (mine (thread i) (suc m.count)) 0
            (says try_lock (allow (record { owner = thread i; count = suc m.count }) keep ok) (rw (z, eq-eqb i i refl, lt-ltb m.count max_count l)));
        often = λ z l. effects.denies s g i o (P.call try_lock) (P.num m) e r 138
            (says try_lock (deny eoverflow) (rw (z, eq-eqb i i refl, le-ltb m.count max_count l)));
        theirs = λ j z n. effects.denies s g i o (P.call try_lock) (P.num m) e r 15 (says try_lock (deny ebusy) (rw (z, ne_eqb j i n)));
      }

  unlocks : Unlocks P step s i o m unlock (Gets step s i o (P.call unlock) (pos 0) (has_numbers o (mine (thread i) (m.count - 1)) ∷ []))
  unlocks =
      record {
        free = λ z. effects.denies s g i o (P.call unlock) (P.num m) e r 21 (says unlock (deny einval) (rw z));
        theirs = λ j z n. effects.denies s g i o (P.call unlock) (P.num m) e r 0 (says unlock (deny eperm) (rw (z, ne_eqb j i n)));
        nested =
            λ z l. effects.keeps s g i o (P.call unlock) (P.num m) e r (mine (thread i) (m.count - 1)) 0
            (says unlock (allow (record { owner = thread i; count = m.count - 1 }) keep released) (rw (z, eq-eqb i i refl, lt-ltb 1 m.count l)));
        last = λ z c w. effects.keeps s g i o (P.call unlock) (P.num m) e r (mine nobody 0) 1
            (says unlock (allow free keep unlocked) (rw (z, eq-eqb i i refl, c, w)));
        passed =
            λ z c x l w. effects.wakes-one s g i o (P.call unlock) (P.num m) e r (mine (thread (ident x)) 1) 2 x l w
            (says unlock (allow (taken (ident x)) (wake (up_to 1) (λ t. ok)) transferred) (rw (z, eq-eqb i i refl, c, w)));
      }

  releases : Unlocks P step s i o m release (Fails step s i o (P.call release) edeadlk)
  releases =
      record {
        free = λ z. effects.denies s g i o (P.call release) (P.num m) e r 21 (says release (deny einval) (rw z));
        theirs = λ j z n. effects.denies s g i o (P.call release) (P.num m) e r 0 (says release (deny eperm) (rw (z, ne_eqb j i n)));
        nested = λ z l. effects.denies s g i o (P.call release) (P.num m) e r 44
            (says release (deny edeadlk) (rw (z, eq-eqb i i refl, lt-ltb 1 m.count l)));
        last = λ z c w. effects.keeps s g i o (P.call release) (P.num m) e r (mine nobody 0) 1
            (says release (allow free keep unlocked) (rw (z, eq-eqb i i refl, c, w)));
        passed =
            λ z c x l w. effects.wakes-one s g i o (P.call release) (P.num m) e r (mine (thread (ident x)) 1) 2 x l w
            (says release (allow (taken (ident x)) (wake (up_to 1) (λ t. ok)) transferred) (rw (z, eq-eqb i i refl, c, w)));
      }

  pub mutex-keeps : MutexRules P step s i o m
  mutex-keeps = record { locks = locks; tries = tries; unlocks = unlocks; releases = releases }

module _ {K : Kind} (P : Part mutex_kind K) (f g : Kernel K) (s : Sys K) (i o : ℕ) (m : Mutex) where
  one-lock : (k : Call) {E F : Type 0} → (E → F → f s (invoke i o (P.call k)) ≡ g s (invoke i o (P.call k))) → Locks P f s i o m k E → Locks P g s i o m k F
      → f s (invoke i o (P.call k)) ≡ g s (invoke i o (P.call k))
  one-lock k t a b = go m.owner refl
    where
      go : (w : Owner) → m.owner ≡ w → f s (invoke i o (P.call k)) ≡ g s (invoke i o (P.call k))
      go nobody e = a.free e ∙ sym (b.free e)
      go (thread j) e =
          ⊎_elim
          (λ z. let y : m.owner ≡ thread i = e ∙ ap thread z in ⊎_elim (λ l. a.again y l ∙ sym (b.again y l)) (λ l. a.often y l ∙ sym (b.often y l))
          (under m.count max_count))
          (λ z. t (a.theirs j e z) (b.theirs j e z))
          (alike j i)

  module _ (w : formed m (any (s.queue o)) ≡ true) where
    -- an owner has a lock
    locked : m.owner ≡ thread i → 0 < m.count
    locked e = ltb-true 0 m.count (rw e at w)

    one-unlock : (k : Call) {E F : Type 0} → (E → F → f s (invoke i o (P.call k)) ≡ g s (invoke i o (P.call k))) → Unlocks P f s i o m k E
        → Unlocks P g s i o m k F
        → f s (invoke i o (P.call k)) ≡ g s (invoke i o (P.call k))
    one-unlock k t a b = go m.owner refl
      where
        at : m.owner ≡ thread i → m.count ≡ 1 → (q : List ℕ) → s.queue o ≡ q → f s (invoke i o (P.call k)) ≡ g s (invoke i o (P.call k))
        at y u [] z = a.last y u z ∙ sym (b.last y u z)
        at y u (x ∷ q) z = a.passed y u x q z ∙ sym (b.passed y u x q z)

        go : (x : Owner) → m.owner ≡ x → f s (invoke i o (P.call k)) ≡ g s (invoke i o (P.call k))
        go nobody e = a.free e ∙ sym (b.free e)
        go (thread j) e =
            ⊎_elim
            (λ z.
            let y : m.owner ≡ thread i = e ∙ ap thread z in
            ⊎_elim (λ l. t (a.nested y l) (b.nested y l)) (λ l. at y (let n : 0 < m.count = locked y in omega arith) (s.queue o) refl) (under 1 m.count))
            (λ z. a.theirs j e z ∙ sym (b.theirs j e z))
            (alike j i)

    mutex_fixes : (k : Call) → MutexRules P f s i o m → MutexRules P g s i o m → f s (invoke i o (P.call k)) ≡ g s (invoke i o (P.call k))
    mutex_fixes lock a b = one-lock lock (one-wait f g s i o (P.call lock) (P.wish tt)) a.locks b.locks
    mutex_fixes try_lock a b = one-lock try_lock (λ x y. x ∙ sym y) a.tries b.tries
    mutex_fixes unlock a b = one-unlock unlock (λ x y. x ∙ sym y) a.unlocks b.unlocks
    mutex_fixes release a b = one-unlock release (λ x y. x ∙ sym y) a.releases b.releases

-- it wakes from the front
passes-turn : (q : List ℕ) → InTurn (passes q)
passes-turn [] = tt
passes-turn (t ∷ q) = tt

locks-turn : (m : Mutex) (w : ℕ) (d : Verdict Mutex (Unit {0})) → InTurn d → InTurn (locking m w d)
locks-turn m w d h = in_turn (held m.owner) _ _ (in_turn (owns w m.owner) _ _ (in_turn (ltb m.count max_count) _ _ tt tt) h) tt

unlocks-turn : (m : Mutex) (w : ℕ) (q : List ℕ) (d : Verdict Mutex (Unit {0})) → InTurn d → InTurn (unlocking m w q d)
unlocks-turn m w q d h = in_turn (held m.owner) _ _ (in_turn (owns w m.owner) _ _ (in_turn (ltb 1 m.count) _ _ h (passes-turn q)) tt) tt

turnwise : Turnwise mutex_kind
turnwise m v q w lock = locks-turn m w (allow m (park tt) turn.waits) tt
turnwise m v q w try_lock = locks-turn m w (deny ebusy) tt
turnwise m v q w unlock = unlocks-turn m w q (allow (counting (m.count - 1) m) keep released) tt
turnwise m v q w release = unlocks-turn m w q (deny edeadlk) tt

pub mutex_sheet : Sheet mutexes
mutex_sheet =
    record {
      lawful = mutex_lawful;
      turnwise = turnwise;
      makes = makes;
      made = made;
      foreign = λ n v q w k e. absurd e;
      keeps = mutex-keeps;
      fixes = λ P f g s i o n k w a b e. mutex_fixes P f g s i o n w k a b;
    }
