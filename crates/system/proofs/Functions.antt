-- Each function of the four objects: by its contract, what it does to an object's memory is the step of any system that has such objects. Assumes
-- nothing.
use mathlib.Core.Path.{◌≡◌, refl, sym, ap}
use mathlib.Core.Bool.{true, false}
use mathlib.Core.List.{List, [], ◌∷◌, map}
use Prim.Native.Nat.{ℕ, ◌≤◌}
use native.Mathlib.Omega.{arith}
use lib.Dec.{eqb, ltb}
use lib.IntN.{ℤ}
use lib.ListN.{length, length-map}
use Rattle.seq.specs.Word.{word}
use Rattle.seq.specs.List.{any}
use Rattle.thread.specs.Code.{ok, eagain, ebusy}
use Rattle.wait_queue.specs.Queue.{ident}
use Rattle.wait_queue.specs.Turn.{waits}
use Rattle.kind.specs.Verdict.{park, Verdict, deny, allow}
use Rattle.kind.specs.Kind.{Kind, Lawful, plain}
use Rattle.sem.specs.Sem as sem
use Rattle.sem.specs.Sem.{Sem, sem_kind}
use Rattle.sem.specs.Post as semaphore
use Rattle.mutex.specs.Mutex as mutex
use Rattle.mutex.specs.Mutex.{Mutex, max_count, held, owns, passes, locks, unlocks, mutex_kind}
use Rattle.mutex.specs.Post as lock
use Rattle.condvar.specs.Condvar as condvar
use Rattle.condvar.specs.Condvar.{condvar_kind}
use Rattle.condvar.specs.Post as condition
use Rattle.futex.specs.Futex as futex
use Rattle.futex.specs.Futex.{Futex, futex_kind}
use Rattle.futex.specs.Post as value
use Rattle.system.specs.Part.{Part}
use Rattle.system.specs.Functions.{nobody, single, everyone, only_at, SemFn, give, try_take, take_blocking, reset, sem_fn, MutexFn, try_lock}
use Rattle.system.specs.Functions.{lock_blocking, unlock, mutex_fn, CondvarFn, signal, broadcast, condvar_fn, FutexFn, wait, wake, val_set}
use Rattle.system.specs.Functions.{wake_room, futex_fn}
use Rattle.system.specs.Link.{signed, Links}
use Rattle.system.proofs.Sheets.{Fits}
use Rattle.system.proofs.Woken.{Within, within}
use Rattle.system.proofs.Fates.{Unparked, unparked, Fated, fated}
use Rattle.system.proofs.Callers.{by-thread, by_name, by_word, by_slice}

-- none of these calls makes the caller wait
passes_unparked : (q : List ℕ) → Unparked (passes q)
passes_unparked [] = tt
passes_unparked (x ∷ q) = tt

locks_unparked : (n : Mutex) (w : ℕ) (d : Verdict Mutex (Unit {0})) → Unparked d → Unparked (locks n w d)
locks_unparked n w d x = unparked (held n.owner) _ _ (unparked (owns w n.owner) _ _ (unparked (ltb n.count max_count) _ _ tt tt) x) tt

pub unlocks_unparked : (n : Mutex) (w : ℕ) (q : List ℕ) (d : Verdict Mutex (Unit {0})) → Unparked d → Unparked (unlocks n w q d)
unlocks_unparked n w q d x =
    unparked (held n.owner) _ _ (unparked (owns w n.owner) _ _ (unparked (ltb 1 n.count) _ _ x (passes_unparked q)) tt) tt

-- whom they wake, and what they are answered: nobody; the first, if there is one; all
locks-within : (n : Mutex) (w : ℕ) (q : List ℕ) (d : Verdict Mutex (Unit {0})) → Within nobody nobody q d → Within nobody nobody q (locks n w d)
locks-within n w q d x =
    within nobody nobody q (held n.owner) _ _
    (within nobody nobody q (owns w n.owner) _ _ (within nobody nobody q (ltb n.count max_count) _ _ refl refl) x) refl

locks_fated : (n : Mutex) (w : ℕ) → Fated true (locks n w (allow n (park tt) waits))
locks_fated n w =
    fated true (held n.owner) _ _ (fated true (owns w n.owner) _ _ (fated true (ltb n.count max_count) _ _ (λ o x. refl) (λ o x. refl)) refl)
    (λ o x. refl)

passes-within : (q : List ℕ) → Within single (only_at 2) q (passes (map ident q))
passes-within [] = refl
passes-within (x ∷ q) = (omega arith, refl, λ t. refl)

pub unlocks-within : (n : Mutex) (w : ℕ) (q : List ℕ) (d : Verdict Mutex (Unit {0})) → Within single (only_at 2) q d
    → Within single (only_at 2) q (unlocks n w (map ident q) d)
unlocks-within n w q d x =
    within single (only_at 2) q (held n.owner) _ _
    (within single (only_at 2) q (owns w n.owner) _ _ (within single (only_at 2) q (ltb 1 n.count) _ _ x (passes-within q)) refl) refl

gives-within : (n : Sem) (q : List ℕ) (i : ℕ) → Within single (sem_fn give).wrote q (sem.decide n plain (map ident q) i sem.give)
gives-within n [] i = within single (sem_fn give).wrote [] (ltb n.count n.limit) _ _ refl refl
gives-within n (x ∷ q) i = (omega arith, refl, λ t. refl)

gives_unparked : (n : Sem) (q : List ℕ) → Unparked (sem.decide n plain q 0 sem.give)
gives_unparked n q = unparked (any q) _ _ tt (unparked (ltb n.count n.limit) _ _ tt tt)

signals-within : (q : List ℕ) (i : ℕ) → Within single everyone q (condvar.decide tt plain (map ident q) i condvar.signal)
signals-within [] i = refl
signals-within (x ∷ q) i = (omega arith, refl, λ t. refl)

wakes-within : (n : Futex) (q : List ℕ) (i : ℕ) → Within (wake_room false) everyone q (futex.decide n plain (map ident q) i futex.wake_one)
wakes-within n [] i = refl
wakes-within n (x ∷ q) i = (omega arith, refl, λ t. refl)

all-within : (q : List ℕ) (r : ℤ) → signed (word r) ≡ r → (length q ≤ length q) × (length q ≡ length (map ident q)) × ((t : ℕ) → signed (word r) ≡ r)
all-within q r e = (omega arith, sym (length-map q ident), λ t. e)

module _ {K : Kind} (law : Lawful K) where
  pub sem_links : (P : Part sem_kind K) → Fits P → (f : SemFn) → Links P semaphore.layout (sem_fn f)
  sem_links P fits give s g i o u is c d =
      let n = (semaphore.layout).num u.before.header in
      by_word law P fits semaphore.layout sem.give single (sem_fn give).wrote s g i o u is (gives-within n (s.queue o) i) 0 (c.runs refl) refl
      (gives_unparked n (map ident (s.queue o))) (omega arith) d.who d.who' d.does d.entries d.lent d.filled
  sem_links P fits try_take s g i o u is c d =
      let n = (semaphore.layout).num u.before.header in
      by_name law P fits semaphore.layout sem.try_take nobody nobody s g i o u is (within nobody nobody (s.queue o) (ltb 0 n.count) _ _ refl refl) 0
      (c.runs refl) refl (unparked (ltb 0 n.count) _ _ tt tt) (omega arith)
      d.does d.entries d.lent d.filled
  sem_links P fits take_blocking s g i o u is c d =
      let n = (semaphore.layout).num u.before.header in
      by-thread law P fits semaphore.layout sem.take nobody nobody s g i o u is (within nobody nobody (s.queue o) (ltb 0 n.count) _ _ refl refl)
      (fated true (ltb 0 n.count) _ _ (λ o x. refl) refl) c.told (omega arith) d.does d.lent d.filled
  sem_links P fits reset s g i o u is c d =
      by_slice law P fits semaphore.layout sem.reset everyone everyone s g i o u is (all-within (s.queue o) eagain refl) 0 (c.runs refl) refl tt c.room
      d.does d.entries

  pub mutex-links : (P : Part mutex_kind K) → Fits P → (f : MutexFn) → Links P lock.layout (mutex_fn f)
  mutex-links P fits try_lock s g i o u is c d =
      let n = (lock.layout).num u.before.header in
      by_name law P fits lock.layout mutex.try_lock nobody nobody s g i o u is (locks-within n i (s.queue o) (deny ebusy) refl) u.id (c.runs refl)
      (ap (λ (j : ℕ). locks ((lock.layout).num u.before.header) j (deny ebusy)) (sym c.told.id)) (locks_unparked n u.id (deny ebusy) tt)
      (omega arith) d.does.0 d.entries d.lent d.filled
  mutex-links P fits lock_blocking s g i o u is c d =
      by-thread law P fits lock.layout mutex.lock nobody nobody s g i o u is (locks-within ((lock.layout).num u.before.header) i (s.queue o) _ refl)
      (locks_fated ((lock.layout).num u.before.header) i) c.told (omega arith) d.does.0 d.lent d.filled
  mutex-links P fits unlock s g i o u is c d =
      by_word law P fits lock.layout mutex.unlock single (only_at 2) s g i o u is (unlocks-within ((lock.layout).num u.before.header) i (s.queue o) _ refl)
      u.id (c.runs refl)
      (ap (λ (j : ℕ). mutex.decide ((lock.layout).num u.before.header) plain (map ident (s.queue o)) j mutex.unlock) (sym c.told.id))
      (unlocks_unparked ((lock.layout).num u.before.header) u.id (map ident (s.queue o)) _ tt) (omega arith)
      d.who d.who' d.does.0 d.entries d.lent d.filled

  pub condvar_links : (P : Part condvar_kind K) → Fits P → (f : CondvarFn) → Links P condition.layout (condvar_fn f)
  condvar_links P fits signal s g i o u is c d =
      by_word law P fits condition.layout condvar.signal single everyone s g i o u is (signals-within (s.queue o) i) 0 (c.runs refl) refl
      (unparked (any (map ident (s.queue o))) _ _ tt tt) (omega arith) d.who d.who' d.does d.entries d.lent d.filled
  condvar_links P fits broadcast s g i o u is c d =
      by_slice law P fits condition.layout condvar.broadcast everyone everyone s g i o u is (all-within (s.queue o) ok refl) 0 (c.runs refl) refl tt
      c.room d.does d.entries

  pub futex-links : (P : Part futex_kind K) → Fits P → (f : FutexFn) → Links P value.layout (futex_fn f)
  futex-links P fits (wait x) s g i o u is c d =
      by-thread law P fits value.layout (futex.wait x) nobody nobody s g i o u is
      (within nobody nobody (s.queue o) (eqb ((value.layout).num u.before.header).val x) _ _ refl refl)
      (fated true (eqb ((value.layout).num u.before.header).val x) _ _ refl (λ o x. refl)) c.told (omega arith) d.does
      d.lent d.filled
  futex-links P fits (wake true) s g i o u is c d =
      by_slice law P fits value.layout futex.wake_all (wake_room true) everyone s g i o u is (all-within (s.queue o) ok refl) 0 (c.runs refl) refl tt
      c.room d.does d.entries
  futex-links P fits (wake false) s g i o u is c d =
      by_slice law P fits value.layout futex.wake_one (wake_room false) everyone s g i o u is
      (wakes-within ((value.layout).num u.before.header) (s.queue o) i) 0
      (c.runs refl) refl (unparked (any (map ident (s.queue o))) _ _ tt tt) c.room d.does d.entries
  futex-links P fits (val_set x) s g i o u is c d =
      by_name law P fits value.layout (futex.set x) nobody nobody s g i o u is refl 0 (c.runs refl) refl tt (omega arith) d.does d.entries d.lent d.filled
