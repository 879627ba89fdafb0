-- What a call can do to a mutex: seven moves, and no other. Assumes nothing.
use mathlib.Core.Path.{◌≡◌, refl, ap}
use mathlib.Core.Bool.{Bool, true, false, cond}
use mathlib.Core.List.{List, [], ◌∷◌, map}
use Prim.Native.Nat.{ℕ, suc, ◌-◌, ◌<◌}
use lib.Dec.{ltb, eqb}
use lib.IntN.{ℤ, pos, negsuc}
use lib.ListN.{length}
use borrow.Author.Tests.{ltb-true, eqb-true, eqb-false}
use Rattle.thread.specs.Code.{ok, eperm, ebusy, edeadlk, eoverflow}
use Rattle.store.specs.Store.{Reply, refuse, accept}
use Rattle.wait_queue.specs.Queue.{max_waiters, entry, ident, woken, holds, joined}
use Rattle.wait_queue.specs.Turn.{waits}
use Rattle.kind.specs.Verdict.{keep, park, Verdict, deny, allow}
use Rattle.kind.specs.Kind.{plain}
use Rattle.kind.specs.Object as object
use Rattle.kind.specs.Object.{Object, Caller, named, name, carried, code, fine, call}
use Rattle.mutex.specs.Mutex.{Owner, nobody, thread, Mutex, Call, lock, try_lock, unlock, release, max_count, released, unlocked, transferred, free, taken, counting, passes, decide, mutex_kind}
use Rattle.mutex.specs.History.{counts}
use Rattle.mutex.proofs.Law.{mk}

abbrev does : Mutex → ℤ → List ℕ → List ℕ → Reply (Object Mutex)
does m r q g = accept (record { num = m; queue = q }) r g

pub data Move (k : Call) (w : Caller) (s : Object Mutex) (y : Reply (Object Mutex)) : Type 0 where
  refuses : (r : ℕ) → y ≡ refuse (negsuc r) → Move k w s y
  -- it was free, and the caller owns it
  takes : s.num.owner ≡ nobody → y ≡ does (taken (name w)) ok s.queue [] → Move k w s y
  -- the owner locks it once more
  nests : s.num.owner ≡ thread (name w) → s.num.count < max_count → ((d : ℕ) → counts k ok d ≡ suc d)
      → y ≡ does (counting (suc s.num.count) s.num) ok s.queue [] → Move k w s y
  -- another waits
  joins : (i p st j : ℕ) → w ≡ object.thread i p st → s.num.owner ≡ thread j → (j ≡ i → ⊥) → y ≡ does s.num waits (joined (entry p i) s.queue) []
      → Move k w s y
  -- the owner gives one lock back, and keeps it
  unnests : s.num.owner ≡ thread (name w) → ((d : ℕ) → counts k released d ≡ d - 1)
      → y ≡ does (counting (s.num.count - 1) s.num) released s.queue [] → Move k w s y
  -- the owner lets go: it is free, or the first that waits owns it
  frees : s.num.owner ≡ thread (name w) → s.queue ≡ [] → y ≡ does free unlocked [] [] → Move k w s y
  hands : (x : ℕ) (t : List ℕ) → s.num.owner ≡ thread (name w) → s.queue ≡ x ∷ t → y ≡ does (taken (ident x)) transferred t (woken ok x ∷ []) → Move k w s y

-- the mutex of the owner o with the count c, for which q wait
abbrev pub whole : Owner → ℕ → List ℕ → Object Mutex
whole o c q = record { num = mk o c; queue = q }

-- what the verdict d does is a move
abbrev Moved : Call → Caller → Owner → ℕ → List ℕ → Verdict Mutex (Unit {0}) → Type 0
Moved k w o c q d = Move k w (whole o c q) (carried w d (whole o c q))

-- another's mutex
module _ (j c : ℕ) (q : List ℕ) where
  parks : (k : Call) (w : Caller) → (j ≡ name w → ⊥) → Moved k w (thread j) c q (allow (mk (thread j) c) (park tt) waits)
  parks k (named i) n = refuses 21 refl
  parks k (object.thread i p st) n = go (holds (ident (entry p i)) q) (ltb (length q) max_waiters) refl refl
    where
      go : (a b : Bool) → holds (ident (entry p i)) q ≡ a → ltb (length q) max_waiters ≡ b
          → Moved k (object.thread i p st) (thread j) c q (allow (mk (thread j) c) (park tt) waits)
      go true b x y = refuses 15 (rw x)
      go false true x y = joins i p st j refl refl n (rw (x, y))
      go false false x y = refuses 11 (rw (x, y))

  -- a lock of one that has an owner; d is the verdict on another's
  locked : (k : Call) (w : Caller) (d : Verdict Mutex (Unit {0})) → ((r : ℕ) → counts k ok r ≡ suc r) → ((j ≡ name w → ⊥) → Moved k w (thread j) c q d)
      → (a b : Bool) → eqb j (name w) ≡ a → ltb c max_count ≡ b
      → Moved k w (thread j) c q (cond a (cond b (allow (mk (thread j) (suc c)) keep ok) (deny eoverflow)) d)
  locked k w d h f true true x y = nests (ap thread (eqb-true j (name w) x)) (ltb-true c max_count y) h refl
  locked k w d h f true false x y = refuses 138 refl
  locked k w d h f false b x y = f (eqb-false j (name w) x)

  last : (k : Call) (w : Caller) → j ≡ name w → (l : List ℕ) → Moved k w (thread j) c l (passes (map ident l))
  last k w h [] = frees (ap thread h) refl refl
  last k w h (x ∷ t) = hands x t (ap thread h) refl refl

  -- an unlock; d is the verdict on a nested one
  unlocked_by_lem : (k : Call) (w : Caller) (d : Verdict Mutex (Unit {0})) → (j ≡ name w → Moved k w (thread j) c q d)
      → (a b : Bool) → eqb j (name w) ≡ a
      → Moved k w (thread j) c q (cond a (cond b d (passes (map ident q))) (deny eperm))
  unlocked_by_lem k w d f true true x = f (eqb-true j (name w) x)
  unlocked_by_lem k w d f true false x = last k w (eqb-true j (name w) x) q
  unlocked_by_lem k w d f false b x = refuses 0 refl

by-verdict : (w : Caller) (k : Call) (o : Owner) (c : ℕ) (q : List ℕ) → Moved k w o c q (decide (mk o c) plain (map ident q) (name w) k)
by-verdict w lock nobody c q = takes refl refl
by-verdict w lock (thread j) c q =
    locked j c q lock w (allow (mk (thread j) c) (park tt) waits) (λ d. refl) (parks j c q lock w) (eqb j (name w)) (ltb c max_count) refl refl
by-verdict w try_lock nobody c q = takes refl refl
by-verdict w try_lock (thread j) c q = locked j c q try_lock w (deny ebusy) (λ d. refl) (λ n. refuses 15 refl) (eqb j (name w)) (ltb c max_count) refl refl
by-verdict w unlock nobody c q = refuses 21 refl
by-verdict w unlock (thread j) c q =
    unlocked_by_lem j c q unlock w (allow (mk (thread j) (c - 1)) keep released) (λ h. unnests (ap thread h) (λ d. refl) refl) (eqb j (name w)) (ltb 1 c) refl
by-verdict w release nobody c q = refuses 21 refl
by-verdict w release (thread j) c q = unlocked_by_lem j c q release w (deny edeadlk) (λ h. refuses 44 refl) (eqb j (name w)) (ltb 1 c) refl

pub moves : (w : Caller) (k : Call) (s : Object Mutex) → fine mutex_kind s ≡ true → Move k w s (call mutex_kind plain w k s)
moves w k s f = go (code w) refl
  where
    go : (z : ℤ) → code w ≡ z → Move k w s (call mutex_kind plain w k s)
    go (pos n) z = rw (f, z) (by-verdict w k s.num.owner s.num.count s.queue)
    go (negsuc n) z = refuses n (rw (f, z))
