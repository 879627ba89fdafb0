-- What upstream's clauses leave out, or demand of the caller, our contracts force: the answers, who is woken, who waits. Assumes nothing.
use mathlib.Core.Path.{◌≡◌, refl}
use mathlib.Core.Bool.{Bool, true, false}
use mathlib.Core.List.{List, [], ◌∷◌, map}
use Prim.Native.Nat.{ℕ, suc, ◌-◌, ◌≤◌, ◌<◌}
use native.Mathlib.Omega.{arith}
use lib.Dec.{ltb, eqb}
use lib.IntN.{ℤ, pos, negsuc}
use lib.ListN.{length, get_or}
use borrow.Author.Tests.{lt-ltb, le-ltb, eq-eqb, ne_eqb}
use Rattle.thread.specs.Code.{ok, ebusy, einval, eoverflow}
use Rattle.thread.specs.Priority.{max_priority}
use Rattle.thread.specs.Caller.{caller_code}
use Rattle.thread.specs.Thread.{running}
use Rattle.wait_queue.specs.Queue.{ident, waiting, Well}
use Rattle.wait_queue.specs.Turn.{waits}
use Rattle.kind.specs.Verdict.{up_to, keep, wake, allow}
use Rattle.kind.specs.Kind.{plain}
use Rattle.kind.specs.Object as object
use Rattle.kind.specs.Object.{named, sane}
use Rattle.kind.specs.Effect.{Barred, Waits}
use Rattle.kind.proofs.Answers.{verdict}
use Rattle.kind.proofs.Forward.{caller_barred, refused-by, kept_by, nobody-told, woken-by, waits-by, start-refused}
use Rattle.mutex.specs.Mutex.{thread, lock, try_lock, unlock, max_count, released, unlocked, transferred, free, taken, counting, passes, mutex_kind}
use Rattle.mutex.specs.Post.{layout, Starts, TriesLock, Locks, Unlocks}
use Rattle.mutex.specs.Upstream.{Another, UnlockInFull}

-- a last unlock where somebody waits, or nobody
first : (q : List ℕ) → 0 < length q → passes (map ident q) ≡ allow (taken (ident (get_or q 0 0))) (wake (up_to 1) (λ t. ok)) transferred
first [] b = absurd (omega arith)
first (x ∷ q) b = refl

none : (q : List ℕ) → length q ≡ 0 → passes (map ident q) ≡ allow free keep unlocked
none [] z = refl
none (x ∷ q) z = absurd (omega arith)

-- memory and numbers are as they should be
module _ (h e : List ℕ) (s : sane mutex_kind layout h e ≡ true) (r : ℤ) (h' : List ℕ) where
  -- the same threads wait, in the same order
  pub try_lock-keeps : (i : ℕ) → TriesLock i h e r h' → waiting e (get_or h' 3 0) ≡ waiting e (get_or h 3 0)
  try_lock-keeps i d = go (ltb 0 (get_or h 0 0)) (eqb (get_or h 1 0) i) (ltb (get_or h 2 0) max_count) refl refl refl
    where
      stays : (c : ℤ) → Barred c h e r h' e → waiting e (get_or h' 3 0) ≡ waiting e (get_or h 3 0)
      stays c b = rw b.header

      go : (a b c : Bool) → ltb 0 (get_or h 0 0) ≡ a → eqb (get_or h 1 0) i ≡ b → ltb (get_or h 2 0) max_count ≡ c → waiting e (get_or h' 3 0) ≡ waiting e (get_or h 3 0)
      go false b c f o m = (kept_by mutex_kind layout plain (named i) try_lock h e s r h' e 0 refl (taken i) ok (rw f) d.0).queue
      go true false c f o m = stays ebusy (refused-by mutex_kind layout plain (named i) try_lock h e s r h' e 0 refl d.0 ebusy (rw (f, o)))
      go true true false f o m = stays eoverflow (refused-by mutex_kind layout plain (named i) try_lock h e s r h' e 0 refl d.0 eoverflow (rw (f, o, m)))
      go true true true f o m =
          (kept_by mutex_kind layout plain (named i) try_lock h e s r h' e 0 refl (counting (suc (get_or h 2 0)) (layout.num h)) ok (rw (f, o, m)) d.0).queue

  -- lock_blocking: a priority above 31, a thread that waits already or does not run
  pub lock-caller-refuses : (i p st k : ℕ) (e' : List ℕ) → caller_code p st ≡ negsuc k → Locks i p st h e r h' e' → Barred (negsuc k) h e r h' e'
  lock-caller-refuses i p st k e' z d = caller_barred mutex_kind layout plain (object.thread i p st) lock h e s r h' e' d.0 k z

  -- its own, with as many locks as can be
  pub lock-overflow-refuses : (i p st k : ℕ) (e' : List ℕ) → caller_code p st ≡ pos k → (layout.num h).owner ≡ thread i → get_or h 2 0 ≡ max_count
      → Locks i p st h e r h' e' → Barred eoverflow h e r h' e'
  lock-overflow-refuses i p st k e' z o c d =
      let b : max_count ≤ get_or h 2 0 = omega arith in
      refused-by mutex_kind layout plain (object.thread i p st) lock h e s r h' e' k z d.0 eoverflow
      (rw (o, eq-eqb i i refl, le-ltb (get_or h 2 0) max_count b))

  -- for another's it waits
  pub mutex-waits : (i p : ℕ) (e' : List ℕ) → i < 4294967296 → p < max_priority → Another i (layout.num h).owner → Locks i p running h e r h' e'
      → Waits i p (layout.num h) (waiting e (get_or h 3 0)) h e r (layout.num h') (waiting e' (get_or h' 3 0)) h' e'
  mutex-waits i p e' small valid a d =
      waits-by mutex_kind layout plain i p lock h e s tt waits (rw (a.is, ne_eqb a.who i a.other)) r h' e' d.0 small valid

  pub mutex-unlocks : (i : ℕ) → Well (waiting e (get_or h 3 0)) → (w w' : ℕ) → Unlocks i h e w r h' w'
      → UnlockInFull i (layout.num h) (waiting e (get_or h 3 0)) w r (layout.num h') (waiting e (get_or h' 3 0)) w'
  mutex-unlocks i g w w' d =
      record {
        nested = λ o k.
            let y : verdict mutex_kind layout plain (named i) unlock h e ≡ allow (counting (get_or h 2 0 - 1) (layout.num h)) keep released =
            rw (o, eq-eqb i i refl, lt-ltb 1 (get_or h 2 0) k) in (
              kept_by mutex_kind layout plain (named i) unlock h e s r h' e 0 refl _ released y d.0.0,
              nobody-told mutex_kind layout plain (named i) unlock h e s r h' e 0 refl _ released y w w' d.0.1,
            );
        passed = λ o k z.
            let b : get_or h 2 0 ≤ 1 = omega arith in
            let n = taken (ident (get_or (waiting e (get_or h 3 0)) 0 0)) in
            let y : verdict mutex_kind layout plain (named i) unlock h e ≡ allow n (wake (up_to 1) (λ t. ok)) transferred =
            rw (o, eq-eqb i i refl, le-ltb 1 (get_or h 2 0) b) (first (waiting e (get_or h 3 0)) z) in
            woken-by mutex_kind layout plain (named i) unlock h e s r h' e 0 refl n ok transferred y z w w' g d.0.0 d.0.1;
        last = λ o k z.
            let b : get_or h 2 0 ≤ 1 = omega arith in
            let y : verdict mutex_kind layout plain (named i) unlock h e ≡ allow free keep unlocked =
            rw (o, eq-eqb i i refl, le-ltb 1 (get_or h 2 0) b) (none (waiting e (get_or h 3 0)) z) in (
              kept_by mutex_kind layout plain (named i) unlock h e s r h' e 0 refl _ unlocked y d.0.0,
              nobody-told mutex_kind layout plain (named i) unlock h e s r h' e 0 refl _ unlocked y w w' d.0.1,
            );
      }

-- a header of fewer than four words
pub init-refuses : (h : List ℕ) (r : ℤ) (h' : List ℕ) → length h < 4 → Starts h r h' → (r ≡ einval) × (h' ≡ h)
init-refuses h r h' k s = start-refused mutex_kind layout free h r h' s.0 k
