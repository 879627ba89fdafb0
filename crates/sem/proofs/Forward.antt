-- What upstream's clauses leave out, or demand of the caller, our contracts force: the answers, who is woken, who waits. Assumes nothing.
use mathlib.Core.Path.{◌≡◌, refl, sym, ◌∙◌}
use mathlib.Core.Bool.{Bool, true, false}
use mathlib.Core.List.{List, [], ◌∷◌, map}
use Prim.Native.Nat.{ℕ, suc, ◌-◌, ◌≤◌, ◌<◌}
use native.Mathlib.Omega.{arith}
use lib.Dec.{ltb}
use lib.IntN.{ℤ, pos, negsuc}
use lib.ListN.{length, get_or}
use borrow.Author.Tests.{lt-ltb, le-ltb}
use Rattle.seq.specs.List.{any}
use Rattle.thread.specs.Code.{ok, eagain, ebusy, einval}
use Rattle.thread.specs.Priority.{max_priority}
use Rattle.thread.specs.Caller.{caller_code}
use Rattle.thread.specs.Thread.{running}
use Rattle.store.specs.Store.{Did}
use Rattle.store.proofs.Laws.{did_alike}
use Rattle.wait_queue.specs.Queue.{ident, waiting, Well}
use Rattle.wait_queue.specs.Turn.{waits}
use Rattle.kind.specs.Verdict.{up_to, everybody, keep, wake, allow}
use Rattle.kind.specs.Kind.{plain}
use Rattle.kind.specs.Object.{anyone, thread, sane}
use Rattle.kind.specs.Effect.{Barred, Waits}
use Rattle.kind.proofs.Answers.{length-line, verdict, call-is}
use Rattle.kind.proofs.Forward.{caller_barred, refused-by, kept_by, nobody-told, woken-by, all-woken-by, short-by, waits-by, start-refused}
use Rattle.sem.specs.Sem.{give, take, try_take, reset, woke, incremented, saturated, counting, sem_kind}
use Rattle.sem.specs.Post.{layout, place, try_take_out, take_out, Starts, Gives, TriesTake, Takes, Resets}
use Rattle.sem.specs.Upstream.{GiveInFull, ResetInFull}

-- somebody waits, or nobody
some_one : (q : List ℕ) → 0 < length q → any (map ident q) ≡ true
some_one [] b = absurd (omega arith)
some_one (x ∷ q) b = refl

none : (q : List ℕ) → length q ≡ 0 → any (map ident q) ≡ false
none [] z = refl
none (x ∷ q) z = absurd (omega arith)

-- memory and numbers are as they should be
module _ (h e : List ℕ) (s : sane sem_kind layout h e ≡ true) (r : ℤ) (h' : List ℕ) where
  pub sem_gives : Well (waiting e (get_or h 2 0)) → (w w' : ℕ) → Gives h e w r h' w'
      → GiveInFull (layout.num h) (waiting e (get_or h 2 0)) w r (layout.num h') (waiting e (get_or h' 2 0)) w'
  sem_gives g w w' d =
      record {
        wakes = λ b.
            let y : verdict sem_kind layout plain anyone give h e ≡ allow (layout.num h) (wake (up_to 1) (λ t. ok)) woke =
            rw (some_one (waiting e (get_or h 2 0)) b) in
            woken-by sem_kind layout plain anyone give h e s r h' e 0 refl (layout.num h) ok woke y b w w' g d.0 d.1;
        increments = λ z k.
            let y : verdict sem_kind layout plain anyone give h e ≡ allow (counting (suc (get_or h 0 0)) (layout.num h)) keep incremented =
            rw (none (waiting e (get_or h 2 0)) z, lt-ltb (get_or h 0 0) (get_or h 1 0) k) in (
              kept_by sem_kind layout plain anyone give h e s r h' e 0 refl _ incremented y d.0,
              nobody-told sem_kind layout plain anyone give h e s r h' e 0 refl _ incremented y w w' d.1,
            );
        saturates = λ z k.
            let y : verdict sem_kind layout plain anyone give h e ≡ allow (layout.num h) keep saturated =
            rw (none (waiting e (get_or h 2 0)) z, le-ltb (get_or h 0 0) (get_or h 1 0) k) in (
              kept_by sem_kind layout plain anyone give h e s r h' e 0 refl _ saturated y d.0,
              nobody-told sem_kind layout plain anyone give h e s r h' e 0 refl _ saturated y w w' d.1,
            );
      }

  -- the same threads wait, in the same order
  pub try_take-keeps : TriesTake h e r h' → waiting e (get_or h' 2 0) ≡ waiting e (get_or h 2 0)
  try_take-keeps d = go (ltb 0 (get_or h 0 0)) refl
    where
      go : (b : Bool) → ltb 0 (get_or h 0 0) ≡ b → waiting e (get_or h' 2 0) ≡ waiting e (get_or h 2 0)
      go true y = (kept_by sem_kind layout plain anyone try_take h e s r h' e 0 refl (counting (get_or h 0 0 - 1) (layout.num h)) ok (rw y) d).queue
      go false y = rw (refused-by sem_kind layout plain anyone try_take h e s r h' e 0 refl d ebusy (rw y)).header

  -- take_blocking: a priority above 31, a thread that waits already or does not run
  pub take-caller-refuses : (i p st k : ℕ) (e' : List ℕ) → caller_code p st ≡ negsuc k → Takes i p st h e r h' e' → Barred (negsuc k) h e r h' e'
  take-caller-refuses i p st k e' z d = caller_barred sem_kind layout plain (thread i p st) take h e s r h' e' d k z

  -- upstream demands a count of 0; of what is there the thread takes one, as by try_take
  pub take-takes : (i p st k : ℕ) (e' : List ℕ) → caller_code p st ≡ pos k → 0 < get_or h 0 0 → Takes i p st h e r h' e' → Did place try_take_out h e r h' e'
  take-takes i p st k e' z b d =
      let v = allow (counting (get_or h 0 0 - 1) (layout.num h)) keep ok in
      did_alike place (take_out i p st) try_take_out h e
      (call-is sem_kind layout plain (thread i p st) take h e s k z v (rw (lt-ltb 0 (get_or h 0 0) b))
      ∙ sym (call-is sem_kind layout plain anyone try_take h e s 0 refl v (rw (lt-ltb 0 (get_or h 0 0) b)))) d

  -- with a count of 0 it waits
  pub sem_waits : (i p : ℕ) (e' : List ℕ) → i < 4294967296 → p < max_priority → get_or h 0 0 ≡ 0 → Takes i p running h e r h' e'
      → Waits i p (layout.num h) (waiting e (get_or h 2 0)) h e r (layout.num h') (waiting e' (get_or h' 2 0)) h' e'
  sem_waits i p e' small valid z d =
      let y : get_or h 0 0 ≤ 0 = omega arith in
      waits-by sem_kind layout plain i p take h e s tt waits (rw (le-ltb 0 (get_or h 0 0) y)) r h' e' d small valid

  pub sem_resets : (out out' : List ℕ) → Resets h e out r h' out'
      → ResetInFull (layout.num h) (waiting e (get_or h 2 0)) h e out r (layout.num h') (waiting e (get_or h' 2 0)) h' e out'
  sem_resets out out' d =
      let a = pos (length (waiting e (get_or h 2 0))) in
      let y : verdict sem_kind layout plain anyone reset h e ≡ allow (counting 0 (layout.num h)) (wake everybody (λ t. eagain)) a =
      rw (length-line e (get_or h 2 0)) in
      record {
        all = λ k. all-woken-by sem_kind layout plain anyone reset h e s r h' e 0 refl _ eagain _ y out out' k d.0 d.1;
        short = λ k. short-by sem_kind layout plain anyone reset h e s r h' e 0 refl _ eagain _ y out out' k d.0 d.1;
      }

-- a header of fewer than three words
pub init-refuses : (c l : ℕ) (h : List ℕ) (r : ℤ) (h' : List ℕ) → length h < 3 → Starts c l h r h' → (r ≡ einval) × (h' ≡ h)
init-refuses c l h r h' k s = start-refused sem_kind layout (record { count = c; limit = l }) h r h' s k
