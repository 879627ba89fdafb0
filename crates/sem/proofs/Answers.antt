-- How the answers that search does not find meet the semaphore's definition. Assumes nothing.
use mathlib.Core.Path.{◌≡◌, refl, ◌∙◌}
use mathlib.Core.Bool.{true, false}
use mathlib.Core.List.{List, [], ◌∷◌}
use Prim.Native.Nat.{ℕ, zero, suc, ◌≤◌, ◌<◌}
use native.Mathlib.Omega.{arith}
use lib.Dec.{ltb}
use lib.IntN.{ℤ, pos}
use lib.ListN.{length, get_or, set}
use borrow.Author.Tests.{lt-ltb, le-ltb}
use Rattle.seq.proofs.Words.{spell}
use Rattle.thread.specs.Code.{ok, eagain, einval, code}
use Rattle.thread.specs.declared.Errno.{Errno}
use Rattle.thread.specs.declared.Errno.TheVariants as errno
use Rattle.store.specs.Store.{answer}
use Rattle.store.proofs.Laws.{refuses-place, answers}
use Rattle.wait_queue.specs.Queue.{waiting}
use Rattle.wait_queue.specs.Turn.{wait_queue, unpend_first}
use Rattle.wait_queue.specs.Post.{Pends, UnpendsFirst, UnpendsAll}
use Rattle.kind.specs.Verdict.{everybody, wake, allow}
use Rattle.kind.specs.Kind.{plain}
use Rattle.kind.specs.Object.{anyone, sane}
use Rattle.kind.proofs.Memory.{Header, is-sane, malformed}
use Rattle.kind.proofs.Answers.{any-line, length-line, verdict, wakes, no_place, wakes-all, fitting_no, waits-now}
use Rattle.sem.specs.Sem.{give, take, reset, counting, woke, sem_kind}
use Rattle.sem.specs.Post.{layout, place, reset_out, Gives, Takes, Resets}
use Rattle.sem.proofs.Law.{fine-is}

-- the words of the header
module _ (h : List ℕ) (k : 3 ≤ length h) where
  pub len-kept : (x : ℕ) → get_or (set h 0 x) 2 0 ≡ get_or h 2 0
  len-kept x = rw (spell 3 h k) refl

  num-kept : (x : ℕ) → layout.num (set h 2 x) ≡ layout.num h
  num-kept x = rw (spell 3 h k) refl

  -- another length
  fewer : (x : ℕ) → Header layout h (layout.num h) x (set h 2 x)
  fewer x = rw (spell 3 h k) (record { num = refl; len = refl; beside = refl; long = refl })

  cleared : (x : ℕ) → Header layout h (counting 0 (layout.num h)) x (set (set h 0 0) 2 x)
  cleared x = rw (spell 3 h k) (record { num = refl; len = refl; beside = refl; long = refl })

-- a refusal is answered below 0
pub refusal : (x : Errno) (n : ℕ) → code x ≡ pos n → ⊥
refusal errno.EPERM n z = cc
refusal errno.ENOENT n z = cc
refusal errno.EBADF n z = cc
refusal errno.EAGAIN n z = cc
refusal errno.ENOMEM n z = cc
refusal errno.EBUSY n z = cc
refusal errno.EINVAL n z = cc
refusal errno.ENOSPC n z = cc
refusal errno.EPIPE n z = cc
refusal errno.ENOMSG n z = cc
refusal errno.EDEADLK n z = cc
refusal errno.EADDRINUSE n z = cc
refusal errno.EALREADY n z = cc
refusal errno.ETIMEDOUT n z = cc
refusal errno.EOVERFLOW n z = cc
refusal errno.ECANCELED n z = cc

one_of : (n : ℕ) (e : List ℕ) → 0 < n → answer (unpend_first ok (waiting e n)) ≡ pos 1
one_of zero e b = absurd (omega arith)
one_of (suc n) e b = refl

module _ (h e : List ℕ) where
  pub cleared_no : (out : List ℕ) → sane sem_kind layout h e ≡ false → Resets h e out einval h out
  cleared_no out s =
      refuses-place place (reset_out (length out)) h e
      (malformed sem_kind layout h e (reset_out (length out)) (fitting_no sem_kind plain anyone reset (length out)) s) out

  -- the thread waits, whatever the queue says
  pub took-turn : (i p st : ℕ) → 3 ≤ length h → get_or h 0 0 ≡ 0 → 0 < get_or h 1 0 → (r : ℤ) (m : ℕ) (e' : List ℕ) → Pends i p st (get_or h 2 0) e r m e'
      → Takes i p st h e r (set h 2 m) e'
  took-turn i p st w y k r m e' d =
      let c : get_or h 0 0 ≤ 0 = omega arith in
      waits-now sem_kind layout plain i p st take h e tt (pos 1) r m e' w
      (fine-is (get_or h 0 0) (get_or h 1 0) (ltb 0 (get_or h 2 0)) k (omega arith) (λ q. y)) (rw (le-ltb 0 (get_or h 0 0) c)) d (num-kept h w m)

  module _ (s : sane sem_kind layout h e ≡ true) where
    pub words : 3 ≤ length h
    words = (is-sane sem_kind layout h e s).housed.words

    -- one that waits is woken
    module _ (z : 0 < get_or h 2 0) (w w' : ℕ) (k : ℕ) where
      pub gave_woke : (r : ℤ) → UnpendsFirst ok (get_or h 2 0) e w r k w' → Gives h e w woke (set h 2 k) w'
      gave_woke r d =
          wakes sem_kind layout plain anyone give h e s 0 refl (layout.num h) ok woke (rw (any-line e (get_or h 2 0), lt-ltb 0 (get_or h 2 0) z)) z (set h 2 k) r k w w' d
          (fewer h words k)

      woken-one : (r : ℤ) → UnpendsFirst ok (get_or h 2 0) e w r k w' → r ≡ pos 1
      woken-one r d =
          answers wait_queue (unpend_first ok) (get_or h 2 0 ∷ []) e d.0 (is-sane sem_kind layout h e s).housed.room ∙ one_of (get_or h 2 0) e z

      pub none-woken : UnpendsFirst ok (get_or h 2 0) e w (pos 0) k w' → ⊥
      none-woken d = let y : ◌≡◌ {A = ℤ} (pos 0) (pos 1) = woken-one (pos 0) d in cc

      pub not-refused : (x : Errno) → UnpendsFirst ok (get_or h 2 0) e w (code x) k w' → ⊥
      not-refused x d = refusal x 1 (woken-one (code x) d)

    module _ (out : List ℕ) where
      resets : verdict sem_kind layout plain anyone reset h e ≡ allow (counting 0 (layout.num h)) (wake everybody (λ t. eagain)) (pos (length (waiting e (get_or h 2 0))))
      resets = rw (length-line e (get_or h 2 0))

      pub cleared-short : length out < get_or h 2 0 → Resets h e out einval h out
      cleared-short z = no_place sem_kind layout plain anyone reset h e s 0 refl (counting 0 (layout.num h)) eagain resets out z

      pub cleared-all : (r : ℤ) (k : ℕ) (out' : List ℕ) → get_or h 2 0 ≤ length out → UnpendsAll eagain (get_or h 2 0) e out r k out'
          → Resets h e out r (set (set h 0 0) 2 k) out'
      cleared-all r k out' z d =
          wakes-all sem_kind layout plain anyone reset h e s 0 refl (counting 0 (layout.num h)) eagain resets out (set (set h 0 0) 2 k) r k out' z d (cleared h words k)
