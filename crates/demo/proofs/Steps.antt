-- What the calls do to a semaphore whose numbers and queue are known. Assumes nothing.
use mathlib.Core.Path.{◌≡◌, refl, ap, ◌∙◌}
use mathlib.Core.Bool.{true, false}
use mathlib.Core.List.{List}
use Prim.Native.Nat.{ℕ, ◌≤◌}
use native.Mathlib.Omega.{arith}
use lib.Dec.{leb}
use lib.IntN.{ℤ, pos}
use lib.ListN.{length, get_or}
use borrow.Author.Tests.{le-leb, leb-true}
use Rattle.seq.proofs.Back.{back-length}
use Rattle.std.specs.Prelude.{Result, Ok, Err}
use Rattle.thread.specs.Answer.{told, kept, done as nothing}
use Rattle.thread.specs.Code.{ok, ebusy, einval, code}
use Rattle.thread.specs.declared.Errno.{Errno}
use Rattle.thread.specs.declared.Errno.TheVariants as errno
use Rattle.store.specs.Store.{Reply, answer, left, reply, Did}
use Rattle.store.proofs.Laws.{replies, answers}
use Rattle.store.proofs.Histories.{done}
use Rattle.wait_queue.specs.Queue.{max_waiters}
use Rattle.wait_queue.specs.Turn.{waits, outcome}
use Rattle.wait_queue.specs.declared.Outcome.{Outcome}
use Rattle.wait_queue.specs.declared.Outcome.TheVariants.{Acquired, Blocked}
use Rattle.wait_queue.proofs.Memory.{is-roomy}
use Rattle.kind.specs.Object.{Object}
use Rattle.kind.proofs.Memory.{Housed, housed-formed, is-housed}
use Rattle.kind.proofs.Forward.{opened-code}
use Rattle.sem.specs.Sem.{Sem, formed, woke, incremented, saturated, gave, handed, sem_kind}
use Rattle.sem.specs.declared.GiveResult.{GiveResult}
use Rattle.sem.specs.declared.GiveResult.TheVariants.{WokeThread, Incremented, Saturated}
use Rattle.sem.specs.Post.{layout, place, Starts}
use Rattle.sem.specs.History.{fresh}
use Rattle.sem.proofs.Answers.{refusal}
use Rattle.demo.specs.Run.{Is}

-- the memory of a semaphore that is s
is_now : {s : Object Sem} {h e : List ℕ} → place.formed h e ≡ true → place.object h e ≡ s → Is s h e
is_now {h = h} {e} f o =
    let m = is-housed layout h e f in
    record { words = m.words; room = (is-roomy (get_or h 2 0) e m.room).room; num = ap (λ (x : Object Sem). x.num) o; queue = ap (λ (x : Object Sem). x.queue) o }

pub record Step (f : Object Sem → Reply (Object Sem)) (s : Object Sem) (h e : List ℕ) (r : ℤ) (h' e' : List ℕ) : Type 0 where
  pub does : reply place f h e ≡ f s
  pub code : r ≡ answer (f s)
  pub is : Is (left (f s) s) h' e'

pub step : {s : Object Sem} {h e : List ℕ} {r : ℤ} {h' e' : List ℕ} → Is s h e → leb (length s.queue) max_waiters ≡ true
    → (f : Object Sem → Reply (Object Sem)) → Did place f h e r h' e' → Step f s h e r h' e'
step {s} {h} {e} i short f d =
    let few : get_or h 2 0 ≤ max_waiters = omega (arith, back-length e (get_or h 2 0), ap length i.queue, leb-true (length s.queue) max_waiters short) in
    let m : Housed layout h e = record { words = i.words; room = rw (le-leb (get_or h 2 0) max_waiters few, le-leb max_waiters (length e) i.room) } in
    let g = housed-formed layout h e m in
    let o : place.object h e ≡ s = λ j. record { num = i.num j; queue = i.queue j } in
    let t = done place f h e g d in
    record {
      does = replies place f h e g ∙ ap f o;
      code = answers place f h e d g ∙ ap (λ (x : Object Sem). answer (f x)) o;
      is = is_now t.0 (t.1 ∙ ap (λ (x : Object Sem). left (f x) x) o);
    }

module _ {c l : ℕ} {h : List ℕ} {r : ℤ} {h' : List ℕ} (f : formed (record { count = c; limit = l }) false ≡ true) (w : leb 3 (length h) ≡ true) (d : Starts c l h r h') where
  pub made_code : r ≡ ok
  made_code = rw (w, f) at (opened-code sem_kind layout (record { count = c; limit = l }) h r h' d)

  -- a new semaphore has the numbers that it is made of, and nobody waits
  pub made : {e : List ℕ} → leb max_waiters (length e) ≡ true → Is (fresh c l) h' e
  made {e} m =
      let z : 0 ≤ max_waiters = omega arith in
      let b = (d.with e (rw (le-leb 0 max_waiters z, m))).made made_code in
      is_now b.formed b.object

-- an answer is the one that has its number
pub is_nothing : (r : Result (Unit {0}) Errno) → told nothing r ≡ ok → r ≡ Ok tt
is_nothing (Ok u) z = refl
is_nothing (Err x) z = absurd (refusal x 0 z)

pub is_number : (r : Result ℕ Errno) (n : ℕ) → told pos r ≡ pos n → r ≡ Ok n
is_number (Ok m) n z = cc
is_number (Err x) n z = absurd (refusal x n z)

pub is_acquired : (r : Result Outcome Errno) → told outcome r ≡ ok → r ≡ Ok Acquired
is_acquired (Ok Acquired) z = refl
is_acquired (Ok Blocked) z = cc
is_acquired (Err x) z = absurd (refusal x 0 z)

pub is_blocked : (r : Result Outcome Errno) → told outcome r ≡ waits → r ≡ Ok Blocked
is_blocked (Ok Acquired) z = cc
is_blocked (Ok Blocked) z = refl
is_blocked (Err x) z = absurd (refusal x 1 z)

pub is_woken : (r : Result GiveResult Errno) (w : ℕ) → told gave r ≡ woke → kept handed r 0 ≡ w → r ≡ Ok (WokeThread w)
is_woken (Ok (WokeThread x)) w z k = cc
is_woken (Ok Incremented) w z k = cc
is_woken (Ok Saturated) w z k = cc
is_woken (Err x) w z k = absurd (refusal x 0 z)

pub is_counted : (r : Result GiveResult Errno) → told gave r ≡ incremented → r ≡ Ok Incremented
is_counted (Ok (WokeThread x)) z = cc
is_counted (Ok Incremented) z = refl
is_counted (Ok Saturated) z = cc
is_counted (Err x) z = absurd (refusal x 1 z)

pub is_full : (r : Result GiveResult Errno) → told gave r ≡ saturated → r ≡ Ok Saturated
is_full (Ok (WokeThread x)) z = cc
is_full (Ok Incremented) z = cc
is_full (Ok Saturated) z = refl
is_full (Err x) z = absurd (refusal x 2 z)

busy : (x : Errno) → code x ≡ ebusy → x ≡ errno.EBUSY
busy errno.EPERM z = cc
busy errno.ENOENT z = cc
busy errno.EBADF z = cc
busy errno.EAGAIN z = cc
busy errno.ENOMEM z = cc
busy errno.EBUSY z = refl
busy errno.EINVAL z = cc
busy errno.ENOSPC z = cc
busy errno.EPIPE z = cc
busy errno.ENOMSG z = cc
busy errno.EDEADLK z = cc
busy errno.EADDRINUSE z = cc
busy errno.EALREADY z = cc
busy errno.ETIMEDOUT z = cc
busy errno.EOVERFLOW z = cc
busy errno.ECANCELED z = cc

invalid : (x : Errno) → code x ≡ einval → x ≡ errno.EINVAL
invalid errno.EPERM z = cc
invalid errno.ENOENT z = cc
invalid errno.EBADF z = cc
invalid errno.EAGAIN z = cc
invalid errno.ENOMEM z = cc
invalid errno.EBUSY z = cc
invalid errno.EINVAL z = refl
invalid errno.ENOSPC z = cc
invalid errno.EPIPE z = cc
invalid errno.ENOMSG z = cc
invalid errno.EDEADLK z = cc
invalid errno.EADDRINUSE z = cc
invalid errno.EALREADY z = cc
invalid errno.ETIMEDOUT z = cc
invalid errno.EOVERFLOW z = cc
invalid errno.ECANCELED z = cc

pub is_busy : (r : Result Outcome Errno) → told outcome r ≡ ebusy → r ≡ Err errno.EBUSY
is_busy (Ok Acquired) z = cc
is_busy (Ok Blocked) z = cc
is_busy (Err x) z = ap (λ (y : Errno). Err y) (busy x z)

pub is_invalid : (r : Result Outcome Errno) → told outcome r ≡ einval → r ≡ Err errno.EINVAL
is_invalid (Ok Acquired) z = cc
is_invalid (Ok Blocked) z = cc
is_invalid (Err x) z = ap (λ (y : Errno). Err y) (invalid x z)
