-- How each answer of a function meets the condition variable's definition. Assumes nothing.
use mathlib.Core.Path.{◌≡◌, refl, sym, ap, ◌∙◌}
use mathlib.Core.Bool.{Bool, true, false, cond}
use mathlib.Core.List.{List, [], ◌∷◌}
use Prim.Native.Nat.{ℕ, zero, suc, ◌≤◌, ◌<◌}
use native.Mathlib.Omega.{arith}
use lib.Dec.{ltb}
use lib.IntN.{ℤ, pos, negsuc}
use lib.Seq.{set-get_or}
use lib.ListN.{length, get_or, set}
use borrow.Author.Tests.{lt-ltb, le-leb, lt-leb, ltb-true, ltb-false}
use Rattle.seq.proofs.Back.{back-length}
use Rattle.seq.proofs.Words.{spell}
use Rattle.thread.specs.Code.{ok, eagain, enomem, ebusy, einval, code}
use Rattle.thread.specs.declared.Errno.{Errno}
use Rattle.thread.specs.Caller.{caller_code}
use Rattle.store.specs.Store.{Reply, refuse, accept, answer, asked, reply, Did}
use Rattle.store.proofs.Laws.{less, answers, handed, kept, did_alike}
use Rattle.wait_queue.specs.Queue.{max_waiters, entry, ident, waiting, roomy, holds, joined}
use Rattle.wait_queue.specs.Turn.{wait_queue, waits, outcome, unpend_first}
use Rattle.wait_queue.specs.declared.Outcome.{Outcome}
use Rattle.wait_queue.specs.declared.Outcome.TheVariants as outcomes
use Rattle.wait_queue.specs.Post.{Enters, UnpendsFirst}
use Rattle.wait_queue.proofs.Answers.{pend_parks}
use Rattle.kind.specs.Verdict.{everybody, wake, allow}
use Rattle.kind.specs.Kind.{plain}
use Rattle.kind.specs.Object.{Object, anyone, queued, sane}
use Rattle.kind.proofs.Memory.{Header, same-header, is-sane}
use Rattle.kind.proofs.Answers.{any-line, length-line, verdict, keeps, wakes, waits-now, unseen, seen, opens-short, opens-made}
use Rattle.mutex.specs.Post as mutex
use Rattle.mutex.specs.Post.{pass_out, release_out}
use Rattle.mutex.specs.Answer.{to_release}
use Rattle.mutex.specs.declared.ReleaseDecision.{ReleaseDecision}
use Rattle.mutex.specs.declared.ReleaseDecision.TheVariants as releasing
use Rattle.mutex.proofs.Answers.{below, emptied, release-passes, release-asks}
use Rattle.mutex.proofs.Written.{now, unwritten}
use Rattle.condvar.specs.Condvar.{signal, broadcast, wait, condvar_kind}
use Rattle.condvar.specs.Post.{layout, place, wait_out, Starts, Signals, Waits, Gets, CountsWaiters, SignalDecided, BroadcastDecided, WaitDecided}

pub decide-none : SignalDecided false (pos 0)
decide-none q h = rw h

pub decide-over : (n : ℕ) → ltb max_waiters n ≡ true → BroadcastDecided n einval
decide-over n h q z = rw (lt-leb n max_waiters (ltb-true max_waiters n h)) refl

pub decide-all : (n : ℕ) → ltb max_waiters n ≡ false → BroadcastDecided n (pos n)
decide-all n h q z = rw (le-leb n max_waiters (ltb-false max_waiters n h), z) refl

pub decide-again : WaitDecided true eagain
decide-again q = refl

pub everyone : (h e : List ℕ)
    → verdict condvar_kind layout plain anyone broadcast h e ≡ allow tt (wake everybody (λ t. ok)) (pos (length (waiting e (get_or h 0 0))))
everyone h e = rw (length-line e (get_or h 0 0))

left : (h : List ℕ) (n : ℕ) → 1 ≤ length h → Header layout h tt n (set h 0 n)
left h n k = rw (spell 1 h k) (record { num = refl; len = refl; beside = refl; long = refl })

module _ (h e : List ℕ) where
  pub got_no : (g : Object (Unit {0}) → ℤ) → sane condvar_kind layout h e ≡ false → Gets g h e einval
  got_no g s = unseen condvar_kind layout g h e s

  module _ (s : sane condvar_kind layout h e ≡ true) where
    pub words : 1 ≤ length h
    words = (is-sane condvar_kind layout h e s).housed.words

    signal-nobody : (w : ℕ) → get_or h 0 0 ≡ 0 → Signals h e w (pos 0) h w
    signal-nobody w z = keeps condvar_kind layout plain anyone signal h e s 0 refl tt (pos 0) h w (rw (any-line e (get_or h 0 0), z)) (same-header layout h)

    signal-first : (w w' : ℕ) (r : ℤ) (k : ℕ) → 0 < get_or h 0 0 → UnpendsFirst ok (get_or h 0 0) e w r k w' → Signals h e w (pos 1) (set h 0 k) w'
    signal-first w w' r k b d =
        wakes condvar_kind layout plain anyone signal h e s 0 refl tt ok (pos 1) (rw (any-line e (get_or h 0 0), lt-ltb 0 (get_or h 0 0) b)) b
        (set h 0 k) r k w w' d (left h k words)

    -- it wakes as the queue does
    pub signal-is : (w w' : ℕ) (r : ℤ) (k : ℕ) → UnpendsFirst ok (get_or h 0 0) e w r k w' → Signals h e w r (set h 0 k) w'
    signal-is w w' r k d = less 0 (get_or h 0 0) yes no
      where
        o : roomy (get_or h 0 0) e ≡ true
        o = (is-sane condvar_kind layout h e s).housed.room

        told_now : r ≡ answer (unpend_first ok (waiting e (get_or h 0 0)))
        told_now = answers wait_queue (unpend_first ok) (get_or h 0 0 ∷ []) e d.0 o

        one : (n : ℕ) → 0 < n → answer (unpend_first ok (waiting e n)) ≡ pos 1
        one zero b = absurd (omega arith)
        one (suc n) b = refl

        yes : 0 < get_or h 0 0 → Signals h e w r (set h 0 k) w'
        yes b = let y : r ≡ pos 1 = told_now ∙ one (get_or h 0 0) b in rw y (signal-first w w' r k b d)

        no : get_or h 0 0 ≤ 0 → Signals h e w r (set h 0 k) w'
        no b =
            let z : get_or h 0 0 ≡ 0 = omega arith in
            let y : reply wait_queue (unpend_first ok) (get_or h 0 0 ∷ []) e ≡ accept [] (pos 0) [] = rw (o, z) refl in
            let t = handed wait_queue (unpend_first ok) (get_or h 0 0 ∷ []) e w y d in
            let x = emptied e k (get_or h 0 0) z (now (get_or h 0 0) e r k e (unpend_first ok) o d.0) in
            rw (t.0, t.1, x, set-get_or h 0) (signal-nobody w z)

    pub got : (g : Object (Unit {0}) → ℤ) → Gets g h e (g (place.object h e))
    got g = seen condvar_kind layout g h e s

    pub got-waiters : CountsWaiters h e (pos (get_or h 0 0))
    got-waiters = ap pos (sym (back-length e (get_or h 0 0))) ∙ got (λ o. pos (length o.queue))

-- init
module _ (h : List ℕ) where
  pub short : length h < 1 → Starts h einval h
  short k = opens-short condvar_kind layout tt h k

  pub made : 1 ≤ length h → Starts h ok (set h 0 0)
  made k = opens-made condvar_kind layout tt h (set h 0 0) k refl (left h 0 k)

pub never : {P : Type 0} {k a : ℕ} → negsuc k ≡ pos a → P
never z = absurd (let v : ◌≡◌ {A = ℕ} 0 1 = cc in omega arith)

-- a thread that wants to wait is refused, or joins
pub data Joining (w : ℕ) (q : List ℕ) (y : Reply (Object (Unit {0}))) : Type 0 where
  barred : (k : ℕ) → y ≡ refuse (negsuc k) → Joining w q y
  joins : y ≡ accept (record { num = tt; queue = joined w q }) waits [] → Joining w q y

abbrev pub Joins : ℕ → ℕ → ℕ → List ℕ → List ℕ → Type 0
Joins i p st h e = Joining (entry p i) (waiting e (get_or h 0 0)) (reply place (wait_out i p st) h e)

pub joining : (i p st : ℕ) (h e : List ℕ) → Joins i p st h e
joining i p st h e =
    go (place.formed h e) (caller_code p st) (holds (ident (entry p i)) (waiting e (get_or h 0 0))) (ltb (length (waiting e (get_or h 0 0))) max_waiters)
  where
    go : (a : Bool) (z : ℤ) (b l : Bool)
        → Joining (entry p i) (waiting e (get_or h 0 0))
        (cond a
        (asked z (queued tt (cond b (refuse ebusy) (cond l (accept (joined (entry p i) (waiting e (get_or h 0 0))) waits []) (refuse enomem)))))
        (refuse einval))
    go false z b l = barred 21 refl
    go true (negsuc k) b l = barred k refl
    go true (pos k) true l = barred 15 refl
    go true (pos k) false true = joins refl
    go true (pos k) false false = barred 11 refl

-- the wait
module _ (i p st : ℕ) (h e m d : List ℕ) (w : ℕ) where
  abbrev release : ℤ
  release = answer (reply mutex.place (release_out i p st) m d)

  -- the mutex may be given back, and has looked at the caller's numbers
  module _ (b : ReleaseDecision) (y : to_release b ≡ release) where
    lets : (g : ReleaseDecision) → (a : ℕ) × (to_release g ≡ pos a)
    lets releasing.Unlocked = (1, refl)
    lets releasing.Transferred = (2, refl)

    abbrev given : ℕ
    given = (lets b).0

    is_given : release ≡ pos given
    is_given = sym y ∙ (lets b).1

    module _ (l : 1 ≤ length h) (r : ℤ) (k : ℕ) (e' : List ℕ) (q : Enters i p (get_or h 0 0) e r k e') where
      joined-now : Did place (wait_out i p st) h e r (set h 0 k) e'
      joined-now =
          waits-now condvar_kind layout plain i p st wait h e tt waits r k e' l refl refl
          (pend_parks (get_or h 0 0) e i p st _ (release-asks m d i p st given is_given) r k e' q) refl

      -- the queue refuses
      pub wait_refused : (x : Errno) → r ≡ code x → Waits i p st h e m d w (code x) (set h 0 k) e' m w
      wait_refused x z = go (joining i p st h e) (below x).0 (below x).1
        where
          go : Joins i p st h e → (c : ℕ) → code x ≡ negsuc c → Waits i p st h e m d w (code x) (set h 0 k) e' m w
          go (barred n u) c t =
              let v = kept place (wait_out i p st) h e joined-now u in
              let f : negsuc c ≡ answer (reply place (wait_out i p st) h e) = sym t ∙ sym z ∙ joined-now.code in
              rw t (record { code = rw (is_given, sym f); neither = (v.1, v.2, refl, refl); both = tt; written = unwritten m })
          go (joins u) c t = never (sym t ∙ sym z ∙ joined-now.code ∙ ap answer u)

      -- both are done
      pub wait-both : (x : Outcome) → r ≡ outcome x → (m' : List ℕ) (w' : ℕ) (u : ℤ) → mutex.Passes m d w u m' w'
          → Waits i p st h e m d w u (set h 0 k) e' m' w'
      wait-both x z m' w' u g =
          let o = release-passes m d i p st given is_given in
          let f : u ≡ pos given = g.0.0.code ∙ ap answer o ∙ is_given in
          let t : r ≡ waits = go (joining i p st h e) in
          let j : waits ≡ answer (reply place (wait_out i p st) h e) = sym t ∙ joined-now.code in
          rw f (record {
            code = rw (is_given, sym j);
            neither = tt;
            both = (
              rw t at joined-now,
              (rw f at (did_alike mutex.place pass_out (release_out i p st) m d o g.0.0), rw o at g.0.1),
            );
            written = g.1;
          })
        where
          above : (v : Outcome) → (c : ℕ) × (outcome v ≡ pos c)
          above outcomes.Acquired = (0, refl)
          above outcomes.Blocked = (1, refl)

          go : Joins i p st h e → r ≡ waits
          go (barred n v) = never (sym (joined-now.code ∙ ap answer v) ∙ z ∙ (above x).1)
          go (joins v) = joined-now.code ∙ ap answer v
