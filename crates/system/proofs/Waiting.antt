-- A mutex is given back and a condition variable waited at, both or neither, in any system that has both. Assumes nothing.
use mathlib.Core.Bool.{true}
use mathlib.Core.Path.{◌≡◌, refl, sym, ap, subst, ◌∙◌}
use mathlib.Core.List.{List, [], ◌∷◌, ◌++◌, map}
use Prim.Native.Nat.{ℕ, ◌≤◌}
use native.Mathlib.Omega.{arith}
use lib.IntN.{ℤ, pos, negsuc}
use lib.ListN.{length}
use Rattle.thread.specs.Code.{edeadlk}
use Rattle.thread.specs.Caller.{caller_code}
use Rattle.store.specs.Store as store
use Rattle.store.specs.Store.{Reply, refuse, answer, reply, Did, first}
use Rattle.wait_queue.specs.Queue.{ident}
use Rattle.wait_queue.specs.Turn.{waits}
use Rattle.kind.specs.Verdict.{keep, park, wake, Verdict, deny, allow}
use Rattle.kind.specs.Kind.{Kind, Lawful}
use Rattle.kind.specs.Object.{Object, thread}
use Rattle.mutex.specs.Mutex as mutex
use Rattle.mutex.specs.Mutex.{Mutex, unlocks, mutex_kind}
use Rattle.mutex.specs.Post as lock
use Rattle.mutex.specs.Post.{release_out}
use Rattle.condvar.specs.Condvar as condvar
use Rattle.condvar.specs.Condvar.{condvar_kind}
use Rattle.condvar.specs.Post as condition
use Rattle.condvar.specs.Post.{agreed}
use Rattle.system.specs.Part.{Part}
use Rattle.system.specs.Sum.{mapped}
use Rattle.system.specs.System.{State, running, waiting, number, Sys, outcome, verdict, called, answers}
use Rattle.system.specs.Rules.{Fine}
use Rattle.system.specs.Functions.{heard, nobody, single, only_at}
use Rattle.system.specs.Link.{Is, read, word, fate, Handed, Readies, Waited}
use Rattle.system.proofs.Calls.{runs, barred, called-fine}
use Rattle.system.proofs.Sheets.{Fits}
use Rattle.system.proofs.Parts.{wrapped, call-part}
use Rattle.system.proofs.Woken.{Within, within-part, handed-few, handed-read, handed-count}
use Rattle.system.proofs.Readied.{call-readies, woken-waited, readies-on, waited-on, told-on, read-on, length-same, length-on}
use Rattle.system.proofs.Link.{tells, gives, leaves, in_word, prio-kept, slot_kept, queue-kept, is-kept}
use Rattle.system.proofs.Fates.{Unparked, Fated, caller-fate, still}
use Rattle.system.proofs.Functions.{unlocks_unparked, unlocks-within}

unparked_part : {M N X Y : Type 0} (f : M → N) (g : X → Y) (d : Verdict M X) → Unparked d → Unparked (mapped f g d)
unparked_part f g (deny r) x = tt
unparked_part f g (allow m keep r) x = tt
unparked_part f g (allow m (park y) r) x = absurd x
unparked_part f g (allow m (wake p h) r) x = tt

module _ {K : Kind} (law : Lawful K) (P : Part mutex_kind K) (fits : Fits P) (C : Part condvar_kind K) (fitting : Fits C)
    (s : Sys K) (g : Fine s) (i a b : ℕ) (off : a ≡ b → ⊥) (m d h e : List ℕ) (x : Is lock.layout P.num s a m d)
    (y : Is condition.layout C.num s b h e) where
  abbrev p : ℕ
  p = s.prio i

  abbrev st : ℕ
  st = number (s.state i)

  abbrev release : K.Call
  release = P.call mutex.release

  abbrev await : K.Call
  await = C.call condvar.wait

  -- between the two, and after
  abbrev mid : Sys K
  mid = (called s i a release).0

  abbrev end : Sys K
  end = (called mid i b await).0

  abbrev given : Reply (Object Mutex)
  given = reply lock.place (release_out i p st) m d

  abbrev joined : Reply (Object (Unit {0}))
  joined = reply condition.place (condition.wait_out i p st) h e

  abbrev n : Mutex
  n = (lock.layout).num m

  first-same : outcome s i a release (P.num n) ≡ wrapped P.num (release_out i p st (record { num = n; queue = s.queue a }))
  first-same = call-part P fits s.wish (thread i p st) mutex.release (record { num = n; queue = s.queue a })

  first_tells : (called s i a release).1 ≡ answer given
  first_tells = tells law lock.layout P.num s g i a release (release_out i p st) m d x first-same

  first-within : Within single (only_at 2) (s.queue a) (verdict s i a release (P.num n))
  first-within =
      rw (fits.decides n s.wish (map ident (s.queue a)) i mutex.release)
      (within-part single (only_at 2) (s.queue a) P.num P.wish (unlocks n i (map ident (s.queue a)) (deny edeadlk))
      (unlocks-within n i (s.queue a) (deny edeadlk) refl))

  first-stays : Unparked (verdict s i a release (P.num n))
  first-stays =
      rw (fits.decides n s.wish (map ident (s.queue a)) i mutex.release)
      (unparked_part P.num P.wish (unlocks n i (map ident (s.queue a)) (deny edeadlk)) (unlocks_unparked n i (map ident (s.queue a)) (deny edeadlk) tt))

  fine_mid : Fine mid
  fine_mid = called-fine law s g i a release

  y_mid : Is condition.layout C.num mid b h e
  y_mid = is-kept condition.layout C.num s mid b h e (slot_kept s i a release b off) (queue-kept s i a release b off) y

  second-within : Within nobody nobody (mid.queue b) (verdict mid i b await (C.num tt))
  second-within = rw (fitting.decides tt mid.wish (map ident (mid.queue b)) i condvar.wait) refl

  second_fated : Fated true (verdict mid i b await (C.num tt))
  second_fated = rw (fitting.decides tt mid.wish (map ident (mid.queue b)) i condvar.wait) refl

  second_none : length (called mid i b await).2 ≤ 0
  second_none = handed-few mid fine_mid i b await (C.num tt) y_mid.slot nobody nobody second-within

  module _ (c : ℕ) (z : answer given ≡ pos c) where
    -- who is not refused runs
    run : s.state i ≡ running
    run = go (caller_code p st) refl
      where
        go : (w : ℤ) → caller_code p st ≡ w → s.state i ≡ running
        go (pos k) v = runs p (s.state i) k v
        go (negsuc k) v =
            let o : outcome s i a release (P.num n) ≡ refuse (negsuc k) = barred s i a release (P.num n)
            (g.formed a (P.num n) x.slot) k v in
            let t : (called s i a release).1 ≡ negsuc k = rw x.slot (ap answer o) in
            let l : pos c ≡ negsuc k = sym z ∙ sym first_tells ∙ t in
            absurd (let j : ◌≡◌ {A = ℕ} 0 1 = cc in omega arith)

    state_mid : mid.state i ≡ s.state i
    state_mid = still s g i a release run (P.num n) x.slot first-stays

    second-same : outcome mid i b await (C.num tt) ≡ wrapped C.num (condition.wait_out i p st (record { num = tt; queue = mid.queue b }))
    second-same =
        call-part C fitting mid.wish (thread i (mid.prio i) (number (mid.state i))) condvar.wait (record { num = tt; queue = mid.queue b })
        ∙ ap (λ (t : ℕ). wrapped C.num (condition.wait_out i t (number (mid.state i)) (record { num = tt; queue = mid.queue b }))) (prio-kept s i a release i)
        ∙ ap (λ (t : State). wrapped C.num (condition.wait_out i p (number t) (record { num = tt; queue = mid.queue b }))) state_mid

    second_tells : (called mid i b await).1 ≡ answer joined
    second_tells = tells law condition.layout C.num mid fine_mid i b await (condition.wait_out i p st) h e y_mid second-same

  pub both_tell : answers s i a release b await ≡ agreed (answer given) (answer joined)
  both_tell = rw first_tells (go (answer given) refl)
    where
      go : (z : ℤ) → answer given ≡ z → agreed z (called mid i b await).1 ≡ agreed z (answer joined)
      go (pos c) z = ap (agreed (pos c)) (second_tells c z)
      go (negsuc c) z = refl

  -- both are done
  module _ (c : ℕ) (told : answers s i a release b await ≡ pos c) (k : ℕ) (z : answer given ≡ pos k) (r : ℤ) (h' e' m' : List ℕ)
      (one : Did lock.place (release_out i p st) m d r m' d) (two : Did condition.place (condition.wait_out i p st) h e waits h' e') where
    pub first-is : Is lock.layout P.num end a m' d
    first-is =
        is-kept lock.layout P.num mid end a m' d (slot_kept mid i b await a (λ o. off (sym o))) (queue-kept mid i b await a (λ o. off (sym o)))
        (leaves law lock.layout P.num s g i a release (release_out i p st) m d x first-same r m' d one)

    pub second_is : Is condition.layout C.num end b h' e'
    second_is = leaves law condition.layout C.num mid fine_mid i b await (condition.wait_out i p st) h e y_mid (second-same k z) waits h' e' two

    pub hands : (w w' : ℕ) (out out' : List ℕ) → out ≡ w ∷ [] → out' ≡ w' ∷ [] → w' ≡ first w (store.out given)
        → Handed ((called s i a release).2 ++ (called mid i b await).2) out out'
    hands w w' out out' v v' t =
        in_word ((called s i a release).2 ++ (called mid i b await).2) w w' out out' v v'
        (length-on (called s i a release).2 (called mid i b await).2 second_none
        (handed-few s g i a release (P.num n) x.slot single (only_at 2) first-within))
        (told-on (called s i a release).2 (called mid i b await).2 w w' second_none
        (subst (λ (l : List ℕ). w' ≡ first w l) (gives law lock.layout P.num s g i a release (release_out i p st) m d x first-same single
        (only_at 2) first-within) t))

    pub ready-both : Readies s i ((called s i a release).2 ++ (called mid i b await).2) end
    ready-both =
        readies-on s mid end i (called s i a release).2 (called mid i b await).2 (state_mid k z ∙ run k z) second_none
        (call-readies s i a release (P.num n) x.slot)
        (call-readies mid i b await (C.num tt) y_mid.slot)

    pub waited-both : Waited s a ((called s i a release).2 ++ (called mid i b await).2)
    waited-both = waited-on s a (called s i a release).2 (called mid i b await).2 second_none (woken-waited s g i a release)

    -- as many words as the first's answer says
    pub count : length ((called s i a release).2 ++ (called mid i b await).2) ≡ heard (only_at 2) (answer given)
    count =
        length-same (called s i a release).2 (called mid i b await).2 second_none
        ∙ handed-count s g i a release (P.num n) x.slot single (only_at 2) first-within ∙ ap (heard (only_at 2)) first_tells

    pub reads_both : map read (map word ((called s i a release).2 ++ (called mid i b await).2)) ≡ (called s i a release).2 ++ (called mid i b await).2
    reads_both =
        read-on (called s i a release).2 (called mid i b await).2 second_none
        (handed-read s g i a release (P.num n) x.slot single (only_at 2) first-within)

    -- the caller waits
    pub last : end.state i ≡ waiting b
    last =
        caller-fate mid fine_mid i b await (C.num tt) y_mid.slot true second_fated
        ∙ ap (λ (r : ℤ). fate true b r (mid.state i)) (second_tells k z ∙ sym two.code)
