-- Our contracts imply those of Gale's condvar.rs. Assumes nothing.
use mathlib.Core.Path.{◌≡◌, refl, sym, ap, ◌∙◌}
use mathlib.Core.Bool.{Bool, true, false}
use mathlib.Core.Logic.{◌⊎◌, inl, inr}
use mathlib.Core.List.{List, [], ◌∷◌, map}
use Prim.Native.Nat.{ℕ, zero, suc, ◌≤◌, ◌<◌}
use native.Mathlib.Numerals.{add-one}
use native.Mathlib.Omega.{arith}
use lib.IntN.{ℤ, pos, negsuc}
use lib.ListN.{length, get_or, length-map}
use borrow.Author.Tests.{lt-ltb, le-ltb, le-leb, lt-leb, eq-eqb}
use Rattle.seq.proofs.Order.{clash, length-insert}
use Rattle.thread.specs.Code.{ok, eperm, enomem, ebusy, einval, edeadlk}
use Rattle.thread.specs.Priority.{max_priority}
use Rattle.thread.specs.Caller.{caller_code}
use Rattle.thread.specs.Thread.{running}
use Rattle.store.specs.Store.{accept, answer, left, reply, Did, Hands}
use Rattle.store.proofs.Laws.{kept, looks-is}
use Rattle.wait_queue.specs.Queue.{max_waiters, entry, prio, ident, woken, waiting, holds, joined}
use Rattle.wait_queue.specs.Turn.{waits}
use Rattle.wait_queue.specs.Upstream.{AllAreWoken}
use Rattle.wait_queue.proofs.Answers.{ident-entry}
use Rattle.wait_queue.proofs.Well.{well_empty}
use Rattle.kind.specs.Verdict.{up_to, wake, allow}
use Rattle.kind.specs.Kind.{plain}
use Rattle.kind.specs.Object.{Object, anyone, thread, reads, sane}
use Rattle.kind.specs.History.{Event, calls, asks, next}
use Rattle.kind.proofs.Memory.{Housed, housed-formed, is-on, malformed, shown}
use Rattle.kind.proofs.Answers.{call_no, fitting_no, seated, unseen}
use Rattle.kind.proofs.Forward.{leaves, housed-sane, woken-by, all-woken-by, short-by, opened-code, opened-made, start-refused}
use Rattle.kind.proofs.Histories.{always, step}
use Rattle.mutex.specs.Mutex.{Owner, nobody, Mutex, held, mutex_kind}
use Rattle.mutex.specs.Mutex as owner
use Rattle.mutex.specs.Post as mutex
use Rattle.mutex.specs.Post.{pass_out, release_out}
use Rattle.mutex.proofs.Answers.{release-owned, release-is, release_no, release-caller, release-free, release_other, release-nested}
use Rattle.condvar.specs.Condvar.{Call, signal, broadcast, wait, decide, condvar_kind}
use Rattle.condvar.specs.Post.{layout, place, signal_out, broadcast_out, wait_out, has_waiters, Starts, Signals, Broadcasts, Waits, Gets, CountsWaiters, SaysHasWaiters, SignalDecided, BroadcastDecided, WaitDecided}
use Rattle.condvar.specs.Upstream.{Inv, Init, Signal, Signalled, NobodyWoken, Broadcast, Waiting, WaitBlocking, Given, Both, Neither, NumWaiters, HasWaiters, SignalDecide, BroadcastDecide, WaitDecide, CleanState, waited, signals, Equivalence, Idempotent}
use Rattle.condvar.specs.History.{fresh}
use Rattle.condvar.proofs.Law.{condvar_lawful}
use Rattle.condvar.proofs.Answers.{everyone, never, Joins, barred, joins, joining}

-- decide functions
pub signal_decide_lem : (b : Bool) (r : ℤ) → SignalDecided b r → SignalDecide b r
signal_decide_lem true r d = record { wakes = λ z. d (0 ∷ []) refl; nothing = λ z. clash z }
signal_decide_lem false r d = record { wakes = λ z. clash (sym z); nothing = λ z. d [] refl }

-- a queue of n
abbrev row : ℕ → List ℕ
row zero = []
row (suc n) = 0 ∷ row n

length_row : (n : ℕ) → length (row n) ≡ n
length_row zero = refl
length_row (suc n) = ap suc (length_row n)

pub broadcast_decide_lem : (n : ℕ) (r : ℤ) → n ≤ max_waiters → BroadcastDecided n r → BroadcastDecide n r
broadcast_decide_lem n r k d = d (row n) (length_row n) ∙ rw (le-leb n max_waiters k, length_row n)

pub broadcast-decide-refuses : (n : ℕ) (r : ℤ) → max_waiters < n → BroadcastDecided n r → r ≡ einval
broadcast-decide-refuses n r k d = d (row n) (length_row n) ∙ rw (lt-leb n max_waiters k)

pub wait_decide_lem : (b : Bool) (r : ℤ) → WaitDecided b r → WaitDecide b r
wait_decide_lem true r d = record { returns = λ z. d []; pends = λ z. clash z }
wait_decide_lem false r d = record { returns = λ z. clash (sym z); pends = λ z. d [] }

-- the invariant holds after an event, too
inv-after : (q : List ℕ) → Inv q → (x : Event Call) → Inv (next condvar_kind plain (waited q) x).queue
inv-after q v x = (step condvar_kind condvar_lawful plain (waited q) x (record { numbers = refl; queue = v })).queue

-- init
module _ (h : List ℕ) (r : ℤ) (h' : List ℕ) where
  new : 1 ≤ length h → Starts h r h' → (r ≡ ok) × (get_or h' 0 0 ≡ 0)
  new k s =
      let c : r ≡ ok = opened-code condvar_kind layout tt h r h' s ∙ rw (le-leb 1 (length h) k) in
      (c, (opened-made condvar_kind layout tt h r h' s c).1)

  pub condvar_init : (e : List ℕ) → 1 ≤ length h → Starts h r h' → (r ≡ ok) × Init (waiting e (get_or h' 0 0))
  condvar_init e k s = let n = new k s in (n.0, rw n.1 (record { inv = well_empty; empty = refl }))

  -- a header of no word
  pub init-refuses : length h < 1 → Starts h r h' → (r ≡ einval) × (h' ≡ h)
  init-refuses k s = start-refused condvar_kind layout tt h r h' s k

  pub init_clean_state : 1 ≤ length h → Starts h r h' → CleanState h'
  init_clean_state k s =
      record { empty = λ e. rw (new k s).1; inv = λ xs. (always condvar_kind condvar_lawful plain tt xs refl).good.queue }

-- signal
signals-one : (q : List ℕ) → Inv q → Signal q (left (signal_out (waited q)) (waited q)).queue
signals-one [] v = record { inv = inv-after [] v (calls 0 signal); fewer = λ k. absurd (omega arith); idle = λ k. refl }
signals-one (x ∷ q) v = record { inv = inv-after (x ∷ q) v (calls 0 signal); fewer = λ k. omega arith; idle = λ k. absurd (omega arith) }

-- num_waiters, has_waiters
has_some : (q : List ℕ) → HasWaiters q (has_waiters q)
has_some [] = inr (refl, λ k. absurd (omega arith))
has_some (x ∷ q) = inl (refl, omega arith)

-- the functions on memory
module _ (h e : List ℕ) (r : ℤ) (h' : List ℕ) (m : Housed layout h e) where
  module _ (v : Inv (waiting e (get_or h 0 0))) where
    pub condvar_signal : (w w' : ℕ) → Signals h e w r h' w' → Signal (waiting e (get_or h 0 0)) (waiting e (get_or h' 0 0))
    condvar_signal w w' d = shown layout signal_out (λ c n q. Signal (waiting e (get_or h 0 0)) q) h e r h' e d.0 m (signals-one (waiting e (get_or h 0 0)) v)

    -- who is woken
    pub first-woken : (w w' : ℕ) → 0 < length (waiting e (get_or h 0 0)) → Signals h e w r h' w'
        → Signalled (waiting e (get_or h 0 0)) r w' (waiting e (get_or h' 0 0))
    first-woken w w' b d =
        let s : sane condvar_kind layout h e ≡ true = housed-sane condvar_kind layout h e m refl in
        let f = woken-by condvar_kind layout plain anyone signal h e s r h' e 0 refl tt ok (pos 1)
        (some_one (waiting e (get_or h 0 0)) b) b w w' v d.0 d.1 in
        (f.0, f.2)
      where
        some_one : (q : List ℕ) → 0 < length q → decide tt plain (map ident q) 0 signal ≡ allow tt (wake (up_to 1) (λ t. ok)) (pos 1)
        some_one [] b = absurd (omega arith)
        some_one (x ∷ q) b = refl

  pub nobody-woken : (w w' : ℕ) → waiting e (get_or h 0 0) ≡ [] → Signals h e w r h' w' → NobodyWoken r w w' (waiting e (get_or h' 0 0))
  nobody-woken w w' l d =
      let y : reply place signal_out h e ≡ accept fresh (pos 0) [] = is-on layout signal_out h e m ∙ rw l in
      let f = leaves layout signal_out h e r h' e d.0 y in
      record { code = f.code; told = rw y at d.1; others = f.queue }

  module _ (out out' : List ℕ) (d : Broadcasts h e out r h' out') where
    sound : sane condvar_kind layout h e ≡ true
    sound = housed-sane condvar_kind layout h e m refl

    -- with room to hand them out
    module _ (k : length (waiting e (get_or h 0 0)) ≤ length out) where
      pub condvar_broadcast : Broadcast (waiting e (get_or h 0 0)) r (waiting e (get_or h' 0 0))
      condvar_broadcast =
          let f = (all-woken-by condvar_kind layout plain anyone broadcast h e sound r h' e 0 refl tt ok _ (everyone h e) out out' k d.0 d.1).0 in
          record { inv = rw f.queue well_empty; empty = ap length f.queue; count = f.code }

      pub all_woken_lem : AllAreWoken ok (waiting e (get_or h 0 0)) out out'
      all_woken_lem = (all-woken-by condvar_kind layout plain anyone broadcast h e sound r h' e 0 refl tt ok _ (everyone h e) out out' k d.0 d.1).1

    -- upstream needs none; with too little the broadcast is refused, and all wait on
    pub broadcast-short : length out < length (waiting e (get_or h 0 0)) → (r ≡ einval) × (h' ≡ h)
    broadcast-short k =
        let b = (short-by condvar_kind layout plain anyone broadcast h e sound r h' e 0 refl tt ok _ (everyone h e) out out' k d.0 d.1).0 in
        (b.code, b.header)

  gets : (g : Object (Unit {0}) → ℤ) → Gets g h e r → r ≡ g (place.object h e)
  gets g d = d ∙ looks-is place h e (reads condvar_kind g) (housed-formed layout h e m)

  pub num_waiters_lem : CountsWaiters h e r → NumWaiters (waiting e (get_or h 0 0)) r
  num_waiters_lem d = gets (λ o. pos (length o.queue)) d

  pub has_waiters_lem : SaysHasWaiters h e r → HasWaiters (waiting e (get_or h 0 0)) r
  has_waiters_lem d = rw (gets (λ o. has_waiters o.queue) d) (has_some (waiting e (get_or h 0 0)))

-- what upstream demands is refused here: more that wait than can, or too little memory
module _ (h e : List ℕ) (r : ℤ) (h' : List ℕ) (s : sane condvar_kind layout h e ≡ false) where
  abbrev Stays : Type 0
  Stays = (r ≡ einval) × (h' ≡ h)

  stay : (r ≡ einval) × (h' ≡ h) × (e ≡ e) → Stays
  stay k = (k.0, k.1)

  pub signal-refuses : (w w' : ℕ) → Signals h e w r h' w' → Stays
  signal-refuses w w' d = stay (kept place signal_out h e d.0 (call_no condvar_kind layout plain anyone signal h e s))

  pub broadcast-refuses : (out out' : List ℕ) → Broadcasts h e out r h' out' → Stays
  broadcast-refuses out out' d =
      stay
      (kept place (broadcast_out (length out)) h e d.0
      (malformed condvar_kind layout h e (broadcast_out (length out)) (fitting_no condvar_kind plain anyone broadcast (length out)) s))

  pub get-refuses : (g : Object (Unit {0}) → ℤ) → Gets g h e r → r ≡ einval
  get-refuses g d = d ∙ sym (unseen condvar_kind layout g h e s)

-- a mutex that is given back
given_back : (i p st : ℕ) (m d : List ℕ) (w a : ℕ) (r : ℤ) (m' : List ℕ) (w' : ℕ) → answer (reply mutex.place (release_out i p st) m d) ≡ pos a
    → Hands mutex.place (release_out i p st) m d w r m' w' → Given (waiting d (get_or m 3 0)) w r ((mutex.layout).num m') (waiting d (get_or m' 3 0)) w'
given_back i p st m d w a r m' w' y b = go (waiting d (get_or m 3 0)) (release-is m d i p st a y)
  where
    go : (l : List ℕ) → reply mutex.place (release_out i p st) m d ≡ pass_out (record { num = (mutex.layout).num m; queue = l })
        → Given l w r ((mutex.layout).num m') (waiting d (get_or m' 3 0)) w'
    go [] x = let f = leaves mutex.layout (release_out i p st) m d r m' d b.0 x in (f.code, f.numbers, f.queue, rw x at b.1)
    go (z ∷ l) x = let f = leaves mutex.layout (release_out i p st) m d r m' d b.0 x in (f.code, f.numbers, f.queue, rw x at b.1)

-- a wait that is not refused
join : (i p st : ℕ) (h e h' e' : List ℕ) → Did place (wait_out i p st) h e waits h' e'
    → waiting e' (get_or h' 0 0) ≡ joined (entry p i) (waiting e (get_or h 0 0))
join i p st h e h' e' b = go (joining i p st h e)
  where
    go : Joins i p st h e → waiting e' (get_or h' 0 0) ≡ joined (entry p i) (waiting e (get_or h 0 0))
    go (barred k x) = never (sym (kept place (wait_out i p st) h e b x).0)
    go (joins x) = (leaves layout (wait_out i p st) h e waits h' e' b x).queue

-- who gives it back waits, and nothing else
given-waits : (l : List ℕ) (w : ℕ) (r : ℤ) (n : Mutex) (q : List ℕ) (w' : ℕ) → Given l w r n q w' → Waiting r
given-waits [] w r n q w' g = inl g.0
given-waits (x ∷ l) w r n q w' g = inr g.0

refusal-stays : (k : ℕ) → Waiting (negsuc k) → ⊥
refusal-stays k (inl z) = never z
refusal-stays k (inr z) = never z

-- wait_blocking: the thread i of priority p in the state st, with the mutex (m, d)
module _ (i p st : ℕ) (h e m d : List ℕ) (w : ℕ) (r : ℤ) (h' e' m' : List ℕ) (w' : ℕ) (t : Waits i p st h e m d w r h' e' m' w') where
  abbrev release : ℤ
  release = answer (reply mutex.place (release_out i p st) m d)

  abbrev Done : Type 0
  Done =
      Both i p ((mutex.layout).num m) (waiting e (get_or h 0 0)) (waiting d (get_or m 3 0)) w r (waiting e' (get_or h' 0 0)) ((mutex.layout).num m')
      (waiting d (get_or m' 3 0)) w'

  done : (a : ℕ) → r ≡ pos a → Done
  done a z =
      let b = rw z at t.both in
      let y : release ≡ pos a = sym b.1.0.code in
      record {
        owned = release-owned m d i p st a y;
        queue = join i p st h e h' e' b.0;
        given = rw z (given_back i p st m d w a (pos a) m' w' y b.1);
      }

  undone : (k : ℕ) → r ≡ negsuc k → Neither h e m w r h' e' m' w'
  undone k z =
      let b : (h' ≡ h) × (e' ≡ e) × (m' ≡ m) × (w' ≡ w) = rw z at t.neither in
      record { why = k; code = z; header = b.0; entries = b.1; mutex = b.2; word = b.3 }

  -- whatever the mutex, the queue and the caller are
  pub both_or_neither : Done ⊎ Neither h e m w r h' e' m' w'
  both_or_neither = go r refl
    where
      go : (z : ℤ) → r ≡ z → Done ⊎ Neither h e m w r h' e' m' w'
      go (pos a) z = inl (done a z)
      go (negsuc k) z = inr (undone k z)

  -- upstream's clauses, whatever the mutex and the caller are
  pub condvar_wait-blocking : i < 4294967296 → Housed layout h e → Inv (waiting e (get_or h 0 0))
      → WaitBlocking (waiting e (get_or h 0 0)) r (waiting e' (get_or h' 0 0))
  condvar_wait-blocking small c v = go r refl
    where
      kept : (k : ℕ) → r ≡ negsuc k → waiting e' (get_or h' 0 0) ≡ waiting e (get_or h 0 0)
      kept k z = let n = undone k z in rw (n.header, n.entries)

      go : (z : ℤ) → r ≡ z → WaitBlocking (waiting e (get_or h 0 0)) r (waiting e' (get_or h' 0 0))
      go (pos a) z =
          let b = rw z at t.both in
          let f = done a z in
          let y : Waiting r = given-waits (waiting d (get_or m 3 0)) w r _ _ w' f.given in
          record {
            inv =
                shown layout (wait_out i p st) (λ c n q. Inv q) h e waits h' e' b.0 c
                (inv-after (waiting e (get_or h 0 0)) v (asks i p st small wait));
            joined = λ k. ap length f.queue ∙ length-insert prio (entry p i) (waiting e (get_or h 0 0)) ∙ sym (add-one (length (waiting e (get_or h 0 0))));
            stayed = λ k. absurd (k y);
          }
      go (negsuc k) z =
          record {
            inv = rw (kept k z) v;
            joined = λ y. absurd (refusal-stays k (rw z at y));
            stayed = λ y. ap length (kept k z);
          }

  -- upstream demands these of the caller, and that the mutex was unlocked before: where ours lets go, both are done, and the answer is its own
  pub wait-joins : (a : ℕ) → release ≡ pos a → i < 4294967296 → p < max_priority → st ≡ running → Housed layout h e
      → length (waiting e (get_or h 0 0)) < max_waiters → holds i (waiting e (get_or h 0 0)) ≡ false → (r ≡ pos a) × Done
  wait-joins a g small valid runs c room absent =
      let y : reply place (wait_out i p st) h e ≡ accept (record { num = tt; queue = joined (entry p i) (waiting e (get_or h 0 0)) }) waits [] =
      is-on layout (wait_out i p st) h e c ∙ rw runs (seated condvar_kind plain i p wait (place.object h e) tt tt waits refl refl small valid absent room) in
      let z : r ≡ pos a = t.code ∙ rw (g, y) in
      (z, done a z)

  -- a thread that waits here does not own the mutex any more, if it was not in the mutex's own queue
  pub gives_up : Done → holds i (waiting d (get_or m 3 0)) ≡ false → ((mutex.layout).num m').owner ≡ owner.thread i → ⊥
  gives_up b n o = go (waiting d (get_or m 3 0)) b.given n
    where
      go : (l : List ℕ) → Given l w r ((mutex.layout).num m') (waiting d (get_or m' 3 0)) w' → holds i l ≡ false → ⊥
      go [] g x = clash (sym (ap held (sym (ap (λ (k : Mutex). k.owner) g.1) ∙ o)))
      go (x ∷ l) g y =
          let z : ident x ≡ i = ap who (sym (ap (λ (k : Mutex). k.owner) g.1) ∙ o) in
          clash (rw (eq-eqb (ident x) i z) at y)
        where
          who : Owner → ℕ
          who nobody = 0
          who (owner.thread j) = j

  abbrev Unmoved : ℤ → Type 0
  Unmoved c = (r ≡ c) × (h' ≡ h) × (e' ≡ e) × (m' ≡ m) × (w' ≡ w)

  unmoved : (k : ℕ) → r ≡ negsuc k → Unmoved (negsuc k)
  unmoved k z = let n = undone k z in (z, n.header, n.entries, n.mutex, n.word)

  -- the mutex's refusals come first
  pub mutex-refuses : (k : ℕ) → release ≡ negsuc k → Unmoved (negsuc k)
  mutex-refuses k z = unmoved k (t.code ∙ rw z)

  -- a mutex that is malformed
  pub malformed_refuses : sane mutex_kind mutex.layout m d ≡ false → Unmoved einval
  malformed_refuses s = mutex-refuses 21 (sym (release_no m d i p st s))

  module _ (s : sane mutex_kind mutex.layout m d ≡ true) where
    -- a priority above 31, a thread that waits already or does not run
    pub caller-refuses : (k : ℕ) → caller_code p st ≡ negsuc k → Unmoved (negsuc k)
    caller-refuses k c = mutex-refuses k (sym (release-caller m d s i p st k c))

    module _ (n : ℕ) (c : caller_code p st ≡ pos n) where
      -- nobody's, another's, and one that the caller holds more than once: it would wait and keep it
      pub nobodys-refuses : get_or m 2 0 ≡ 0 → Unmoved einval
      nobodys-refuses z = mutex-refuses 21 (sym (release-free m d s i p st n c z))

      pub anothers-refuses : 0 < get_or m 2 0 → (get_or m 1 0 ≡ i → ⊥) → Unmoved eperm
      anothers-refuses b z = mutex-refuses 0 (sym (release_other m d s i p st n c b z))

      pub nested-refuses : get_or m 1 0 ≡ i → 1 < get_or m 2 0 → Unmoved edeadlk
      nested-refuses z b = mutex-refuses 44 (sym (release-nested m d s i p st n c z b))

  -- then the wait's, where the mutex would let go
  module _ (a : ℕ) (g : release ≡ pos a) where
    queue-refuses : (k : ℕ) → answer (reply place (wait_out i p st) h e) ≡ negsuc k → Unmoved (negsuc k)
    queue-refuses k z = unmoved k (t.code ∙ rw (g, z))

    pub wait-refuses : sane condvar_kind layout h e ≡ false → Unmoved einval
    wait-refuses s = queue-refuses 21 (ap answer (call_no condvar_kind layout plain (thread i p st) wait h e s))

    module _ (small : i < 4294967296) (valid : p < max_priority) (runs : st ≡ running) (c : Housed layout h e) where
      pub wait-twice-refuses : holds i (waiting e (get_or h 0 0)) ≡ true → Unmoved ebusy
      wait-twice-refuses z = queue-refuses 15 (rw (is-on layout (wait_out i p st) h e c, runs, lt-ltb p max_priority valid, ident-entry p i small, z))

      pub wait-full-refuses : holds i (waiting e (get_or h 0 0)) ≡ false → max_waiters ≤ length (waiting e (get_or h 0 0)) → Unmoved enomem
      wait-full-refuses z k =
          queue-refuses 11
          (rw (
            is-on layout (wait_out i p st) h e c,
            runs,
            lt-ltb p max_priority valid,
            ident-entry p i small,
            z,
            le-ltb
                (length (waiting e (get_or h 0 0))) max_waiters k,
          ))

-- upstream's lemmas, which end in `ensures true`
all-signals : (q : List ℕ) → signals (length q) (waited q) ≡ record { answers = map (λ x. pos 1) q; woken = map (woken ok) q; queue = [] }
all-signals [] = refl
all-signals (x ∷ q) = rw (all-signals q)

-- with room for all that wait
broadcasts-all : (room : ℕ) (q : List ℕ) → length q ≤ room → broadcast_out room (waited q) ≡ accept fresh (pos (length q)) (map (woken ok) q)
broadcasts-all room q k = rw (length-map q (woken ok), le-leb (length q) room k, length-map q ident)

pub signal-broadcast_equivalence : (q : List ℕ) (room : ℕ) → length q ≤ room → Equivalence q room
signal-broadcast_equivalence q room k =
    record {
      broadcast = rw (all-signals q) (broadcasts-all room q k);
      signals_empty = rw (all-signals q);
      signals_tell = rw (all-signals q);
    }

pub broadcast_idempotent : (q : List ℕ) (room again : ℕ) → Idempotent q room again
broadcast_idempotent q room again =
    let z : 0 ≤ again = omega arith in
    record {
      nobody = rw (le-leb 0 again z);
      second = λ k. rw (broadcasts-all room q k, le-leb 0 again z);
    }
