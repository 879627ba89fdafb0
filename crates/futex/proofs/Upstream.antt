-- Our contracts imply those of Gale's futex.rs. Assumes nothing.
use mathlib.Core.Path.{◌≡◌, refl, sym, ap, ◌∙◌}
use mathlib.Core.Bool.{Bool, true, false}
use mathlib.Core.List.{List, [], ◌∷◌, map}
use Prim.Native.Nat.{ℕ, ◌+◌, ◌-◌, ◌≤◌, ◌<◌}
use native.Mathlib.Numerals.{add-one}
use native.Mathlib.Omega.{arith}
use lib.Dec.{leb, eqb}
use lib.IntN.{ℤ, pos}
use lib.Signed.{mag}
use lib.ListN.{length, get_or, length-map}
use borrow.Author.Tests.{lt-ltb, le-ltb, le-leb, lt-leb, leb-true, leb-false, eq-eqb, ne_eqb, eqb-true, eqb-false}
use Rattle.seq.specs.List.{back}
use Rattle.seq.proofs.Back.{back-length}
use Rattle.seq.proofs.Order.{clash, length-insert}
use Rattle.thread.specs.Code.{ok, eagain, einval}
use Rattle.thread.specs.Priority.{max_priority}
use Rattle.thread.specs.Thread.{running}
use Rattle.store.specs.Store.{Reply, refuse, accept, answer, left, out, reply}
use Rattle.store.proofs.Laws.{kept}
use Rattle.wait_queue.specs.Queue.{max_waiters, entry, prio, ident, woken, waiting, roomy, holds, joined, Well}
use Rattle.wait_queue.specs.Turn.{waits}
use Rattle.wait_queue.specs.Upstream.{AllAreWoken}
use Rattle.wait_queue.proofs.Memory.{is-roomy, blank, blank_roomy}
use Rattle.wait_queue.proofs.Well.{well_empty}
use Rattle.kind.specs.Kind.{plain}
use Rattle.kind.specs.Object.{Object, anyone, sane}
use Rattle.kind.specs.History.{Event, calls, asks, next}
use Rattle.kind.proofs.Memory.{Housed, is-on, malformed, shown}
use Rattle.kind.proofs.Answers.{fitting_no, seated}
use Rattle.kind.proofs.Forward.{leaves, housed-sane, all-woken-by, short-by}
use Rattle.kind.proofs.Histories.{step}
use Rattle.futex.specs.Futex.{Futex, Call, wait, wake_one, wake_all, futex_kind}
use Rattle.futex.specs.Post.{layout, place, wait_out, wake_call, wake_out, set_out, Starts, Waits, Wakes, SetsVal, Gets, GetsVal, CountsWaiters, WaitDecided, WakeDecided}
use Rattle.futex.specs.History.{after}
use Rattle.futex.specs.Upstream.{Inv, Init, Wait, Wake, WakeFew, FirstWoken, ValSet, ValGet, NumWaiters, WaitDecide, WakeDecide, Gating, WakeSemantics, Roundtrip, Bounded}
use Rattle.futex.proofs.Law.{mk, obj, futex_lawful}
use Rattle.futex.proofs.Answers.{decide-over, decide-all, decide-none, decide-one, got_no, got}

-- decide functions
pub wait_decide_lem : (v x : ℕ) (r : ℤ) → WaitDecided v x r → WaitDecide v x r
wait_decide_lem v x r d = record { blocks = λ z. d [] ∙ rw (eq-eqb v x z); mismatch = λ z. d [] ∙ rw (ne_eqb v x z) }

module _ (n : ℕ) (b : Bool) (m : ℕ) (r : ℤ) (m' : ℕ) (d : WakeDecided n b m r m') where
  -- there is a queue of each length
  is : {c : ℤ} {k : ℕ} → WakeDecided n b m c k → (r ≡ c) × (m' ≡ k)
  is e =
      let x = d (mk 0) (back [] n) (back-length [] n) in
      let y = e (mk 0) (back [] n) (back-length [] n) in
      (x.code ∙ sym y.code, x.number ∙ sym y.number)

  pub wake-decide-refuses : max_waiters < n → (r ≡ einval) × (m' ≡ m)
  wake-decide-refuses k = is (decide-over n m b (lt-ltb max_waiters n k))

pub wake_decide_lem : (n : ℕ) (b : Bool) (m : ℕ) (r : ℤ) (m' : ℕ) → n ≤ max_waiters → WakeDecided n b m r m' → WakeDecide n b r m'
wake_decide_lem n true m r m' k d =
    let a = is n true m r m' d (decide-all n m (le-ltb max_waiters n k)) in
    record {
      none_woken = λ e. a.0 ∙ ap pos e;
      none_remaining = λ e. a.1;
      all_woken = λ e l. a.0;
      all_remaining = λ e l. a.1;
      one_woken = λ e. clash e;
      one_remaining = λ e. clash e;
    }
wake_decide_lem n false m r m' k d =
    let none : n ≡ 0 → (r ≡ pos 0) × (m' ≡ 0) = λ e. is n false m r m' d (decide-none n m (le-ltb max_waiters n k) e) in
    let one : 0 < n → (r ≡ pos 1) × (m' ≡ n - 1) = λ l. is n false m r m' d (decide-one n m (le-ltb max_waiters n k) l) in
    record {
      none_woken = λ e. (none e).0;
      none_remaining = λ e. (none e).1;
      all_woken = λ e. clash (sym e);
      all_remaining = λ e. clash (sym e);
      one_woken = λ e l. (one l).0;
      one_remaining = λ e l. (one l).1;
    }

-- the invariant holds after an event, too
inv-after : (v : ℕ) (q : List ℕ) → Inv q → (x : Event Call) → Inv (next futex_kind plain (obj v q) x).queue
inv-after v q g x = (step futex_kind futex_lawful plain (obj v q) x (record { numbers = refl; queue = g })).queue

-- init
pub futex-init : (val : ℕ) (h : List ℕ) (r : ℤ) (h' e : List ℕ) → 2 ≤ length h → Starts val h r h' → (r ≡ ok) × Init val (layout.num h') (waiting e (get_or h' 1 0))
futex-init val h r h' e k s =
    let t = s.with blank blank_roomy in
    let c : r ≡ ok = t.code ∙ rw (le-leb 2 (length h) k) in
    let o = (t.made c).object in
    let n : get_or h' 1 0 ≡ 0 = sym (back-length blank (get_or h' 1 0)) ∙ ap (λ (x : Object Futex). length x.queue) o in
    (c, record { inv = rw n well_empty; val = ap (λ (x : Object Futex). x.num.val) o; empty = rw n refl })

-- wait: another value than the expected one
other-value : (x i p v : ℕ) (q : List ℕ) → p < max_priority → (v ≡ x → ⊥) → wait_out x i p running (obj v q) ≡ refuse eagain
other-value x i p v q valid n = rw (lt-ltb p max_priority valid, ne_eqb v x n)

module _ (x i p v : ℕ) (q : List ℕ) (small : i < 4294967296) (valid : p < max_priority) where
  module _ (is : v ≡ x) where
    -- the value is the expected one, and there is a place
    wait-joins : length q < max_waiters → holds i q ≡ false
        → wait_out x i p running (obj v q) ≡ accept (obj v (joined (entry p i) q)) waits []
    wait-joins room absent = seated futex_kind plain i p (wait x) (obj v q) (mk v) tt waits refl (rw (eq-eqb v x is)) small valid absent room

  module _ (room : length q < max_waiters) (absent : holds i q ≡ false) where
    pub wait_gating_condition : Gating x i p (obj v q)
    wait_gating_condition = record { blocks = λ z. wait-joins z room absent; returns = λ n. other-value x i p v q valid n }

    abbrev WaitMet : Type 0
    WaitMet =
        Wait x (mk v) q (answer (wait_out x i p running (obj v q))) (left (wait_out x i p running (obj v q)) (obj v q)).num
        (left (wait_out x i p running (obj v q)) (obj v q)).queue

    waits-here : Inv q → WaitMet
    waits-here g = go (eqb v x) refl
      where
        go : (b : Bool) → eqb v x ≡ b → WaitMet
        go true y =
            let z : v ≡ x = eqb-true v x y in
            let t = wait-joins z room absent in
            rw t
            (record {
              inv = rw t at (inv-after v q g (asks i p running small (wait x)));
              val = refl;
              blocked = λ k. refl;
              joined = λ k. length-insert prio (entry p i) q ∙ sym (add-one (length q));
              mismatch = λ k. absurd (k z);
              stayed = λ k. absurd (k z);
            })
        go false y =
            let z : v ≡ x → ⊥ = eqb-false v x y in
            rw (other-value x i p v q valid z)
            (record {
              inv = g;
              val = refl;
              blocked = λ k. absurd (z k);
              joined = λ k. absurd (z k);
              mismatch = λ k. refl;
              stayed = λ k. refl;
            })

-- wake: all, with room for all that wait
wakes-all : (room v : ℕ) (q : List ℕ) → length q ≤ room
    → wake_out true room (obj v q) ≡ accept (obj v []) (pos (length q)) (map (woken ok) q)
wakes-all room v q k = rw (length-map q (woken ok), le-leb (length q) room k, length-map q ident)

wakes-none : (room v : ℕ) (q : List ℕ) → room < length q → wake_out true room (obj v q) ≡ refuse einval
wakes-none room v q k = rw (length-map q (woken ok), lt-leb (length q) room k)

-- one, with room for one
wakes-first : (room v x : ℕ) (q : List ℕ) → 0 < room
    → wake_out false room (obj v (x ∷ q)) ≡ accept (obj v q) (pos 1) (woken ok x ∷ [])
wakes-first room v x q k = rw (le-leb 1 room k)

wakes_no_first : (room v x : ℕ) (q : List ℕ) → room < 1 → wake_out false room (obj v (x ∷ q)) ≡ refuse einval
wakes_no_first room v x q k = rw (lt-leb 1 room k)

-- nobody
wakes-nobody : (room v : ℕ) → wake_out false room (obj v []) ≡ accept (obj v []) (pos 0) []
wakes-nobody room v = let z : 0 ≤ room = omega arith in rw (le-leb 0 room z)

abbrev WakeMet : Bool → ℕ → ℕ → List ℕ → Type 0
WakeMet b room v q =
    Wake b (mk v) q (answer (wake_out b room (obj v q))) (left (wake_out b room (obj v q)) (obj v q)).num (left (wake_out b room (obj v q)) (obj v q)).queue

-- for one that is woken, one word of room is enough
wakes : (b : Bool) (room v : ℕ) (q : List ℕ) → Inv q → (b ≡ true → length q ≤ room) → (b ≡ false → 0 < length q → 0 < room) → WakeMet b room v q
wakes true room v q g k l =
    rw (wakes-all room v q (k refl))
    (record {
      woken = length q;
      is = refl;
      inv = well_empty;
      val = refl;
      few = omega arith;
      one_few = λ e. clash e;
      all_woken = λ e. refl;
      all_empty = λ e. refl;
      one_woken = λ e. clash e;
      one_fewer = λ e. clash e;
      nobody = λ e. e;
      bounded = g.short;
    })
wakes false room v [] g k l =
    rw (wakes-nobody room v)
    (record {
      woken = 0;
      is = refl;
      inv = well_empty;
      val = refl;
      few = omega arith;
      one_few = λ e. omega arith;
      all_woken = λ e. clash (sym e);
      all_empty = λ e. clash (sym e);
      one_woken = λ e n. absurd (omega arith);
      one_fewer = λ e n. absurd (omega arith);
      nobody = λ e. refl;
      bounded = g.short;
    })
wakes false room v (x ∷ q) g k l =
    let c : 0 < room = l refl (omega arith) in
    let t = inv-after v (x ∷ q) g (calls 0 wake_one) in
    rw (wakes-first room v x q c)
    (record {
      woken = 1;
      is = refl;
      inv = t;
      val = refl;
      few = omega arith;
      one_few = λ e. omega arith;
      all_woken = λ e. clash (sym e);
      all_empty = λ e. clash (sym e);
      one_woken = λ e n. refl;
      one_fewer = λ e n. omega arith;
      nobody = λ e. absurd (omega arith);
      bounded = omega (arith, g.short);
    })

-- the functions on memory
module _ (h e : List ℕ) (r : ℤ) (h' : List ℕ) (m : Housed layout h e) where
  abbrev val : ℕ
  val = get_or h 0 0

  abbrev queue : List ℕ
  queue = waiting e (get_or h 1 0)

  whole : sane futex_kind layout h e ≡ true
  whole = housed-sane futex_kind layout h e m refl

  module _ (g : Inv (waiting e (get_or h 1 0))) where
    pub futex-wait : (x i p : ℕ) (e' : List ℕ) → i < 4294967296 → p < max_priority → length (waiting e (get_or h 1 0)) < max_waiters → holds i (waiting e (get_or h 1 0)) ≡ false
        → Waits x i p running h e r h' e' → Wait x (layout.num h) (waiting e (get_or h 1 0)) r (layout.num h') (waiting e' (get_or h' 1 0))
    futex-wait x i p e' small valid room absent d =
        shown layout (wait_out x i p running) (Wait x (layout.num h) (waiting e (get_or h 1 0))) h e r h' e' d m (waits-here x i p val queue small valid room absent g)

    -- with room to hand out those that are woken
    pub futex-wake : (b : Bool) (out out' : List ℕ) → (b ≡ true → length (waiting e (get_or h 1 0)) ≤ length out) → (b ≡ false → 0 < length (waiting e (get_or h 1 0)) → 0 < length out)
        → Wakes b h e out r h' out' → Wake b (layout.num h) (waiting e (get_or h 1 0)) r (layout.num h') (waiting e (get_or h' 1 0))
    futex-wake b out out' k l d =
        shown layout (wake_out b (length out)) (Wake b (layout.num h) (waiting e (get_or h 1 0))) h e r h' e d.0 m (wakes b (length out) val queue g k l)

    -- who is woken
    pub first-woken : (x : ℕ) (q out out' : List ℕ) → waiting e (get_or h 1 0) ≡ x ∷ q → 0 < length out → Wakes false h e out r h' out'
        → FirstWoken x q out out' (waiting e (get_or h' 1 0))
    first-woken x q out out' l k d =
        let y : reply place (wake_out false (length out)) h e ≡ accept (obj val q) (pos 1) (woken ok x ∷ []) =
        is-on layout (wake_out false (length out)) h e m ∙ rw l (wakes-first (length out) val x q k) in
        let u : Well (x ∷ q) = rw l at g in
        record { told = rw y at d.1; others = (leaves layout (wake_out false (length out)) h e r h' e d.0 y).queue; highest = u.sorted.0 }

    pub futex-val-set : (x : ℕ) → SetsVal x h e r h' → (r ≡ ok) × ValSet x (waiting e (get_or h 1 0)) (layout.num h') (waiting e (get_or h' 1 0))
    futex-val-set x d =
        shown layout (set_out x) (λ c n q. (c ≡ ok) × ValSet x (waiting e (get_or h 1 0)) n q) h e r h' e d m (refl, record { inv = g; val = refl; waiters = refl })

  pub all_woken_lem : (out out' : List ℕ) → length (waiting e (get_or h 1 0)) ≤ length out → Wakes true h e out r h' out' → AllAreWoken ok (waiting e (get_or h 1 0)) out out'
  all_woken_lem out out' k d = (all-woken-by futex_kind layout plain anyone wake_all h e whole r h' e 0 refl (layout.num h) ok _ refl out out' k d.0 d.1).1

  pub val_get : GetsVal h e r → ValGet (layout.num h) r
  val_get d = d ∙ sym (got h e whole (λ s. s.num.val))

  pub num_waiters_lem : CountsWaiters h e r → NumWaiters (waiting e (get_or h 1 0)) r
  num_waiters_lem d = d ∙ sym (got h e whole (λ s. length s.queue))

  abbrev Stays : ℤ → Type 0
  Stays c = (r ≡ c) × (h' ≡ h)

  -- upstream needs no room; with too little a wake is refused, and all wait on
  pub wake-all-short : (out out' : List ℕ) → length out < length (waiting e (get_or h 1 0)) → Wakes true h e out r h' out' → Stays einval
  wake-all-short out out' k d =
      let b = (short-by futex_kind layout plain anyone wake_all h e whole r h' e 0 refl (layout.num h) ok _ refl out out' k d.0 d.1).0 in
      (b.code, b.header)

  pub wake-one-short : (x : ℕ) (q out out' : List ℕ) → waiting e (get_or h 1 0) ≡ x ∷ q → length out < 1 → Wakes false h e out r h' out' → Stays einval
  wake-one-short x q out out' l k d =
      let f = wake_out false (length out) in
      let b = kept place f h e d.0 {c = einval} (is-on layout f h e m ∙ rw l (wakes_no_first (length out) val x q k)) in
      (b.0, b.1)

  -- upstream demands of every wait that there is a place and that the thread is not here. With another value neither is looked at
  pub wait-mismatch : (x i p : ℕ) (e' : List ℕ) → p < max_priority → (get_or h 0 0 ≡ x → ⊥) → Waits x i p running h e r h' e'
      → (r ≡ eagain) × (h' ≡ h) × (e' ≡ e)
  wait-mismatch x i p e' valid n d =
      kept place (wait_out x i p running) h e d (is-on layout (wait_out x i p running) h e m ∙ other-value x i p val queue valid n)

-- what upstream demands is refused here: more that wait than can, or too little memory
module _ (h e : List ℕ) (r : ℤ) (h' : List ℕ) (s : sane futex_kind layout h e ≡ false) where
  abbrev Same : Type 0
  Same = (r ≡ einval) × (h' ≡ h)

  same : (r ≡ einval) × (h' ≡ h) × (e ≡ e) → Same
  same k = (k.0, k.1)

  pub wait-refuses : (x i p st : ℕ) (e' : List ℕ) → Waits x i p st h e r h' e' → Same × (e' ≡ e)
  wait-refuses x i p st e' d =
      let k = kept place (wait_out x i p st) h e d (malformed futex_kind layout h e (wait_out x i p st) (λ o z. clash z) s) in
      ((k.0, k.1), k.2)

  pub wake-refuses : (b : Bool) (out out' : List ℕ) → Wakes b h e out r h' out' → Same
  wake-refuses b out out' d =
      same
      (kept place (wake_out b (length out)) h e d.0
      (malformed futex_kind layout h e (wake_out b (length out)) (fitting_no futex_kind plain anyone (wake_call b) (length out)) s))

  pub set-refuses : (x : ℕ) → SetsVal x h e r h' → Same
  set-refuses x d = same (kept place (set_out x) h e d (malformed futex_kind layout h e (set_out x) (λ o z. clash z) s))

  pub get-refuses : (g : Object Futex → ℕ) → Gets g h e r → r ≡ einval
  get-refuses g d = d ∙ sym (got_no h e g s)

refused-wakes : {P : Type 0} (n : ℕ) → einval ≡ pos n → P
refused-wakes n z = absurd (let y : ◌≡◌ {A = ℕ} 0 1 = cc in omega arith)

-- what any wake answers and leaves of s: nobody is lost, a wake of one hands out at most one, and the answer is how many are handed out
record Woke (b : Bool) (s : Object Futex) (y : Reply (Object Futex)) : Type 0 where
  lost : length (out y) + length (left y s).queue ≡ length s.queue
  lone : b ≡ false → length (out y) ≤ 1
  told : (n : ℕ) → answer y ≡ pos n → n ≡ length (out y)

not-woke : (b : Bool) (s : Object Futex) → Woke b s (refuse einval)
not-woke b s = record { lost = omega arith; lone = λ e. omega arith; told = λ n z. refused-wakes n z }

woke : (b : Bool) (room v : ℕ) (q : List ℕ) → Woke b (obj v q) (wake_out b room (obj v q))
woke true room v q = go (leb (length q) room) refl
  where
    go : (c : Bool) → leb (length q) room ≡ c → Woke true (obj v q) (wake_out true room (obj v q))
    go true z =
        let l = length-map q (woken ok) in
        rw (wakes-all room v q (leb-true (length q) room z)) (record { lost = omega (arith, l); lone = λ e. clash e; told = λ n e. sym (ap mag e) ∙ sym l })
    go false z = rw (wakes-none room v q (leb-false (length q) room z)) (not-woke true (obj v q))
woke false room v [] = rw (wakes-nobody room v) (record { lost = refl; lone = λ e. omega arith; told = λ n e. sym (ap mag e) })
woke false room v (x ∷ q) = go (leb 1 room) refl
  where
    go : (c : Bool) → leb 1 room ≡ c → Woke false (obj v (x ∷ q)) (wake_out false room (obj v (x ∷ q)))
    go true z = rw z (record { lost = omega arith; lone = λ e. omega arith; told = λ n e. sym (ap mag e) })
    go false z = rw z (not-woke false (obj v (x ∷ q)))

-- upstream's lemmas
pub wake_semantics : (v : ℕ) (q : List ℕ) (room : ℕ) → WakeSemantics (obj v q) room
wake_semantics v q room =
    let o = woke false room v q in
    record { one = o.lone refl; one_lost = o.lost; all = λ k. rw (wakes-all room v q k); all_lost = (woke true room v q).lost }

some-place : 0 < max_waiters
unfolding max_waiters
some-place = omega arith

pub wait-wake_roundtrip : (v i p : ℕ) (small : i < 4294967296) → p < max_priority → Roundtrip v i p small
wait-wake_roundtrip v i p small valid =
    let t = wait-joins v i p v [] small valid refl some-place refl in
    let q : after v (asks i p running small (wait v) ∷ []) ≡ obj v (entry p i ∷ []) = rw t in
    record {
      waited = rw t;
      queued = q;
      woke = wakes-first 1 v (entry p i) [] (omega arith);
      back = ap (λ (s : Object Futex). next futex_kind plain s (calls i wake_one)) q;
    }

few_enough : max_waiters ≤ 4294967295
unfolding max_waiters
few_enough = omega arith

-- of any memory
module _ (b : Bool) (room : ℕ) (h e : List ℕ) where
  abbrev Answers : ℕ → Type 0
  Answers n = answer (reply place (wake_out b room) h e) ≡ pos n

  -- one that is not as it should be is refused
  housed : (n : ℕ) → Answers n → Housed layout h e
  housed n z = go (leb 2 (length h)) (roomy (get_or h 1 0) e) refl refl
    where
      go : (c f : Bool) → leb 2 (length h) ≡ c → roomy (get_or h 1 0) e ≡ f → Housed layout h e
      go false f x y = refused-wakes n (rw x at z)
      go true false x y = refused-wakes n (rw (x, y) at z)
      go true true x y = record { words = leb-true 2 (length h) x; room = y }

  -- at most as many as wait; of one, at most one
  module _ (n : ℕ) (z : Answers n) where
    handed : n ≡ length (out (wake_out b room (place.object h e)))
    handed = (woke b room (get_or h 0 0) (waiting e (get_or h 1 0))).told n (rw (is-on layout (wake_out b room) h e (housed n z)) at z)

    at_most : n ≤ length (waiting e (get_or h 1 0))
    at_most = omega (arith, handed, (woke b room (get_or h 0 0) (waiting e (get_or h 1 0))).lost)

    one_at_most : b ≡ false → n ≤ 1
    one_at_most y = omega (arith, handed, (woke b room (get_or h 0 0) (waiting e (get_or h 1 0))).lone y)

    within : n ≤ max_waiters
    within = omega (arith, at_most, back-length e (get_or h 1 0), (is-roomy (get_or h 1 0) e (housed n z).room).few)

  pub woken-bounded : Bounded b room h e
  woken-bounded = record { limit = few_enough; woken = within }

pub wake-few : (b : Bool) (h e out : List ℕ) (r : ℤ) (h' out' : List ℕ) → Wakes b h e out r h' out' → WakeFew b (waiting e (get_or h 1 0)) r
wake-few b h e out r h' out' d =
    record {
      few = λ n z. at_most b (length out) h e n (sym d.0.code ∙ z);
      one_few = λ y n z. one_at_most b (length out) h e n (sym d.0.code ∙ z) y;
      bounded = λ n z. within b (length out) h e n (sym d.0.code ∙ z);
    }
