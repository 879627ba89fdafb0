-- Our contracts imply those of Gale's mutex.rs. Assumes nothing.
use mathlib.Core.Path.{◌≡◌, refl, sym, ap, ◌∙◌}
use mathlib.Core.Bool.{Bool, true, false}
use mathlib.Core.Logic.{◌⊎◌, inl, inr}
use mathlib.Core.List.{List, [], ◌∷◌, ◌++◌}
use Prim.Native.Nat.{ℕ, zero, suc, ◌+◌, ◌-◌, ◌≤◌, ◌<◌}
use native.Mathlib.Numerals.{add-one}
use native.Mathlib.Omega.{arith}
use lib.Dec.{ltb, eqb}
use lib.IntN.{ℤ, pos}
use lib.ListN.{length, get_or}
use borrow.Author.Tests.{lt-ltb, le-ltb, ltb-true, ltb-false, eq-eqb, ne_eqb, eqb-true, eqb-false, le-leb}
use Rattle.seq.specs.List.{any}
use Rattle.seq.proofs.Order.{clash, length-insert}
use Rattle.thread.specs.Code.{ok, eperm, ebusy, einval, eoverflow}
use Rattle.thread.specs.Priority.{max_priority}
use Rattle.thread.specs.Thread.{running}
use Rattle.store.specs.Store.{Reply, refuse, accept, answer, left, reply, Did}
use Rattle.store.proofs.Laws.{did_alike, kept, looks-is}
use Rattle.wait_queue.specs.Queue.{max_waiters, entry, prio, ident, woken, waiting, holds, joined, Well}
use Rattle.wait_queue.specs.Turn.{waits}
use Rattle.wait_queue.proofs.Well.{well_empty}
use Rattle.kind.specs.Kind.{plain}
use Rattle.kind.specs.Object as object
use Rattle.kind.specs.Object.{Object, named, reads, sane}
use Rattle.kind.specs.History.{Event, calls, asks, next, Lasting}
use Rattle.kind.proofs.Memory.{Housed, housed-formed, is-on, shown}
use Rattle.kind.proofs.Answers.{call_no, seated, unseen}
use Rattle.kind.proofs.Forward.{opened-code, opened-made}
use Rattle.kind.proofs.Histories.{always, step}
use Rattle.mutex.specs.Mutex.{Owner, nobody, thread, Mutex, Call, lock, try_lock, unlock, held, formed, max_count, released, unlocked, transferred, free, taken, mutex_kind}
use Rattle.mutex.specs.Post.{layout, place, try_lock_out, unlock_out, lock_out, is_locked, owner_id, Starts, TriesLock, Locks, Unlocks, Gets, SaysLocked, GetsLockCount, CountsWaiters, GetsOwner, LockDecided, UnlockDecided}
use Rattle.mutex.specs.History.{fresh, after}
use Rattle.mutex.specs.Upstream.{Inv, is_ok, Another, Init, TryLock, LockBlocking, Unlock, IsLocked, LockCountGet, NumWaiters, OwnerGet, LockDecide, UnlockDecide, OwnerCount, Roundtrip, times, Depth}
use Rattle.mutex.proofs.Law.{mk, free-fine, free-empty, mutex_lawful}
use Rattle.mutex.proofs.Moves.{whole}
use Rattle.mutex.proofs.Answers.{lock_null_bad, lock_null, lock-empty, lock-over, lock-more, lock-busy, lock-pend, unlock_null, unlock-empty, unlock-not, unlock-more, unlock-one}

-- decide functions: of numbers as they should be, an owner with a count and no owner with none
other-one : ◌≡◌ {A = ℕ} 1 0 → ⊥
other-one z = absurd (omega arith)

-- they have one answer
one-lock : (c : ℕ) (null current no_wait : Bool) (r s : ℤ) → LockDecided c null current no_wait r → LockDecided c null current no_wait s → r ≡ s
one-lock c null current no_wait r s d t = d 0 1 [] other-one refl ∙ sym (t 0 1 [] other-one refl)

one-unlock : (c : ℕ) (null current : Bool) (r s : ℤ) → UnlockDecided c null current r → UnlockDecided c null current s → r ≡ s
one-unlock c null current r s d t = d 0 1 [] other-one ∙ sym (t 0 1 [] other-one)

pub lock_decide_lem : (c : ℕ) (null current no_wait : Bool) (r : ℤ) → (null ≡ true → c ≡ 0) → (null ≡ false → 0 < c)
    → LockDecided c null current no_wait r → LockDecide c null current no_wait r
lock_decide_lem c true u w r a b d =
    record {
      acquires = λ z. one-lock c true u w r _ d (lock_null c u w (a refl));
      enters = λ z. clash z;
      overflows = λ z. clash z;
      blocks = λ z. clash z;
      pends = λ z. clash z;
    }
lock_decide_lem c false true w r a b d =
    record {
      acquires = λ z. clash (sym z);
      enters = λ x y l. one-lock c false true w r _ d (lock-more c w (b refl) l);
      overflows = λ x y l. one-lock c false true w r _ d (lock-over c w l);
      blocks = λ x y. clash y;
      pends = λ x y. clash y;
    }
lock_decide_lem c false false true r a b d =
    record {
      acquires = λ z. clash (sym z);
      enters = λ x y. clash (sym y);
      overflows = λ x y. clash (sym y);
      blocks = λ x y z. one-lock c false false true r _ d (lock-busy c (b refl));
      pends = λ x y z. clash z;
    }
lock_decide_lem c false false false r a b d =
    record {
      acquires = λ z. clash (sym z);
      enters = λ x y. clash (sym y);
      overflows = λ x y. clash (sym y);
      blocks = λ x y z. clash (sym z);
      pends = λ x y z. one-lock c false false false r _ d (lock-pend c (b refl));
    }

pub lock-decide-refuses : (c : ℕ) (null current no_wait : Bool) (r : ℤ) → ((null ≡ true) × (0 < c)) ⊎ ((null ≡ false) × (c ≡ 0))
    → LockDecided c null current no_wait r → r ≡ einval
lock-decide-refuses c true u w r (inl z) d = one-lock c true u w r _ d (lock_null_bad c u w z.1)
lock-decide-refuses c true u w r (inr z) d = clash z.0
lock-decide-refuses c false u w r (inl z) d = clash (sym z.0)
lock-decide-refuses c false u w r (inr z) d = one-lock c false u w r _ d (lock-empty c u w z.1)

pub unlock_decide_lem : (c : ℕ) (null current : Bool) (r : ℤ) → (null ≡ false → 0 < c) → UnlockDecided c null current r → UnlockDecide c null current r
unlock_decide_lem c true u r b d =
    record {
      free = λ z. one-unlock c true u r _ d (unlock_null c u);
      other = λ z. clash z;
      nested = λ z. clash z;
      last = λ z. clash z;
    }
unlock_decide_lem c false true r b d =
    record {
      free = λ z. clash (sym z);
      other = λ x y. clash y;
      nested = λ x y l. one-unlock c false true r _ d (unlock-more c l);
      last = λ x y l. one-unlock c false true r _ d (unlock-one c (b refl) l);
    }
unlock_decide_lem c false false r b d =
    record {
      free = λ z. clash (sym z);
      other = λ x y. one-unlock c false false r _ d (unlock-not c (b refl));
      nested = λ x y. clash (sym y);
      last = λ x y. clash (sym y);
    }

pub unlock-decide-refuses : (c : ℕ) (current : Bool) (r : ℤ) → c ≡ 0 → UnlockDecided c false current r → r ≡ einval
unlock-decide-refuses c u r z d = one-unlock c false u r _ d (unlock-empty c u z)

-- the invariant is our own: numbers as they should be, and a queue as it should be
filled : (q : List ℕ) → any q ≡ true → 0 < length q
filled [] h = clash (sym h)
filled (x ∷ q) h = omega arith

vacant : (q : List ℕ) → any q ≡ false → length q ≡ 0
vacant [] h = refl
vacant (x ∷ q) h = clash h

pub inv-formed : (o : Owner) (c : ℕ) (q : List ℕ) → Inv (mk o c) q → formed (mk o c) (any q) ≡ true
inv-formed nobody c q v = free-fine c (any q) (none (ltb 0 c) refl) (idle (any q) refl)
  where
    none : (b : Bool) → ltb 0 c ≡ b → c ≡ 0
    none true z = clash (sym (v.owned (ltb-true 0 c z)))
    none false z = let y : c ≤ 0 = ltb-false 0 c z in omega arith

    idle : (b : Bool) → any q ≡ b → b ≡ false
    idle true z = clash (sym (v.awaited (filled q z)))
    idle false z = refl
inv-formed (thread j) c q v = lt-ltb 0 c (v.counted refl)

pub formed-inv : (o : Owner) (c : ℕ) (q : List ℕ) → formed (mk o c) (any q) ≡ true → Well q → Inv (mk o c) q
formed-inv nobody c q f w =
    let z : (c ≡ 0) × (any q ≡ false) = free-empty c (any q) f in
    record {
      owned = λ k. absurd (omega (arith, z.0));
      counted = λ k. clash (sym k);
      awaited = λ k. absurd (omega (arith, vacant q z.1));
      queue = w;
    }
formed-inv (thread j) c q f w = record { owned = λ k. refl; counted = λ k. ltb-true 0 c f; awaited = λ k. refl; queue = w }

-- init
pub mutex-init : (h : List ℕ) (r : ℤ) (h' e : List ℕ) → 4 ≤ length h → Starts h r h' → (r ≡ ok) × Init (layout.num h') (waiting e (get_or h' 3 0))
mutex-init h r h' e k s =
    let c : r ≡ ok = opened-code mutex_kind layout free h r h' s.0 ∙ rw (le-leb 4 (length h) k) in
    let m = opened-made mutex_kind layout free h r h' s.0 c in
    (c, rw (m.0, m.1) (record { inv = formed-inv nobody 0 [] refl well_empty; owner = refl; count = refl; empty = refl }))

-- what one call does, case by case
module _ (i c : ℕ) (q : List ℕ) where
  first-lock : formed (mk nobody c) (any q) ≡ true → try_lock_out i (whole nobody c q) ≡ accept (whole (thread i) 1 q) ok []
  first-lock f = rw f

  next-lock : formed (mk (thread i) c) (any q) ≡ true → c < max_count → try_lock_out i (whole (thread i) c q) ≡ accept (whole (thread i) (suc c) q) ok []
  next-lock f k = rw (f, eq-eqb i i refl, lt-ltb c max_count k)

  -- the owner's locks are at their limit
  no_lock : formed (mk (thread i) c) (any q) ≡ true → c ≡ max_count → try_lock_out i (whole (thread i) c q) ≡ refuse eoverflow
  no_lock f k = let z : max_count ≤ c = omega arith in rw (f, eq-eqb i i refl, le-ltb c max_count z)

  other-lock : (j : ℕ) → formed (mk (thread j) c) (any q) ≡ true → (j ≡ i → ⊥) → try_lock_out i (whole (thread j) c q) ≡ refuse ebusy
  other-lock j f n = rw (f, ne_eqb j i n)

  not-locked : formed (mk nobody c) (any q) ≡ true → unlock_out i (whole nobody c q) ≡ refuse einval
  not-locked f = rw f

  not-owner : (j : ℕ) → formed (mk (thread j) c) (any q) ≡ true → (j ≡ i → ⊥) → unlock_out i (whole (thread j) c q) ≡ refuse eperm
  not-owner j f n = rw (f, ne_eqb j i n)

  one_less : formed (mk (thread i) c) (any q) ≡ true → 1 < c → unlock_out i (whole (thread i) c q) ≡ accept (whole (thread i) (c - 1) q) released []
  one_less f k = rw (f, eq-eqb i i refl, lt-ltb 1 c k)

now-free : (i c : ℕ) → c ≡ 1 → unlock_out i (whole (thread i) c []) ≡ accept fresh unlocked []
now-free i c k = rw (k, eq-eqb i i refl)

passed_on : (i c x : ℕ) (q : List ℕ) → c ≡ 1 → unlock_out i (whole (thread i) c (x ∷ q)) ≡ accept (whole (thread (ident x)) 1 q) transferred (woken ok x ∷ [])
passed_on i c x q k = rw (k, eq-eqb i i refl)

-- who owns it
abbrev id_of : Owner → ℕ
id_of nobody = 0
id_of (thread i) = i

no_owner : {P : Type 0} (i : ℕ) → nobody ≡ thread i → P
no_owner i z = clash (sym (ap held z))

an_owner : {P : Type 0} (i : ℕ) → thread i ≡ nobody → P
an_owner i z = clash (ap held z)

nobody_else : {P : Type 0} (i : ℕ) → Another i nobody → P
nobody_else i a = no_owner a.who a.is

not_itself : {P : Type 0} (i : ℕ) → Another i (thread i) → P
not_itself i a = absurd (a.other (sym (ap id_of a.is)))

-- after an event, too
inv-after : (o : Owner) (c : ℕ) (q : List ℕ) → Inv (mk o c) q → (x : Event Call)
    → Inv (next mutex_kind plain (whole o c q) x).num (next mutex_kind plain (whole o c q) x).queue
inv-after o c q v x =
    let t = step mutex_kind mutex_lawful plain (whole o c q) x (record { numbers = inv-formed o c q v; queue = v.queue }) in
    formed-inv _ _ _ t.numbers t.queue

-- what a call answers and leaves is as P says
abbrev Shows : (ℤ → Mutex → List ℕ → Type 0) → (Object Mutex → Reply (Object Mutex)) → Object Mutex → Type 0
Shows P f s = P (answer (f s)) (left (f s) s).num (left (f s) s).queue

abbrev TryLockMet : ℕ → Owner → ℕ → List ℕ → Type 0
TryLockMet i o c q = Shows (TryLock i (mk o c) q) (try_lock_out i) (whole o c q)

tries-free : (i c : ℕ) (q : List ℕ) → Inv (mk nobody c) q → TryLockMet i nobody c q
tries-free i c q v =
    let t = first-lock i c q (inv-formed nobody c q v) in
    record {
      inv = inv-after nobody c q v (calls i try_lock);
      waiters = rw t;
      free_acquired = λ z. rw t;
      free_owner = λ z. rw t;
      free_count = λ z. rw t;
      own_acquired = no_owner i;
      own_owner = no_owner i;
      own_count = no_owner i;
      other_blocked = nobody_else i;
      other_owner = nobody_else i;
      other_count = nobody_else i;
    }

tries-own : (i c : ℕ) (q : List ℕ) → Inv (mk (thread i) c) q → c < max_count → TryLockMet i (thread i) c q
tries-own i c q v k =
    let t = next-lock i c q (inv-formed (thread i) c q v) k in
    record {
      inv = inv-after (thread i) c q v (calls i try_lock);
      waiters = rw t;
      free_acquired = an_owner i;
      free_owner = an_owner i;
      free_count = an_owner i;
      own_acquired = λ z. rw t;
      own_owner = λ z. rw t;
      own_count = λ z. rw t (sym (add-one c));
      other_blocked = not_itself i;
      other_owner = not_itself i;
      other_count = not_itself i;
    }

tries-other : (i j c : ℕ) (q : List ℕ) → Inv (mk (thread j) c) q → (j ≡ i → ⊥) → TryLockMet i (thread j) c q
tries-other i j c q v n =
    let t = other-lock i c q j (inv-formed (thread j) c q v) n in
    record {
      inv = inv-after (thread j) c q v (calls i try_lock);
      waiters = rw t;
      free_acquired = an_owner j;
      free_owner = an_owner j;
      free_count = an_owner j;
      own_acquired = λ z. absurd (n (ap id_of z));
      own_owner = λ z. absurd (n (ap id_of z));
      own_count = λ z. absurd (n (ap id_of z));
      other_blocked = λ z. rw t;
      other_owner = λ z. rw t;
      other_count = λ z. rw t;
    }

-- upstream's premise of the count is needed of the owner alone
tries : (i : ℕ) (o : Owner) (c : ℕ) (q : List ℕ) → Inv (mk o c) q → (o ≡ thread i → c < max_count) → TryLockMet i o c q
tries i nobody c q v l = tries-free i c q v
tries i (thread j) c q v l = go (eqb j i) refl
  where
    go : (b : Bool) → eqb j i ≡ b → TryLockMet i (thread j) c q
    go true y = let z : j ≡ i = eqb-true j i y in rw z (tries-own i c q (rw z at v) (l (ap thread z)))
    go false y = tries-other i j c q v (eqb-false j i y)

-- unlock
abbrev UnlockMet : ℕ → Owner → ℕ → List ℕ → Type 0
UnlockMet i o c q = Shows (Unlock i (mk o c) q) (unlock_out i) (whole o c q)

unlocks-free : (i c : ℕ) (q : List ℕ) → Inv (mk nobody c) q → UnlockMet i nobody c q
unlocks-free i c q v =
    let t = not-locked i c q (inv-formed nobody c q v) in
    record {
      inv = inv-after nobody c q v (calls i unlock);
      free_code = λ z. rw t;
      free_owner = λ z. rw t;
      free_count = λ z. rw t;
      other_code = nobody_else i;
      other_owner = nobody_else i;
      other_count = nobody_else i;
      nested_ok = no_owner i;
      nested_count = no_owner i;
      nested_owner = no_owner i;
      nested_waiters = no_owner i;
      passed_ok = no_owner i;
      passed_owner = no_owner i;
      passed_count = no_owner i;
      passed_waiters = no_owner i;
      last_ok = no_owner i;
      last_owner = no_owner i;
      last_count = no_owner i;
      last_waiters = no_owner i;
    }

unlocks-other : (i j c : ℕ) (q : List ℕ) → Inv (mk (thread j) c) q → (j ≡ i → ⊥) → UnlockMet i (thread j) c q
unlocks-other i j c q v n =
    let t = not-owner i c q j (inv-formed (thread j) c q v) n in
    record {
      inv = inv-after (thread j) c q v (calls i unlock);
      free_code = an_owner j;
      free_owner = an_owner j;
      free_count = an_owner j;
      other_code = λ z. rw t;
      other_owner = λ z. rw t;
      other_count = λ z. rw t;
      nested_ok = λ z. absurd (n (ap id_of z));
      nested_count = λ z. absurd (n (ap id_of z));
      nested_owner = λ z. absurd (n (ap id_of z));
      nested_waiters = λ z. absurd (n (ap id_of z));
      passed_ok = λ z. absurd (n (ap id_of z));
      passed_owner = λ z. absurd (n (ap id_of z));
      passed_count = λ z. absurd (n (ap id_of z));
      passed_waiters = λ z. absurd (n (ap id_of z));
      last_ok = λ z. absurd (n (ap id_of z));
      last_owner = λ z. absurd (n (ap id_of z));
      last_count = λ z. absurd (n (ap id_of z));
      last_waiters = λ z. absurd (n (ap id_of z));
    }

-- the owner's, by its locks and by who waits
unlocks-own : (i c : ℕ) (q : List ℕ) → Inv (mk (thread i) c) q → UnlockMet i (thread i) c q
unlocks-own i c q v =
    record {
      inv = inv-after (thread i) c q v (calls i unlock);
      free_code = an_owner i;
      free_owner = an_owner i;
      free_count = an_owner i;
      other_code = not_itself i;
      other_owner = not_itself i;
      other_count = not_itself i;
      nested_ok = λ z k. rw (one_less i c q f k);
      nested_count = λ z k. rw (one_less i c q f k);
      nested_owner = λ z k. rw (one_less i c q f k);
      nested_waiters = λ z k. rw (one_less i c q f k);
      passed_ok = λ z k l. passed (λ m r n l. is_ok r ≡ true) k l (λ x m. refl);
      passed_owner = λ z k l. passed (λ m r n l. held n.owner ≡ true) k l (λ x m. refl);
      passed_count = λ z k l. passed (λ m r n l. n.count ≡ 1) k l (λ x m. refl);
      passed_waiters = λ z k l. passed (λ m r n l. length l ≡ length m - 1) k l (λ x m. omega arith);
      last_ok = λ z k l. last (λ r n l. is_ok r ≡ true) k l refl;
      last_owner = λ z k l. last (λ r n l. n.owner ≡ nobody) k l refl;
      last_count = λ z k l. last (λ r n l. n.count ≡ 0) k l refl;
      last_waiters = λ z k l. last (λ r n l. length l ≡ 0) k l refl;
    }
  where
    f : formed (mk (thread i) c) (any q) ≡ true
    f = inv-formed (thread i) c q v

    -- who waits first gets it
    passed : (P : List ℕ → ℤ → Mutex → List ℕ → Type 0) → c ≡ 1 → 0 < length q → ((x : ℕ) (m : List ℕ) → P (x ∷ m) transferred (taken (ident x)) m)
        → Shows (P q) (unlock_out i) (whole (thread i) c q)
    passed P k l p = go q l
      where
        go : (m : List ℕ) → 0 < length m → Shows (P m) (unlock_out i) (whole (thread i) c m)
        go [] h = absurd (omega arith)
        go (x ∷ m) h = rw (passed_on i c x m k) (p x m)

    last : (P : ℤ → Mutex → List ℕ → Type 0) → c ≡ 1 → length q ≡ 0 → P unlocked free [] → Shows P (unlock_out i) (whole (thread i) c q)
    last P k l p = go q l
      where
        go : (m : List ℕ) → length m ≡ 0 → Shows P (unlock_out i) (whole (thread i) c m)
        go [] h = rw (now-free i c k) p
        go (x ∷ m) h = absurd (omega arith)

unlocks : (i : ℕ) (o : Owner) (c : ℕ) (q : List ℕ) → Inv (mk o c) q → UnlockMet i o c q
unlocks i nobody c q v = unlocks-free i c q v
unlocks i (thread j) c q v = go (eqb j i) refl
  where
    go : (b : Bool) → eqb j i ≡ b → UnlockMet i (thread j) c q
    go true y = let z : j ≡ i = eqb-true j i y in rw z (unlocks-own i c q (rw z at v))
    go false y = unlocks-other i j c q v (eqb-false j i y)

-- lock_blocking of another's, with a place to wait
module _ (i p j c : ℕ) (q : List ℕ) (small : i < 4294967296) (valid : p < max_priority) (v : Inv (mk (thread j) c) q) (n : j ≡ i → ⊥)
    (room : length q < max_waiters) (absent : holds i q ≡ false) where
  -- the thread joins
  pub lock-joins : lock_out i p running (whole (thread j) c q) ≡ accept (whole (thread j) c (joined (entry p i) q)) waits []
  lock-joins =
      seated mutex_kind plain i p lock (whole (thread j) c q) (mk (thread j) c) tt waits (inv-formed (thread j) c q v) (rw (ne_eqb j i n)) small valid absent
      room

  blocks : Shows (LockBlocking (mk (thread j) c) q) (lock_out i p running) (whole (thread j) c q)
  blocks =
      let t = lock-joins in
      record {
        inv = inv-after (thread j) c q v (asks i p running small lock);
        owner = ap (λ (y : Reply (Object Mutex)). (left y (whole (thread j) c q)).num.owner) t;
        count = ap (λ (y : Reply (Object Mutex)). (left y (whole (thread j) c q)).num.count) t;
        joined = λ k. ap (λ (y : Reply (Object Mutex)). length (left y (whole (thread j) c q)).queue) t
            ∙ length-insert prio (entry p i) q ∙ sym (add-one (length q));
        stayed = λ k. absurd (k (ap answer t));
      }

-- what is there, or its own, the caller gets as without waiting
lock-same : (i p : ℕ) (o : Owner) (c : ℕ) (q : List ℕ) → p < max_priority → (o ≡ nobody) ⊎ (o ≡ thread i)
    → lock_out i p running (whole o c q) ≡ try_lock_out i (whole o c q)
lock-same i p o c q k (inl z) = rw (z, lt-ltb p max_priority k)
lock-same i p o c q k (inr z) = go (ltb c max_count) refl
  where
    go : (b : Bool) → ltb c max_count ≡ b → lock_out i p running (whole o c q) ≡ try_lock_out i (whole o c q)
    go true y = rw (z, lt-ltb p max_priority k, eq-eqb i i refl, y)
    go false y = rw (z, lt-ltb p max_priority k, eq-eqb i i refl, y)

-- numbers
locked : (o : Owner) (c : ℕ) (q : List ℕ) → Inv (mk o c) q → IsLocked (mk o c) (is_locked (mk o c))
locked nobody c q v = record { owner = inr (refl, λ k. clash (sym k)); count = inr (refl, λ k. clash (sym (v.owned k))) }
locked (thread i) c q v = record { owner = inl (refl, refl); count = inl (refl, v.counted refl) }

-- the functions on memory
module _ (h e : List ℕ) (r : ℤ) (h' : List ℕ) (m : Housed layout h e) (v : Inv (layout.num h) (waiting e (get_or h 3 0))) where
  abbrev own : Owner
  own = (layout.num h).owner

  pub mutex_try_lock : (i : ℕ) → (own ≡ thread i → get_or h 2 0 < max_count) → TriesLock i h e r h'
      → TryLock i (layout.num h) (waiting e (get_or h 3 0)) r (layout.num h') (waiting e (get_or h' 3 0))
  mutex_try_lock i l d =
      shown layout (try_lock_out i) (TryLock i (layout.num h) (waiting e (get_or h 3 0))) h e r h' e d.0 m
      (tries i own (get_or h 2 0) (waiting e (get_or h 3 0)) v l)

  pub mutex-lock-blocking : (i p : ℕ) (e' : List ℕ) → i < 4294967296 → p < max_priority → Another i own → length (waiting e (get_or h 3 0)) < max_waiters
      → holds i (waiting e (get_or h 3 0)) ≡ false
      → Locks i p running h e r h' e' → LockBlocking (layout.num h) (waiting e (get_or h 3 0)) r (layout.num h') (waiting e' (get_or h' 3 0))
  mutex-lock-blocking i p e' small valid a room absent d =
      shown layout (lock_out i p running) (LockBlocking (layout.num h) (waiting e (get_or h 3 0))) h e r h' e' d.0 m
      (rw a.is (blocks i p a.who (get_or h 2 0) (waiting e (get_or h 3 0)) small valid (rw a.is at v) a.other room absent))

  -- upstream demands another's; what is free or its own, the thread gets as by try_lock
  pub mutex-lock-takes : (i p : ℕ) (e' : List ℕ) → p < max_priority → (own ≡ nobody) ⊎ (own ≡ thread i) → Locks i p running h e r h' e'
      → Did place (try_lock_out i) h e r h' e'
  mutex-lock-takes i p e' k o d =
      did_alike place (lock_out i p running) (try_lock_out i) h e
      (is-on layout (lock_out i p running) h e m ∙ lock-same i p own (get_or h 2 0) (waiting e (get_or h 3 0)) k o ∙ sym (is-on layout (try_lock_out i) h e m)) d.0

  pub mutex-unlock : (i w w' : ℕ) → Unlocks i h e w r h' w'
      → Unlock i (layout.num h) (waiting e (get_or h 3 0)) r (layout.num h') (waiting e (get_or h' 3 0))
  mutex-unlock i w w' d =
      shown layout (unlock_out i) (Unlock i (layout.num h) (waiting e (get_or h 3 0))) h e r h' e d.0.0 m
      (unlocks i own (get_or h 2 0) (waiting e (get_or h 3 0)) v)

  gets : (g : Object Mutex → ℤ) → Gets g h e r → r ≡ g (place.object h e)
  gets g d = d ∙ looks-is place h e (reads mutex_kind g) (housed-formed layout h e m) ∙ rw (inv-formed own (get_or h 2 0) (waiting e (get_or h 3 0)) v)

  pub is_locked_lem : SaysLocked h e r → IsLocked (layout.num h) r
  is_locked_lem d = rw (gets (λ m. is_locked m.num) d) (locked own (get_or h 2 0) (waiting e (get_or h 3 0)) v)

  pub lock_count_get_lem : GetsLockCount h e r → LockCountGet (layout.num h) r
  lock_count_get_lem d = gets (λ m. pos m.num.count) d

  pub num_waiters_lem : CountsWaiters h e r → NumWaiters (waiting e (get_or h 3 0)) r
  num_waiters_lem d = gets (λ m. pos (length m.queue)) d

  pub owner_get_lem : GetsOwner h e r → OwnerGet (layout.num h) r
  owner_get_lem d = gets (λ m. owner_id m.num.owner) d

  -- upstream demands fewer than 2^32 - 1 locks; the owner that has as many is refused
  pub overflow-refuses : (i : ℕ) → own ≡ thread i → get_or h 2 0 ≡ max_count → TriesLock i h e r h' → (r ≡ eoverflow) × (h' ≡ h)
  overflow-refuses i o k d =
      let f = inv-formed (thread i) (get_or h 2 0) (waiting e (get_or h 3 0)) (rw o at v) in
      let y : reply place (try_lock_out i) h e ≡ refuse eoverflow =
      is-on layout (try_lock_out i) h e m ∙ rw o (no_lock i (get_or h 2 0) (waiting e (get_or h 3 0)) f k) in
      let u = kept place (try_lock_out i) h e d.0 y in
      (u.0, u.1)

-- what upstream demands is refused here: a header that is not as it should be
module _ (h e : List ℕ) (r : ℤ) (h' : List ℕ) (s : sane mutex_kind layout h e ≡ false) where
  abbrev Stays : Type 0
  Stays = (r ≡ einval) × (h' ≡ h)

  read : (r ≡ einval) × (h' ≡ h) × (e ≡ e) → Stays
  read k = (k.0, k.1)

  pub try_lock-refuses : (i : ℕ) → TriesLock i h e r h' → Stays
  try_lock-refuses i d = read (kept place (try_lock_out i) h e d.0 (call_no mutex_kind layout plain (named i) try_lock h e s))

  pub lock-refuses : (i p st : ℕ) (e' : List ℕ) → Locks i p st h e r h' e' → Stays × (e' ≡ e)
  lock-refuses i p st e' d =
      let k = kept place (lock_out i p st) h e d.0 (call_no mutex_kind layout plain (object.thread i p st) lock h e s) in ((k.0, k.1), k.2)

  pub unlock-refuses : (i w w' : ℕ) → Unlocks i h e w r h' w' → Stays
  unlock-refuses i w w' d = read (kept place (unlock_out i) h e d.0.0 (call_no mutex_kind layout plain (named i) unlock h e s))

  pub get-refuses : (g : Object Mutex → ℤ) → Gets g h e r → r ≡ einval
  get-refuses g d = d ∙ sym (unseen mutex_kind layout g h e s)

-- upstream's lemmas, which end in `ensures true`
pub owner-lock-count : (xs : List (Event Call)) → OwnerCount xs
owner-lock-count xs =
    let t : Lasting mutex_kind plain fresh xs = always mutex_kind mutex_lawful plain free xs refl in
    formed-inv (after xs).num.owner (after xs).num.count (after xs).queue t.good.numbers t.good.queue

pub lock-unlock_roundtrip : (i : ℕ) → Roundtrip i
lock-unlock_roundtrip i = record { locked = refl; owner = refl; unlocked = rw (eq-eqb i i refl); back = rw (eq-eqb i i refl) }

-- the thread i has c locks, and nobody waits
abbrev alone : ℕ → ℕ → Object Mutex
alone i c = whole (thread i) c []

locks-more : (i k : ℕ) → suc k ≤ max_count → after (times (suc k) (calls i try_lock)) ≡ alone i (suc k)
locks-more i zero l = refl
locks-more i (suc k) l =
    ap (λ (s : Object Mutex). left (try_lock_out i s) s) (locks-more i k (omega arith))
    ∙ ap (λ (y : Reply (Object Mutex)). left y (alone i (suc k))) (next-lock i (suc k) [] (lt-ltb 0 (suc k) (omega arith)) (omega arith))

-- j unlocks of them, and k locks are left; with the last it is free
unlocks-some : (i j k : ℕ) (past : List (Event Call)) → after past ≡ alone i (j + suc k) → after (times j (calls i unlock) ++ past) ≡ alone i (suc k)
unlocks-some i zero k past a = a ∙ ap (alone i) (omega arith)
unlocks-some i (suc j) k past a =
    let z : suc (suc k) - 1 ≡ suc k = omega arith in
    ap (λ (s : Object Mutex). left (unlock_out i s) s) (unlocks-some i j (suc k) past (a ∙ ap (alone i) (omega arith)))
    ∙ ap (λ (y : Reply (Object Mutex)). left y (alone i (suc (suc k)))) (one_less i (suc (suc k)) [] (lt-ltb 0 (suc (suc k)) (omega arith)) (omega arith))
    ∙ ap (alone i) z

pub count_tracks_depth : (i n : ℕ) → 0 < n → n ≤ max_count → Depth i n
count_tracks_depth i zero h l = absurd (omega arith)
count_tracks_depth i (suc k) h l =
    let a = locks-more i k l in
    record {
      locked = a;
      back =
          ap (λ (s : Object Mutex). left (unlock_out i s) s) (unlocks-some i k 0 (times (suc k) (calls i try_lock)) (a ∙ ap (alone i) (omega arith)))
          ∙ ap (λ (y : Reply (Object Mutex)). left y (alone i 1)) (now-free i 1 refl);
    }
