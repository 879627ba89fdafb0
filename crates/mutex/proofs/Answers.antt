-- How each answer of a function meets the mutex's definition. Assumes nothing.
use mathlib.Core.Path.{◌≡◌, refl, sym, ap, ◌∙◌}
use mathlib.Core.Bool.{Bool, true, false, cond}
use mathlib.Core.List.{List, [], ◌∷◌, map}
use Prim.Native.Nat.{ℕ, zero, suc, ◌≤◌, ◌<◌}
use native.Mathlib.Omega.{arith}
use lib.Dec.{ltb, leb, eqb}
use lib.IntN.{ℤ, pos, negsuc}
use lib.Signed.{mag}
use lib.ListN.{length, get_or, set, drop}
use lib.Seq.{set-get_or}
use borrow.Author.Tests.{le-leb, leb-true, lt-ltb, le-ltb, ltb-true, ltb-false, eq-eqb, ne_eqb, eqb-true}
use Rattle.seq.specs.List.{any}
use Rattle.seq.proofs.Back.{back-length}
use Rattle.seq.proofs.Words.{spell}
use Rattle.seq.proofs.Order.{clash}
use Rattle.thread.specs.Code.{ok, eperm, ebusy, einval, edeadlk, eoverflow, code}
use Rattle.thread.specs.declared.Errno.{Errno}
use Rattle.thread.specs.declared.Errno.TheVariants as errno
use Rattle.thread.specs.Caller.{caller_code}
use Rattle.store.specs.Store as store
use Rattle.store.specs.Store.{refuse, accept, answer, out, reply, Did, Hands}
use Rattle.store.proofs.Laws.{no_code, not-one, refuses, hands_bad, did_alike, answers, kept_bad, found}
use Rattle.wait_queue.specs.Queue.{ident, woken, waiting, roomy}
use Rattle.wait_queue.specs.Turn.{wait_queue, waits, unpend_first}
use Rattle.wait_queue.specs.Post.{Pends, UnpendsFirst}
use Rattle.kind.specs.Verdict.{Verdict, deny}
use Rattle.kind.specs.Kind.{plain}
use Rattle.kind.specs.Object as object
use Rattle.kind.specs.Object.{Object, Caller, named, carried, Opened, sized, sane}
use Rattle.kind.proofs.Memory.{Housed, Header, is-on, renumbered, turned, is-sane}
use Rattle.kind.proofs.Answers.{verdict, call_no, call_barred, call-is, waits-now, unseen, seen, opens-short, opens-made}
use Rattle.mutex.specs.Mutex.{nobody, Mutex, lock, unlock, release, formed, max_count, released, unlocked, transferred, free, taken, counting, passes, mutex_kind}
use Rattle.mutex.specs.Post.{owner_in, layout, place, unlock_out, lock_out, pass_out, release_out, ReleaseDecided, Gets, CountsWaiters, Written, unlock_deed, LockDecided, UnlockDecided}
use Rattle.mutex.proofs.Law.{mk, free-fine, free-empty}
use Rattle.mutex.proofs.Written.{now, unwritten, frees, passes as passed_on}

-- on plain numbers
module _ (c : ℕ) where
  pub lock_null_bad : (u w : Bool) → 0 < c → LockDecided c true u w einval
  lock_null_bad u w k i j q n p = rw (ne_eqb c 0 (λ z. absurd (omega arith)))

  pub lock_null : (u w : Bool) → c ≡ 0 → LockDecided c true u w (pos 0)
  lock_null u true k i j q n p = rw (p ∙ free-fine c false k refl)
  lock_null u false k i j q n p = rw (p ∙ free-fine c false k refl)

  empty : c ≡ 0 → ltb 0 c ≡ false
  empty k = let z : c ≤ 0 = omega arith in le-ltb 0 c z

  pub lock-empty : (u w : Bool) → c ≡ 0 → LockDecided c false u w einval
  lock-empty true w k i j q n p = rw (empty k)
  lock-empty false w k i j q n p = rw (empty k)

  pub lock-over : (w : Bool) → c ≡ max_count → LockDecided c false true w eoverflow
  lock-over true k i j q n p =
      let z : max_count ≤ c = omega arith in rw (lt-ltb 0 c (omega arith), eq-eqb i i refl, le-ltb c max_count z)
  lock-over false k i j q n p =
      let z : max_count ≤ c = omega arith in rw (lt-ltb 0 c (omega arith), eq-eqb i i refl, le-ltb c max_count z)

  more : 0 < c → eqb (suc c) 1 ≡ false
  more k = ne_eqb (suc c) 1 (λ z. absurd (omega arith))

  pub lock-more : (w : Bool) → 0 < c → c < max_count → LockDecided c false true w (pos 2)
  lock-more true k l i j q n p = rw (lt-ltb 0 c k, eq-eqb i i refl, lt-ltb c max_count l, more k)
  lock-more false k l i j q n p = rw (lt-ltb 0 c k, eq-eqb i i refl, lt-ltb c max_count l, more k)

  pub lock-busy : 0 < c → LockDecided c false false true ebusy
  lock-busy k i j q n p = rw (lt-ltb 0 c k, ne_eqb j i n)

  pub lock-pend : 0 < c → LockDecided c false false false (pos 1)
  lock-pend k i j q n p = rw (lt-ltb 0 c k, ne_eqb j i n)

  pub unlock_null : (u : Bool) → UnlockDecided c true u einval
  unlock_null u i j q n = go (formed (mk nobody c) (any q))
    where
      go : (b : Bool) → einval ≡ unlock_deed (cond b (deny einval) (deny einval))
      go true = refl
      go false = refl

  pub unlock-empty : (u : Bool) → c ≡ 0 → UnlockDecided c false u einval
  unlock-empty true k i j q n = rw (empty k)
  unlock-empty false k i j q n = rw (empty k)

  pub unlock-not : 0 < c → UnlockDecided c false false eperm
  unlock-not k i j q n = rw (lt-ltb 0 c k, ne_eqb j i n)

  pub unlock-more : 1 < c → UnlockDecided c false true released
  unlock-more k i j q n = rw (lt-ltb 0 c (omega arith), eq-eqb i i refl, lt-ltb 1 c k)

  pub unlock-one : 0 < c → c ≤ 1 → UnlockDecided c false true unlocked
  unlock-one k l i j [] n = rw (lt-ltb 0 c k, eq-eqb i i refl, le-ltb 1 c l)
  unlock-one k l i j (x ∷ q) n = rw (lt-ltb 0 c k, eq-eqb i i refl, le-ltb 1 c l)

module _ (h : List ℕ) (k : 4 ≤ length h) where
  counted : (c : ℕ) → Header layout h (counting c (layout.num h)) (get_or h 3 0) (set h 2 c)
  counted c = rw (spell 4 h k) (record { num = refl; len = refl; beside = refl; long = refl })

  freed : Header layout h free (get_or h 3 0) (set (set h 0 0) 2 0)
  freed = rw (spell 4 h k) (record { num = refl; len = refl; beside = refl; long = refl })

  fewer : (n : ℕ) → layout.num (set h 3 n) ≡ layout.num h
  fewer n = rw (spell 4 h k) refl

  seated : (n i : ℕ) → Header layout h (taken i) n (set (set (set (set h 3 n) 0 1) 1 i) 2 1)
  seated n i = rw (spell 4 h k) (record { num = refl; len = refl; beside = refl; long = refl })

  new : Header layout h free 0 (set (set (set h 0 0) 2 0) 3 0)
  new = rw (spell 4 h k) (record { num = refl; len = refl; beside = refl; long = refl })

-- the last unlock is the same, whoever calls
by-any : (w : Caller) (m : Mutex) (q : List ℕ) → carried w (passes (map ident q)) (record { num = m; queue = q }) ≡ pass_out (record { num = m; queue = q })
by-any w m [] = refl
by-any w m (x ∷ q) = refl

-- what the numbers show
module _ (f o c n : ℕ) (s : formed (mk (owner_in f o) c) (ltb 0 n) ≡ true) where
  flagged : 0 < c → ltb 0 f ≡ true
  flagged k = go (ltb 0 f) refl
    where
      go : (b : Bool) → ltb 0 f ≡ b → b ≡ true
      go true z = refl
      go false z = absurd (omega (arith, (free-empty c (ltb 0 n) (rw z at s)).0))

  unflagged : c ≡ 0 → ltb 0 f ≡ false
  unflagged k = go (ltb 0 f) refl
    where
      go : (b : Bool) → ltb 0 f ≡ b → b ≡ false
      go true z = let y : ltb 0 c ≡ true = rw z at s in absurd (omega (arith, ltb-true 0 c y))
      go false z = refl

  counts : ltb 0 f ≡ true → 0 < c
  counts z = ltb-true 0 c (rw z at s)

  alone : ltb 0 f ≡ false → n ≤ 0
  alone z = ltb-false 0 n (free-empty c (ltb 0 n) (rw z at s)).1

module _ (h e : List ℕ) where
  pub lock_no : (i p st : ℕ) → sane mutex_kind layout h e ≡ false → Did place (lock_out i p st) h e einval h e
  lock_no i p st s = refuses place (lock_out i p st) h e (call_no mutex_kind layout plain (object.thread i p st) lock h e s)

  pub release_no : (i p st : ℕ) → sane mutex_kind layout h e ≡ false → ReleaseDecided i p st h e einval
  release_no i p st s = ap answer (sym (call_no mutex_kind layout plain (object.thread i p st) release h e s))

  pub got_no : (g : Object Mutex → ℤ) → sane mutex_kind layout h e ≡ false → Gets g h e einval
  got_no g s = unseen mutex_kind layout g h e s

  module _ (s : sane mutex_kind layout h e ≡ true) where
    fine : formed (mk (owner_in (get_or h 0 0) (get_or h 1 0)) (get_or h 2 0)) (ltb 0 (get_or h 3 0)) ≡ true
    fine = (is-sane mutex_kind layout h e s).numbers

    pub held-flag : 0 < get_or h 2 0 → ltb 0 (get_or h 0 0) ≡ true
    held-flag k = flagged (get_or h 0 0) (get_or h 1 0) (get_or h 2 0) (get_or h 3 0) fine k

    pub free-flag : get_or h 2 0 ≡ 0 → ltb 0 (get_or h 0 0) ≡ false
    free-flag k = unflagged (get_or h 0 0) (get_or h 1 0) (get_or h 2 0) (get_or h 3 0) fine k

    pub flag-held : ltb 0 (get_or h 0 0) ≡ true → 0 < get_or h 2 0
    flag-held k = counts (get_or h 0 0) (get_or h 1 0) (get_or h 2 0) (get_or h 3 0) fine k

    -- the last unlock is what passes it on
    pub unlock-passes : (i w : ℕ) → get_or h 1 0 ≡ i → 0 < get_or h 2 0 → get_or h 2 0 ≤ 1 → (r : ℤ) (h' : List ℕ) (w' : ℕ)
        → Hands place pass_out h e w r h' w' → Hands place (unlock_out i) h e w r h' w'
    unlock-passes i w o k l r h' w' t =
        let u : reply place pass_out h e ≡ reply place (unlock_out i) h e =
        is-on layout pass_out h e (is-sane mutex_kind layout h e s).housed
        ∙ sym (call-is mutex_kind layout plain (named i) unlock h e s 0 refl (passes (map ident (waiting e (get_or h 3 0))))
        (rw (held-flag k, eq-eqb (get_or h 1 0) i o, le-ltb 1 (get_or h 2 0) l))
        ∙ by-any (named i) (layout.num h) (waiting e (get_or h 3 0))) in
        (did_alike place pass_out (unlock_out i) h e u t.0, rw u at t.1)

    -- release_decide
    module _ (i p st : ℕ) where
      pub release-caller : (c : ℕ) → caller_code p st ≡ negsuc c → ReleaseDecided i p st h e (negsuc c)
      release-caller c z = ap answer (sym (call_barred mutex_kind layout plain (object.thread i p st) release h e s c z))

      module _ (c : ℕ) (z : caller_code p st ≡ pos c) where
        outcome : (d : Verdict Mutex (Unit {0})) → verdict mutex_kind layout plain (object.thread i p st) release h e ≡ d
            → reply place (release_out i p st) h e ≡ carried (object.thread i p st) d (place.object h e)
        outcome d y = call-is mutex_kind layout plain (object.thread i p st) release h e s c z d y

        pub release-free : get_or h 2 0 ≡ 0 → ReleaseDecided i p st h e einval
        release-free k = rw (outcome (deny einval) (rw (free-flag k))) refl

        pub release_other : 0 < get_or h 2 0 → (get_or h 1 0 ≡ i → ⊥) → eperm ≡ answer (reply place (release_out i p st) h e)
        release_other k n = rw (outcome (deny eperm) (rw (held-flag k, ne_eqb (get_or h 1 0) i n))) refl

        pub release-nested : get_or h 1 0 ≡ i → 1 < get_or h 2 0 → edeadlk ≡ answer (reply place (release_out i p st) h e)
        release-nested o k = rw (outcome (deny edeadlk) (rw (held-flag (omega arith), eq-eqb (get_or h 1 0) i o, lt-ltb 1 (get_or h 2 0) k))) refl

        module _ (o : get_or h 1 0 ≡ i) (k : 0 < get_or h 2 0) (l : get_or h 2 0 ≤ 1) where
          last : (d : Verdict Mutex (Unit {0})) → passes (map ident (waiting e (get_or h 3 0))) ≡ d
              → reply place (release_out i p st) h e ≡ carried (object.thread i p st) d (place.object h e)
          last d y = outcome d (rw (held-flag k, eq-eqb (get_or h 1 0) i o, le-ltb 1 (get_or h 2 0) l) y)

      -- what release allows is the last unlock of one that has one lock
      passes_too : (c k : ℕ) → caller_code p st ≡ pos c → answer (reply place (release_out i p st) h e) ≡ pos k
          → (layout.num h ≡ taken i) × (reply place (release_out i p st) h e ≡ pass_out (place.object h e))
      passes_too c k z y = go (ltb 0 (get_or h 0 0)) (eqb (get_or h 1 0) i) (ltb 1 (get_or h 2 0)) refl refl refl
        where
          never : {P : Type 0} (r : ℕ) → reply place (release_out i p st) h e ≡ refuse (negsuc r) → P
          never r x = let u : negsuc r ≡ pos k = rw x at y in absurd (let v : ◌≡◌ {A = ℕ} 0 1 = cc in omega arith)

          deed : (d : Verdict Mutex (Unit {0})) → verdict mutex_kind layout plain (object.thread i p st) release h e ≡ d
              → reply place (release_out i p st) h e ≡ carried (object.thread i p st) d (place.object h e)
          deed d x = call-is mutex_kind layout plain (object.thread i p st) release h e s c z d x

          go : (a b l : Bool) → ltb 0 (get_or h 0 0) ≡ a → eqb (get_or h 1 0) i ≡ b → ltb 1 (get_or h 2 0) ≡ l
              → (layout.num h ≡ taken i) × (reply place (release_out i p st) h e ≡ pass_out (place.object h e))
          go false b l f o m = never 21 (deed (deny einval) (rw f))
          go true false l f o m = never 0 (deed (deny eperm) (rw (f, o)))
          go true true true f o m = never 44 (deed (deny edeadlk) (rw (f, o, m)))
          go true true false f o m =
              let u : get_or h 2 0 ≡ 1 = omega (arith, flag-held f, ltb-false 1 (get_or h 2 0) m) in (
                rw (f, eqb-true (get_or h 1 0) i o, u),
                deed (passes (map ident (waiting e (get_or h 3 0)))) (rw (f, o, m)) ∙ by-any (object.thread i p st) (layout.num h) (waiting e (get_or h 3 0)),
              )

    -- the numbers
    pub got : (g : Object Mutex → ℤ) → Gets g h e (g (place.object h e))
    got g = seen mutex_kind layout g h e s

    pub got-waiters : CountsWaiters h e (pos (get_or h 3 0))
    got-waiters = ap pos (sym (back-length e (get_or h 3 0))) ∙ got (λ m. pos (length m.queue))

-- what the words show one by one
module _ (h e : List ℕ) (z : sized 4 h e ≡ true) where
  pub its_words : 4 ≤ length h
  its_words = go (leb 4 (length h)) refl z
    where
      go : (a : Bool) → leb 4 (length h) ≡ a → cond a (roomy 0 e) false ≡ true → 4 ≤ length h
      go true x y = leb-true 4 (length h) x
      go false x y = clash (sym y)

  pub held_yes : 0 < get_or h 0 0 → 0 < get_or h 2 0 → roomy (get_or h 3 0) e ≡ true → sane mutex_kind layout h e ≡ true
  held_yes f c r = rw (le-leb 4 (length h) its_words, r, lt-ltb 0 (get_or h 0 0) f) (lt-ltb 0 (get_or h 2 0) c)

  -- the thread waits, whatever the queue says
  pub lock-waits : (i p st : ℕ) → 0 < get_or h 0 0 → 0 < get_or h 2 0 → (get_or h 1 0 ≡ i → ⊥) → (r : ℤ) (m : ℕ) (e' : List ℕ)
      → Pends i p st (get_or h 3 0) e r m e' → Did place (lock_out i p st) h e r (set h 3 m) e'
  lock-waits i p st f c n r m e' d =
      waits-now mutex_kind layout plain i p st lock h e tt waits r m e' its_words (rw (lt-ltb 0 (get_or h 0 0) f) (lt-ltb 0 (get_or h 2 0) c))
      (rw (lt-ltb 0 (get_or h 0 0) f, ne_eqb (get_or h 1 0) i n)) d (fewer h its_words m)

-- a refusal is below 0
pub below : (x : Errno) → (k : ℕ) × (code x ≡ negsuc k)
below errno.EPERM = (0, refl)
below errno.ENOENT = (1, refl)
below errno.EBADF = (8, refl)
below errno.EAGAIN = (10, refl)
below errno.ENOMEM = (11, refl)
below errno.EBUSY = (15, refl)
below errno.EINVAL = (21, refl)
below errno.ENOSPC = (27, refl)
below errno.EPIPE = (31, refl)
below errno.ENOMSG = (34, refl)
below errno.EDEADLK = (44, refl)
below errno.EADDRINUSE = (111, refl)
below errno.EALREADY = (113, refl)
below errno.ETIMEDOUT = (115, refl)
below errno.EOVERFLOW = (138, refl)
below errno.ECANCELED = (139, refl)

-- who waits, by what the queue answers
module _ (e : List ℕ) where
  pub some : (m : ℕ) → pos 1 ≡ answer (unpend_first ok (waiting e m)) → 0 < m
  some zero a = not-one (sym a)
  some (suc m) a = omega arith

  pub none : (m : ℕ) → pos 0 ≡ answer (unpend_first ok (waiting e m)) → m ≡ 0
  none zero a = refl
  none (suc m) a = not-one a

  allows : (m j : ℕ) → answer (unpend_first ok (waiting e m)) ≡ negsuc j → ⊥
  allows zero j a = no_code a
  allows (suc m) j a = no_code a

  pub emptied : (n m : ℕ) → m ≡ 0 → n ≡ length (store.left (unpend_first ok (waiting e m)) (waiting e m)) → n ≡ m
  emptied n zero z l = l
  emptied n (suc m) z l = absurd (omega arith)

-- the last unlock alone
module _ (h e : List ℕ) (w : ℕ) where
  module _ (k : 4 ≤ length h) where
    pass_no : roomy (get_or h 3 0) e ≡ false → Hands place pass_out h e w einval h w
    pass_no r = hands_bad place pass_out h e w (rw (le-leb 4 (length h) k, r))

    module _ (r : roomy (get_or h 3 0) e ≡ true) where
      there : Housed layout h e
      there = record { words = k; room = r }

      pass-free : get_or h 3 0 ≡ 0 → Hands place pass_out h e w unlocked (set (set h 0 0) 2 0) w
      pass-free z =
          let o : pass_out (place.object h e) ≡ accept (record { num = free; queue = waiting e (get_or h 3 0) }) unlocked [] = rw z in
          (renumbered layout pass_out h e unlocked free [] (set (set h 0 0) 2 0) there o (freed h k), rw (is-on layout pass_out h e there ∙ o) refl)

      pass-first : (a : ℤ) (n w' : ℕ) → 0 < get_or h 3 0 → UnpendsFirst ok (get_or h 3 0) e w a n w'
          → Hands place pass_out h e w transferred (set (set (set (set h 3 n) 0 1) 1 (ident w')) 2 1) w'
      pass-first a n w' z d =
          let o = first (get_or h 3 0) w' z r d.1 in (
            turned layout pass_out h e (unpend_first ok) (taken (ident w')) transferred (drop 1 (waiting e (get_or h 3 0))) (w' ∷ []) (w' ∷ []) (pos 1) a n
                (set (set (set (set h 3 n) 0 1) 1 (ident w')) 2 1) e there o.0 o.1 d.0 (seated h k n (ident w')),
            rw (is-on layout pass_out h e there ∙ o.0) refl,
          )
        where
          first : (m w' : ℕ) → 0 < m → roomy m e ≡ true → w' ≡ store.first w (out (reply wait_queue (unpend_first ok) (m ∷ []) e))
              → (pass_out (record { num = layout.num h; queue = waiting e m })
              ≡ accept (record { num = taken (ident w'); queue = drop 1 (waiting e m) }) transferred (w' ∷ []))
              × (unpend_first ok (waiting e m) ≡ accept (drop 1 (waiting e m)) (pos 1) (w' ∷ []))
          first zero w' b q t = absurd (omega arith)
          first (suc m) w' b q t =
              let y : w' ≡ woken ok (get_or e m 0) = rw q at t in
              let x : ident (woken ok (get_or e m 0)) ≡ ident (get_or e m 0) = omega arith in
              rw (y, x) (refl, refl)

    module _ (n w' : ℕ) where
      pub pass-some : UnpendsFirst ok (get_or h 3 0) e w (pos 1) n w'
          → Hands place pass_out h e w transferred (set (set (set (set h 3 n) 0 1) 1 (ident w')) 2 1) w'
          × Written h (set (set (set (set h 3 n) 0 1) 1 (ident w')) 2 1)
      pass-some d =
          let r = found wait_queue (unpend_first ok) (get_or h 3 0 ∷ []) e d.0 in
          let b = some e (get_or h 3 0) (answers wait_queue (unpend_first ok) (get_or h 3 0 ∷ []) e d.0 r) in
          (pass-first r (pos 1) n w' b d, passed_on h k e (pos 1) n e (ident w') r b d.0)

      pub pass-none : UnpendsFirst ok (get_or h 3 0) e w (pos 0) n w'
          → Hands place pass_out h e w unlocked (set (set (set h 3 n) 0 0) 2 0) w × Written h (set (set (set h 3 n) 0 0) 2 0)
      pass-none d =
          let r = found wait_queue (unpend_first ok) (get_or h 3 0 ∷ []) e d.0 in
          let b = none e (get_or h 3 0) (answers wait_queue (unpend_first ok) (get_or h 3 0 ∷ []) e d.0 r) in
          let z = emptied e n (get_or h 3 0) b (now (get_or h 3 0) e (pos 0) n e (unpend_first ok) r d.0) in
          rw (z, set-get_or h 3 0) (pass-free r b, frees h k)

      pub pass-bad : (x : Errno) → UnpendsFirst ok (get_or h 3 0) e w (code x) n w'
          → Hands place pass_out h e w (code x) (set h 3 n) w × Written h (set h 3 n)
      pass-bad x d = go (roomy (get_or h 3 0) e) refl
        where
          go : (b : Bool) → roomy (get_or h 3 0) e ≡ b → Hands place pass_out h e w (code x) (set h 3 n) w × Written h (set h 3 n)
          go true r =
              absurd (allows e (get_or h 3 0) (below x).0 (sym (answers wait_queue (unpend_first ok) (get_or h 3 0 ∷ []) e d.0 r) ∙ (below x).1))
          go false r =
              let y = kept_bad wait_queue (unpend_first ok) (get_or h 3 0 ∷ []) e d.0 r in
              let z : n ≡ get_or h 3 0 = ap (λ (l : List ℕ). get_or l 0 0) y.1 in
              rw (z, set-get_or h 3 0, y.0) (pass_no r, unwritten h)

-- a release that is allowed
module _ (h e : List ℕ) (i p st k : ℕ) (y : answer (reply place (release_out i p st) h e) ≡ pos k) where
  allowed : (sane mutex_kind layout h e ≡ true) × (caller_code p st ≡ pos (mag (caller_code p st)))
  allowed = go (sane mutex_kind layout h e) (caller_code p st) refl refl
    where
      never : {P : Type 0} (r : ℕ) → negsuc r ≡ answer (reply place (release_out i p st) h e) → P
      never r x = let u : negsuc r ≡ pos k = x ∙ y in absurd (let v : ◌≡◌ {A = ℕ} 0 1 = cc in omega arith)

      go : (b : Bool) (z : ℤ) → sane mutex_kind layout h e ≡ b → caller_code p st ≡ z → (b ≡ true) × (z ≡ pos (mag z))
      go false z s c = never 21 (release_no h e i p st s)
      go true (negsuc r) s c = never r (release-caller h e s i p st r c)
      go true (pos n) s c = (refl, refl)

  -- is by a thread that may wait
  pub release-asks : caller_code p st ≡ pos (mag (caller_code p st))
  release-asks = allowed.1

  -- that owns it with one lock
  pub release-owned : layout.num h ≡ taken i
  release-owned = (passes_too h e allowed.0 i p st (mag (caller_code p st)) k release-asks y).0

  -- and is the last unlock
  pub release-is : reply place (release_out i p st) h e ≡ pass_out (place.object h e)
  release-is = (passes_too h e allowed.0 i p st (mag (caller_code p st)) k release-asks y).1

  pub release-passes : reply place pass_out h e ≡ reply place (release_out i p st) h e
  release-passes = is-on layout pass_out h e (is-sane mutex_kind layout h e allowed.0).housed ∙ sym release-is

-- init
module _ (h : List ℕ) where
  pub short : length h < 4 → Opened mutex_kind layout free h einval h
  short k = opens-short mutex_kind layout free h k

  pub made : 4 ≤ length h → Opened mutex_kind layout free h ok (set (set (set h 0 0) 2 0) 3 0)
  made k = opens-made mutex_kind layout free h (set (set (set h 0 0) 2 0) 3 0) k refl (new h k)
