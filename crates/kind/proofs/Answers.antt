-- How the verdict on a call becomes what a function on memory does. Assumes nothing.
use mathlib.Core.Path.{◌≡◌, refl, sym, ap, subst, ◌∙◌}
use mathlib.Core.Bool.{Bool, true, false, cond}
use mathlib.Core.List.{List, [], ◌∷◌, map}
use Prim.Native.Nat.{ℕ, zero, suc, ◌≤◌, ◌<◌}
use native.Mathlib.Omega.{arith}
use lib.Dec.{ltb, leb}
use lib.IntN.{ℤ, pos, negsuc}
use lib.ListN.{length, get_or, set, drop, length-map}
use borrow.Author.Tests.{le-leb, lt-leb}
use Rattle.seq.specs.List.{any}
use Rattle.seq.proofs.Back.{back-length}
use Rattle.thread.specs.Code.{ok, einval}
use Rattle.thread.specs.Priority.{max_priority}
use Rattle.thread.specs.Thread.{running}
use Rattle.thread.specs.Caller.{caller_code}
use Rattle.store.specs.Store as store
use Rattle.store.specs.Store.{Reply, refuse, accept, answer, out, asked, fitting, reply, Did, looks, Filled, first, Fills, Hands}
use Rattle.store.proofs.Laws.{refuses-place, handed-is, carry-out, looks-is, looks_bad, answers, start-short, start-made}
use Rattle.wait_queue.specs.Queue.{max_waiters, entry, ident, woken, waiting, holds, joined}
use Rattle.wait_queue.specs.Turn.{wait_queue, waits, parked, pend, unpend_first, unpend_all}
use Rattle.wait_queue.specs.Post.{Pends, UnpendsFirst, UnpendsAll}
use Rattle.wait_queue.proofs.Answers.{joined_line}
use Rattle.kind.specs.Verdict.{up_to, everybody, keep, park, wake, Verdict, deny, allow}
use Rattle.kind.specs.Kind.{Kind}
use Rattle.kind.specs.Object.{Object, Caller, thread, name, code, carried, queued, fine, call, reads, Layout, standing, Opened, sane}
use Rattle.kind.proofs.Memory.{Header, housed-formed, opened_so, is-on, renumbered, turned, followed, any-waiting, Sane, is-sane, formed-queue, unfine, malformed}
use Rattle.kind.proofs.Picks.{any-map}

-- a verdict sees the threads of a queue in memory: somebody, exactly if its length is not 0, and as many
pub any-line : (e : List ℕ) (n : ℕ) → any (map ident (waiting e n)) ≡ ltb 0 n
any-line e n = any-map ident (waiting e n) ∙ any-waiting e n

pub length-line : (e : List ℕ) (n : ℕ) → length (map ident (waiting e n)) ≡ length (waiting e n)
length-line e n = length-map (waiting e n) ident

-- one is picked, or everybody
one_woken : (m : ℕ) (e : List ℕ) (u : ℤ) → 0 < m → unpend_first u (waiting e m) ≡ accept (drop 1 (waiting e m)) (pos 1) (woken u (get_or (waiting e m) 0 0) ∷ [])
one_woken zero e u b = absurd (omega arith)
one_woken (suc m) e u b = refl

-- a call by the caller w
module _ (K : Kind) (L : Layout K.Num) (v : ℕ → K.Wish) (w : Caller) (k : K.Call) (h e : List ℕ) where
  abbrev pub verdict : Verdict K.Num K.Wish
  verdict = K.decide (L.num h) v (map ident (waiting e (get_or h L.len 0))) (name w) k

  pub call_no : sane K L h e ≡ false → reply (standing L) (call K v w k) h e ≡ refuse einval
  call_no s = malformed K L h e (call K v w k) (λ o z. rw z) s

  module _ (s : sane K L h e ≡ true) where
    whole : Sane K L h e
    whole = is-sane K L h e s

    right : fine K ((standing L).object h e) ≡ true
    right = formed-queue K L h e whole

    pub call_barred : (c : ℕ) → code w ≡ negsuc c → reply (standing L) (call K v w k) h e ≡ refuse (negsuc c)
    call_barred c z = is-on L (call K v w k) h e whole.housed ∙ rw (right, z)

    module _ (c : ℕ) (z : code w ≡ pos c) where
      pub carries : (d : Verdict K.Num K.Wish) → verdict ≡ d → call K v w k ((standing L).object h e) ≡ carried w d ((standing L).object h e)
      carries d y = rw (right, z, y)

      pub call-is : (d : Verdict K.Num K.Wish) → verdict ≡ d → reply (standing L) (call K v w k) h e ≡ carried w d ((standing L).object h e)
      call-is d y = is-on L (call K v w k) h e whole.housed ∙ carries d y

      pub call-denied : (r : ℤ) → verdict ≡ deny r → reply (standing L) (call K v w k) h e ≡ refuse r
      call-denied r y = call-is (deny r) y

      -- only the numbers change
      pub keeps : (n : K.Num) (r : ℤ) (h' : List ℕ) (x : ℕ) → verdict ≡ allow n keep r → Header L h n (get_or h L.len 0) h'
          → Hands (standing L) (call K v w k) h e x r h' x
      keeps n r h' x y t = (renumbered L (call K v w k) h e r n [] h' whole.housed (carries (allow n keep r) y) t, rw (call-is (allow n keep r) y) refl)

      -- and nobody is listed
      pub keeps_unlisted : (n : K.Num) (r : ℤ) (h' out : List ℕ) → verdict ≡ allow n keep r → Header L h n (get_or h L.len 0) h'
          → Fills (standing L) (fitting (length out) (call K v w k)) h e out r h' out
      keeps_unlisted n r h' out y t =
          let z : 0 ≤ length out = omega arith in
          let o = carries (allow n keep r) y in
          let q : fitting (length out) (call K v w k) ((standing L).object h e) ≡ accept (record { num = n; queue = waiting e (get_or h L.len 0) }) r [] =
          rw (o, le-leb 0 (length out) z) in (
            renumbered L (fitting (length out) (call K v w k)) h e r n [] h' whole.housed q t,
            rw (is-on L (fitting (length out) (call K v w k)) h e whole.housed ∙ q) refl,
          )

      -- the first is woken with the result u
      module _ (n : K.Num) (u r : ℤ) (y : verdict ≡ allow n (wake (up_to 1) (λ t. u)) r) (b : 0 < get_or h L.len 0) where
        abbrev fewer : List ℕ
        fewer = drop 1 (waiting e (get_or h L.len 0))

        abbrev who : ℕ
        who = woken u (get_or (waiting e (get_or h L.len 0)) 0 0)

        lone : call K v w k ((standing L).object h e) ≡ accept (record { num = n; queue = fewer }) r (who ∷ [])
        lone = carries (allow n (wake (up_to 1) (λ t. u)) r) y ∙ one (get_or h L.len 0) b
          where
            one : (m : ℕ) → 0 < m → carried {W = K.Wish} w (allow n (wake (up_to 1) (λ t. u)) r) (record { num = L.num h; queue = waiting e m })
                ≡ accept (record { num = n; queue = drop 1 (waiting e m) }) r (woken u (get_or (waiting e m) 0 0) ∷ [])
            one zero f = absurd (omega arith)
            one (suc m) f = refl

        -- and told in a word
        module _ (h' : List ℕ) (a : ℤ) (m : ℕ) where
          is-who : (x x' : ℕ) → UnpendsFirst u (get_or h L.len 0) e x a m x' → x' ≡ who
          is-who x x' d =
              d.1 ∙ ap (first x) (handed-is wait_queue (unpend_first u) (get_or h L.len 0 ∷ []) e whole.housed.room ∙ ap out (one_woken (get_or h L.len 0) e u b))

          done : (x x' : ℕ) (f : Object K.Num → Reply (Object K.Num)) → f ((standing L).object h e) ≡ call K v w k ((standing L).object h e)
              → UnpendsFirst u (get_or h L.len 0) e x a m x' → Header L h n m h' → Did (standing L) f h e r h' e
          done x x' f q d p =
              turned L f h e (unpend_first u) n r fewer (who ∷ []) (who ∷ []) (pos 1) a m h' e whole.housed (q ∙ lone) (one_woken (get_or h L.len 0) e u b) d.0 p

          pub wakes : (x x' : ℕ) → UnpendsFirst u (get_or h L.len 0) e x a m x' → Header L h n m h' → Hands (standing L) (call K v w k) h e x r h' x'
          wakes x x' d p = (done x x' (call K v w k) refl d p, is-who x x' d ∙ rw (is-on L (call K v w k) h e whole.housed ∙ lone) refl)

        -- to a list: if there is room for it
        module _ (out : List ℕ) where
          pub wakes-one : (h' : List ℕ) (a : ℤ) (m x' : ℕ) → 1 ≤ length out → UnpendsFirst u (get_or h L.len 0) e (get_or out 0 0) a m x' → Header L h n m h'
              → Fills (standing L) (fitting (length out) (call K v w k)) h e out r h' (set out 0 x')
          wakes-one h' a m x' c d p =
              let q : fitting (length out) (call K v w k) ((standing L).object h e) ≡ call K v w k ((standing L).object h e) = rw (lone, le-leb 1 (length out) c) in (
                done h' a m (get_or out 0 0) x' (fitting (length out) (call K v w k)) q d p,
                rw (is-on L (fitting (length out) (call K v w k)) h e whole.housed ∙ q ∙ lone, is-who h' a m (get_or out 0 0) x' d) (put out c),
              )
            where
              put : (l : List ℕ) → 1 ≤ length l → Filled (who ∷ []) l (set l 0 who)
              put [] i = absurd (omega arith)
              put (z ∷ l) i = refl

      -- all are woken with the result u, if there is room to hand them out
      module _ (n : K.Num) (u : ℤ) (y : verdict ≡ allow n (wake everybody (λ t. u)) (pos (length (waiting e (get_or h L.len 0))))) (out : List ℕ) where
        everyone : call K v w k ((standing L).object h e)
            ≡ accept (record { num = n; queue = [] }) (pos (length (waiting e (get_or h L.len 0)))) (map (woken u) (waiting e (get_or h L.len 0)))
        everyone = carries (allow n (wake everybody (λ t. u)) (pos (length (waiting e (get_or h L.len 0))))) y

        as_many : length (map (woken u) (waiting e (get_or h L.len 0))) ≡ get_or h L.len 0
        as_many = length-map (waiting e (get_or h L.len 0)) (woken u) ∙ back-length e (get_or h L.len 0)

        pub no_place : length out < get_or h L.len 0 → Fills (standing L) (fitting (length out) (call K v w k)) h e out einval h out
        no_place b =
            refuses-place (standing L) (fitting (length out) (call K v w k)) h e
            (is-on L (fitting (length out) (call K v w k)) h e whole.housed ∙ rw (everyone, as_many, lt-leb (get_or h L.len 0) (length out) b)) out

        pub wakes-all : (h' : List ℕ) (a : ℤ) (m : ℕ) (out' : List ℕ) → get_or h L.len 0 ≤ length out
            → UnpendsAll u (get_or h L.len 0) e out a m out' → Header L h n m h' → Fills (standing L) (fitting (length out) (call K v w k)) h e out a h' out'
        wakes-all h' a m out' b d p =
            let l = back-length e (get_or h L.len 0) in
            let g : fitting (length out) (unpend_all u) (waiting e (get_or h L.len 0)) ≡ accept [] (pos (length (waiting e (get_or h L.len 0)))) (map (woken u) (waiting e (get_or h L.len 0))) =
            rw (as_many, le-leb (get_or h L.len 0) (length out) b) in
            let o : fitting (length out) (call K v w k) ((standing L).object h e) ≡ accept (record { num = n; queue = [] }) (pos (length (waiting e (get_or h L.len 0)))) (map (woken u) (waiting e (get_or h L.len 0))) =
            rw (everyone, as_many, le-leb (get_or h L.len 0) (length out) b) in
            let i = is-on L (fitting (length out) (call K v w k)) h e whole.housed ∙ o in
            let j = handed-is wait_queue (fitting (length out) (unpend_all u)) (get_or h L.len 0 ∷ []) e whole.housed.room ∙ ap store.out g in
            let c : a ≡ pos (length (waiting e (get_or h L.len 0))) = answers wait_queue (fitting (length out) (unpend_all u)) (get_or h L.len 0 ∷ []) e d.0 whole.housed.room ∙ ap answer g in
            rw c (
              turned L (fitting (length out) (call K v w k)) h e (fitting (length out) (unpend_all u)) n (pos (length (waiting e (get_or h L.len 0)))) [] (map (woken u) (waiting e (get_or h L.len 0))) (map (woken u) (waiting e (get_or h L.len 0))) (pos (length (waiting e (get_or h L.len 0)))) a m h' e whole.housed o g d.0 p,
              rw i (rw j at d.1),
            )

      -- where no number changes, the queue's own answer is the object's
      pub wakes-everybody : (u : ℤ) → verdict ≡ allow (L.num h) (wake everybody (λ t. u)) (pos (length (waiting e (get_or h L.len 0))))
          → (a : ℤ) (m : ℕ) (out out' : List ℕ) → UnpendsAll u (get_or h L.len 0) e out a m out' → L.num (set h L.len m) ≡ L.num h
          → Fills (standing L) (fitting (length out) (call K v w k)) h e out a (set h L.len m) out'
      wakes-everybody u y a m out out' d x = (
        followed L (fitting (length out) (call K v w k)) h e (fitting (length out) (unpend_all u)) a m e whole.housed.words (λ b. same) d.0 x,
        subst (λ (l : List ℕ). Filled l out out')
            (handed-is wait_queue (fitting (length out) (unpend_all u)) (get_or h L.len 0 ∷ []) e whole.housed.room
            ∙ sym (carry-out _ (fitting (length out) (unpend_all u) (waiting e (get_or h L.len 0)))) ∙ ap store.out (sym (is-on L (fitting (length out) (call K v w k)) h e whole.housed ∙ same))) d.1,
      )
        where
          same : fitting (length out) (call K v w k) ((standing L).object h e)
              ≡ queued (L.num h) (fitting (length out) (unpend_all u) (waiting e (get_or h L.len 0)))
          same = rw (everyone (L.num h) u y out) (go (leb (length (map (woken u) (waiting e (get_or h L.len 0)))) (length out)))
            where
              go : (b : Bool) → cond b (accept (record { num = L.num h; queue = [] }) (pos (length (waiting e (get_or h L.len 0)))) (map (woken u) (waiting e (get_or h L.len 0)))) (refuse einval)
                  ≡ queued (L.num h) (cond b (unpend_all u (waiting e (get_or h L.len 0))) (refuse einval))
              go true = refl
              go false = refl

pub fitting_no : (K : Kind) (v : ℕ → K.Wish) (w : Caller) (k : K.Call) (room : ℕ) (s : Object K.Num) → fine K s ≡ false
    → fitting room (call K v w k) s ≡ refuse einval
fitting_no K v w k room s z = let y : 0 ≤ room = omega arith in rw (z, le-leb 0 room y)

-- the thread i of priority p is to wait
module _ (K : Kind) (v : ℕ → K.Wish) (i p : ℕ) (k : K.Call) (s : Object K.Num) (m : K.Num) (x : K.Wish) (a : ℤ) (f : fine K s ≡ true)
    (y : K.decide s.num v (map ident s.queue) i k ≡ allow m (park x) a) where
  pub parks : (st : ℕ) → call K v (thread i p st) k s ≡ queued m (pend i p st s.queue)
  parks st = rw (f, y) (go (caller_code p st))
    where
      go : (z : ℤ) → asked {S = Object K.Num} z (queued m (parked (entry p i) s.queue)) ≡ queued m (asked z (parked (entry p i) s.queue))
      go (pos c) = refl
      go (negsuc c) = refl

  -- it runs, is not there, and there is room
  pub seated : i < 4294967296 → p < max_priority → holds i s.queue ≡ false → length s.queue < max_waiters
      → call K v (thread i p running) k s ≡ accept (record { num = m; queue = joined (entry p i) s.queue }) waits []
  seated small valid absent room = parks running ∙ ap (queued m) (joined_line i p s.queue small valid absent room)

-- in the state st, and no number changes: whatever the queue answers
pub waits-now : (K : Kind) (L : Layout K.Num) (v : ℕ → K.Wish) (i p st : ℕ) (k : K.Call) (h e : List ℕ) (x : K.Wish) (a r : ℤ) (m : ℕ) (e' : List ℕ)
    → suc L.len ≤ length h → K.formed (L.num h) (ltb 0 (get_or h L.len 0)) ≡ true → verdict K L v (thread i p st) k h e ≡ allow (L.num h) (park x) a
    → Pends i p st (get_or h L.len 0) e r m e' → L.num (set h L.len m) ≡ L.num h
    → Did (standing L) (call K v (thread i p st) k) h e r (set h L.len m) e'
waits-now K L v i p st k h e x a r m e' s f y d u =
    followed L (call K v (thread i p st) k) h e (pend i p st) r m e' s
    (λ o. parks K v i p k ((standing L).object h e) (L.num h) x a
    (formed-queue K L h e (record { housed = record { words = s; room = o }; numbers = f })) y st) d u

-- a number is read
module _ (K : Kind) (L : Layout K.Num) (g : Object K.Num → ℤ) (h e : List ℕ) where
  pub unseen : sane K L h e ≡ false → einval ≡ looks (standing L) (reads K g) h e
  unseen s = go ((standing L).formed h e) refl
    where
      go : (b : Bool) → (standing L).formed h e ≡ b → einval ≡ looks (standing L) (reads K g) h e
      go true z = rw (looks-is (standing L) h e (reads K g) z) (rw (unfine K L h e z s) refl)
      go false z = rw (looks_bad (standing L) h e (reads K g) z) refl

  pub seen : sane K L h e ≡ true → g ((standing L).object h e) ≡ looks (standing L) (reads K g) h e
  seen s =
      let m = is-sane K L h e s in
      rw (looks-is (standing L) h e (reads K g) (housed-formed L h e m.housed), formed-queue K L h e m) refl

-- a new object
module _ (K : Kind) (L : Layout K.Num) (n : K.Num) (h : List ℕ) where
  pub opens-short : length h < suc L.len → Opened K L n h einval h
  opens-short b = record { with = λ e g. start-short b }

  pub opens-made : (h' : List ℕ) → suc L.len ≤ length h → K.formed n false ≡ true → Header L h n 0 h' → Opened K L n h ok h'
  opens-made h' b f t = record { with = λ e g. start-made b f (opened_so L h e n h' b t g) }
