-- What the contract of a call forces, by the verdict on it: the answer, the numbers, the queue and the words handed out. Assumes nothing.
use mathlib.Core.Path.{◌≡◌, refl, sym, ap, ◌∙◌}
use mathlib.Core.Bool.{true, false, cond}
use mathlib.Core.List.{List, [], ◌∷◌, map}
use Prim.Native.Nat.{ℕ, suc, ◌≤◌, ◌<◌}
use native.Mathlib.Omega.{arith}
use lib.Dec.{leb}
use lib.IntN.{ℤ, pos, negsuc}
use lib.ListN.{length, get_or, length-map}
use borrow.Author.Tests.{lt-ltb, le-ltb, le-leb, lt-leb}
use Rattle.seq.specs.List.{any}
use Rattle.seq.proofs.Back.{back-length}
use Rattle.thread.specs.Code.{ok, einval}
use Rattle.thread.specs.Priority.{max_priority}
use Rattle.thread.specs.Thread.{running}
use Rattle.store.specs.Store as store
use Rattle.store.specs.Store.{Reply, refuse, accept, fitting, reply, Did, Filled}
use Rattle.store.proofs.Laws.{became_so, kept}
use Rattle.wait_queue.specs.Queue.{max_waiters, woken, waiting, Well}
use Rattle.wait_queue.specs.Turn.{pend}
use Rattle.wait_queue.specs.Upstream.{FirstIsWoken, AllAreWoken}
use Rattle.wait_queue.proofs.Memory.{blank, blank_roomy}
use Rattle.wait_queue.proofs.Answers.{ident-entry, joined_line}
use Rattle.kind.specs.Verdict.{up_to, everybody, keep, park, wake, deny, allow}
use Rattle.kind.specs.Kind.{Kind}
use Rattle.kind.specs.Object.{Object, queued, Caller, thread, code, call, Layout, standing, Opened, sane}
use Rattle.kind.specs.Effect.{Barred, Leaves, Waits}
use Rattle.kind.proofs.Memory.{Housed, is-on, any-waiting, is-sane, formed-queue}
use Rattle.kind.proofs.Answers.{verdict, call_barred, call-is, parks}

-- of an operation whose outcome is known
module _ {N : Type 0} (L : Layout N) (f : Object N → Reply (Object N)) (h e : List ℕ) (r : ℤ) (h' e' : List ℕ) (d : Did (standing L) f h e r h' e') where
  pub leaves : {n : N} {q : List ℕ} {c : ℤ} {o : List ℕ} → reply (standing L) f h e ≡ accept (record { num = n; queue = q }) c o
      → Leaves c n q r (L.num h') (waiting e' (get_or h' L.len 0))
  leaves y =
      let b = became_so (standing L) f h e d y in
      record { code = b.0; numbers = ap (λ (x : Object N). x.num) b.1.object; queue = ap (λ (x : Object N). x.queue) b.1.object }

  pub denies : {c : ℤ} → reply (standing L) f h e ≡ refuse c → Barred c h e r h' e'
  denies y = let u = kept (standing L) f h e d y in record { code = u.0; header = u.1; entries = u.2 }

-- memory and numbers are as they should be
pub housed-sane : (K : Kind) (L : Layout K.Num) (h e : List ℕ) → Housed L h e → K.formed (L.num h) (any (waiting e (get_or h L.len 0))) ≡ true
    → sane K L h e ≡ true
housed-sane K L h e m f = rw (le-leb (suc L.len) (length h) m.words, m.room) (rw (any-waiting e (get_or h L.len 0)) at f)

-- a call by the caller w
module _ (K : Kind) (L : Layout K.Num) (v : ℕ → K.Wish) (w : Caller) (k : K.Call) (h e : List ℕ) (s : sane K L h e ≡ true) (r : ℤ) (h' e' : List ℕ) where
  -- who cannot call
  pub caller_barred : Did (standing L) (call K v w k) h e r h' e' → (c : ℕ) → code w ≡ negsuc c → Barred (negsuc c) h e r h' e'
  caller_barred d c z = denies L (call K v w k) h e r h' e' d (call_barred K L v w k h e s c z)

  module _ (c : ℕ) (z : code w ≡ pos c) where
    pub refused-by : Did (standing L) (call K v w k) h e r h' e' → (a : ℤ) → verdict K L v w k h e ≡ deny a → Barred a h e r h' e'
    refused-by d a y = denies L (call K v w k) h e r h' e' d (call-is K L v w k h e s c z (deny a) y)

    -- only the numbers change, and a word that is lent for who is woken stays
    module _ (n : K.Num) (a : ℤ) (y : verdict K L v w k h e ≡ allow n keep a) where
      pub kept_by : Did (standing L) (call K v w k) h e r h' e' → Leaves a n (waiting e (get_or h L.len 0)) r (L.num h') (waiting e' (get_or h' L.len 0))
      kept_by d = leaves L (call K v w k) h e r h' e' d (call-is K L v w k h e s c z (allow n keep a) y)

      pub nobody-told : (x x' : ℕ) → x' ≡ store.first x (store.out (reply (standing L) (call K v w k) h e)) → x' ≡ x
      nobody-told x x' t = rw (call-is K L v w k h e s c z (allow n keep a) y) at t

    -- the first is woken with the result u
    module _ (n : K.Num) (u a : ℤ) (y : verdict K L v w k h e ≡ allow n (wake (up_to 1) (λ t. u)) a) (b : 0 < length (waiting e (get_or h L.len 0))) where
      first : (x : ℕ) (q : List ℕ) → waiting e (get_or h L.len 0) ≡ x ∷ q
          → reply (standing L) (call K v w k) h e ≡ accept (record { num = n; queue = q }) a (woken u x ∷ [])
      first x q l = call-is K L v w k h e s c z (allow n (wake (up_to 1) (λ t. u)) a) y ∙ rw l

      pub woken-by : (x x' : ℕ) → Well (waiting e (get_or h L.len 0)) → Did (standing L) (call K v w k) h e r h' e' → x' ≡ store.first x (store.out (reply (standing L) (call K v w k) h e))
          → (r ≡ a) × (L.num h' ≡ n) × FirstIsWoken u (waiting e (get_or h L.len 0)) x' (waiting e' (get_or h' L.len 0))
      woken-by x x' g d t = go (waiting e (get_or h L.len 0)) refl
        where
          go : (m : List ℕ) → waiting e (get_or h L.len 0) ≡ m
              → (r ≡ a) × (L.num h' ≡ n) × FirstIsWoken u (waiting e (get_or h L.len 0)) x' (waiting e' (get_or h' L.len 0))
          go [] l = absurd (omega (arith, ap length l))
          go (i ∷ q) l =
              let f = leaves L (call K v w k) h e r h' e' d (first i q l) in
              let j : Well (i ∷ q) = rw l at g in
              (f.code, f.numbers, rw (l, f.queue) (record { who = rw (first i q l) at t; others = refl; highest = j.sorted.0 }))

    -- all are woken with the result u, if there is room to hand them out
    module _ (n : K.Num) (u a : ℤ) (y : verdict K L v w k h e ≡ allow n (wake everybody (λ t. u)) a) (out : List ℕ) where
      abbrev every : Reply (Object K.Num)
      every = accept (record { num = n; queue = [] }) a (map (woken u) (waiting e (get_or h L.len 0)))

      abbrev op : Object K.Num → Reply (Object K.Num)
      op = fitting (length out) (call K v w k)

      there : reply (standing L) op h e ≡ fitting (length out) (λ x. every) ((standing L).object h e)
      there =
          let o : call K v w k ((standing L).object h e) ≡ every =
          sym (is-on L (call K v w k) h e (is-sane K L h e s).housed) ∙ call-is K L v w k h e s c z (allow n (wake everybody (λ t. u)) a) y in
          is-on L op h e (is-sane K L h e s).housed ∙ rw o

      all : length (waiting e (get_or h L.len 0)) ≤ length out → reply (standing L) op h e ≡ every
      all b = there ∙ rw (length-map (waiting e (get_or h L.len 0)) (woken u), le-leb (length (waiting e (get_or h L.len 0))) (length out) b)

      pub all-woken-by : (out' : List ℕ) → length (waiting e (get_or h L.len 0)) ≤ length out → Did (standing L) op h e r h' e'
          → Filled (store.out (reply (standing L) op h e)) out out'
          → Leaves a n [] r (L.num h') (waiting e' (get_or h' L.len 0)) × AllAreWoken u (waiting e (get_or h L.len 0)) out out'
      all-woken-by out' b d t = (
        leaves L op h e r h' e' d (all b),
        t ∙ rw (all b, length-map (waiting e (get_or h L.len 0)) (woken u)) refl,
      )

      -- with less room it is refused, and nobody is handed out
      none : length out < length (waiting e (get_or h L.len 0)) → reply (standing L) op h e ≡ refuse einval
      none b = there ∙ rw (length-map (waiting e (get_or h L.len 0)) (woken u), lt-leb (length (waiting e (get_or h L.len 0))) (length out) b)

      pub short-by : (out' : List ℕ) → length out < length (waiting e (get_or h L.len 0)) → Did (standing L) op h e r h' e'
          → Filled (store.out (reply (standing L) op h e)) out out' → Barred einval h e r h' e' × (out' ≡ out)
      short-by out' b d t = (denies L op h e r h' e' d (none b), t ∙ rw (none b) refl)

-- the thread i of priority p waits, and no number changes
module _ (K : Kind) (L : Layout K.Num) (v : ℕ → K.Wish) (i p : ℕ) (k : K.Call) (h e : List ℕ) (s : sane K L h e ≡ true) (x : K.Wish) (a : ℤ)
    (y : verdict K L v (thread i p running) k h e ≡ allow (L.num h) (park x) a) (r : ℤ) (h' e' : List ℕ)
    (d : Did (standing L) (call K v (thread i p running) k) h e r h' e')
    (small : i < 4294967296) (valid : p < max_priority) where
  pends : reply (standing L) (call K v (thread i p running) k) h e ≡ queued (L.num h) (pend i p running (waiting e (get_or h L.len 0)))
  pends =
      is-on L (call K v (thread i p running) k) h e (is-sane K L h e s).housed
      ∙ parks K v i p k ((standing L).object h e) (L.num h) x a (formed-queue K L h e (is-sane K L h e s)) y running

  pub waits-by : Waits i p (L.num h) (waiting e (get_or h L.len 0)) h e r (L.num h') (waiting e' (get_or h' L.len 0)) h' e'
  waits-by =
      record {
        joins = λ absent room. leaves L (call K v (thread i p running) k) h e r h' e' d
            (pends ∙ ap (queued (L.num h)) (joined_line i p (waiting e (get_or h L.len 0)) small valid absent room));
        twice = λ z. denies L (call K v (thread i p running) k) h e r h' e' d (pends ∙ rw (lt-ltb p max_priority valid, ident-entry p i small, z));
        full = λ absent b. denies L (call K v (thread i p running) k) h e r h' e' d
            (pends ∙ rw (lt-ltb p max_priority valid, ident-entry p i small, absent, le-ltb (length (waiting e (get_or h L.len 0))) max_waiters b));
      }

-- a new object: its answer, its numbers and the length of its queue; a header that is too short is refused, and stays
module _ (K : Kind) (L : Layout K.Num) (n : K.Num) (h : List ℕ) (r : ℤ) (h' : List ℕ) (s : Opened K L n h r h') where
  pub opened-code : r ≡ cond (leb (suc L.len) (length h)) (cond (K.formed n false) ok einval) einval
  opened-code = (s.with blank blank_roomy).code

  pub opened-made : r ≡ ok → (L.num h' ≡ n) × (get_or h' L.len 0 ≡ 0)
  opened-made z =
      let o = ((s.with blank blank_roomy).made z).object in
      (ap (λ (x : Object K.Num). x.num) o, sym (back-length blank (get_or h' L.len 0)) ∙ ap (λ (x : Object K.Num). length x.queue) o)

  pub start-refused : length h < suc L.len → (r ≡ einval) × (h' ≡ h)
  start-refused b = let z : r ≡ einval = opened-code ∙ rw (lt-leb (suc L.len) (length h) b) in (z, ((s.with blank blank_roomy).kept 21 z).0)
