-- Who is woken comes before all that wait on, for kinds that wake from the front. Assumes nothing.
use mathlib.Core.Path.{◌≡◌, refl, sym, subst, ◌∙◌}
use mathlib.Core.Bool.{Bool, true, false, cond}
use mathlib.Core.Logic.{◌⊎◌, inl, inr}
use mathlib.Core.List.{List, [], ◌∷◌, map}
use Prim.Native.Nat.{ℕ, zero, suc}
use native.Mathlib.Omega.{arith}
use lib.Dec.{eqb, ltb}
use lib.IntN.{ℤ, pos, negsuc}
use lib.ListN.{length, take, drop}
use borrow.Author.Tests.{eq-eqb, eqb-true, eqb-false}
use Rattle.seq.specs.List.{Sorted}
use Rattle.seq.proofs.Order.{clash}
use Rattle.thread.specs.Code.{einval}
use Rattle.thread.specs.Caller.{caller_code}
use Rattle.wait_queue.specs.Queue.{max_waiters, entry, ident, holds}
use Rattle.store.specs.Store as store
use Rattle.kind.specs.Verdict.{Pick, up_to, everybody, those, gone, keep, park, wake, Verdict, deny, allow}
use Rattle.kind.specs.Kind.{Kind, Lawful}
use Rattle.kind.specs.Object.{thread, carried}
use Rattle.system.specs.System.{State, ready, waiting, number, Slot, vacant, object, Sys, Op, invoke, both, dispatch, yield, expire, spawn, create, Answer, Reply, refuse, unless, serve, verdict, visited, called, answers, paired, step, after, thing}
use Rattle.system.specs.Rules.{times, Fine, Start}
use Rattle.system.specs.Run.{run}
use Rattle.system.specs.Order.{Before, age, Best}
use Rattle.system.specs.Life.{Calls, direct, former, latter, Life, stays, began, woken, late, back, aside, born}
use Rattle.system.proofs.Times.{unheld, times-take, picked}
use Rattle.system.proofs.Calls.{barred, granted, called-fine}
use Rattle.system.proofs.Steps.{always}
use Rattle.system.proofs.Orders.{called-there, ordered}
use Rattle.system.proofs.Lives.{Does, nothing, waits, wakes, owed, called-does, lives}

-- a verdict wakes from the front, or nobody, or everybody
abbrev pub Front : Pick → Type 0
Front (up_to n) = Unit {0}
Front everybody = Unit {0}
Front (those f) = ⊥

abbrev pub InTurn : {N W : Type 0} → Verdict N W → Type 0
InTurn (deny r) = Unit {0}
InTurn (allow n keep r) = Unit {0}
InTurn (allow n (park x) r) = Unit {0}
InTurn (allow n (wake p f) r) = Front p

abbrev pub Turnwise : Kind → Type 0
Turnwise K = (n : K.Num) (v : ℕ → K.Wish) (q : List ℕ) (w : ℕ) (k : K.Call) → InTurn (K.decide n v q w k)

pub in_turn : {N W : Type 0} (b : Bool) (d e : Verdict N W) → InTurn d → InTurn e → InTurn (cond b d e)
in_turn true d e x y = x
in_turn false d e x y = y

-- who stands in a queue once is in it
pub held_of : (t : ℕ) (q : List ℕ) → times t q ≡ 1 → holds t q ≡ true
held_of t q h = go (holds t q) refl
  where
    go : (b : Bool) → holds t q ≡ b → holds t q ≡ true
    go true e = e
    go false e = absurd (omega (arith, unheld t q e))

never : {A : Type 0} {o : ℕ} {r : ℤ} → waiting o ≡ ready r → A
never h = absurd (let z : ◌≡◌ {A = ℕ} 0 1 = cc in omega arith)

drop-holds : (u n : ℕ) (q : List ℕ) → holds u (drop n q) ≡ true → holds u q ≡ true
drop-holds u zero q h = h
drop-holds u (suc n) [] h = h
drop-holds u (suc n) (x ∷ q) h = go (eqb (ident x) u) (drop-holds u n q h)
  where
    go : (b : Bool) → holds u q ≡ true → cond b true (holds u q) ≡ true
    go true z = refl
    go false z = z

-- in a list in order, who stands among the first comes before who does not
first-before : (R : ℕ → ℕ → Type 0) (n : ℕ) (q : List ℕ) (t u : ℕ) → Sorted R (map ident q) → holds t (take n q) ≡ true → holds u (drop n q) ≡ true → R t u
first-before R zero q t u s a b = clash (sym a)
first-before R (suc n) [] t u s a b = clash (sym a)
first-before R (suc n) (x ∷ q) t u s a b = go (eqb (ident x) t) refl a (λ z. first-before R n q t u s.1 z b)
  where
    go : (c : Bool) → eqb (ident x) t ≡ c → cond c true (holds t (take n q)) ≡ true → (holds t (take n q) ≡ true → R t u) → R t u
    go true e z f = subst (λ (y : ℕ). R y u) (eqb-true (ident x) t e) (owed (R (ident x)) u q (drop-holds u n q b) s.0)
    go false e z f = f z

-- one call on the object o, whose queue is in order
module _ {K : Kind} (turn : Turnwise K) (s : Sys K) (g : Fine s) (i o : ℕ) (k : K.Call) (R : ℕ → ℕ → Type 0)
    (t u x : ℕ) (r : ℤ) (sorted : x ≡ o → Sorted R (map ident (s.queue o))) (a : s.state t ≡ waiting x) (b : s.state u ≡ waiting x) where
  abbrev q : List ℕ
  q = s.queue o

  by_pick : (p : Pick) → Front p → holds t (gone ident p q) ≡ true → holds u (gone ident p q) ≡ false → R t u
  by_pick p f h l = go p f h l
    where
      w : s.state t ≡ waiting o
      w = picked s g.placed o t p h

      same : x ≡ o
      same = let e : waiting x ≡ waiting o = sym a ∙ w in cc

      here : times u q ≡ 1
      here = g.placed o u ∙ rw (b, eq-eqb x o same)

      go : (p : Pick) → Front p → holds t (gone ident p q) ≡ true → holds u (gone ident p q) ≡ false → R t u
      go (up_to n) f h l = first-before R n q t u (sorted same) h (in_rest (holds u (drop n q)) refl)
        where
          in_rest : (c : Bool) → holds u (drop n q) ≡ c → holds u (drop n q) ≡ true
          in_rest true e = e
          in_rest false e = absurd (omega (arith, here, times-take u n q, unheld u (take n q) l, unheld u (drop n q) e))
      go everybody f h l = absurd (omega (arith, here, unheld u q l))
      go (those y) f h l = absurd f

  by-verdict : (d : Verdict K.Num K.Wish) (n : K.Num) → InTurn d
      → (unless (store.answer (carried (thread i (s.prio i) 1) d (thing s o n))) s (serve s i o d (store.left (carried (thread i (s.prio i) 1) d (thing s o n)) (thing s o n)))).state t ≡ ready r
      → (unless (store.answer (carried (thread i (s.prio i) 1) d (thing s o n))) s (serve s i o d (store.left (carried (thread i (s.prio i) 1) d (thing s o n)) (thing s o n)))).state u ≡ waiting x → R t u
  by-verdict (deny (negsuc c)) n f h l = never (sym a ∙ h)
  by-verdict (deny (pos c)) n f h l = never (sym a ∙ h)
  by-verdict (allow m keep (negsuc c)) n f h l = never (sym a ∙ h)
  by-verdict (allow m keep (pos c)) n f h l = never (sym a ∙ h)
  by-verdict (allow m (wake p w) (negsuc c)) n f h l = never (sym a ∙ h)
  by-verdict (allow m (wake p w) (pos c)) n f h l = go (holds t (gone ident p q)) (holds u (gone ident p q)) refl refl h l
    where
      go : (y z : Bool) → holds t (gone ident p q) ≡ y → holds u (gone ident p q) ≡ z → cond y (ready (w t)) (s.state t) ≡ ready r
          → cond z (ready (w u)) (s.state u) ≡ waiting x → R t u
      go true true d e h l = never (sym l)
      go true false d e h l = by_pick p f d e
      go false z d e h l = never (sym a ∙ h)
  by-verdict (allow m (park w) c) n f h l = go (holds (ident (entry (s.prio i) i)) q) (ltb (length q) max_waiters) refl refl
    where
      parks : (y : Bool) → cond y (waiting o) (s.state t) ≡ ready r → R t u
      parks true z = never z
      parks false z = never (sym a ∙ z)

      go : (y z : Bool) → holds (ident (entry (s.prio i) i)) q ≡ y → ltb (length q) max_waiters ≡ z → R t u
      go true z d e = never (sym a ∙ rw d at h)
      go false true d e = parks (eqb i t) (rw (d, e) at h)
      go false false d e = never (sym a ∙ rw (d, e) at h)

  pub call-best : (called s i o k).0.state t ≡ ready r → (called s i o k).0.state u ≡ waiting x → R t u
  call-best = go (s.slot o) refl
    where
      go : (y : Slot K.Num) → s.slot o ≡ y → (visited y s i o k).0.state t ≡ ready r → (visited y s i o k).0.state u ≡ waiting x → R t u
      go vacant e h l = never (sym a ∙ h)
      go (object n) e h l = by (caller_code (s.prio i) (number (s.state i))) refl
        where
          by : (z : ℤ) → caller_code (s.prio i) (number (s.state i)) ≡ z → R t u
          by (negsuc c) z = never (sym a ∙ rw (barred s i o k n (g.formed o n e) c z) at h)
          by (pos c) z =
              by-verdict (verdict s i o k n) n (turn n s.wish (map ident q) i k) (rw (granted s i o k n (g.formed o n e) c z) at h)
              (rw (granted s i o k n (g.formed o n e) c z) at l)

-- who is woken is woken by a call, or its time is over
abbrev IsCall : {K : Kind} → Op K → Type 0
IsCall (invoke i o k) = Unit {0}
IsCall (both i a j b k) = Unit {0}
IsCall (dispatch i) = ⊥
IsCall (yield i) = ⊥
IsCall (expire i) = ⊥
IsCall (spawn i p) = ⊥
IsCall (create o n) = ⊥

is_call : {K : Kind} {x : Op K} {w o : ℕ} {k : K.Call} → Calls K x w o k → IsCall x
is_call direct = tt
is_call former = tt
is_call latter = tt

waker : {K : Kind} {v : ℕ → K.Wish} {x : Op K} {a : Answer} {t : ℕ} {y z : State} (o : ℕ) (r : ℤ) → Life K v x a t y z → y ≡ waiting o → z ≡ ready r
    → (x ≡ expire t) ⊎ IsCall x
waker o r stays h l = never (sym h ∙ l)
waker o r (began c) h l = absurd (let z : ◌≡◌ {A = ℕ} 0 1 = cc in omega arith)
waker o r (woken c e) h l = inr (is_call c)
waker o r late h l = inl refl
waker o r back h l = absurd (let z : ◌≡◌ {A = ℕ} 0 1 = cc in omega arith)
waker o r aside h l = absurd (let z : ◌≡◌ {A = ℕ} 0 1 = cc in omega arith)
waker o r born h l = absurd (let z : ◌≡◌ {A = ℕ} 0 1 = cc in omega arith)

-- two calls: who is woken is woken by one of them
module _ {K : Kind} (law : Lawful K) (turn : Turnwise K) (s : Sys K) (g : Fine s) (i a : ℕ) (j : K.Call) (b : ℕ) (k : K.Call) (off : a ≡ b → ⊥)
    (R : ℕ → ℕ → Type 0) (t u x : ℕ) (r : ℤ) (sorted : Sorted R (map ident (s.queue x))) (h : s.state t ≡ waiting x) (l : s.state u ≡ waiting x) where
  abbrev mid : Sys K
  mid = (called s i a j).0

  fine_mid : Fine mid
  fine_mid = called-fine law s g i a j

  two-best : (called mid i b k).0.state t ≡ ready r → (called mid i b k).0.state u ≡ waiting x → R t u
  two-best y z = by_u (called-does law s g i a j u) (called-does law mid fine_mid i b k u)
    where
      -- t in between
      by_t : mid.state u ≡ waiting x → Does K s.wish i a j t (s.state t) (mid.state t) → R t u
      by_t e (nothing w) =
          call-best turn mid fine_mid i b k R t u x r
          (λ c. subst (λ (q : List ℕ). Sorted R (map ident q)) (sym (called-there s i a j b off))
          (subst (λ (o : ℕ). Sorted R (map ident (s.queue o))) c sorted)) (w ∙ h) e y z
      by_t e (waits w v d) = absurd (let c : ◌≡◌ {A = ℕ} 0 1 = cc in omega arith)
      by_t e (wakes c w v d f) = call-best turn s g i a j R t u x c (λ n. subst (λ (o : ℕ). Sorted R (map ident (s.queue o))) n sorted) h l d e

      -- u waits in between
      by_u : Does K s.wish i a j u (s.state u) (mid.state u) → Does K mid.wish i b k u (mid.state u) ((called mid i b k).0.state u) → R t u
      by_u (nothing w) d = by_t (w ∙ l) (called-does law s g i a j t)
      by_u (waits w v e) d = absurd (let c : ◌≡◌ {A = ℕ} 0 1 = cc in omega arith)
      by_u (wakes c w v e f) (nothing d) = never (sym z ∙ d ∙ e)
      by_u (wakes c w v e f) (waits d n m) = absurd (let p : ◌≡◌ {A = ℕ} 0 1 = cc in omega arith)
      by_u (wakes c w v e f) (wakes d n m p o) = never (sym z ∙ p)

module _ {K : Kind} (law : Lawful K) (turn : Turnwise K) (s : Sys K) (b : Start s) (past : List (Op K)) where
  abbrev old : Sys K
  old = after s past

  fine : Fine old
  fine = always law s b past

  pub best : (x : Op K) → Best (run step s) past x
  best x o t u r h l n y z = at x n (waker o r (lives law old fine t x) h y) y z
    where
      R : ℕ → ℕ → Type 0
      R = Before old.prio (age (run step s) past o)

      sorted : Sorted R (map ident (old.queue o))
      sorted = ordered law s b past o

      both-best : (i a : ℕ) (j : K.Call) (d : ℕ) (k : K.Call) (c : Bool) → eqb a d ≡ c
          → (cond {A = Reply K} c (refuse old einval) (paired old i a j d k)).0.state t ≡ ready r
          → (cond {A = Reply K} c (refuse old einval) (paired old i a j d k)).0.state u ≡ waiting o → R t u
      both-best i a j d k true e y z = never (sym h ∙ y)
      both-best i a j d k false e y z = go (answers old i a j d k) y z
        where
          go : (c : ℤ) → (unless c old (called (called old i a j).0 i d k).0).state t ≡ ready r
              → (unless c old (called (called old i a j).0 i d k).0).state u ≡ waiting o → R t u
          go (pos c) y z = two-best law turn old fine i a j d k (eqb-false a d e) R t u o r sorted h l y z
          go (negsuc c) y z = never (sym h ∙ y)

      at : (x : Op K) → (x ≡ expire t → ⊥) → (x ≡ expire t) ⊎ IsCall x → (step old x).0.state t ≡ ready r → (step old x).0.state u ≡ waiting o → R t u
      at x n (inl e) y z = absurd (n e)
      at (invoke i a k) n (inr c) y z = call-best turn old fine i a k R t u o r (λ m. subst (λ (q : ℕ). Sorted R (map ident (old.queue q))) m sorted) h l y z
      at (both i a j d k) n (inr c) y z = both-best i a j d k (eqb a d) refl y z
      at (dispatch i) n (inr c) y z = absurd c
      at (yield i) n (inr c) y z = absurd c
      at (expire i) n (inr c) y z = absurd c
      at (spawn i p) n (inr c) y z = absurd c
      at (create a m) n (inr c) y z = absurd c
