-- A timeout that is active fires once, when it is reached. Assumes nothing.
use mathlib.Core.Path.{◌≡◌, refl, sym, ap, ◌∙◌}
use mathlib.Core.Bool.{true, false, cond}
use mathlib.Core.List.{List, [], ◌∷◌}
use Prim.Native.Nat.{ℕ, suc, ◌+◌, ◌≤◌, ◌<◌}
use native.Mathlib.Omega.{arith}
use lib.Dec.{ltb}
use lib.IntN.{pos, negsuc}
use lib.ListN.{get_or}
use borrow.Author.Tests.{lt-ltb, le-ltb, le-leb}
use Rattle.seq.specs.List.{All}
use Rattle.seq.proofs.Order.{clash, cond_same}
use Rattle.thread.specs.Code.{ok}
use Rattle.store.specs.History.{Step}
use Rattle.timeout.specs.Timeout.{Timeout, never, is_active, fires}
use Rattle.timeout.specs.History.{Call, announcing, ticked, moves, touches, firings, reached, Once, NeverReached, Forever, AtOnceReached, Quiet}
use Rattle.timeout.proofs.Numbers.{fires-idle, fires-is}
use Rattle.timeout.proofs.Calls.{Addition, relative, absolutely, forever, no-wait, refuses, sets, aborts, moves-on, rings, Keeps, always_keeps}

abbrev Untouched : List (Step Call) → Type 0
Untouched es = All (λ e. touches e ≡ false) es

-- what an add or an abort would do is not asked
added : {P : Type 0} {c : ℕ} {k : Call} {x : ℕ} → Addition c k x → touches (record { call = k; answer = ok; out = [] }) ≡ false → P
added relative e = clash e
added (absolutely f) e = clash e
added forever e = clash e
added no-wait e = clash e

-- before and after: the deadline was x and the clock at c; now it is a and b
pub data Stage (x c : ℕ) (es : List (Step Call)) (a b : ℕ) : Type 0 where
  before : 0 < a → reached x c es ≡ false → firings es ≡ 0 → Stage x c es a b
  after : a ≡ 0 → x < never → x ≤ b → reached x c es ≡ true → firings es ≡ 1 → Stage x c es a b

pub record Life (x c : ℕ) (es : List (Step Call)) (t : Timeout) : Type 0 where
  pub clock : t.clock ≡ c + ticked es
  pub deadline : t.deadline ≡ x
  pub stage : Stage x c es t.active t.clock

module _ (x c : ℕ) (es : List (Step Call)) (o : List ℕ) (a b : ℕ) where
  still : (k : Call) (m : ℕ) → Stage x c es a b → Stage x c (record { call = k; answer = negsuc m; out = o } ∷ es) a b
  still k m (before j r f) = before j r f
  still k m (after j u v r f) = after j u v r f

  module _ (n : ℕ) (e : b ≡ c + ticked es) where
    same : c + (ticked es + n) ≡ b + n
    same = omega arith

    on : Stage x c es a b → fires (ltb 0 a) x (b + n) ≡ false → Stage x c (record { call = announcing n; answer = ok; out = o } ∷ es) a (b + n)
    on (before k r f) g = before k (rw same (rw (lt-ltb 0 a k) at g)) f
    on (after k u v r f) g = after k u (omega arith) (rw (same, lt-ltb x never u, le-leb x (b + n) (omega arith))) f

    out : Stage x c es a b → fires (ltb 0 a) x (b + n) ≡ true → Stage x c (record { call = announcing n; answer = pos 1; out = o } ∷ es) 0 (b + n)
    out (before k r f) g =
        let j : fires true x (b + n) ≡ true = rw (lt-ltb 0 a k) at g in
        after refl (fires-is true x (b + n) j).1 (fires-is true x (b + n) j).2 (rw same j) (ap suc f)
    out (after k u v r f) g = clash (sym g ∙ fires-idle (ltb 0 a) x (b + n) (le-ltb 0 a (omega arith)))

lives : (x c : ℕ) → Keeps (λ es t. Untouched es → Life x c es t)
lives x c es t o i k y (refuses m) z =
    let l = i z.1 in
    record { clock = l.clock; deadline = l.deadline; stage = still x c es o t.active t.clock k m l.stage }
lives x c es t o i k y (sets e f) z = added f z.0
lives x c es t o i k y (aborts e) z = clash z.0
lives x c es t o i k y (moves-on {n} f e) z =
    let l = i z.1 in
    record { clock = omega (arith, l.clock); deadline = l.deadline; stage = on x c es o t.active t.clock n l.clock l.stage (rw l.deadline at e) }
lives x c es t o i k y (rings {n} f e) z =
    let l = i z.1 in
    record { clock = omega (arith, l.clock); deadline = l.deadline; stage = out x c es o t.active t.clock n l.clock l.stage (rw l.deadline at e) }

pub once : Once
once h h' es e k m u =
    let d = get_or h 0 0 in
    let c = get_or h 2 0 in
    let l = always_keeps (λ es t. Untouched es → Life d c es t) (lives d c) e (λ z. record { clock = omega arith; deadline = refl; stage = before k refl refl }) m in
    end (l.1 u).stage
  where
    end : {a b : ℕ} → Stage (get_or h 0 0) (get_or h 2 0) es a b → firings es ≡ cond (reached (get_or h 0 0) (get_or h 2 0) es) 1 0
    end (before j r f) = rw r f
    end (after j p q r f) = rw r f

pub never-reached : NeverReached
never-reached c [] = refl
never-reached c (e ∷ es) = rw (never-reached c es) (cond_same (moves e) false)

pub at-once-reached : AtOnceReached
at-once-reached c e es f = rw (f, le-leb 0 (c + ticked (e ∷ es)) (omega arith))

pub forever-quiet : Forever
forever-quiet h h' es e k z m u = once h h' es e k m u ∙ rw z (ap (λ b. cond b 1 0) (never-reached (get_or h 2 0) es))

-- one that is not active
sleeps : Keeps (λ es t. Untouched es → (t.active ≡ 0) × (firings es ≡ 0))
sleeps es t o i k y (refuses m) z = i z.1
sleeps es t o i k y (sets e f) z = added f z.0
sleeps es t o i k y (aborts e) z = clash z.0
sleeps es t o i k y (moves-on f e) z = i z.1
sleeps es t o i k y (rings {n} f e) z =
    clash (sym e ∙ fires-idle (is_active t) t.deadline (t.clock + n) (le-ltb 0 t.active (omega (arith, (i z.1).0))))

pub quiet : Quiet
quiet h h' es e k m u = ((always_keeps (λ es t. Untouched es → (t.active ≡ 0) × (firings es ≡ 0)) sleeps e (λ z. (k, refl)) m).1 u).1
