-- After any calls the last word in is the first out, as the callers see it. Assumes nothing.
use mathlib.Core.Path.{◌≡◌, refl, sym, ap, ◌∙◌}
use mathlib.Core.Logic.{◌⊎◌, inl, inr}
use mathlib.Core.Bool.{true}
use mathlib.Core.List.{List, [], ◌∷◌}
use Prim.Native.Nat.{ℕ, ◌+◌, ◌-◌, ◌<◌}
use native.Mathlib.Omega.{arith}
use borrow.Author.Tests.{lt-ltb, le-ltb}
use lib.Seq.{length-take-le}
use lib.ListN.{length, get_or}
use Rattle.thread.specs.Code.{ok}
use Rattle.store.specs.Store.{Reply, answer, left, out, Filled}
use Rattle.store.specs.History.{Step, Ran, fresh, ran}
use Rattle.store.proofs.Laws.{no_code}
use Rattle.stack.specs.Stack.{Stack, may}
use Rattle.stack.specs.Stack as stack
use Rattle.stack.specs.History.{Call, pushing, does, depth, count, Stands, Lies, pushed, stayed, Told, AllTold, Promise}
use Rattle.stack.proofs.Memory.{may-is}
use Rattle.stack.proofs.Calls.{mk, Does, stores, no_room, takes, nothing, which}
use Rattle.stack.proofs.Standing.{stands_deep, keeps, enters, came, alone, counts-on, wholly, refused}

-- what is promised follows from the half of it
promise : {c : ℕ} {ts : List (Step Call)} (s : Stack) → AllTold c ts → s.capacity ≡ c → depth s ≡ count ts → depth s + length s.spare ≡ c
    → ((x d : ℕ) → Lies x d ts → Stands x d s.held) → ((x d : ℕ) → Stands x d s.held → Lies x d ts) → Promise c ts s
promise s told fixed counts whole stands lies =
    record {
      told = told;
      one = λ x y d v u. alone (stands x d v) (stands y d u);
      fixed = fixed;
      counts = counts;
      bounded = omega (arith, counts, whole);
      whole = whole;
      stands = stands;
      lies = lies;
      refused = λ k n e. refused (which s.capacity s.held s.spare k) e;
    }

tells : {c n : ℕ} {ts : List (Step Call)} {l p : List ℕ} {k : Call} {y : Reply Stack} → Does n l p k y → Promise c ts (mk n l p)
    → (o o' : List ℕ) → Filled (out y) o o' → Told c k (answer y) o' ts
tells {c} {ts = ts} (stores b) h o o' f = rw (lt-ltb (count ts) c (omega (arith, h.counts, h.fixed)))
tells {c} {ts = ts} (no_room b) h o o' f = rw (le-ltb (count ts) c (omega (arith, h.counts, h.fixed)))
tells {ts = ts} (takes {l = l} {y = y}) h o o' f =
    let n : count ts - 1 ≡ length l = omega (arith, h.counts) in
    let x : get_or o' 0 0 ≡ y = ap (λ (v : List ℕ). get_or v 0 0) f in
    (rw (lt-ltb 0 (count ts) (omega (arith, h.counts))), λ a. rw (x, n) (h.lies y (length l) (record { over = []; below = l; is = refl; low = refl })))
tells {ts = ts} nothing h o o' f = (rw (le-ltb 0 (count ts) (omega (arith, h.counts))), λ a. absurd (no_code (sym a)))

goes_on : {c n : ℕ} {ts : List (Step Call)} {l p : List ℕ} {k : Call} {y : Reply Stack} → Does n l p k y → Promise c ts (mk n l p)
    → (o o' : List ℕ) → Filled (out y) o o' → Promise c (record { call = k; answer = answer y; out = o' } ∷ ts) (left y (mk n l p))
goes_on {c} {n} {ts} {l} {p} {k} {y} d h o o' f =
    let w = wholly d h.fixed h.whole in
    promise (left y (mk n l p)) (tells d h o o' f, h.told) w.0 (counts-on d h.counts) w.1
    (λ x j v. after x j (record { call = k; answer = answer y; out = o' }) refl refl v) (λ x j s. before x j s (came d s))
  where
    after : (x j : ℕ) (t : Step Call) → t.call ≡ k → t.answer ≡ answer y → Lies x j (t ∷ ts) → Stands x j (left y (mk n l p)).held
    after x j t e g (pushed a b u) = enters d (sym e ∙ a) (sym g ∙ b) (h.counts ∙ u)
    after x j t e g (stayed v b) = keeps d (h.stands x j v) (rw (counts-on d h.counts, sym e, sym g) b)

    before : (x j : ℕ) → Stands x j (left y (mk n l p)).held → Stands x j l ⊎ ((k ≡ pushing x) × (answer y ≡ ok) × (length l ≡ j))
        → Lies x j (record { call = k; answer = answer y; out = o' } ∷ ts)
    before x j s (inl b) = stayed (h.lies x j b) (rw (counts-on d h.counts) at (stands_deep s))
    before x j s (inr b) = pushed b.0 b.1 (sym h.counts ∙ b.2)

-- what lies was pushed
lies-some : {x d : ℕ} {ts : List (Step Call)} → Lies x d ts → 0 < length ts
lies-some (pushed a b u) = omega arith
lies-some (stayed v b) = omega arith

pub promised : (c : ℕ) (w : List ℕ) → may c w ≡ true → {ts : List (Step Call)} {s : Stack} → Ran does (stack.fresh c w) ts s → Promise c ts s
promised c w m fresh =
    promise (stack.fresh c w) tt refl refl (omega (arith, length-take-le c w (may-is c w m).1)) (λ x d v. absurd (omega (arith, lies-some v)))
    (λ x d s. absurd (omega (arith, stands_deep s)))
promised c w m (ran {s = s} {k} o o' x f) = goes_on (which s.capacity s.held s.spare k) (promised c w m x) o o' f
