-- What one call does to a ring: it adds, it takes, it clears, or nothing changes. Assumes nothing.
use mathlib.Core.Path.{◌≡◌, refl, ap, ◌∙◌}
use mathlib.Core.Bool.{Bool, true, false}
use mathlib.Core.List.{List, [], ◌∷◌, ◌++◌}
use Prim.Native.Nat.{ℕ, ◌+◌, ◌-◌, ◌≤◌, ◌<◌, min}
use native.Mathlib.Omega.{arith}
use borrow.Author.Tests.{ltb-true, leb-true}
use lib.Dec.{ltb, leb}
use lib.IntN.{ℤ, negsuc}
use lib.ListN.{length, take, drop, length-append, length-take, length-drop}
use lib.Seq.{take_at, length-take-le}
use Rattle.store.specs.Store.{answer, left, out, Filled}
use Rattle.store.proofs.Laws.{both_true}
use Rattle.ring_buf.specs.Ring.{Ring, append, leave, clear}
use Rattle.ring_buf.specs.Bytes.{new, may, put, get, get_many, peek}
use Rattle.ring_buf.specs.History.{Call, putting, getting, putting_many, getting_many, peeking, resetting, does, put_by, got_by, wipes}
use Rattle.ring_buf.proofs.Rings.{wrap-below, length-turn}
use Rattle.ring_buf.proofs.Parts.{take-least}

abbrev pub mk : ℕ → ℕ → List ℕ → List ℕ → Ring ℕ
mk c t l p = record { capacity = c; start = t; held = l; spare = p }

-- the call k, answered a, with o in its place for what is handed out, makes this of the ring r
pub data Acts (r : Ring ℕ) (k : Call) (a : ℤ) (o : List ℕ) : Ring ℕ → Type 0 where
  adds : (l : List ℕ) → length l ≤ length r.spare → wipes k a ≡ false → put_by k a ≡ l → got_by k a o ≡ [] → Acts r k a o (append l r)
  takes : (n : ℕ) → n ≤ length r.held → wipes k a ≡ false → put_by k a ≡ [] → got_by k a o ≡ take n r.held → Acts r k a o (leave n r)
  stays : wipes k a ≡ false → put_by k a ≡ [] → got_by k a o ≡ [] → Acts r k a o r
  clears : wipes k a ≡ true → got_by k a o ≡ [] → Acts r k a o (clear r)

-- each place is held or free, and the first within the capacity
pub record Fits (r : Ring ℕ) : Type 0 where
  pub whole : length r.held + length r.spare ≡ r.capacity
  pub below : r.start < r.capacity

pub acts_fit : {r r' : Ring ℕ} {k : Call} {a : ℤ} {o : List ℕ} → Acts r k a o r' → Fits r → Fits r' × (r'.capacity ≡ r.capacity)
acts_fit (adds l f w e g) h = (record { whole = simp (length-append, length-drop) (omega (arith, h.whole)); below = h.below }, refl)
acts_fit {r} (takes n f w e g) h =
    let t = length-take-le n r.held f in
    (record { whole = simp (length-append, length-drop, t) (omega (arith, h.whole)); below = wrap-below (r.start + n) r.capacity (omega (arith, h.whole, h.below)) }, refl)
acts_fit (stays w e g) h = (h, refl)
acts_fit {r} (clears w g) h =
    let l = length-append r.held r.spare in
    let n = length-turn (r.capacity - r.start) (r.held ++ r.spare) (omega (arith, h.whole)) in
    (record { whole = omega (arith, h.whole); below = omega (arith, h.below) }, refl)

pub new-fits : (c : ℕ) (b : List ℕ) → may c b ≡ true → Fits (new c b)
new-fits c b m =
    let f = both_true (ltb 0 c) (leb c (length b)) m in
    record { whole = omega (arith, length-turn 0 (take c b) (omega arith), length-take-le c b (leb-true c (length b) f.1)); below = ltb-true 0 c f.0 }

module _ (c t : ℕ) where
  put_acts : (l p : List ℕ) (x : ℕ) (o : List ℕ) → Acts (mk c t l p) (putting x) (answer (put x (mk c t l p))) o (left (put x (mk c t l p)) (mk c t l p))
  put_acts l [] x o = stays refl refl refl
  put_acts l (y ∷ p) x o = adds (x ∷ []) (omega arith) refl refl refl

  get_acts : (l p o o' : List ℕ) → Filled (out (get (mk c t l p))) o o'
      → Acts (mk c t l p) getting (answer (get (mk c t l p))) o' (left (get (mk c t l p)) (mk c t l p))
  get_acts [] p o o' f = stays refl refl refl
  get_acts (y ∷ l) p o o' f = takes 1 (omega arith) refl refl (ap (take 1) f)

  get_n_acts : (n : ℕ) (l p o o' : List ℕ) → Filled (take n l) o o'
      → Acts (mk c t l p) (getting_many n) (answer (get_many n (mk c t l p))) o' (leave (min n (length l)) (mk c t l p))
  get_n_acts n l p o o' f =
      let m = min n (length l) in
      takes m (omega arith) refl refl (ap (take m) f ∙ take_at (take n l) (drop (length (take n l)) o) m (length-take n l) ∙ take-least n l)

  peek_acts : (i : ℕ) (l p o : List ℕ) → Acts (mk c t l p) (peeking i) (answer (peek i (mk c t l p))) o (left (peek i (mk c t l p)) (mk c t l p))
  peek_acts i l p o = go (ltb i (length l)) refl
    where
      go : (b : Bool) → ltb i (length l) ≡ b → Acts (mk c t l p) (peeking i) (answer (peek i (mk c t l p))) o (left (peek i (mk c t l p)) (mk c t l p))
      go true e = rw e (stays refl refl refl)
      go false e = rw e (stays refl refl refl)

  pub which : (l p : List ℕ) (k : Call) (o o' : List ℕ) → Filled (out (does k (mk c t l p))) o o'
      → Acts (mk c t l p) k (answer (does k (mk c t l p))) o' (left (does k (mk c t l p)) (mk c t l p))
  which l p (putting x) o o' f = put_acts l p x o'
  which l p getting o o' f = get_acts l p o o' f
  which l p (putting_many q) o o' f = adds (take (min (length q) (length p)) q) (omega (arith, length-take (min (length q) (length p)) q)) refl refl refl
  which l p (getting_many n) o o' f = get_n_acts n l p o o' f
  which l p (peeking i) o o' f = peek_acts i l p o'
  which l p resetting o o' f = clears refl refl

  peeks : (i : ℕ) (l p : List ℕ) → left (peek i (mk c t l p)) (mk c t l p) ≡ mk c t l p
  peeks i l p = go (ltb i (length l)) refl
    where
      go : (b : Bool) → ltb i (length l) ≡ b → left (peek i (mk c t l p)) (mk c t l p) ≡ mk c t l p
      go true f = rw f
      go false f = rw f

  -- a code below 0
  pub refused : (l p : List ℕ) (k : Call) (n : ℕ) → answer (does k (mk c t l p)) ≡ negsuc n → left (does k (mk c t l p)) (mk c t l p) ≡ mk c t l p
  refused l [] (putting x) n e = refl
  refused l (y ∷ p) (putting x) n e = absurd (let z : ◌≡◌ {A = ℕ} 0 1 = cc in omega arith)
  refused [] p getting n e = refl
  refused (y ∷ l) p getting n e = absurd (let z : ◌≡◌ {A = ℕ} 0 1 = cc in omega arith)
  refused l p (putting_many q) n e = absurd (let z : ◌≡◌ {A = ℕ} 0 1 = cc in omega arith)
  refused l p (getting_many m) n e = absurd (let z : ◌≡◌ {A = ℕ} 0 1 = cc in omega arith)
  refused l p (peeking i) n e = peeks i l p
  refused l p resetting n e = absurd (let z : ◌≡◌ {A = ℕ} 0 1 = cc in omega arith)
