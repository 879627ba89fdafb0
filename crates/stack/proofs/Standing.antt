-- Where a word stands, before a call and after it; what is held and spare. Assumes nothing.
use mathlib.Core.Path.{◌≡◌, refl, sym, ap, ◌∙◌}
use mathlib.Core.Logic.{◌⊎◌, inl, inr}
use mathlib.Core.List.{List, [], ◌∷◌, ◌++◌}
use Prim.Native.Nat.{ℕ, suc, ◌+◌, ◌<◌}
use native.Mathlib.Omega.{arith}
use lib.IntN.{negsuc}
use lib.ListN.{length, length-append, length-drop}
use Rattle.thread.specs.Code.{ok}
use Rattle.store.specs.Store.{Reply, answer, left}
use Rattle.stack.specs.Stack.{Stack}
use Rattle.stack.specs.History.{Call, pushing, depth, counted, Stands}
use Rattle.stack.proofs.Calls.{mk, Does, stores, no_room, takes, nothing}

-- what stands on d others still does after a call that leaves more than d
pub stands_deep : {x d : ℕ} {l : List ℕ} → Stands x d l → d < length l
stands_deep {x} {d} {l} s = omega (arith, simp length-append at (ap length s.is))

pub keeps : {c x d : ℕ} {l p : List ℕ} {k : Call} {y : Reply Stack} → Does c l p k y → Stands x d l
    → d < depth (left y (mk c l p)) → Stands x d (left y (mk c l p)).held
keeps (stores {x = y} b) s h = record { over = y ∷ s.over; below = s.below; is = ap (λ (l : List ℕ). y ∷ l) s.is; low = s.low }
keeps (no_room b) s h = s
keeps {x = x} {d = d} (takes {l = l} {y = y}) s h = go s.over s.below s.is s.low
  where
    go : (over below : List ℕ) → y ∷ l ≡ over ++ x ∷ below → length below ≡ d → Stands x d l
    go [] below e f = absurd (let z : l ≡ below = cc in omega (arith, ap length z))
    go (o ∷ over) below e f = record { over = over; below = below; is = cc; low = f }
keeps nothing s h = s

-- what is pushed stands on those that were held
pub enters : {c x d : ℕ} {l p : List ℕ} {k : Call} {y : Reply Stack} → Does c l p k y
    → k ≡ pushing x → answer y ≡ ok → length l ≡ d → Stands x d (left y (mk c l p)).held
enters (stores {l = l} b) e a f = record { over = []; below = l; is = cc; low = f }
enters (no_room b) e a f = absurd (let y : ◌≡◌ {A = ℕ} 0 1 = cc in omega arith)
enters takes e a f = absurd (let y : ◌≡◌ {A = ℕ} 0 1 = cc in omega arith)
enters nothing e a f = absurd (let y : ◌≡◌ {A = ℕ} 0 1 = cc in omega arith)

-- and if it stands there after a call, then it did before, or was pushed now
pub came : {c x d : ℕ} {l p : List ℕ} {k : Call} {y : Reply Stack} → Does c l p k y → Stands x d (left y (mk c l p)).held
    → Stands x d l ⊎ ((k ≡ pushing x) × (answer y ≡ ok) × (length l ≡ d))
came {c} {x} {d} (stores {l = l} {x = y} b) s = go s.over s.below s.is s.low
  where
    go : (over below : List ℕ) → y ∷ l ≡ over ++ x ∷ below → length below ≡ d → Stands x d l ⊎ ((pushing y ≡ pushing x) × (ok ≡ ok) × (length l ≡ d))
    go [] below e f = let u : l ≡ below = cc in inr (cc, refl, ap length u ∙ f)
    go (o ∷ over) below e f = inl (record { over = over; below = below; is = cc; low = f })
came (no_room b) s = inl s
came (takes {y = y}) s = inl (record { over = y ∷ s.over; below = s.below; is = ap (λ (l : List ℕ). y ∷ l) s.is; low = s.low })
came nothing s = inl s

-- two words on as many others are one
pub alone : {x y d : ℕ} {l : List ℕ} → Stands x d l → Stands y d l → x ≡ y
alone {x} {y} {d} {l} s t = go s.over t.over (sym s.is ∙ t.is)
  where
    go : (a b : List ℕ) → a ++ x ∷ s.below ≡ b ++ y ∷ t.below → x ≡ y
    go [] [] e = cc
    go [] (o ∷ b) e = absurd (let f : s.below ≡ b ++ y ∷ t.below = cc in omega (arith, s.low, t.low, simp length-append at (ap length f)))
    go (o ∷ a) [] e = absurd (let f : a ++ x ∷ s.below ≡ t.below = cc in omega (arith, s.low, t.low, simp length-append at (ap length f)))
    go (o ∷ a) (v ∷ b) e = go a b (cc)

-- the answers count what is held
pub counts-on : {c n : ℕ} {l p : List ℕ} {k : Call} {y : Reply Stack} → Does c l p k y → length l ≡ n → depth (left y (mk c l p)) ≡ counted k (answer y) n
counts-on (stores b) e = ap suc e
counts-on (no_room b) e = e
counts-on takes e = omega arith
counts-on nothing e = e

pub wholly : {c n : ℕ} {l p : List ℕ} {k : Call} {y : Reply Stack} → Does c l p k y → c ≡ n → length l + length p ≡ n
    → ((left y (mk c l p)).capacity ≡ n) × (depth (left y (mk c l p)) + length (left y (mk c l p)).spare ≡ n)
wholly (stores {p = p} b) f e = (f, omega (arith, length-drop 1 p))
wholly (no_room b) f e = (f, e)
wholly takes f e = (f, omega arith)
wholly nothing f e = (f, e)

-- a code below 0
pub refused : {c n : ℕ} {l p : List ℕ} {k : Call} {y : Reply Stack} → Does c l p k y → answer y ≡ negsuc n → left y (mk c l p) ≡ mk c l p
refused (stores b) e = absurd (let y : ◌≡◌ {A = ℕ} 0 1 = cc in omega arith)
refused (no_room b) e = refl
refused takes e = absurd (let y : ◌≡◌ {A = ℕ} 0 1 = cc in omega arith)
refused nothing e = refl
