-- Calls in memory are the calls of which the promises speak, and the words stand in the order of the memory. Assumes nothing.
use mathlib.Core.Path.{◌≡◌, refl, sym, ap, subst, ◌∙◌}
use mathlib.Core.List.{List, [], ◌∷◌, ◌++◌}
use Prim.Native.Nat.{ℕ, zero, suc, ◌≤◌}
use native.Mathlib.Omega.{arith}
use lib.IntN.{ℤ}
use lib.ListN.{length, get_or}
use Rattle.seq.specs.List.{back}
use Rattle.seq.proofs.Back.{back-length}
use Rattle.thread.specs.Code.{ok}
use Rattle.store.specs.Store.{Reply, out}
use Rattle.store.specs.History.{Step, Made}
use Rattle.store.proofs.Histories.{plain-made, hands_made, from_start, allowed}
use Rattle.stack.specs.Stack.{Stack}
use Rattle.stack.specs.Post.{Starts, Pushes, Pops, place}
use Rattle.stack.specs.History.{Call, pushing, popping, does, Stands, Kept}
use Rattle.stack.proofs.Calls.{Does, stores, no_room, takes, nothing, which}
use Rattle.stack.proofs.Histories.{promised}

-- of the first n words, the one that stands on d others is word d
word : (x d : ℕ) (w : List ℕ) (n : ℕ) → Stands x d (back w n) → get_or w d 0 ≡ x
word x d w n s = go n s.over s.below s.is s.low
  where
    go : (n : ℕ) (over below : List ℕ) → back w n ≡ over ++ x ∷ below → length below ≡ d → get_or w d 0 ≡ x
    go zero [] below e f = absurd (let y : ◌≡◌ {A = ℕ} 0 1 = cc in omega arith)
    go zero (o ∷ over) below e f = absurd (let y : ◌≡◌ {A = ℕ} 0 1 = cc in omega arith)
    go (suc n) [] below e f =
        let z : back w n ≡ below = cc in
        let i : n ≡ d = sym (back-length w n) ∙ ap length z ∙ f in
        let y : get_or w n 0 ≡ x = cc in
        subst (λ (m : ℕ). get_or w m 0 ≡ x) i y
    go (suc n) (o ∷ over) below e f = go n over below (cc) f

-- after an init that is answered 0, and any calls
pub from-init : (c : ℕ) {h w h₀ : List ℕ} → Starts c h w ok h₀ → {ts : List (Step Call)} {h' w' : List ℕ} → Made place does h₀ w ts h' w'
    → Kept c ts h' w'
from-init c {w = w} s {h' = h'} {w' = w'} m =
    let a = from_start place does s m in
    let p = promised c w (allowed s) a.1 in
    record { formed = a.0; promise = p; word = λ x d l. word x d w' (get_or h' 1 0) (p.stands x d l) }

none_out : {c : ℕ} {l p : List ℕ} {x : ℕ} {y : Reply Stack} → Does c l p (pushing x) y → out y ≡ []
none_out (stores b) = refl
none_out (no_room b) = refl

one_out : {c : ℕ} {l p : List ℕ} {y : Reply Stack} → Does c l p popping y → length (out y) ≤ 1
one_out takes = omega arith
one_out nothing = omega arith

-- each function makes a step: what it ensures is what a step needs
module _ {h₀ w₀ : List ℕ} {ts : List (Step Call)} {h w h' : List ℕ} {r : ℤ} (m : Made place does h₀ w₀ ts h w) where
  pub push-made : (x : ℕ) {w' : List ℕ} → Pushes x h w r h' w' → Made place does h₀ w₀ (record { call = pushing x; answer = r; out = [] } ∷ ts) h' w'
  push-made x d = plain-made place does m (λ s. none_out (which s.capacity s.held s.spare (pushing x))) d

  -- x was in the word that is lent, and now y is
  pub pop-made : (x y : ℕ) → Pops h w x r h' y → Made place does h₀ w₀ (record { call = popping; answer = r; out = y ∷ [] } ∷ ts) h' w
  pop-made x y d = hands_made place does m (λ s. one_out (which s.capacity s.held s.spare popping)) x y d
