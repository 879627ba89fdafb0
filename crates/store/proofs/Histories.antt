-- Steps that are made in memory are steps of the object that it holds. Assumes nothing.
use mathlib.Core.Path.{◌≡◌, refl, sym, ap, subst}
use mathlib.Core.Bool.{Bool, true, false, cond}
use mathlib.Core.List.{List, [], ◌∷◌, ◌++◌}
use Prim.Native.Nat.{ℕ, ◌≤◌}
use native.Mathlib.Omega.{arith}
use lib.Dec.{leb}
use lib.IntN.{ℤ}
use lib.ListN.{length}
use Rattle.thread.specs.Code.{ok, einval}
use Rattle.store.specs.Store.{Reply, refuse, accept, answer, left, out, Place, reply, After, Did, Filled, first, Hands, Started}
use Rattle.store.specs.History.{Step, after, Ran, fresh, ran, Made, begun, made}
use Rattle.store.proofs.Laws.{replies, answers, handed-is}

module _ {S : Type 0} (P : Place S) where
  leaves : (y : Reply S) (h b h' b' : List ℕ) → P.formed h b ≡ true → After P y h b h' b'
      → (P.formed h' b' ≡ true) × (P.object h' b' ≡ left y (P.object h b))
  leaves (refuse r) h b h' b' e a = rw (a.0, a.1) (e, refl)
  leaves (accept s r o) h b h' b' e a = (a.formed, a.object)

  -- one call
  pub done : (f : S → Reply S) (h b : List ℕ) {r : ℤ} {h' b' : List ℕ} → P.formed h b ≡ true → Did P f h b r h' b'
      → (P.formed h' b' ≡ true) × (P.object h' b' ≡ left (f (P.object h b)) (P.object h b))
  done f h b {h' = h'} {b' = b'} e d = leaves (f (P.object h b)) h b h' b' e (subst (λ (y : Reply S). After P y h b h' b') (replies P f h b e) d.after)

  -- what holds of the call holds of the memory
  pub holds_after : (f : S → Reply S) (h b : List ℕ) (R : ℤ → S → Type 0) {r : ℤ} {h' b' : List ℕ} → P.formed h b ≡ true → Did P f h b r h' b'
      → R (answer (f (P.object h b))) (left (f (P.object h b)) (P.object h b)) → R r (P.object h' b')
  holds_after f h b R {r} e d a =
      subst (λ (s : S). R r s) (sym (done f h b e d).1) (subst (λ (z : ℤ). R z (left (f (P.object h b)) (P.object h b))) (sym (answers P f h b d e)) a)

-- a history of a history
pub after-append : {S K : Type 0} (next : S → K → S) (s : S) (ks js : List K) → after next s (ks ++ js) ≡ after next (after next s js) ks
after-append next s [] js = refl
after-append {S} next s (k ∷ ks) js = ap (λ (t : S). next t k) (after-append next s ks js)

-- a place for one
pub first-filled : (l : List ℕ) (x y : ℕ) → length l ≤ 1 → y ≡ first x l → Filled l (x ∷ []) (y ∷ [])
first-filled [] x y f e = ap (λ (z : ℕ). z ∷ []) e
first-filled (z ∷ []) x y f e = ap (λ (z : ℕ). z ∷ []) e
first-filled (z ∷ w ∷ l) x y f e = absurd (omega arith)

module _ {S K : Type 0} (P : Place S) (does : K → S → Reply S) where
  pub runs : {h₀ b₀ : List ℕ} → P.formed h₀ b₀ ≡ true → {ss : List (Step K)} {h b : List ℕ} → Made P does h₀ b₀ ss h b
      → (P.formed h b ≡ true) × Ran does (P.object h₀ b₀) ss (P.object h b)
  runs e begun = (e, fresh)
  runs {h₀} {b₀} e (made {ss} {k} {r} {h} {b} {h'} {b'} o o' m d f) =
      let a = runs e m in
      let g : Filled (out (does k (P.object h b))) o o' = rw (handed-is P (does k) h b a.0) at f in (
        (done P (does k) h b a.0 d).0,
        holds_after P (does k) h b (λ z s. Ran does (P.object h₀ b₀) (record { call = k; answer = z; out = o' } ∷ ss) s) a.0 d (ran o o' a.1 g),
      )

  -- a function that hands nothing out, or one word at most, makes a step: what it ensures is what a step needs
  module _ {h₀ b₀ : List ℕ} {ss : List (Step K)} {k : K} {h b : List ℕ} {r : ℤ} {h' : List ℕ} (m : Made P does h₀ b₀ ss h b) where
    pub plain-made : ((s : S) → out (does k s) ≡ []) → {b' : List ℕ} → Did P (does k) h b r h' b'
        → Made P does h₀ b₀ (record { call = k; answer = r; out = [] } ∷ ss) h' b'
    plain-made n d = made [] [] m d (go (P.formed h b))
      where
        go : (c : Bool) → Filled (out (cond c (does k (P.object h b)) (refuse einval))) [] []
        go true = rw (n (P.object h b)) refl
        go false = refl

    -- x was in the word that is lent, and now y is
    pub hands_made : ((s : S) → length (out (does k s)) ≤ 1) → (x y : ℕ) → Hands P (does k) h b x r h' y
        → Made P does h₀ b₀ (record { call = k; answer = r; out = y ∷ [] } ∷ ss) h' b
    hands_made n x y (d, e) = made (x ∷ []) (y ∷ []) m d (first-filled (out (reply P (does k) h b)) x y (go (P.formed h b)) e)
      where
        go : (c : Bool) → length (out (cond c (does k (P.object h b)) (refuse einval))) ≤ 1
        go true = n (P.object h b)
        go false = omega arith

  -- after a start that is answered 0
  pub from_start : {m : Bool} {s : S} {h b h₀ b₀ : List ℕ} → Started P m s h b ok h₀ b₀ → {ss : List (Step K)} {h' b' : List ℕ} → Made P does h₀ b₀ ss h' b'
      → (P.formed h' b' ≡ true) × Ran does s ss (P.object h' b')
  from_start x {ss} {h'} {b'} m =
      let a = runs (x.made refl).formed m in
      (a.0, subst (λ (t : S). Ran does t ss (P.object h' b')) (x.made refl).object a.1)

-- what was started may be
pub allowed : {S : Type 0} {P : Place S} {m : Bool} {s : S} {h b h' b' : List ℕ} → Started P m s h b ok h' b' → m ≡ true
allowed {P = P} {m} {h = h} x = go (leb P.words (length h)) m x.code
  where
    go : (a m : Bool) → ok ≡ cond a (cond m ok einval) einval → m ≡ true
    go true true e = refl
    go true false e = absurd (let y : ◌≡◌ {A = ℕ} 0 1 = cc in omega arith)
    go false m e = absurd (let y : ◌≡◌ {A = ℕ} 0 1 = cc in omega arith)

-- what each step keeps holds after any of them
module _ {S K : Type 0} (does : K → S → Reply S) (I : List (Step K) → S → Type 0) where
  abbrev pub Keeps : K → Type 0
  Keeps k = (ss : List (Step K)) (s : S) (o : List ℕ) → I ss s → I (record { call = k; answer = answer (does k s); out = o } ∷ ss) (left (does k s) s)

module _ {S K : Type 0} (does : K → S → Reply S) (I : List (Step K) → S → Type 0) (keeps : (k : K) → Keeps does I k) where
  pub throughout : {s₀ : S} → I [] s₀ → {ss : List (Step K)} {s : S} → Ran does s₀ ss s → I ss s
  throughout i fresh = i
  throughout i (ran {ss} {s} {k} o o' m f) = keeps k ss s o' (throughout i m)

  -- in memory
  pub throughout_made : (P : Place S) {h₀ b₀ : List ℕ} → P.formed h₀ b₀ ≡ true → I [] (P.object h₀ b₀) → {ss : List (Step K)} {h b : List ℕ}
      → Made P does h₀ b₀ ss h b → (P.formed h b ≡ true) × I ss (P.object h b)
  throughout_made P e i m = let a = runs P does e m in (a.0, throughout i a.1)
