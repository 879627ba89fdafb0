-- What a function does to the part that it is lent, it does to the product. Assumes nothing.
use mathlib.Core.Path.{◌≡◌, refl, sym, ap, subst, ◌∙◌}
use mathlib.Core.Bool.{Bool, true, false, cond}
use mathlib.Core.List.{List, [], ◌∷◌}
use Prim.Native.Nat.{ℕ, zero, suc, ◌+◌, ◌≤◌, ◌<◌}
use native.Mathlib.Omega.{arith}
use lib.Dec.{leb}
use lib.IntN.{ℤ}
use lib.ListN.{length, get_or, set, drop, length-set}
use lib.Seq.{get_or-set_same, set-get_or, drop-set-lt, get_or-drop, drop-drop}
use borrow.Author.Tests.{lt-leb, le-leb}
use Rattle.thread.specs.Code.{einval}
use Rattle.store.specs.Store.{Reply, refuse, accept, answer, out, carry, Place, reply, Becomes, After, Did, Filled, Fills}
use Rattle.store.specs.Product.{past, ◌⊗◌, behind, word, shaped}
use Rattle.store.proofs.Laws.{carry-out, carry-answer}

-- Q was lent the word k of the header h
module _ {T : Type 0} (Q : Place T) (k : ℕ) (g : T → Reply T) (h b : List ℕ) (l : k < length h) where
  pub behind-formed : (b : List ℕ) → (behind k Q).formed h b ≡ Q.formed (get_or h k 0 ∷ []) b
  behind-formed b = rw (le-leb (suc k) (length h) (omega arith))

  behind-reply : reply (behind k Q) g h b ≡ reply Q g (get_or h k 0 ∷ []) b
  behind-reply = rw (behind-formed b)

  pub lent-word : {r : ℤ} {m : ℕ} {b' : List ℕ} → Did Q g (get_or h k 0 ∷ []) b r (m ∷ []) b' → Did (behind k Q) g h b r (set h k m) b'
  lent-word {r} {m} {b'} d =
      record {
        code = d.code ∙ ap answer (sym behind-reply);
        after = subst (λ (y : Reply T). After (behind k Q) y h b (set h k m) b') (sym behind-reply) (stays (reply Q g (get_or h k 0 ∷ []) b) d.after);
      }
    where
      it : get_or (set h k m) k 0 ≡ m
      it = get_or-set_same h k m 0 l

      stays : (y : Reply T) → After Q y (get_or h k 0 ∷ []) b (m ∷ []) b' → After (behind k Q) y h b (set h k m) b'
      stays (refuse c) a = let z : m ≡ get_or h k 0 = ap (λ (t : List ℕ). get_or t 0 0) a.0 in (rw z (set-get_or h k 0), a.1)
      stays (accept t c o) a =
          record {
            formed = rw (it, le-leb (suc k) (length (set h k m)) (omega (arith, length-set h k m))) a.formed;
            object = subst (λ (x : ℕ). Q.object (x ∷ []) b' ≡ t) (sym it) a.object;
            beside = drop-set-lt (suc k) h k m (omega arith);
            rest = subst (λ (x : ℕ). drop (Q.size (x ∷ [])) b' ≡ drop (Q.size (x ∷ [])) b) (sym it) a.rest;
            long = (length-set h k m, a.long.1);
          }

-- what is done at the place P, and what it is at Q
module _ {S T : Type 0} (P : Place S) (Q : Place T) (F : S → T) (f : S → Reply S) (g : T → Reply T) (h b : List ℕ)
    (is : reply Q g h b ≡ carry F (reply P f h b)) where
  pub carried : {r : ℤ} {h' b' : List ℕ} → ((s : S) → Becomes P s h b h' b' → Becomes Q (F s) h b h' b') → Did P f h b r h' b' → Did Q g h b r h' b'
  carried {h' = h'} {b'} l d =
      record {
        code = d.code ∙ sym (carry-answer F (reply P f h b)) ∙ ap answer (sym is);
        after = subst (λ (u : Reply T). After Q u h b h' b') (sym is) (lifted (reply P f h b) d.after);
      }
    where
      lifted : (u : Reply S) → After P u h b h' b' → After Q (carry F u) h b h' b'
      lifted (refuse c) a = a
      lifted (accept s c o) a = l s a

  -- and hands out to a place
  pub carried-place : (o : List ℕ) {r : ℤ} {h' o' : List ℕ} → ((s : S) → Becomes P s h b h' b → Becomes Q (F s) h b h' b)
      → Fills P f h b o r h' o' → Fills Q g h b o r h' o'
  carried-place o {o' = o'} l (d, e) = (carried l d, subst (λ (l : List ℕ). Filled l o o') (sym (ap out is ∙ carry-out F (reply P f h b))) e)

-- tested alike
alike : {S T : Type 0} (F : S → T) (c : Bool) {u : Reply T} (v : Reply S) → (c ≡ true → u ≡ carry F v)
    → cond c u (refuse einval) ≡ carry F (cond c v (refuse einval))
alike F true v y = y refl
alike F false v y = refl

-- what is said of a place in other words
module _ {S T : Type 0} (F : S → T) (P : Place S) (f : S → Reply S) (g : T → Reply T) (h b : List ℕ) {r : ℤ} {h' b' : List ℕ} where
  pub reshaped : (P.formed h b ≡ true → g (F (P.object h b)) ≡ carry F (f (P.object h b))) → Did P f h b r h' b' → Did (shaped F P) g h b r h' b'
  reshaped y =
      carried P (shaped F P) F f g h b (alike F (P.formed h b) (f (P.object h b)) y)
      (λ s a. record { formed = a.formed; object = ap F a.object; beside = a.beside; rest = a.rest; long = a.long })

-- what the second does, done to both
abbrev pub with_first : {S T : Type 0} → S → Reply T → Reply (S × T)
with_first s u = carry (λ t. (s, t)) u

module _ {S T : Type 0} (P : Place S) (Q : Place T) (f : S × T → Reply (S × T)) (h b : List ℕ) (e : P.formed h b ≡ true) {r : ℤ} {h' b' : List ℕ} where
  -- the second acts, where the first has no elements and stays as it is
  pub second_acts : (g : T → Reply T) → P.size h ≡ 0 → P.size h' ≡ 0 → P.formed h' b' ≡ true → P.object h' b' ≡ P.object h b
      → (Q.formed h b ≡ true → f (P.object h b, Q.object h b) ≡ with_first (P.object h b) (g (Q.object h b)))
      → Did Q g h b r h' b' → Did (P ⊗ Q) f h b r h' b'
  second_acts g z z' e' p y =
      carried Q (P ⊗ Q) (λ t. (P.object h b, t)) g f h b (rw (e, z) (alike (λ t. (P.object h b, t)) (Q.formed h b) (g (Q.object h b)) y))
      (λ t a. record { formed = rw (e', z') a.formed; object = rw (z', p, a.object); beside = a.beside; rest = rw z' a.rest; long = a.long })

-- ---- a place and a word behind it

pub past-zero : (n : ℕ) → past n 0 ≡ n
past-zero zero = refl
past-zero (suc n) = ap suc (past-zero n)

neither : (c : Bool) → cond c false false ≡ false
neither true = refl
neither false = refl

-- all that P tells of a memory
abbrev pub sees : {S : Type 0} → Place S → List ℕ → List ℕ → ℕ × S × Bool
sees P h b = (P.size h, P.object h b, P.formed h b)

module _ {S T : Type 0} (P : Place S) (may : ℕ → Bool) (F : S × ℕ → T) (h b : List ℕ) where
  abbrev both : Place T
  both = shaped F (P ⊗ behind P.words (word may))

  abbrev it : ℕ
  it = get_or h P.words 0

  -- no word, or one that may not be
  pub no_word : length h ≤ P.words → both.formed h b ≡ false
  no_word l = rw (lt-leb (suc P.words) (length h) (omega arith)) (neither (P.formed h b))

  pub bad_word : may it ≡ false → both.formed h b ≡ false
  bad_word y = rw y (go (leb (suc P.words) (length h)))
    where
      go : (c : Bool) → cond (P.formed h b) (cond c false false) false ≡ false
      go c = rw (neither c) (neither (P.formed h b))

  pub good-word : P.words < length h → may it ≡ true → both.formed h b ≡ P.formed h b
  good-word l y = rw (le-leb (suc P.words) (length h) (omega arith), y) (go (P.formed h b))
    where
      go : (c : Bool) → cond c true false ≡ c
      go true = refl
      go false = refl

  module _ (l : P.words < length h) where
    -- the first is s now, and the word is x, at which P does not look
    pub new_word : {s : S} {h' b' : List ℕ} (x : ℕ) → may x ≡ true → sees P (set h' P.words x) b' ≡ sees P h' b'
        → Becomes P s h b h' b' → Becomes both (F (s, x)) h b (set h' P.words x) b'
    new_word {s} {h'} {b'} x y e m =
        let w : get_or (set h' P.words x) P.words 0 ≡ x = get_or-set_same h' P.words x 0 (omega (arith, m.long.0)) in
        let k = le-leb (suc P.words) (length (set h' P.words x)) (omega (arith, length-set h' P.words x, m.long.0)) in
        record {
          formed = rw (k, w, y, ap (λ (q : ℕ × S × Bool). q.2) e, m.formed);
          object = λ i. F ((ap (λ (q : ℕ × S × Bool). q.1) e ∙ m.object) i, w i);
          beside = drop-set-lt (suc P.words) h' P.words x (omega arith) ∙ sym (next h') ∙ ap (drop 1) m.beside ∙ next h;
          rest = rw (past-zero (P.size (set h' P.words x)), ap (λ (q : ℕ × S × Bool). q.0) e) m.rest;
          long = (length-set h' P.words x ∙ m.long.0, m.long.1);
        }
      where
        next : (t : List ℕ) → drop 1 (drop P.words t) ≡ drop (suc P.words) t
        next t = let e : P.words + 1 ≡ suc P.words = omega arith in drop-drop 1 P.words t ∙ ap (λ (n : ℕ). drop n t) e

    -- the word stays
    pub kept_word : {s : S} {h' b' : List ℕ} → may it ≡ true → Becomes P s h b h' b' → Becomes both (F (s, it)) h b h' b'
    kept_word {s} {h'} {b'} y m =
        let w : it ≡ get_or h' P.words 0 = sym (here h) ∙ ap (λ (t : List ℕ). get_or t 0 0) (sym m.beside) ∙ here h' in
        let e : set h' P.words it ≡ h' = ap (set h' P.words) w ∙ set-get_or h' P.words 0 in
        subst (λ (t : List ℕ). Becomes both (F (s, it)) h b t b') e (new_word it y (ap (λ (t : List ℕ). sees P t b') e) m)
      where
        here : (t : List ℕ) → get_or (drop P.words t) 0 0 ≡ get_or t P.words 0
        here t = let e : P.words + 0 ≡ P.words = omega arith in get_or-drop P.words t 0 0 ∙ ap (λ (n : ℕ). get_or t n 0) e

    -- what the first does to its part, it does to the whole
    module _ (f : S → Reply S) (g : T → Reply T) (y : may it ≡ true)
        (e : P.formed h b ≡ true → g (F (P.object h b, it)) ≡ carry (λ s. F (s, it)) (f (P.object h b))) where
      first-reply : reply both g h b ≡ carry (λ s. F (s, it)) (reply P f h b)
      first-reply = rw (good-word l y) (alike (λ s. F (s, it)) (P.formed h b) (f (P.object h b)) e)

      pub first_acts : {r : ℤ} {h' b' : List ℕ} → Did P f h b r h' b' → Did both g h b r h' b'
      first_acts = carried P both (λ s. F (s, it)) f g h b first-reply (λ s. kept_word y)

      pub first_fills : (o : List ℕ) {r : ℤ} {h' o' : List ℕ} → Fills P f h b o r h' o' → Fills both g h b o r h' o'
      first_fills o = carried-place P both (λ s. F (s, it)) f g h b first-reply o (λ s. kept_word y)
