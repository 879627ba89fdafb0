-- How a function shows what it did, and how its callers use it.
use mathlib.Core.Path.{◌≡◌, refl, sym, ap, subst, ◌∙◌}
use mathlib.Core.Bool.{Bool, true, false, cond, not-eq-not}
use mathlib.Core.List.{List, [], ◌∷◌}
use Prim.Native.Nat.{ℕ, ◌<◌, ◌≤◌}
use native.Mathlib.Omega.{arith}
use lib.Dec.{ltb}
use borrow.Author.Tests.{ltb-true, ltb-false, lt-leb, le-leb}
use lib.IntN.{ℤ, pos, negsuc}
use lib.ListN.{length, drop}
use Rattle.seq.specs.List.{any}
use Rattle.seq.proofs.Words.{Each, by-words}
pub use Rattle.seq.proofs.Order.{both_true}
use Rattle.thread.specs.Code.{ok, einval}
use Rattle.store.specs.Store.{Reply, refuse, accept, answer, out, carry, Decided, Place, reply, Becomes, After, Did, looks, Filled, first, Fills, Hands, Started, Refused, Signed}

pub any_some : {A : Type 0} (l : List A) → 0 < length l → any l ≡ true
any_some [] f = absurd (omega arith)
any_some (x ∷ l) f = refl

pub any_none : {A : Type 0} (l : List A) → length l ≡ 0 → any l ≡ false
any_none [] f = refl
any_none (x ∷ l) f = absurd (omega arith)

-- a test that does not say yes
pub refuted : {b : Bool} → (b ≡ true → ⊥) → b ≡ false
refuted n = not-eq-not.0 n

-- a test, and of two numbers which is less
pub either : {P : Type 0} (b : Bool) → (b ≡ true → P) → (b ≡ false → P) → P
either true f g = f refl
either false f g = g refl

pub less : {P : Type 0} (m n : ℕ) → (m < n → P) → (n ≤ m → P) → P
less m n f g = either (ltb m n) (λ e. f (ltb-true m n e)) (λ e. g (ltb-false m n e))

-- no answer is two
pub no_code : {P : Type 0} {m n : ℕ} → pos m ≡ negsuc n → P
no_code z = absurd (let y : ◌≡◌ {A = ℕ} 0 1 = cc in omega arith)

pub not-one : {P : Type 0} → pos 0 ≡ pos 1 → P
not-one z = absurd (let y : ◌≡◌ {A = ℕ} 0 1 = cc in omega arith)

module _ {S : Type 0} (P : Place S) (f : S → Reply S) (h b : List ℕ) where
  -- by the reply
  pub did : (y : Reply S) (h' b' : List ℕ) → reply P f h b ≡ y → After P y h b h' b' → Did P f h b (answer y) h' b'
  did y h' b' e a = record { code = ap answer (sym e); after = subst (λ (x : Reply S). After P x h b h' b') (sym e) a }

  pub replies : P.formed h b ≡ true → reply P f h b ≡ f (P.object h b)
  replies e = rw e

  pub replies_bad : P.formed h b ≡ false → reply P f h b ≡ refuse einval
  replies_bad e = rw e

  -- a refusal
  module _ {c : ℤ} (y : reply P f h b ≡ refuse c) where
    pub refuses : Did P f h b c h b
    refuses = did (refuse c) h b y (refl, refl)

    pub refuses-place : (o : List ℕ) → Fills P f h b o c h o
    refuses-place o = (refuses, rw y refl)

    pub refuses-word : (x : ℕ) → Hands P f h b x c h x
    refuses-word x = (refuses, rw y refl)

  -- a malformed object
  pub did_bad : P.formed h b ≡ false → Did P f h b einval h b
  did_bad e = refuses (replies_bad e)

  -- a refusal of the operation
  pub did_no : {c : ℤ} → P.formed h b ≡ true → f (P.object h b) ≡ refuse c → Did P f h b c h b
  did_no e o = refuses (replies e ∙ o)

  -- it was done
  pub did_yes : {s : S} {r : ℤ} {l : List ℕ} {h' b' : List ℕ} → P.formed h b ≡ true → f (P.object h b) ≡ accept s r l → Becomes P s h b h' b'
      → Did P f h b r h' b'
  did_yes {s} {r} {l} {h'} {b'} e o m = did (accept s r l) h' b' (replies e ∙ o) m

  -- what is handed out: nothing, or what the operation says
  pub handed_bad : P.formed h b ≡ false → out (reply P f h b) ≡ []
  handed_bad e = ap out (replies_bad e)

  pub handed-is : P.formed h b ≡ true → out (reply P f h b) ≡ out (f (P.object h b))
  handed-is e = ap out (replies e)

  module _ (o : List ℕ) where
    pub fills_bad : P.formed h b ≡ false → Fills P f h b o einval h o
    fills_bad e = refuses-place (replies_bad e) o

    pub fills_no : {c : ℤ} → P.formed h b ≡ true → f (P.object h b) ≡ refuse c → Fills P f h b o c h o
    fills_no e y = refuses-place (replies e ∙ y) o

    pub fills_yes : {s : S} {r : ℤ} {l : List ℕ} {h' o' : List ℕ} → P.formed h b ≡ true → f (P.object h b) ≡ accept s r l → Becomes P s h b h' b
        → Filled l o o' → Fills P f h b o r h' o'
    fills_yes e y m g = (did_yes e y m, rw (replies e, y) g)

  module _ (x : ℕ) where
    pub hands_bad : P.formed h b ≡ false → Hands P f h b x einval h x
    hands_bad e = refuses-word (replies_bad e) x

    pub hands_no : {c : ℤ} → P.formed h b ≡ true → f (P.object h b) ≡ refuse c → Hands P f h b x c h x
    hands_no e y = refuses-word (replies e ∙ y) x

    pub hands_yes : {s : S} {r : ℤ} {l : List ℕ} {h' : List ℕ} → P.formed h b ≡ true → f (P.object h b) ≡ accept s r l → Becomes P s h b h' b
        → Hands P f h b x r h' (first x l)
    hands_yes e y m = (did_yes e y m, rw (replies e, y) refl)

    -- what a caller was told
    pub handed : {y : Reply S} {r : ℤ} {h' : List ℕ} {x' : ℕ} → reply P f h b ≡ y → Hands P f h b x r h' x' → (r ≡ answer y) × (x' ≡ first x (out y))
    handed e d = (d.0.code ∙ ap answer e, d.1 ∙ ap (λ (z : Reply S). first x (out z)) e)

  module _ {r : ℤ} {h' b' : List ℕ} (d : Did P f h b r h' b') where
    -- what a caller knows of an operation that was done
    pub became_so : {s : S} {a : ℤ} {l : List ℕ} → reply P f h b ≡ accept s a l → (r ≡ a) × Becomes P s h b h' b'
    became_so y = (d.code ∙ ap answer y, subst (λ (x : Reply S). After P x h b h' b') y d.after)

    pub became : {s : S} {a : ℤ} {l : List ℕ} → P.formed h b ≡ true → f (P.object h b) ≡ accept s a l → Becomes P s h b h' b'
    became e o = (became_so (replies e ∙ o)).1

    pub answers : P.formed h b ≡ true → r ≡ answer (f (P.object h b))
    answers e = d.code ∙ ap answer (replies e)

    -- what it knows of one that was refused
    pub kept : {c : ℤ} → reply P f h b ≡ refuse c → (r ≡ c) × (h' ≡ h) × (b' ≡ b)
    kept e = let a = subst (λ (x : Reply S). After P x h b h' b') e d.after in (d.code ∙ ap answer e, a.0, a.1)

    pub kept_bad : P.formed h b ≡ false → (r ≡ einval) × (h' ≡ h) × (b' ≡ b)
    kept_bad e = kept (replies_bad e)

    pub kept_no : {c : ℤ} → P.formed h b ≡ true → f (P.object h b) ≡ refuse c → (r ≡ c) × (h' ≡ h) × (b' ≡ b)
    kept_no e o = kept (replies e ∙ o)

  -- what was not refused was not malformed
  pub found : {n : ℕ} {h' b' : List ℕ} → Did P f h b (pos n) h' b' → P.formed h b ≡ true
  found d = either (P.formed h b) (λ e. e) (λ e. no_code (kept_bad d e).0)

-- an operation that is answered below 0 exactly if it refuses changes nothing then
pub below_zero : {S : Type 0} (P : Place S) (f : S → Reply S) → ((s : S) → Signed (f s)) → (h b : List ℕ) (r : ℤ) (h' b' : List ℕ) → Did P f h b r h' b'
    → Refused r ((h' ≡ h) × (b' ≡ b))
below_zero {S} P f g h b r h' b' d = go (reply P f h b) refl (all (P.formed h b)) r d.code
  where
    all : (c : Bool) → Signed (cond c (f (P.object h b)) (refuse einval))
    all true = g (P.object h b)
    all false = tt

    go : (y : Reply S) → reply P f h b ≡ y → Signed y → (r : ℤ) → r ≡ answer (reply P f h b) → Refused r ((h' ≡ h) × (b' ≡ b))
    go y e n (pos c) z = tt
    go (refuse x) e n (negsuc c) z = ((kept P f h b d e).1, (kept P f h b d e).2)
    go (accept s (pos x) o) e n (negsuc c) z = no_code (sym (z ∙ ap answer e))
    go (accept s (negsuc x) o) e n (negsuc c) z = absurd n

-- what is carried over hands out the same
pub carry-out : {N S : Type 0} (f : N → S) (y : Reply N) → out (carry f y) ≡ out y
carry-out f (refuse r) = refl
carry-out f (accept n r o) = refl

pub carry-answer : {N S : Type 0} (f : N → S) (y : Reply N) → answer (carry f y) ≡ answer y
carry-answer f (refuse r) = refl
carry-answer f (accept n r o) = refl

-- operations with the same reply do the same
pub did_alike : {S : Type 0} (P : Place S) (f g : S → Reply S) (h b : List ℕ) {r : ℤ} {h' b' : List ℕ} → reply P f h b ≡ reply P g h b → Did P f h b r h' b'
    → Did P g h b r h' b'
did_alike {S} P f g h b {h' = h'} {b' = b'} o d = record { code = d.code ∙ ap answer o; after = subst (λ (y : Reply S). After P y h b h' b') o d.after }

-- the way back
pub becomes-back : {S : Type 0} (P : Place S) {s : S} {h b h' b' : List ℕ} → P.formed h b ≡ true → P.size h' ≡ P.size h → Becomes P s h b h' b'
    → Becomes P (P.object h b) h' b' h b
becomes-back P e z m =
    record { formed = e; object = refl; beside = sym m.beside; rest = sym (rw z at m.rest); long = (sym m.long.0, sym m.long.1) }

-- w h is what stores to the object's own words make of the header h, where there is no buffer: the object is s h then
module _ {S : Type 0} (P : Place S) (s : List ℕ → S) (w : List ℕ → List ℕ) where
  abbrev pub Written : Type 0
  Written = Each P.words (λ h. (P.object (w h) [] ≡ s h) × (drop P.words (w h) ≡ drop P.words h) × (length (w h) ≡ length h))

  pub wrote : Written → (h : List ℕ) → P.words ≤ length h → (P.object (w h) [] ≡ s h → length (w h) ≡ length h → P.formed (w h) [] ≡ true)
      → Becomes P (s h) h [] (w h) []
  wrote e h k f =
      let a = by-words P.words _ e h k in
      record { formed = f a.0 a.2; object = a.0; beside = a.1; rest = refl; long = (a.2, refl) }

-- what is decided on plain numbers, or declined
module _ {d : Reply ℕ} {a : ℤ} where
  pub decides : {n : ℕ} {l : List ℕ} (m : ℕ) → d ≡ accept n a l → Decided d m a n
  decides m e = rw e (record { code = refl; number = refl })

  pub decided : {n m m' : ℕ} {l : List ℕ} {r : ℤ} → d ≡ accept n a l → Decided d m r m' → (r ≡ a) × (m' ≡ n)
  decided {n} {m} {m'} {l} {r} e x = let y = subst (λ (z : Reply ℕ). Decided z m r m') e x in (y.code, y.number)

  pub declined : {m m' : ℕ} {r : ℤ} → d ≡ refuse a → Decided d m r m' → (r ≡ a) × (m' ≡ m)
  declined {m} {m'} {r} e x = let y = subst (λ (z : Reply ℕ). Decided z m r m') e x in (y.code, y.number)

module _ {S : Type 0} (P : Place S) (h b : List ℕ) where
  -- what is told of a malformed object, and of any other
  pub looks_bad : (f : S → ℤ) → P.formed h b ≡ false → looks P f h b ≡ einval
  looks_bad f e = rw e

  pub looks-is : (f : S → ℤ) → P.formed h b ≡ true → looks P f h b ≡ f (P.object h b)
  looks-is f e = rw e

  -- nothing was written
  pub as_was : P.formed h b ≡ true → Becomes P (P.object h b) h b h b
  as_was e = record { formed = e; object = refl; beside = refl; rest = refl; long = (refl, refl) }

module _ {S : Type 0} {P : Place S} {may : Bool} {s : S} {h b : List ℕ} where
  -- a header that is too short
  pub start-short : length h < P.words → Started P may s h b einval h b
  start-short e = record { code = rw (lt-leb P.words (length h) e); made = λ p. no_code (sym p); kept = λ n p. (refl, refl) }

  -- numbers that may not be
  pub start_bad : P.words ≤ length h → may ≡ false → Started P may s h b einval h b
  start_bad e m = record { code = rw (le-leb P.words (length h) e, m); made = λ p. no_code (sym p); kept = λ n p. (refl, refl) }

  pub start-made : {h' b' : List ℕ} → P.words ≤ length h → may ≡ true → Becomes P s h b h' b' → Started P may s h b ok h' b'
  start-made e m x = record { code = rw (le-leb P.words (length h) e, m); made = λ p. x; kept = λ n p. no_code p }
