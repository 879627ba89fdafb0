-- What an object becomes tells each word of its header and each element of its buffer. So a contract leaves nothing open. Assumes nothing.
use mathlib.Core.Path.{◌≡◌, sym, subst, ◌∙◌}
use mathlib.Core.Bool.{Bool, true, false, cond}
use mathlib.Core.List.{List, ◌++◌}
use Prim.Native.Nat.{ℕ}
use lib.Dec.{leb}
use lib.IntN.{ℤ}
use lib.ListN.{length, take-append-drop}
use Rattle.seq.specs.Only.{Only}
use Rattle.seq.proofs.Only.{said, and, alike_only}
use Rattle.thread.specs.Code.{ok, einval}
use Rattle.store.specs.Store.{Reply, refuse, accept, Decided, Place, reply, Becomes, After, Did, Fills, Hands, Started}
use Rattle.store.specs.Determined.{Faithful}

-- the answer, the header and the buffer
abbrev pub Outcome : Type 0
Outcome = ℤ × List ℕ × List ℕ

module _ {S : Type 0} {P : Place S} (t : Faithful P) (h b : List ℕ) where
  header-only : (s : S) (h₁ b₁ h₂ b₂ : List ℕ) → Becomes P s h b h₁ b₁ → Becomes P s h b h₂ b₂ → h₁ ≡ h₂
  header-only s h₁ b₁ h₂ b₂ m n =
      let a = t.header h₁ b₁ h₂ b₂ m.formed n.formed (m.object ∙ sym n.object) in
      alike_only P.words h₁ h₂ (m.long.0 ∙ sym n.long.0) a (m.beside ∙ sym n.beside)

  buffer-only : (s : S) (k b₁ b₂ : List ℕ) → Becomes P s h b k b₁ → Becomes P s h b k b₂ → b₁ ≡ b₂
  buffer-only s k b₁ b₂ m n =
      let x = t.buffer k b₁ b₂ m.formed n.formed (m.object ∙ sym n.object) in
      let y = m.rest ∙ sym n.rest in
      sym (take-append-drop (P.size k) b₁) ∙ (λ i. x i ++ y i) ∙ take-append-drop (P.size k) b₂

  becomes-only : (s : S) (h₁ b₁ h₂ b₂ : List ℕ) → Becomes P s h b h₁ b₁ → Becomes P s h b h₂ b₂ → (h₁ ≡ h₂) × (b₁ ≡ b₂)
  becomes-only s h₁ b₁ h₂ b₂ m n =
      let w = header-only s h₁ b₁ h₂ b₂ m n in (w, buffer-only s h₁ b₁ b₂ m (subst (λ (k : List ℕ). Becomes P s h b k b₂) (sym w) n))

  module _ (f : S → Reply S) where
    pub did_same : {r₁ r₂ : ℤ} {h₁ b₁ h₂ b₂ : List ℕ} → Did P f h b r₁ h₁ b₁ → Did P f h b r₂ h₂ b₂ → (r₁ ≡ r₂) × (h₁ ≡ h₂) × (b₁ ≡ b₂)
    did_same {h₁ = h₁} {b₁} {h₂} {b₂} m n = let k = go (reply P f h b) m.after n.after in (m.code ∙ sym n.code, k.0, k.1)
      where
        go : (z : Reply S) → After P z h b h₁ b₁ → After P z h b h₂ b₂ → (h₁ ≡ h₂) × (b₁ ≡ b₂)
        go (refuse c) u v = (u.0 ∙ sym v.0, u.1 ∙ sym v.1)
        go (accept s c o) u v = becomes-only s h₁ b₁ h₂ b₂ u v

    pub did_only : Only (λ ((r, h', b') : Outcome). Did P f h b r h' b')
    did_only x y m n = let k = did_same m n in λ i. (k.0 i, k.1 i, k.2 i)

    -- the buffer is not written
    pub reads_only : Only (λ ((r, h') : ℤ × List ℕ). Did P f h b r h' b)
    reads_only x y m n = let q = did_only (x.0, x.1, b) (y.0, y.1, b) m n in λ i. ((q i).0, (q i).1)

    -- and a place is filled, or a word
    pub fills_only : (o : List ℕ) → Only (λ ((r, h', o') : Outcome). Fills P f h b o r h' o')
    fills_only o = and _ _ reads_only (said _)

    pub hands_only : (x : ℕ) → Only (λ ((r, h', x') : ℤ × List ℕ × ℕ). Hands P f h b x r h' x')
    hands_only x = and _ _ reads_only (said _)

    -- and the header is not written
    pub tells_only : (x : ℕ) → Only (λ ((r, x') : ℤ × ℕ). Hands P f h b x r h x')
    tells_only x y z m n = let q = hands_only x (y.0, h, y.1) (z.0, h, z.1) m n in λ i. ((q i).0, (q i).2)

  module _ (may : Bool) (s : S) where
    pub started_only : Only (λ ((r, h', b') : Outcome). Started P may s h b r h' b')
    started_only x y m n =
        let r : x.0 ≡ y.0 = m.code ∙ sym n.code in let k = go (leb P.words (length h)) may m.code n.code in λ i. (r i, k.0 i, k.1 i)
      where
        made : x.0 ≡ ok → y.0 ≡ ok → (x.1 ≡ y.1) × (x.2 ≡ y.2)
        made p q = becomes-only s x.1 x.2 y.1 y.2 (m.made p) (n.made q)

        kept : x.0 ≡ einval → y.0 ≡ einval → (x.1 ≡ y.1) × (x.2 ≡ y.2)
        kept p q = let u = m.kept 21 p in let v = n.kept 21 q in (u.0 ∙ sym v.0, u.1 ∙ sym v.1)

        go : (c d : Bool) → x.0 ≡ cond c (cond d ok einval) einval → y.0 ≡ cond c (cond d ok einval) einval → (x.1 ≡ y.1) × (x.2 ≡ y.2)
        go true true = made
        go true false = kept
        go false d = kept

    pub starts_only : Only (λ ((r, h') : ℤ × List ℕ). Started P may s h b r h' b)
    starts_only x y m n = let q = started_only (x.0, x.1, b) (y.0, y.1, b) m n in λ i. ((q i).0, (q i).1)

pub decided-only : (d : Reply ℕ) (n : ℕ) → Only (λ ((r, n') : ℤ × ℕ). Decided d n r n')
decided-only d n x y m k = let r : x.0 ≡ y.0 = m.code ∙ sym k.code in let c : x.1 ≡ y.1 = m.number ∙ sym k.number in λ i. (r i, c i)
