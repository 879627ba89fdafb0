-- A line of messages, by its parts: what came out, what is held, what the writers offer. Assumes nothing.
use mathlib.Core.Path.{◌≡◌, sym, ap, ◌∙◌}
use mathlib.Core.List.{List, [], ◌∷◌, ◌++◌, append_assoc, append-nil}
use Prim.Native.Nat.{ℕ, ◌<◌}
use native.Mathlib.Omega.{arith}
use lib.ListN.{length, take, drop, get_or}
use lib.Seq.{take-append_seam, drop-append_seam, drop-length, append_snoc}

pub line-put : (g l n : List (List ℕ)) (m : List ℕ) → g ++ l ≡ n → g ++ (l ++ m ∷ []) ≡ n ++ m ∷ []
line-put g l n m e = sym (append_assoc g l (m ∷ [])) ∙ ap (λ (x : List (List ℕ)). x ++ m ∷ []) e

pub line-front : (g l n : List (List ℕ)) (m : List ℕ) → g ++ l ≡ n → g ++ m ∷ l ≡ take (length g) n ++ m ∷ drop (length g) n
line-front g l n m e =
    (λ i. sym (take-append_seam g l) i ++ m ∷ sym (drop-append_seam g l) i) ∙ ap (λ (x : List (List ℕ)). take (length g) x ++ m ∷ drop (length g) x) e

pub line-get : (g l n : List (List ℕ)) → 0 < length l → g ++ l ≡ n → (g ++ get_or l 0 [] ∷ []) ++ drop 1 l ≡ n
line-get g [] n f e = absurd (omega arith)
line-get g (x ∷ l) n f e = append_snoc g x l ∙ e

pub line-purge : (g l n : List (List ℕ)) → g ++ l ≡ n → g ++ drop (length l) l ≡ take (length g) n
line-purge g l n e = ap (λ (x : List (List ℕ)). g ++ x) (drop-length l) ∙ append-nil g ∙ sym (take-append_seam g l) ∙ ap (take (length g)) e

-- ---- with those that wait

-- nothing came out
pub line_stays : (g l n : List (List ℕ)) → g ++ l ≡ n → (g ++ []) ++ l ≡ n
line_stays g l n e = ap (λ (x : List (List ℕ)). x ++ l) (append-nil g) ∙ e

-- put at the front, and handed to a reader
pub line-ahead : (g l n : List (List ℕ)) (m : List ℕ) → g ++ l ≡ n → (g ++ m ∷ []) ++ l ≡ take (length g) n ++ m ∷ drop (length g) n
line-ahead g l n m e = append_snoc g m l ∙ line-front g l n m e

-- dropped, and so is what the writers offer
pub line-drop : (g l w n : List (List ℕ)) → g ++ (l ++ w) ≡ n → g ++ (drop (length l) l ++ []) ≡ take (length g) n
line-drop g l w n e =
    ap (λ (x : List (List ℕ)). g ++ x) (append-nil (drop (length l) l) ∙ drop-length l) ∙ append-nil g
    ∙ sym (take-append_seam g (l ++ w)) ∙ ap (take (length g)) e

-- handed to a reader, past nothing
pub line_hand : (g l n : List (List ℕ)) (m : List ℕ) → length l ≡ 0 → g ++ l ≡ n → (g ++ m ∷ []) ++ l ≡ n ++ m ∷ []
line_hand g [] n m f e = append-nil (g ++ m ∷ []) ∙ ap (λ (x : List (List ℕ)). x ++ m ∷ []) (sym (append-nil g) ∙ e)
line_hand g (x ∷ l) n m f e = absurd (omega arith)

-- stored, and no writer waits
pub line_store : (g l w n : List (List ℕ)) (m : List ℕ) → length w ≡ 0 → g ++ (l ++ w) ≡ n → g ++ ((l ++ m ∷ []) ++ w) ≡ n ++ m ∷ []
line_store g l [] n m f e =
    ap (λ (x : List (List ℕ)). g ++ x) (append-nil (l ++ m ∷ [])) ∙ sym (append_assoc g l (m ∷ []))
    ∙ ap (λ (x : List (List ℕ)). x ++ m ∷ []) (ap (λ (x : List (List ℕ)). g ++ x) (sym (append-nil l)) ∙ e)
line_store g l (x ∷ w) n m f e = absurd (omega arith)

-- offered
pub line_offer : (g l w n : List (List ℕ)) (m : List ℕ) → g ++ (l ++ w) ≡ n → g ++ (l ++ (w ++ m ∷ [])) ≡ n ++ m ∷ []
line_offer g l w n m e =
    ap (λ (x : List (List ℕ)). g ++ x) (sym (append_assoc l w (m ∷ []))) ∙ sym (append_assoc g (l ++ w) (m ∷ [])) ∙ ap (λ (x : List (List ℕ)). x ++ m ∷ []) e

-- read
pub line_read : (g l w n : List (List ℕ)) → 0 < length l → g ++ (l ++ w) ≡ n → (g ++ get_or l 0 [] ∷ []) ++ (drop 1 l ++ w) ≡ n
line_read g [] w n f e = absurd (omega arith)
line_read g (x ∷ l) w n f e = append_snoc g x (l ++ w) ∙ e

-- read, and the first offer stored
pub line_refill : (g l w n : List (List ℕ)) (m : List ℕ) → 0 < length l → g ++ (l ++ m ∷ w) ≡ n → (g ++ get_or l 0 [] ∷ []) ++ ((drop 1 l ++ m ∷ []) ++ w) ≡ n
line_refill g [] w n m f e = absurd (omega arith)
line_refill g (x ∷ l) w n m f e = append_snoc g x ((l ++ m ∷ []) ++ w) ∙ ap (λ (y : List (List ℕ)). g ++ x ∷ y) (append_snoc l m w) ∙ e
