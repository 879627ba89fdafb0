-- The laws of a buffer as messages. Assumes nothing.
use mathlib.Core.Path.{◌≡◌, refl, sym, ap, ◌∙◌}
use mathlib.Core.List.{List, [], ◌∷◌, ◌++◌}
use Prim.Native.Nat.{ℕ, zero, suc, ◌+◌, ◌-◌, ◌*◌, ◌≤◌, ◌<◌}
use native.Mathlib.Nat.{suc-mul, zero-mul, zero-add, mul-le-mul_right}
use native.Mathlib.Omega.{arith}
use lib.ListN.{length, take, drop, get_or, set, length-take, length-drop, length-append}
use lib.Seq.{take-append-le, drop-append-le, take-take, drop-drop, take_all, take_at, drop_at, get_or-take, get_or-drop, paste}
use Rattle.seq.specs.List.{All}
use Rattle.ring_buf.specs.Ring.{wrap, turn}
use Rattle.ring_buf.proofs.Rings.{set-paste, drop-take, turn-part, wrap-below}
use Rattle.msgq.specs.Messages.{slots}

-- the element i of a ring
pub turn_at : {A : Type 0} (t i a : ℕ) (b : List A) (d : A) → t < length b → i < length b → a ≡ wrap (t + i) (length b) → get_or (turn t b) i d ≡ get_or b a d
turn_at {A} t i a b d h f e =
    let w = wrap-below (t + i) (length b) (omega arith) in
    let one : (k : ℕ) (l : List A) → get_or (take 1 (drop k l)) 0 d ≡ get_or l k d = λ k l.
    let z : k + 0 ≡ k = omega arith in get_or-take 1 (drop k l) 0 d (omega arith) ∙ get_or-drop k l 0 d ∙ ap (λ (j : ℕ). get_or l j d) z in
    sym (one i (turn t b)) ∙ ap (λ (l : List A). get_or l 0 d) (sym (turn-part t i 1 a b h (omega arith) e (omega arith))) ∙ one a b

module _ {A : Type 0} (k a n : ℕ) (b s : List A) (room : k + a + n ≤ length b) (have : n ≤ length s) where
  -- what is written k or more behind the start
  take-before : take k (paste b (k + a) s n) ≡ take k b
  take-before =
      let T = take (k + a) b in
      let x : k ≤ length T = simp length-take (omega arith) in
      let y : k ≤ length (T ++ take n s) = simp length-append (omega arith) in
      take-append-le k (T ++ take n s) (drop (k + a + n) b) y ∙ take-append-le k T (take n s) x ∙ take-take k (k + a) b (omega arith)

  drop-before : drop k (paste b (k + a) s n) ≡ paste (drop k b) a s n
  drop-before =
      let T = take (k + a) b in
      let x : k ≤ length T = simp length-take (omega arith) in
      let y : k ≤ length (T ++ take n s) = simp length-append (omega arith) in
      let v : k + a - k ≡ a = omega arith in
      let w : k + (a + n) ≡ k + a + n = omega arith in
      drop-append-le k (T ++ take n s) (drop (k + a + n) b) y
      ∙ (λ i. (drop-append-le k T (take n s) x ∙ ap (λ (l : List A). l ++ take n s) (drop-take k (k + a) b ∙ ap (λ (m : ℕ). take m (drop k b)) v)) i
      ++ sym (drop-drop (a + n) k b ∙ ap (λ (m : ℕ). drop m b) w) i)

pub length-slots : (size n : ℕ) (b : List ℕ) → length (slots size n b) ≡ n
unfolding slots
length-slots size zero b = refl
length-slots size (suc n) b = ap suc (length-slots size n (drop size b))

-- slots do not reach over the end
pub slot-room : (size n i : ℕ) → i < n → i * size + size ≤ n * size
slot-room size n i f = omega (arith, suc-mul i size, mul-le-mul_right {m = suc i} {n = n} size f)

-- the message in the slot i
pub slot_at : (size n i : ℕ) (b : List ℕ) → i < n → get_or (slots size n b) i [] ≡ take size (drop (i * size) b)
unfolding slots
slot_at size zero i b f = absurd (omega arith)
slot_at size (suc n) zero b f = ap (λ (k : ℕ). take size (drop k b)) (sym (zero-mul size))
slot_at size (suc n) (suc i) b f =
    let e : size + i * size ≡ suc i * size = omega (arith, suc-mul i size) in
    slot_at size n i (drop size b) (omega arith) ∙ ap (take size) (drop-drop (i * size) size b ∙ ap (λ (k : ℕ). drop k b) e)

pub slot-long : (size n i : ℕ) (b : List ℕ) → i < n → n * size ≤ length b → length (take size (drop (i * size) b)) ≡ size
slot-long size n i b f room = length-take size (drop (i * size) b) ∙ omega (arith, length-drop (i * size) b, slot-room size n i f)

pub all_slots : (size n : ℕ) (b : List ℕ) → n * size ≤ length b → All (λ (m : List ℕ). length m ≡ size) (slots size n b)
unfolding slots
all_slots size zero b f = tt
all_slots size (suc n) b f =
    (length-take size b ∙ omega (arith, suc-mul n size), all_slots size n (drop size b) (simp length-drop (omega (arith, suc-mul n size))))

-- a message written to the slot i is the message there, and the others stay
slot-set : (size n i : ℕ) (b m : List ℕ) → i < n → length m ≡ size → n * size ≤ length b → slots size n (paste b (i * size) m size) ≡ set (slots size n b) i m
unfolding slots
slot-set size zero i b m f e room = absurd (omega arith)
slot-set size (suc n) zero b m f e room =
    let l : length (take size m) ≡ size = length-take size m ∙ omega arith in
    let x : take size (take size m ++ drop (0 + size) b) ≡ m = take_at (take size m) (drop (0 + size) b) size l ∙ take_all size m (omega arith) in
    let y : drop size (take size m ++ drop (0 + size) b) ≡ drop size b = drop_at (take size m) (drop (0 + size) b) size l ∙ ap (λ (k : ℕ). drop k b) (zero-add size) in
    ap (λ (k : ℕ). slots size (suc n) (paste b k m size)) (zero-mul size) ∙ (λ j. x j ∷ slots size n (y j))
slot-set size (suc n) (suc i) b m f e room =
    let w : suc i * size ≡ size + i * size = omega (arith, suc-mul i size) in
    let g : size + i * size + size ≤ length b = omega (arith, suc-mul n size, slot-room size n i (omega arith)) in
    let r : n * size ≤ length (drop size b) = simp length-drop (omega (arith, suc-mul n size)) in
    ap (λ (k : ℕ). slots size (suc n) (paste b k m size)) w
    ∙ (λ j. take-before size (i * size) size b m g (omega arith) j ∷ slots size n (drop-before size (i * size) size b m g (omega arith) j))
    ∙ ap (λ (l : List (List ℕ)). take size b ∷ l) (slot-set size n i (drop size b) m (omega arith) e r)

pub slot-paste : (size n i : ℕ) (b m : List ℕ) → i < n → length m ≡ size → n * size ≤ length b
    → slots size n (paste b (i * size) m size) ≡ paste (slots size n b) i (m ∷ []) 1
slot-paste size n i b m f e room = slot-set size n i b m f e room ∙ set-paste (slots size n b) i m (omega (arith, length-slots size n b))
