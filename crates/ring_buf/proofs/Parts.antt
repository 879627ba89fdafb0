-- What a copy leaves. Assumes nothing.
use mathlib.Core.Path.{◌≡◌, refl, sym, ap, ◌∙◌}
use mathlib.Core.List.{List, [], ◌++◌, append_assoc, append-nil}
use Prim.Native.Nat.{ℕ, ◌+◌, ◌-◌, ◌≤◌, ◌<◌, min}
use native.Mathlib.Omega.{arith}
use lib.ListN.{length, take, drop, length-take, length-drop, length-append, drop_of_length-le}
use lib.Seq.{take_all, take-take, take_at, take-append-add, drop-length, length-take-le, paste, length-paste}
use borrow.Rule.Slice.PartMut.{put_mid, post_of, Post-is}
use Rattle.store.specs.Store.{Filled}
use Rattle.ring_buf.specs.Ring.{wrap, turn}
use Rattle.ring_buf.proofs.Rings.{by-lt, wrap-low, wrap-high, wrap-wrap, drop-take, turned, length-turn, turn-paste, turn-part, paste-paste, take_within, drop-within}

pub take-least : (m : ℕ) (s : List ℕ) → take m s ≡ take (min m (length s)) s
take-least m s =
    by-lt m (length s)
    (λ f. let e : m ≡ min m (length s) = omega arith in ap (λ (n : ℕ). take n s) e)
    (λ f. let e : length s ≡ min m (length s) = omega arith in take_all m s f ∙ sym (take_all (length s) s (omega arith)) ∙ ap (λ (n : ℕ). take n s) e)

-- all are copied
pub filled : (d s d' : List ℕ) (n i : ℕ) → n ≡ min (length s) (length d) → i ≤ n → n ≤ i → d' ≡ take i s ++ drop i d → Filled (take (length d) s) d d'
filled d s d' n i e h g is =
    let x : i ≡ min (length d) (length s) = omega arith in
    let y : take i s ≡ take (length d) s = ap (λ (k : ℕ). take k s) x ∙ sym (take-least (length d) s) in
    let z : i ≡ length (take (length d) s) = omega (arith, length-take (length d) s) in
    is ∙ (λ k. y k ++ drop (z k) d)

-- what fills a place whole
pub whole : (l d : List ℕ) → length l ≡ length d → l ++ drop (length l) d ≡ l
whole l d e = ap (λ (x : List ℕ). l ++ x) (drop_of_length-le d {i = length l} (omega arith)) ∙ append-nil l

-- a copy that fits exactly
pub exact : (d s q : List ℕ) → length d ≡ length s → Filled (take (length d) s) d q → q ≡ s
exact d s q e f =
    let x : take (length d) s ≡ s = take_all (length d) s (omega arith) in
    f ∙ (λ i. x i ++ drop (length (x i)) d) ∙ whole s d (sym e)

-- a part that is lent and comes back as s's first k
pub lent_back : (b s q : List ℕ) (a e k : ℕ) → e ≡ a + k → q ≡ take k s → put_mid a (e - a) b q ≡ paste b a s k
lent_back b s q a e k w is =
    ap (λ (l : List ℕ). take a b ++ l) (λ i. is i ++ (Post-is a e b (omega arith) ∙ ap (λ (n : ℕ). drop n b) w) i) ∙ sym (append_assoc (take a b) (take k s) (drop (a + k) b))

-- one piece of a ring of c bytes, u behind its start t
module _ (c t u a k : ℕ) (b s : List ℕ) (h : t < c) (room : c ≤ length b) (e : a ≡ wrap (t + u) c) (f : u + k ≤ c) (g : a + k ≤ c) (have : k ≤ length s) where
  pub piece : turn t (take c (paste b a s k)) ≡ paste (turn t (take c b)) u s k
  piece =
      let n : length (take c b) ≡ c = length-take-le c b room in
      ap (turn t) (take_within c a k b s g room have)
      ∙ turn-paste t u k (take c b) s (omega (arith, n)) (omega (arith, n)) have a (e ∙ ap (λ (m : ℕ). wrap (t + u) m) (sym n)) (omega (arith, n))

  pub beside : drop c (paste b a s k) ≡ drop c b
  beside = drop-within c a k b s g room have

-- two pieces: up to the end, and from the start on
module _ (c t u a m k : ℕ) (b s : List ℕ) (h : t < c) (room : c ≤ length b) (e : a ≡ wrap (t + u) c) (end : a + m ≡ c) (f : u + length s ≤ c) (all : m + k ≡ length s) where
  long : length (paste b a s m) ≡ length b
  long = length-paste b a s m (omega arith) (omega arith)

  -- the second piece starts at the buffer's start
  round : 0 ≡ wrap (t + (u + m)) c
  round = sym (sym (wrap-wrap t u m c h (omega arith)) ∙ ap (λ (x : ℕ). wrap x c) (ap (λ (x : ℕ). x + m) (sym e) ∙ end) ∙ wrap-high c c (omega arith) ∙ omega arith)

  pub both : turn t (take c (paste (paste b a s m) 0 (drop m s) k)) ≡ paste (turn t (take c b)) u s (length s)
  both =
      let n : length (drop m s) ≡ k = length-drop m s ∙ omega arith in
      let r : length (turn t (take c b)) ≡ c = length-turn t (take c b) (omega (arith, length-take-le c b room)) ∙ length-take-le c b room in
      piece c t (u + m) 0 k (paste b a s m) (drop m s) h (omega (arith, long)) round (omega arith) (omega arith) (omega (arith, n))
      ∙ ap (λ (l : List ℕ). paste l (u + m) (drop m s) k) (piece c t u a m b s h room e (omega arith) (omega arith) (omega arith))
      ∙ paste-paste (turn t (take c b)) s u m k (omega (arith, r)) (omega arith) ∙ ap (paste (turn t (take c b)) u s) all

  pub both-beside : drop c (paste (paste b a s m) 0 (drop m s) k) ≡ drop c b
  both-beside =
      let n : length (drop m s) ≡ k = length-drop m s ∙ omega arith in
      beside c t (u + m) 0 k (paste b a s m) (drop m s) h (omega (arith, long)) round (omega arith) (omega arith) (omega (arith, n))
      ∙ beside c t u a m b s h room e (omega arith) (omega arith) (omega arith)

-- what is read in one piece, from the start t of a ring of c bytes
pub drained : (c t n : ℕ) (b : List ℕ) → t < c → t + n ≤ c → c ≤ length b → take n (drop t b) ≡ take n (turn t (take c b))
drained c t n b h f room =
    let l : length (take c b) ≡ c = length-take-le c b room in
    let z : t + 0 ≡ t = omega arith in
    let w : t ≡ wrap (t + 0) (length (take c b)) = sym (ap (λ (x : ℕ). wrap x (length (take c b))) z ∙ wrap-low t (length (take c b)) (omega arith)) in
    sym (ap (take n) (drop-take t c b) ∙ take-take n (c - t) (drop t b) (omega arith)) ∙ turn-part t 0 n t (take c b) (omega arith) (omega arith) w (omega arith)

-- in two
pub drained-both : (c t m k : ℕ) (b : List ℕ) → t + m ≡ c → k ≤ t → c ≤ length b → take m (drop t b) ++ take k b ≡ take (m + k) (turn t (take c b))
drained-both c t m k b e f room =
    let v : c - t ≡ m = omega arith in
    let x : drop t (take c b) ≡ take m (drop t b) = drop-take t c b ∙ ap (λ (n : ℕ). take n (drop t b)) v in
    let n : length (take m (drop t b)) + k ≡ m + k = omega (arith, length-take m (drop t b), length-drop t b) in
    sym
    (ap (take (m + k)) (turned t (take c b) ∙ (λ i. x i ++ take-take t c b (omega arith) i)) ∙ ap (λ (j : ℕ). take j (take m (drop t b) ++ take t b)) (sym n)
    ∙ take-append-add (take m (drop t b)) (take t b) k ∙ ap (λ (l : List ℕ). take m (drop t b) ++ l) (take-take k t b f))

-- a second part that is lent, up to the end, and comes back as q
pub second_back : (o q r : List ℕ) (m : ℕ) → length q ≡ m → m + length r ≡ length o → put_mid m (length (q ++ drop m o) - m) (q ++ drop m o) r ≡ q ++ r
second_back o q r m n w =
    let l : length (q ++ drop m o) ≡ length o = length-append q (drop m o) ∙ omega (arith, length-drop m o) in
    let none : post_of m (length (q ++ drop m o) - m) (q ++ drop m o) ≡ [] = Post-is m (length (q ++ drop m o)) (q ++ drop m o) (omega arith) ∙ drop-length (q ++ drop m o) in
    (λ i. take_at q (drop m o) m n i ++ (r ++ none i)) ∙ ap (λ (x : List ℕ). q ++ x) (append-nil r)

-- ---- what `fill` leaves, by its copies

module _ (c t u a : ℕ) (b s : List ℕ) (h : t < c) (room : c ≤ length b) (e : a ≡ wrap (t + u) c) (f : u + length s ≤ c) where
  pub fill_one : (q : List ℕ) → a + length s ≤ c → Filled (take (length (take (a + length s - a) (drop a b))) s) (take (a + length s - a) (drop a b)) q
      → (turn t (take c (put_mid a (a + length s - a) b q)) ≡ paste (turn t (take c b)) u s (length s)) × (drop c (put_mid a (a + length s - a) b q) ≡ drop c b)
  fill_one q g w =
      let n : length (take (a + length s - a) (drop a b)) ≡ length s = length-take (a + length s - a) (drop a b) ∙ omega (arith, length-drop a b) in
      let is : q ≡ take (length s) s = exact (take (a + length s - a) (drop a b)) s q n w ∙ sym (take_all (length s) s (omega arith)) in
      let p = lent_back b s q a (a + length s) (length s) refl is in (
        ap (λ (l : List ℕ). turn t (take c l)) p ∙ piece c t u a (length s) b s h room e f g (omega arith),
        ap (drop c) p ∙ beside c t u a (length s) b s h room e f g (omega arith),
      )

  -- the parts of the two copies
  module _ (q₁ q₂ : List ℕ) (below : a < c) (over : c - a < length s) (w₁ : Filled (take (length (take (c - a) (drop a b))) (take (c - a) s)) (take (c - a) (drop a b)) q₁) where
    first-is : put_mid a (c - a) b q₁ ≡ paste b a s (c - a)
    first-is =
        let n : length (take (c - a) (drop a b)) ≡ length (take (c - a) s) = length-take (c - a) (drop a b) ∙ omega (arith, length-drop a b, length-take (c - a) s) in
        lent_back b s q₁ a c (c - a) (omega arith) (exact (take (c - a) (drop a b)) (take (c - a) s) q₁ n w₁)

    pub first-long : length (put_mid a (c - a) b q₁) ≡ length b
    first-long = ap length first-is ∙ length-paste b a s (c - a) (omega arith) (omega arith)

    pub fill-two : let k = length s - (c - a) in let b₁ = put_mid a (c - a) b q₁ in Filled (take (length (take k b₁)) (take k (drop (c - a) s))) (take k b₁) q₂
        → (turn t (take c (q₂ ++ drop k b₁)) ≡ paste (turn t (take c b)) u s (length s)) × (drop c (q₂ ++ drop k b₁) ≡ drop c b)
    fill-two w₂ =
        let k = length s - (c - a) in
        let b₁ = put_mid a (c - a) b q₁ in
        let n : length (take k b₁) ≡ length (take k (drop (c - a) s)) = length-take k b₁ ∙ omega (arith, first-long, length-take k (drop (c - a) s), length-drop (c - a) s) in
        let z : 0 + k ≡ k = omega arith in
        let p : q₂ ++ drop k b₁ ≡ paste (paste b a s (c - a)) 0 (drop (c - a) s) k = λ i. exact (take k b₁) (take k (drop (c - a) s)) q₂ n w₂ i ++ drop (sym z i) (first-is i) in (
          ap (λ (l : List ℕ). turn t (take c l)) p ∙ both c t u a (c - a) k b s h room e (omega arith) f (omega arith),
          ap (drop c) p ∙ both-beside c t u a (c - a) k b s h room e (omega arith) f (omega arith),
        )

-- ---- what `drain` leaves

module _ (c t : ℕ) (b o : List ℕ) (h : t < c) (room : c ≤ length b) where
  pub drain-one : (q : List ℕ) → t + length o ≤ c → Filled (take (length o) (take (t + length o - t) (drop t b))) o q → q ≡ take (length o) (turn t (take c b))
  drain-one q g w =
      let v : t + length o - t ≡ length o = omega arith in
      let n : length o ≡ length (take (t + length o - t) (drop t b)) = sym (length-take (t + length o - t) (drop t b) ∙ omega (arith, length-drop t b)) in
      exact o (take (t + length o - t) (drop t b)) q n w ∙ ap (λ (k : ℕ). take k (drop t b)) v ∙ drained c t (length o) b h g room

  pub drain-two : (q₁ q₂ : List ℕ) → let m = c - t in let k = length o - m in let o₁ = q₁ ++ drop m o in m < length o → length o ≤ c
      → Filled (take (length (take m o)) (take m (drop t b))) (take m o) q₁ → Filled (take (length (take (length o₁ - m) (drop m o₁))) (take k b)) (take (length o₁ - m) (drop m o₁)) q₂
      → put_mid m (length o₁ - m) o₁ q₂ ≡ take (length o) (turn t (take c b))
  drain-two q₁ q₂ over f w₁ w₂ =
      let m = c - t in
      let k = length o - m in
      let o₁ = q₁ ++ drop m o in
      let n₁ : length (take m o) ≡ length (take m (drop t b)) = length-take m o ∙ omega (arith, length-take m (drop t b), length-drop t b) in
      let is₁ : q₁ ≡ take m (drop t b) = exact (take m o) (take m (drop t b)) q₁ n₁ w₁ in
      let l₁ : length q₁ ≡ m = ap length is₁ ∙ sym n₁ ∙ length-take m o ∙ omega arith in
      let l : length o₁ ≡ length o = length-append q₁ (drop m o) ∙ omega (arith, length-drop m o) in
      let n₂ : length (take (length o₁ - m) (drop m o₁)) ≡ length (take k b) = length-take (length o₁ - m) (drop m o₁) ∙ omega (arith, length-drop m o₁, length-take k b) in
      let is₂ : q₂ ≡ take k b = exact (take (length o₁ - m) (drop m o₁)) (take k b) q₂ n₂ w₂ in
      let v : m + k ≡ length o = omega arith in
      second_back o q₁ q₂ m l₁ (omega (arith, ap length is₂, length-take k b)) ∙ (λ i. is₁ i ++ is₂ i) ∙ drained-both c t m k b (omega arith) (omega arith) room ∙ ap (λ (j : ℕ). take j (turn t (take c b))) v

-- of a ring that is its whole buffer
pub round_all : (t u : ℕ) (b b' s : List ℕ)
    → (turn t (take (length b) b') ≡ paste (turn t (take (length b) b)) u s (length s)) × (drop (length b) b' ≡ drop (length b) b)
    → turn t b' ≡ paste (turn t b) u s (length s)
round_all t u b b' s (e, d) =
    let l : length b' ≤ length b = omega (arith, length-drop (length b) b', length-drop (length b) b, ap length d) in
    let x : take (length b) b' ≡ b' = take_all (length b) b' l in
    let y : take (length b) b ≡ b = take_all (length b) b (omega arith) in
    ap (turn t) (sym x) ∙ e ∙ ap (λ (l : List ℕ). paste (turn t l) u s (length s)) y
