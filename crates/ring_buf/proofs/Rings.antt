-- The laws of a ring in its buffer, for elements of any type.
use mathlib.Core.Path.{◌≡◌, refl, sym, ap, ◌∙◌}
use mathlib.Core.List.{List, [], ◌∷◌, ◌++◌, append_assoc}
use Prim.Native.Nat.{ℕ, zero, suc, ◌+◌, ◌-◌, ◌≤◌, ◌<◌}
use native.Mathlib.Decide.{dec_lt}
use native.Mathlib.Nat.{zero-sub, sub-zero, suc-sub-suc}
use native.Mathlib.Numerals.{add-one}
use native.Mathlib.Omega.{arith}
use borrow.Author.Tests.{lt-ltb, le-ltb}
use lib.ListN.{length, take, drop, set, length-append, length-take, length-drop, take-append-drop}
use lib.Seq.{set_split, append_snoc, take-append-le, drop-append-le, take-append-add, drop-append-add, drop_at, take-add, drop-drop, take-take, take-nil, paste, take-paste, drop-paste}
use Rattle.ring_buf.specs.Ring.{wrap, turn, ring, append, lead, leave, clear}

pub wrap-low : (x n : ℕ) → x < n → wrap x n ≡ x
unfolding wrap
wrap-low x n h = rw (lt-ltb x n h)

pub wrap-high : (x n : ℕ) → n ≤ x → wrap x n ≡ x - n
unfolding wrap
wrap-high x n h = rw (le-ltb x n h)

pub by-lt {ℓ} : {P : Type ℓ} (x n : ℕ) → (x < n → P) → (n ≤ x → P) → P
by-lt {P} x n f g = go (dec_lt x n)
  where
    go : Dec (x < n) → P
    go (yes h) = f h
    go (no h) = g (omega arith)

pub wrap-below : (x n : ℕ) → x < n + n → wrap x n < n
wrap-below x n h = by-lt x n (λ f. omega (arith, wrap-low x n f)) (λ f. omega (arith, wrap-high x n f))

-- one step behind another
pub wrap-wrap : (t u k n : ℕ) → t < n → u + k ≤ n → wrap (wrap (t + u) n + k) n ≡ wrap (t + (u + k)) n
wrap-wrap t u k n h r =
    by-lt (t + u) n
    (λ f. let e : t + u + k ≡ t + (u + k) = omega arith in ap (λ (x : ℕ). wrap (x + k) n) (wrap-low (t + u) n f) ∙ ap (λ (x : ℕ). wrap x n) e)
    (λ f. let w = wrap-high (t + u) n f in
    let e : t + u - n + k ≡ t + (u + k) - n = omega arith in
    ap (λ (x : ℕ). wrap (x + k) n) w ∙ ap (λ (x : ℕ). wrap x n) e ∙ wrap-low (t + (u + k) - n) n (omega arith) ∙ sym (wrap-high (t + (u + k)) n (omega arith)))

module _ {A : Type 0} where
  -- one element that is written is a piece of one
  pub set-paste : (b : List A) (i : ℕ) (x : A) → i < length b → set b i x ≡ paste b i (x ∷ []) 1
  set-paste b i x f = set_split b i x f ∙ sym (append_snoc (take i b) x (drop (suc i) b)) ∙ ap (λ (n : ℕ). take i b ++ (x ∷ []) ++ drop n b) (sym (add-one i))

  pub drop-take : (m n : ℕ) (l : List A) → drop m (take n l) ≡ take (n - m) (drop m l)
  drop-take zero n l = rw sub-zero
  drop-take (suc m) zero l = rw zero-sub
  drop-take (suc m) (suc n) [] = rw take-nil
  drop-take (suc m) (suc n) (x ∷ l) = rw suc-sub-suc (drop-take m n l)

  pub length-turn : (t : ℕ) (b : List A) → t ≤ length b → length (turn t b) ≡ length b
  unfolding turn
  length-turn t b h = simp (length-append, length-drop, length-take) (omega arith)

  pub turned : (t : ℕ) (b : List A) → turn t b ≡ drop t b ++ take t b
  unfolding turn
  turned t b = refl

  -- what stands before the place j, no less than i, can be read first
  split : (i j : ℕ) (b : List A) → i ≤ j → j ≤ length b → drop i b ≡ drop i (take j b) ++ drop j b
  split i j b h k =
      let m : i ≤ length (take j b) = simp length-take (omega arith) in
      ap (drop i) (sym (take-append-drop j b)) ∙ drop-append-le i (take j b) (drop j b) m

  -- a turn of a turn
  pub turn-turn : (t u : ℕ) (b : List A) → t < length b → u ≤ length b → turn u (turn t b) ≡ turn (wrap (t + u) (length b)) b
  unfolding turn
  turn-turn t u b h k = by-lt (t + u) (length b) low high
    where
      low : t + u < length b → drop u (drop t b ++ take t b) ++ take u (drop t b ++ take t b) ≡ drop (wrap (t + u) (length b)) b ++ take (wrap (t + u) (length b)) b
      low f =
          let i : u ≤ length (drop t b) = simp length-drop (omega arith) in
          rw (wrap-low (t + u) (length b) f, drop-append-le u (drop t b) (take t b) i, take-append-le u (drop t b) (take t b) i, drop-drop u t b, take-add t u b)
          (append_assoc (drop (t + u) b) (take t b) (take u (drop t b)))

      high : length b ≤ t + u → drop u (drop t b ++ take t b) ++ take u (drop t b ++ take t b) ≡ drop (wrap (t + u) (length b)) b ++ take (wrap (t + u) (length b)) b
      high f =
          let v = t + u - length b in
          let m : length (drop t b) + v ≡ u = simp length-drop (omega arith) in
          let d : drop u (drop t b ++ take t b) ≡ drop v (take t b) = ap (λ (x : ℕ). drop x (drop t b ++ take t b)) (sym m) ∙ drop-append-add (drop t b) (take t b) v in
          let s : take u (drop t b ++ take t b) ≡ drop t b ++ take v b =
          ap (λ (x : ℕ). take x (drop t b ++ take t b)) (sym m) ∙ take-append-add (drop t b) (take t b) v ∙ ap (λ (l : List A). drop t b ++ l) (take-take v t b (omega arith)) in
          rw (wrap-high (t + u) (length b) f)
          ((λ i. d i ++ s i) ∙ sym (append_assoc (drop v (take t b)) (drop t b) (take v b)) ∙ ap (λ (l : List A). l ++ take v b) (sym (split v t b (omega arith) (omega arith))))

  -- k elements of s written in one piece, which stands u behind the start
  module _ (t u k : ℕ) (b s : List A) (h : t < length b) (room : u + k ≤ length b) (have : k ≤ length s) where
    low-paste : t + u + k ≤ length b → turn t (paste b (t + u) s k) ≡ paste (turn t b) u s k
    unfolding turn
    low-paste e =
        let T = take (t + u) b in
        let S = take k s in
        let D = drop (t + u + k) b in
        let i : t ≤ length T = simp length-take (omega arith) in
        let i2 : t ≤ length (T ++ S) = simp (length-append, length-take) (omega arith) in
        let j : u ≤ length (drop t b) = simp length-drop (omega arith) in
        let l : u + k ≤ length (drop t b) = simp length-drop (omega arith) in
        let v : t + u - t ≡ u = omega arith in
        let x : t + (u + k) ≡ t + u + k = omega arith in
        let front : drop t T ≡ take u (drop t b) = drop-take t (t + u) b ∙ ap (λ (n : ℕ). take n (drop t b)) v in
        let low : take t (T ++ S ++ D) ≡ take t b = take-append-le t (T ++ S) D i2 ∙ take-append-le t T S i ∙ take-take t (t + u) b (omega arith) in
        let back : drop (u + k) (drop t b) ≡ D = drop-drop (u + k) t b ∙ ap (λ (n : ℕ). drop n b) x in
        (λ m. drop-append-le t (T ++ S) D i2 m ++ low m) ∙ ap (λ (y : List A). y ++ D ++ take t b) (drop-append-le t T S i ∙ ap (λ (y : List A). y ++ S) front)
        ∙ append_assoc (take u (drop t b) ++ S) D (take t b)
        ∙ (λ m. sym (take-append-le u (drop t b) (take t b) j) m ++ S ++ sym (drop-append-le (u + k) (drop t b) (take t b) l ∙ ap (λ (y : List A). y ++ take t b) back) m)

    high-paste : length b ≤ t + u → turn t (paste b (t + u - length b) s k) ≡ paste (turn t b) u s k
    unfolding turn
    high-paste f =
        let v = t + u - length b in
        let T = take v b in
        let S = take k s in
        let P = paste b v s k in
        let w = t - (v + k) in
        let q : v + k + w ≡ t = omega arith in
        let n : length (T ++ S) + w ≡ t = simp (length-append, length-take) (omega arith) in
        let m : length (drop t b) + v ≡ u = simp length-drop (omega arith) in
        let m2 : length (drop t b) + (v + k) ≡ u + k = omega arith in
        let over : drop t P ≡ drop t b =
        ap (λ (y : ℕ). drop y P) (sym q) ∙ sym (drop-drop w (v + k) P) ∙ ap (drop w) (drop-paste b v s k (omega arith) have) ∙ drop-drop w (v + k) b ∙ ap (λ (y : ℕ). drop y b) q in
        let under : take t P ≡ T ++ S ++ drop (v + k) (take t b) =
        ap (λ (y : ℕ). take y P) (sym n) ∙ take-append-add (T ++ S) (drop (v + k) b) w ∙ ap (λ (y : List A). T ++ S ++ y) (sym (drop-take (v + k) t b)) in
        let first : take u (drop t b ++ take t b) ≡ drop t b ++ T =
        ap (λ (y : ℕ). take y (drop t b ++ take t b)) (sym m) ∙ take-append-add (drop t b) (take t b) v ∙ ap (λ (y : List A). drop t b ++ y) (take-take v t b (omega arith)) in
        let last : drop (u + k) (drop t b ++ take t b) ≡ drop (v + k) (take t b) =
        ap (λ (y : ℕ). drop y (drop t b ++ take t b)) (sym m2) ∙ drop-append-add (drop t b) (take t b) (v + k) in
        (λ y. over y ++ under y) ∙ sym (append_assoc (drop t b) (T ++ S) (drop (v + k) (take t b)))
        ∙ ap (λ (y : List A). y ++ drop (v + k) (take t b)) (sym (append_assoc (drop t b) T S)) ∙ (λ y. sym first y ++ S ++ sym last y)

    -- a piece of the buffer that does not reach over its end is a piece of the ring
    pub turn-paste : (a : ℕ) → a ≡ wrap (t + u) (length b) → a + k ≤ length b → turn t (paste b a s k) ≡ paste (turn t b) u s k
    turn-paste a e f =
        by-lt (t + u) (length b)
        (λ l. let w = e ∙ wrap-low (t + u) (length b) l in ap (λ (x : ℕ). turn t (paste b x s k)) w ∙ low-paste (omega arith))
        (λ l. ap (λ (x : ℕ). turn t (paste b x s k)) (e ∙ wrap-high (t + u) (length b) l) ∙ high-paste l)

  -- the same of what is read
  pub turn-part : (t u k a : ℕ) (b : List A) → t < length b → u + k ≤ length b → a ≡ wrap (t + u) (length b) → a + k ≤ length b
      → take k (drop a b) ≡ take k (drop u (turn t b))
  unfolding turn
  turn-part t u k a b h room e f = by-lt (t + u) (length b) low high
    where
      low : t + u < length b → take k (drop a b) ≡ take k (drop u (drop t b ++ take t b))
      low l =
          let i : u ≤ length (drop t b) = simp length-drop (omega arith) in
          let j : k ≤ length (drop (t + u) b) = simp length-drop (omega (arith, e ∙ wrap-low (t + u) (length b) l)) in
          sym (ap (take k) (drop-append-le u (drop t b) (take t b) i ∙ ap (λ (y : List A). y ++ take t b) (drop-drop u t b))
          ∙ take-append-le k (drop (t + u) b) (take t b) j ∙ ap (λ (y : ℕ). take k (drop y b)) (sym (e ∙ wrap-low (t + u) (length b) l)))

      high : length b ≤ t + u → take k (drop a b) ≡ take k (drop u (drop t b ++ take t b))
      high l =
          let v = t + u - length b in
          let m : length (drop t b) + v ≡ u = simp length-drop (omega arith) in
          let last : drop u (drop t b ++ take t b) ≡ take (t - v) (drop v b) =
          ap (λ (y : ℕ). drop y (drop t b ++ take t b)) (sym m) ∙ drop-append-add (drop t b) (take t b) v ∙ drop-take v t b in
          ap (λ (y : ℕ). take k (drop y b)) (e ∙ wrap-high (t + u) (length b) l) ∙ sym (take-take k (t - v) (drop v b) (omega arith)) ∙ sym (ap (take k) last)

  -- a piece, and the next
  pub paste-paste : (b s : List A) (u k j : ℕ) → u + (k + j) ≤ length b → k + j ≤ length s → paste (paste b u s k) (u + k) (drop k s) j ≡ paste b u s (k + j)
  paste-paste b s u k j room have =
      let P = paste b u s k in
      let x : u + k + j ≡ u + (k + j) = omega arith in
      let over : drop (u + k + j) P ≡ drop (u + (k + j)) b =
      sym (drop-drop j (u + k) P) ∙ ap (drop j) (drop-paste b u s k (omega arith) (omega arith)) ∙ drop-drop j (u + k) b ∙ ap (λ (y : ℕ). drop y b) x in
      (λ i. take-paste b u s k (omega arith) (omega arith) i ++ take j (drop k s) ++ over i)
      ∙ ap (λ (y : List A). y ++ drop (u + (k + j)) b) (append_assoc (take u b) (take k s) (take j (drop k s)) ∙ ap (λ (y : List A). take u b ++ y) (sym (take-add k j s)))

  -- what is written within the first n of a buffer
  pub take_within : (n a k : ℕ) (b s : List A) → a + k ≤ n → n ≤ length b → k ≤ length s → take n (paste b a s k) ≡ paste (take n b) a s k
  take_within n a k b s f m have =
      let T = take a b ++ take k s in
      let q : length T + (n - (a + k)) ≡ n = simp (length-append, length-take) (omega arith) in
      ap (λ (y : ℕ). take y (paste b a s k)) (sym q) ∙ take-append-add T (drop (a + k) b) (n - (a + k))
      ∙ (λ i. sym (take-take a n b (omega arith)) i ++ take k s ++ sym (drop-take (a + k) n b) i)

  pub drop-within : (n a k : ℕ) (b s : List A) → a + k ≤ n → n ≤ length b → k ≤ length s → drop n (paste b a s k) ≡ drop n b
  drop-within n a k b s f m have =
      let q : a + k + (n - (a + k)) ≡ n = omega arith in
      ap (λ (y : ℕ). drop y (paste b a s k)) (sym q) ∙ sym (drop-drop (n - (a + k)) (a + k) (paste b a s k)) ∙ ap (drop (n - (a + k))) (drop-paste b a s k (omega arith) have)
      ∙ drop-drop (n - (a + k)) (a + k) b ∙ ap (λ (y : ℕ). drop y b) q

  -- the ring of a buffer of c
  module _ (c t u : ℕ) (b : List A) (n : length b ≡ c) (h : t < c) (room : u ≤ c) where
    abbrev R : List A
    R = turn t b

    long : length R ≡ c
    long = length-turn t b (omega arith) ∙ n

    again : (k : ℕ) → k ≤ c → turn (wrap (t + k) c) b ≡ drop k R ++ take k R
    again k f = ap (λ (m : ℕ). turn (wrap (t + k) m) b) (sym n) ∙ sym (turn-turn t k b (omega arith) (omega arith)) ∙ turned k R

    pub held-long : length (take u (turn t b)) ≡ u
    held-long = length-take u (turn t b) ∙ omega (arith, long)

    pub spare-long : length (drop u (turn t b)) ≡ c - u
    spare-long = length-drop u (turn t b) ∙ ap (λ (m : ℕ). m - u) long

    -- what was written behind is held
    pub appended : (k : ℕ) (b' s : List A) → u + k ≤ c → k ≤ length s → turn t b' ≡ paste (turn t b) u s k → ring c t (u + k) b' ≡ append (take k s) (ring c t u b)
    appended k b' s f have e =
        let r : u ≤ length R = omega (arith, long) in
        let m : length (take k s) ≡ k = length-take k s ∙ omega arith in
        let x : take (u + k) (turn t b') ≡ take u R ++ take k s = ap (take (u + k)) e ∙ take-paste R u s k r have in
        let y : drop (u + k) (turn t b') ≡ drop (length (take k s)) (drop u R) =
        ap (drop (u + k)) e ∙ drop-paste R u s k r have ∙ sym (drop-drop k u R) ∙ ap (λ (j : ℕ). drop j (drop u R)) (sym m) in
        λ i. record { capacity = c; start = t; held = x i; spare = y i }

    -- what is read from further on
    pub left : (k : ℕ) → k ≤ u → ring c (wrap (t + k) c) (u - k) b ≡ leave k (ring c t u b)
    left k have =
        let j : u - k ≤ length (drop k R) = simp length-drop (omega (arith, long)) in
        let v : k + (u - k) ≡ u = omega arith in
        let e = again k (omega arith) in
        let x : take (u - k) (turn (wrap (t + k) c) b) ≡ drop k (take u R) = ap (take (u - k)) e ∙ take-append-le (u - k) (drop k R) (take k R) j ∙ sym (drop-take k u R) in
        let y : drop (u - k) (turn (wrap (t + k) c) b) ≡ drop u R ++ take k (take u R) =
        ap (drop (u - k)) e ∙ drop-append-le (u - k) (drop k R) (take k R) j ∙ (λ i. (drop-drop (u - k) k R ∙ ap (λ (m : ℕ). drop m R) v) i ++ sym (take-take k u R have) i) in
        λ i. record { capacity = c; start = wrap (t + k) c; held = x i; spare = y i }

    -- what was written before is held
    pub led : (x : A) → u < c → let p = wrap (t + (c - 1)) c in ring c p (suc u) (paste b p (x ∷ []) 1) ≡ lead x (ring c t u b)
    led x f =
        let p = wrap (t + (c - 1)) c in
        let q : p < c = wrap-below (t + (c - 1)) c (omega arith) in
        let z : p + 0 ≡ p = omega arith in
        let one : length (drop (c - 1) R) ≡ 1 = length-drop (c - 1) R ∙ omega (arith, long) in
        let w : p ≡ wrap (p + 0) (length b) = sym (ap (λ (y : ℕ). wrap y (length b)) z ∙ wrap-low p (length b) (omega arith)) in
        let e : turn p (paste b p (x ∷ []) 1) ≡ x ∷ take (c - 1) R =
        turn-paste p 0 1 b (x ∷ []) (omega arith) (omega arith) (omega arith) p w (omega arith) ∙ ap (λ (l : List A). x ∷ drop 1 l) (again (c - 1) (omega arith))
        ∙ ap (λ (l : List A). x ∷ l) (drop_at (drop (c - 1) R) (take (c - 1) R) 1 one) in
        let s : take (suc u) (turn p (paste b p (x ∷ []) 1)) ≡ x ∷ take u R = ap (take (suc u)) e ∙ ap (λ (l : List A). x ∷ l) (take-take u (c - 1) R (omega arith)) in
        let m : c - 1 - u ≡ length (drop u R) - 1 = omega (arith, spare-long) in
        let y : drop (suc u) (turn p (paste b p (x ∷ []) 1)) ≡ take (length (drop u R) - 1) (drop u R) =
        ap (drop (suc u)) e ∙ drop-take u (c - 1) R ∙ ap (λ (k : ℕ). take k (drop u R)) m in
        λ i. record { capacity = c; start = p; held = s i; spare = y i }

    pub cleared : ring c 0 0 b ≡ clear (ring c t u b)
    cleared =
        let z : wrap (t + (c - t)) (length b) ≡ 0 = wrap-high (t + (c - t)) (length b) (omega arith) ∙ omega arith in
        let y : turn 0 b ≡ turn (c - t) (take u (turn t b) ++ drop u (turn t b)) =
        sym (ap (turn (c - t)) (take-append-drop u (turn t b)) ∙ turn-turn t (c - t) b (omega arith) (omega arith) ∙ ap (λ (x : ℕ). turn x b) z) in
        λ i. record { capacity = c; start = 0; held = []; spare = y i }
