-- What each function's answer means for the ring. Assumes nothing.
use mathlib.Core.Path.{◌≡◌, refl, sym, ap, ◌∙◌}
use mathlib.Core.Bool.{true}
use mathlib.Core.List.{List, [], ◌∷◌, ◌++◌}
use Prim.Native.Nat.{ℕ, ◌+◌, ◌-◌, ◌≤◌, ◌<◌, min}
use native.Mathlib.Omega.{arith}
use borrow.Author.Tests.{lt-ltb, le-ltb, le-leb}
use lib.IntN.{pos}
use lib.ListN.{length, take, drop, get_or, set, length-set, length-take, length-drop, length-append}
use lib.Seq.{take_all, take_at, drop-append_seam, take-take, paste, length-take-le, get_or-take, drop-cons}
use Rattle.seq.proofs.Words.{by-words}
use Rattle.thread.specs.Code.{ok, eagain, einval}
use Rattle.store.specs.Store.{accept, Becomes, looks}
use Rattle.store.proofs.Laws.{any_some, any_none, did_no, did_yes, fills_yes, hands_no, hands_yes, looks-is, as_was, start-made}
use Rattle.ring_buf.specs.Ring.{Ring, wrap, turn, ring, append, leave}
use Rattle.ring_buf.specs.Bytes.{sound, held, bytes, put, get, put_many, get_many, peek, reset, size_of, space_of, capacity_of, head_of, tail_of, empty, full}
use Rattle.ring_buf.specs.Post.{Starts, Puts, Gets, PutsN, GetsN, PeeksAt, Resets}
use Rattle.ring_buf.proofs.Rings.{by-lt, drop-take, wrap-low, wrap-below, length-turn, turn-part, set-paste, appended, left, cleared, held-long, spare-long}
use Rattle.ring_buf.proofs.Parts.{piece, beside}
use Rattle.ring_buf.proofs.Headers.{Sound, is-sound}

take-take-least : (m n : ℕ) (l : List ℕ) → take m (take n l) ≡ take (min m n) l
take-take-least m n l =
    by-lt m n
    (λ f. let e : m ≡ min m n = omega arith in take-take m n l (omega arith) ∙ ap (λ (k : ℕ). take k l) e)
    (λ f. let e : n ≡ min m n = omega arith in take_all m (take n l) (omega (arith, length-take n l)) ∙ ap (λ (k : ℕ). take k l) e)

-- a header whose three words are new, and a buffer
becomes : (h b h' b' : List ℕ) (c t n : ℕ) {r : Ring ℕ} → 3 ≤ length h → h' ≡ c ∷ t ∷ n ∷ drop 3 h → t < c → n ≤ c → c ≤ length b → length b' ≡ length b
    → drop c b' ≡ drop c b → ring c t n (take c b') ≡ r → Becomes bytes r h b h' b'
becomes h b h' b' c t n k e f g room l d o =
    rw e
    (record {
      formed = is-sound (c ∷ t ∷ n ∷ drop 3 h) b' (record { words = omega arith; start = f; size = g; room = omega arith });
      object = o;
      beside = refl;
      rest = d;
      long = (simp length-drop (omega arith), l);
    })

module _ (h b : List ℕ) (s : Sound h b) where
  abbrev c : ℕ
  c = get_or h 0 0

  abbrev t : ℕ
  t = get_or h 1 0

  abbrev n : ℕ
  n = get_or h 2 0

  abbrev B : List ℕ
  B = take c b

  good : sound h b ≡ true
  good = is-sound h b s

  long : length B ≡ c
  long = length-take-le c b s.room

  pub held_is : length (held h b).held ≡ n
  held_is = held-long c t n B long s.start s.size

  pub spare-is : length (held h b).spare ≡ c - n
  spare-is = spare-long c t n B long s.start s.size

  -- the words that are written
  one-new : (n' : ℕ) → set h 2 n' ≡ c ∷ t ∷ n' ∷ drop 3 h
  one-new n' = by-words 3 (λ (h : List ℕ). set h 2 n' ≡ get_or h 0 0 ∷ get_or h 1 0 ∷ n' ∷ drop 3 h) (λ c t n rest. refl) h s.words

  two-new : (t' n' : ℕ) → set (set h 1 t') 2 n' ≡ c ∷ t' ∷ n' ∷ drop 3 h
  two-new t' n' = by-words 3 (λ (h : List ℕ). set (set h 1 t') 2 n' ≡ get_or h 0 0 ∷ t' ∷ n' ∷ drop 3 h) (λ c t n rest. refl) h s.words

  pub put_full : (x : ℕ) → n ≡ c → Puts x h b eagain h b
  put_full x e = did_no bytes (put x) h b good (rw (any_none (held h b).spare (omega (arith, spare-is))) refl)

  pub put-done : (x a : ℕ) → n < c → a ≡ wrap (t + n) c → Puts x h b ok (set h 2 (n + 1)) (set b a x)
  put-done x a f e =
      let w = wrap-below (t + n) c (omega arith) in
      let p = set-paste b a x (omega arith) in
      did_yes bytes (put x) h b {l = []} good (rw (any_some (held h b).spare (omega (arith, spare-is))) refl)
      (becomes h b (set h 2 (n + 1)) (set b a x) c t (n + 1) s.words (one-new (n + 1)) s.start (omega arith) s.room (length-set b a x)
      (ap (drop c) p ∙ beside c t n a 1 b (x ∷ []) s.start s.room e (omega arith) (omega arith) (omega arith))
      (appended c t n B long s.start s.size 1 (take c (set b a x)) (x ∷ []) (omega arith) (omega arith)
      (ap (λ (l : List ℕ). turn t (take c l)) p ∙ piece c t n a 1 b (x ∷ []) s.start s.room e (omega arith) (omega arith) (omega arith))))

  -- the first k leave
  leaves : (k t' : ℕ) → k ≤ n → t' ≡ wrap (t + k) c → Becomes bytes (leave k (held h b)) h b (set (set h 1 t') 2 (n - k)) b
  leaves k t' f e =
      becomes h b (set (set h 1 t') 2 (n - k)) b c t' (n - k) s.words (two-new t' (n - k)) (omega (arith, wrap-below (t + k) c (omega arith)))
      (omega arith) s.room refl refl
      (ap (λ (x : ℕ). ring c x (n - k) B) e ∙ left c t n B long s.start s.size k f)

  -- the byte behind i others stands at the place a
  sees : (i a : ℕ) → i < n → a ≡ wrap (t + i) c → take 1 (drop i (held h b).held) ≡ get_or b a 0 ∷ []
  sees i a f e =
      let w = wrap-below (t + i) c (omega arith) in
      ap (take 1) (drop-take i n (turn t B)) ∙ take-take 1 (n - i) (drop i (turn t B)) (omega arith)
      ∙ sym (turn-part t i 1 a B (omega (arith, long)) (omega (arith, long)) (e ∙ ap (wrap (t + i)) (sym long)) (omega (arith, w, long)))
      ∙ ap (take 1) (drop-cons B a 0 (omega (arith, w, long))) ∙ ap (λ (x : ℕ). x ∷ []) (get_or-take c b a 0 (omega (arith, w)))

  pub get-done : (x a t' : ℕ) → 0 < n → a ≡ t → t' ≡ wrap (t + 1) c → Gets h b x ok (set (set h 1 t') 2 (n - 1)) (get_or b a 0)
  get-done x a t' f g e =
      let z : t + 0 ≡ t = omega arith in
      let w : a ≡ wrap (t + 0) c = g ∙ sym (ap (λ (y : ℕ). wrap y c) z ∙ wrap-low t c s.start) in
      hands_yes bytes get h b x {l = get_or b a 0 ∷ []} good
      (rw (any_some (held h b).held (omega (arith, held_is))) (ap (accept (leave 1 (held h b)) ok) (sees 0 a f w))) (leaves 1 t' f e)

  pub peek-past : (x i : ℕ) → n ≤ i → PeeksAt i h b x einval x
  peek-past x i f = hands_no bytes (peek i) h b x good (rw (le-ltb i (length (held h b).held) (omega (arith, held_is))) refl)

  pub peek-done : (x i a : ℕ) → i < n → a ≡ wrap (t + i) c → PeeksAt i h b x ok (get_or b a 0)
  peek-done x i a f e =
      hands_yes bytes (peek i) h b x {l = get_or b a 0 ∷ []} good
      (rw (lt-ltb i (length (held h b).held) (omega (arith, held_is))) (ap (accept (held h b) ok) (sees i a f e))) (as_was bytes h b good)

  -- with the words as they were read
  pub put_n-done : (c' t' n' k : ℕ) (l q : List ℕ) → c' ≡ c → t' ≡ t → n' ≡ n → k ≡ min (length l) (c' - n') → length q ≡ c'
      → turn t' q ≡ paste (turn t' (take c' b)) n' (take k l) (length (take k l)) → PutsN l h b (pos k) (set h 2 (n' + k)) (q ++ drop c' b)
  put_n-done c' t' n' k l q x y z =
      rw (x, y, z)
      (λ e f w.
      let m : length (take k l) ≡ k = length-take k l ∙ omega arith in
      let v : min (length l) (length (held h b).spare) ≡ k = ap (min (length l)) spare-is ∙ sym e in
      let u : take (length (take k l)) (take k l) ≡ take k l = take_all (length (take k l)) (take k l) (omega arith) in
      let i : take c (q ++ drop c b) ≡ q = take_at q (drop c b) c f in
      did_yes bytes (put_many l) h b good (λ i. accept (append (take (v i) l) (held h b)) (pos (v i)) [])
      (becomes h b (set h 2 (n + k)) (q ++ drop c b) c t (n + k) s.words (one-new (n + k)) s.start (omega arith) s.room
      (length-append q (drop c b) ∙ omega (arith, length-drop c b, s.room)) (ap (λ (i : ℕ). drop i (q ++ drop c b)) (sym f) ∙ drop-append_seam q (drop c b))
      (ap (λ (j : ℕ). ring c t (n + j) (take c (q ++ drop c b))) (sym m)
      ∙ appended c t n B long s.start s.size (length (take k l)) (take c (q ++ drop c b)) (take k l) (omega arith) (omega arith) (ap (turn t) i ∙ w)
      ∙ ap (λ (q : List ℕ). append q (held h b)) u)))

  pub get_n-done : (c' t' n' : ℕ) (o o' q : List ℕ) (k a : ℕ) → c' ≡ c → t' ≡ t → n' ≡ n → k ≡ min (length o) n' → a ≡ wrap (t' + k) c'
      → q ≡ take (length (take k o)) (turn t' (take c' b)) → o' ≡ q ++ drop k o → GetsN h b o (pos k) (set (set h 1 a) 2 (n' - k)) o'
  get_n-done c' t' n' o o' q k a x y z =
      rw (x, y, z)
      (λ e w is all.
      let m : length (take k o) ≡ k = length-take k o ∙ omega arith in
      let v : min (length o) (length (held h b).held) ≡ k = ap (min (length o)) held_is ∙ sym e in
      let u : take (length o) (held h b).held ≡ q =
      take-take-least (length o) n (turn t B) ∙ ap (λ (j : ℕ). take j (turn t B)) (sym e ∙ sym m) ∙ sym is in
      let p : k ≡ length q = sym (ap length is ∙ length-take (length (take k o)) (turn t B) ∙ omega (arith, length-turn t B (omega (arith, long)), long)) in
      fills_yes bytes (get_many (length o)) h b o good (λ i. accept (leave (v i) (held h b)) (pos (v i)) (u i)) (leaves k a (omega arith) w)
      (all ∙ ap (λ (j : ℕ). q ++ drop j o) p))

  pub reset-done : Resets h b ok (set (set h 1 0) 2 0)
  reset-done =
      did_yes bytes reset h b good refl
      (becomes h b (set (set h 1 0) 2 0) b c 0 0 s.words (two-new 0 0) (omega arith) (omega arith) s.room refl refl (cleared c t n B long s.start s.size))

  -- ---- what is told

  pub size-told : looks bytes size_of h b ≡ pos (get_or h 2 0)
  size-told = looks-is bytes h b size_of good ∙ ap pos held_is

  pub space-told : looks bytes space_of h b ≡ pos (get_or h 0 0 - get_or h 2 0)
  space-told = looks-is bytes h b space_of good ∙ ap pos spare-is

  pub capacity-told : looks bytes capacity_of h b ≡ pos (get_or h 0 0)
  capacity-told = looks-is bytes h b capacity_of good

  pub head-told : looks bytes head_of h b ≡ pos (get_or h 1 0)
  head-told = looks-is bytes h b head_of good

  pub tail-told : looks bytes tail_of h b ≡ pos (wrap (get_or h 1 0 + get_or h 2 0) (get_or h 0 0))
  tail-told = looks-is bytes h b tail_of good ∙ ap (λ (n : ℕ). pos (wrap (get_or h 1 0 + n) (get_or h 0 0))) held_is

  pub empty-told : get_or h 2 0 ≡ 0 → looks bytes empty h b ≡ pos 1
  empty-told e = looks-is bytes h b empty good ∙ rw (any_none (held h b).held (held_is ∙ e)) refl

  pub some-told : (get_or h 2 0 ≡ 0 → ⊥) → looks bytes empty h b ≡ pos 0
  some-told f = looks-is bytes h b empty good ∙ rw (any_some (held h b).held (omega (arith, held_is))) refl

  pub full-told : get_or h 2 0 ≡ get_or h 0 0 → looks bytes full h b ≡ pos 1
  full-told e = looks-is bytes h b full good ∙ rw (any_none (held h b).spare (omega (arith, spare-is))) refl

  pub free-told : (get_or h 2 0 ≡ get_or h 0 0 → ⊥) → looks bytes full h b ≡ pos 0
  free-told f = looks-is bytes h b full good ∙ rw (any_some (held h b).spare (omega (arith, spare-is, s.size))) refl

-- a new ring
module _ (h b : List ℕ) (c : ℕ) where
  pub made : 3 ≤ length h → 0 < c → c ≤ length b → Starts c h b ok (set (set (set h 0 c) 1 0) 2 0)
  made k f g =
      start-made k (rw (lt-ltb 0 c f, le-leb c (length b) g))
      (becomes h b (set (set (set h 0 c) 1 0) 2 0) b c 0 0 k
      (by-words 3 (λ (h : List ℕ). set (set (set h 0 c) 1 0) 2 0 ≡ c ∷ 0 ∷ 0 ∷ drop 3 h) (λ x y z rest. refl) h k) f (omega arith) g refl refl refl)
