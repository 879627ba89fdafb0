-- Our contracts imply those of Gale's ring_buf.rs. Assumes nothing.
use mathlib.Core.Path.{◌≡◌, refl, sym, ap, subst, ◌∙◌}
use mathlib.Core.Bool.{true}
use mathlib.Core.List.{List, [], ◌∷◌, ◌++◌}
use Prim.Native.Nat.{ℕ, ◌+◌, ◌-◌, ◌≤◌, ◌<◌}
use native.Mathlib.Omega.{arith}
use borrow.Author.Tests.{lt-ltb, le-ltb}
use lib.IntN.{ℤ}
use lib.ListN.{length, take, drop, get_or, length-append, length-drop}
use Rattle.thread.specs.Code.{ok, eagain}
use Rattle.store.specs.Store.{refuse, accept, Becomes}
use Rattle.store.proofs.Determined.{did_same, hands_only}
use Rattle.store.proofs.Laws.{any_some, any_none, became, kept_no}
use Rattle.ring_buf.specs.Ring.{Ring, wrap, append, leave}
use Rattle.ring_buf.specs.Bytes.{held, bytes, put, get}
use Rattle.ring_buf.specs.Post.{Puts, Gets}
use Rattle.ring_buf.specs.Upstream.{RingBuf, struct, view, shown, next_idx, Consistent, Inv, Housed, Put, Get}
use Rattle.ring_buf.proofs.Rings.{by-lt, wrap-low, wrap-high, wrap-below, wrap-wrap}
use Rattle.ring_buf.proofs.Headers.{Sound, from-sound, is-sound}
use Rattle.ring_buf.proofs.Answers.{held_is, spare-is, put-done, get-done}
use Rattle.ring_buf.proofs.Determined.{faithful}

-- ---- on numbers

module _ (c t n : ℕ) (h : t < c) (size : n ≤ c) where
  pub consistent : Consistent (struct c t n)
  consistent = record { low = λ f. wrap-low (t + n) c f; high = λ f. wrap-high (t + n) c f }

  pub inv : Inv (struct c t n)
  inv = record { some_room = omega arith; head = h; tail = wrap-below (t + n) c (omega arith); size = size; consistent = consistent }

  next : (i : ℕ) → i < c → wrap (i + 1) c ≡ next_idx i c
  next i f =
      by-lt (i + 1) c
      (λ g. wrap-low (i + 1) c g ∙ rw (lt-ltb (i + 1) c g))
      (λ g. wrap-high (i + 1) c g ∙ rw (le-ltb (i + 1) c g) (omega arith))

  -- one more, and one fewer
  more : n < c → wrap (t + (n + 1)) c ≡ next_idx (wrap (t + n) c) c
  more f = sym (wrap-wrap t n 1 c h (omega arith)) ∙ next (wrap (t + n) c) (wrap-below (t + n) c (omega arith))

  fewer : 0 < n → wrap (wrap (t + 1) c + (n - 1)) c ≡ wrap (t + n) c
  fewer f = let e : 1 + (n - 1) ≡ n = omega arith in wrap-wrap t 1 (n - 1) c h (omega arith) ∙ ap (λ (x : ℕ). wrap (t + x) c) e

-- ---- in memory

-- it is as it should be exactly if upstream's invariant holds of its header, and it is housed
pub inv-formed : (h b : List ℕ) → Housed h b → Inv (view h) → bytes.formed h b ≡ true
inv-formed h b k i = is-sound h b (record { words = k.words; start = i.head; size = i.size; room = k.buffer })

pub formed-inv : (h b : List ℕ) → bytes.formed h b ≡ true → Housed h b × Inv (view h)
formed-inv h b e =
    let s = from-sound h b e in
    (record { words = s.words; buffer = s.room }, inv (get_or h 0 0) (get_or h 1 0) (get_or h 2 0) s.start s.size)

pub became_view : {s : Ring ℕ} {h b h' b' : List ℕ} → Becomes bytes s h b h' b' → view h' ≡ shown s
became_view {h' = h'} {b'} m =
    ap (λ (n : ℕ). struct (get_or h' 0 0) (get_or h' 1 0) n) (sym (held_is h' b' (from-sound h' b' m.formed))) ∙ ap shown m.object

module _ (h b : List ℕ) (r : ℤ) (h' : List ℕ) (k : Housed h b) (i : Inv (view h)) where
  abbrev good : bytes.formed h b ≡ true
  good = inv-formed h b k i

  abbrev s : Sound h b
  s = from-sound h b good

  abbrev is : ℕ → ℕ → RingBuf
  is t n = struct (get_or h 0 0) t n

  pub ring-put : (x : ℕ) (b' : List ℕ) → Puts x h b r h' b' → Put x (view h) b r (view h') b'
  ring-put x b' d = by-lt (get_or h 2 0) (get_or h 0 0) done full
    where
      done : get_or h 2 0 < get_or h 0 0 → Put x (view h) b r (view h') b'
      done f =
          let e : put x (held h b) ≡ accept (append (x ∷ []) (held h b)) ok [] = rw (any_some (held h b).spare (omega (arith, spare-is h b s))) refl in
          let n : length ((held h b).held ++ x ∷ []) ≡ get_or h 2 0 + 1 = length-append (held h b).held (x ∷ []) ∙ ap (λ (y : ℕ). y + 1) (held_is h b s) in
          let v : view h' ≡ is (get_or h 1 0) (get_or h 2 0 + 1) = became_view (became bytes (put x) h b d good e) ∙ ap (is (get_or h 1 0)) n in
          let o = did_same faithful h b (put x) d (put-done h b s x (view h).tail f refl) in
          subst (λ (v' : RingBuf). Put x (view h) b r v' b') (sym v)
          (record {
            inv = inv (get_or h 0 0) (get_or h 1 0) (get_or h 2 0 + 1) s.start (omega arith);
            room = refl;
            done = λ z. o.0;
            slot = λ z. o.2;
            longer = λ z. refl;
            tail = λ z. more (get_or h 0 0) (get_or h 1 0) (get_or h 2 0) s.start s.size f;
            head = λ z. refl;
            full = λ z. absurd (omega arith);
            full_size = λ z. absurd (omega arith);
            full_tail = λ z. absurd (omega arith);
            full_head = λ z. absurd (omega arith);
          })

      full : get_or h 0 0 ≤ get_or h 2 0 → Put x (view h) b r (view h') b'
      full f =
          let e : put x (held h b) ≡ refuse eagain = rw (any_none (held h b).spare (omega (arith, spare-is h b s))) refl in
          let o = kept_no bytes (put x) h b d good e in
          subst (λ (l : List ℕ). Put x (view h) b r (view l) b') (sym o.1)
          (record {
            inv = i;
            room = refl;
            done = λ z. absurd (omega arith);
            slot = λ z. absurd (omega arith);
            longer = λ z. absurd (omega arith);
            tail = λ z. absurd (omega arith);
            head = λ z. absurd (omega arith);
            full = λ z. o.0;
            full_size = λ z. refl;
            full_tail = λ z. refl;
            full_head = λ z. refl;
          })

  pub ring-get : (x y : ℕ) → Gets h b x r h' y → Get (view h) b r (view h') y
  ring-get x y (d, q) = by-lt 0 (get_or h 2 0) done nothing
    where
      done : 0 < get_or h 2 0 → Get (view h) b r (view h') y
      done f =
          let e : get (held h b) ≡ accept (leave 1 (held h b)) ok (take 1 (held h b).held) = rw (any_some (held h b).held (omega (arith, held_is h b s))) refl in
          let n : length (drop 1 (held h b).held) ≡ get_or h 2 0 - 1 = length-drop 1 (held h b).held ∙ ap (λ (y : ℕ). y - 1) (held_is h b s) in
          let v : view h' ≡ is (wrap (get_or h 1 0 + 1) (get_or h 0 0)) (get_or h 2 0 - 1) =
          became_view (became bytes get h b d good e) ∙ ap (is (wrap (get_or h 1 0 + 1) (get_or h 0 0))) n in
          let o = hands_only faithful h b get x (r, h', y) _ (d, q) (get-done h b s x (get_or h 1 0) _ f refl refl) in
          subst (λ (v' : RingBuf). Get (view h) b r v' y) (sym v)
          (record {
            inv = inv (get_or h 0 0) (wrap (get_or h 1 0 + 1) (get_or h 0 0)) (get_or h 2 0 - 1) (wrap-below (get_or h 1 0 + 1) (get_or h 0 0) (omega arith)) (omega arith);
            room = refl;
            done = λ z j. (o j).0;
            slot = λ z j. (o j).2;
            shorter = λ z. refl;
            head = λ z. next (get_or h 0 0) (get_or h 1 0) (get_or h 2 0) s.start s.size (get_or h 1 0) s.start;
            tail = λ z. fewer (get_or h 0 0) (get_or h 1 0) (get_or h 2 0) s.start s.size f;
            none_held = λ z. absurd (omega arith);
            none_size = λ z. absurd (omega arith);
            none_head = λ z. absurd (omega arith);
            none_tail = λ z. absurd (omega arith);
          })

      nothing : get_or h 2 0 ≤ 0 → Get (view h) b r (view h') y
      nothing f =
          let e : get (held h b) ≡ refuse eagain = rw (any_none (held h b).held (omega (arith, held_is h b s))) refl in
          let o = kept_no bytes get h b d good e in
          subst (λ (l : List ℕ). Get (view h) b r (view l) y) (sym o.1)
          (record {
            inv = i;
            room = refl;
            done = λ z. absurd (omega arith);
            slot = λ z. absurd (omega arith);
            shorter = λ z. absurd (omega arith);
            head = λ z. absurd (omega arith);
            tail = λ z. absurd (omega arith);
            none_held = λ z. o.0;
            none_size = λ z. refl;
            none_head = λ z. refl;
            none_tail = λ z. refl;
          })
