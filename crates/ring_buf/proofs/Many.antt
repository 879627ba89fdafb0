-- Upstream's put_n and get_n; and which bytes are put and got, of which upstream does not speak. Assumes nothing.
use mathlib.Core.Path.{◌≡◌, refl, sym, ap, subst, ◌∙◌}
use mathlib.Core.Bool.{true}
use mathlib.Core.List.{List, [], ◌∷◌, ◌++◌}
use Prim.Native.Nat.{ℕ, ◌+◌, ◌-◌, ◌<◌, min}
use native.Mathlib.Omega.{arith}
use lib.IntN.{ℤ, pos}
use lib.ListN.{length, take, drop, get_or, length-append, length-take, length-drop, take-append-drop}
use lib.Seq.{take_at}
use Rattle.thread.specs.Code.{ok}
use Rattle.store.specs.Store.{accept, out, first}
use Rattle.store.proofs.Laws.{any_some, became, answers, handed-is}
use Rattle.ring_buf.specs.Ring.{Ring, wrap, append, leave}
use Rattle.ring_buf.specs.Bytes.{held, bytes, put, get, put_many, get_many}
use Rattle.ring_buf.specs.Post.{Puts, Gets, PutsN, GetsN}
use Rattle.ring_buf.specs.Upstream.{RingBuf, struct, view, Inv, Housed, PutN, GetN, Stored, Taken}
use Rattle.ring_buf.proofs.Rings.{wrap-below}
use Rattle.ring_buf.proofs.Headers.{Sound, from-sound}
use Rattle.ring_buf.proofs.Answers.{held_is, spare-is}
use Rattle.ring_buf.proofs.Parts.{take-least}
use Rattle.ring_buf.proofs.Upstream.{inv, inv-formed, became_view}

module _ (h b : List ℕ) (r : ℤ) (h' : List ℕ) (k : Housed h b) (i : Inv (view h)) where
  abbrev good : bytes.formed h b ≡ true
  good = inv-formed h b k i

  abbrev s : Sound h b
  s = from-sound h b good

  abbrev is : ℕ → ℕ → RingBuf
  is t n = struct (get_or h 0 0) t n

  pub ring-put_n : (l b' : List ℕ) → PutsN l h b r h' b' → PutN (length l) (view h) r (view h')
  ring-put_n l b' d =
      let q = min (length l) (length (held h b).spare) in
      let p = spare-is h b s in
      let n : length ((held h b).held ++ take q l) ≡ get_or h 2 0 + q = length-append (held h b).held (take q l) ∙ omega (arith, held_is h b s, length-take q l) in
      let v : view h' ≡ is (get_or h 1 0) (get_or h 2 0 + q) = became_view (became bytes (put_many l) h b d good refl) ∙ ap (is (get_or h 1 0)) n in
      subst (λ (v' : RingBuf). PutN (length l) (view h) r v') (sym v)
      (record {
        result = q;
        is = answers bytes (put_many l) h b d good;
        inv = inv (get_or h 0 0) (get_or h 1 0) (get_or h 2 0 + q) s.start (omega arith);
        room = refl;
        asked = omega arith;
        fits = omega arith;
        size = refl;
      })

  pub ring-get_n : (o o' : List ℕ) → GetsN h b o r h' o' → GetN (length o) (view h) r (view h')
  ring-get_n o o' (d, f) =
      let q = min (length o) (length (held h b).held) in
      let p = held_is h b s in
      let n : length (drop q (held h b).held) ≡ get_or h 2 0 - q = length-drop q (held h b).held ∙ ap (λ (y : ℕ). y - q) p in
      let v : view h' ≡ is (wrap (get_or h 1 0 + q) (get_or h 0 0)) (get_or h 2 0 - q) =
      became_view (became bytes (get_many (length o)) h b d good refl) ∙ ap (is (wrap (get_or h 1 0 + q) (get_or h 0 0))) n in
      subst (λ (v' : RingBuf). GetN (length o) (view h) r v') (sym v)
      (record {
        result = q;
        is = answers bytes (get_many (length o)) h b d good;
        inv = inv (get_or h 0 0) (wrap (get_or h 1 0 + q) (get_or h 0 0)) (get_or h 2 0 - q) (wrap-below (get_or h 1 0 + q) (get_or h 0 0) (omega arith)) (omega arith);
        room = refl;
        asked = omega arith;
        there = omega arith;
        size = refl;
      })

  -- which bytes: all that there is room for, or that there are
  pub put-stores : (x : ℕ) (b' : List ℕ) → get_or h 2 0 < get_or h 0 0 → Puts x h b r h' b' → Stored (x ∷ []) (held h b) (held h' b')
  put-stores x b' f d =
      let e : put x (held h b) ≡ accept (append (x ∷ []) (held h b)) ok [] = rw (any_some (held h b).spare (omega (arith, spare-is h b s))) refl in
      record { held = ap (λ (r : Ring ℕ). r.held) (became bytes (put x) h b d good e).object }

  pub put_n-stores : (l b' : List ℕ) → PutsN l h b r h' b'
      → (r ≡ pos (min (length l) (get_or h 0 0 - get_or h 2 0))) × Stored (take (min (length l) (get_or h 0 0 - get_or h 2 0)) l) (held h b) (held h' b')
  put_n-stores l b' d =
      let e = spare-is h b s in (
        answers bytes (put_many l) h b d good ∙ ap (λ (n : ℕ). pos (min (length l) n)) e,
        record {
          held = ap (λ (r : Ring ℕ). r.held) (became bytes (put_many l) h b d good refl).object ∙ ap (λ (n : ℕ). (held h b).held ++ take (min (length l) n) l) e;
        },
      )

  pub get-takes : (x y : ℕ) → 0 < get_or h 2 0 → Gets h b x r h' y → Taken (y ∷ []) (held h b) (held h' b)
  get-takes x y f (d, q) =
      let e : get (held h b) ≡ accept (leave 1 (held h b)) ok (take 1 (held h b).held) = rw (any_some (held h b).held (omega (arith, held_is h b s))) refl in
      record {
        held =
            sym ((λ j. (q ∙ ap (first x) (handed-is bytes get h b good ∙ ap out e)) j ∷ ((became bytes get h b d good e).object j).held)
            ∙ whole (held h b).held (omega (arith, held_is h b s)));
      }
    where
      whole : (l : List ℕ) → 0 < length l → first x (take 1 l) ∷ drop 1 l ≡ l
      whole [] f = absurd (omega arith)
      whole (z ∷ l) f = refl

  pub get_n-takes : (o o' : List ℕ) → GetsN h b o r h' o'
      → (r ≡ pos (min (length o) (get_or h 2 0))) × Taken (take (min (length o) (get_or h 2 0)) o') (held h b) (held h' b)
  get_n-takes o o' (d, f) =
      let l = (held h b).held in
      let q = min (length o) (length l) in
      let e : q ≡ min (length o) (get_or h 2 0) = ap (min (length o)) (held_is h b s) in
      let g : o' ≡ take (length o) l ++ drop (length (take (length o) l)) o = rw (handed-is bytes (get_many (length o)) h b good) at f in
      let x : take q o' ≡ take q l = ap (take q) g ∙ take_at (take (length o) l) (drop (length (take (length o) l)) o) q (length-take (length o) l) ∙ take-least (length o) l in (
        answers bytes (get_many (length o)) h b d good ∙ ap pos e,
        record {
          held =
              sym ((λ j. (ap (λ (n : ℕ). take n o') (sym e) ∙ x) j ++ ((became bytes (get_many (length o)) h b d good refl).object j).held) ∙ take-append-drop q l);
        },
      )
