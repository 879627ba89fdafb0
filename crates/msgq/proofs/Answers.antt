-- What each call's answer means for the queue. Assumes nothing.
use mathlib.Core.Path.{◌≡◌, refl, sym, ap, ◌∙◌}
use mathlib.Core.Bool.{true}
use mathlib.Core.List.{List, [], ◌∷◌}
use Prim.Native.Nat.{ℕ, ◌+◌, ◌-◌, ◌*◌, ◌≤◌, ◌<◌}
use native.Mathlib.Omega.{arith}
use native.Mathlib.Numerals.{add-one}
use borrow.Author.Tests.{lt-ltb, le-ltb, eq-eqb, eqb-true, eqb-false}
use lib.Dec.{eqb}
use lib.IntN.{ℤ, pos}
use lib.ListN.{length, take, drop, get_or, set}
use lib.Seq.{get_or-take, paste, length-paste}
use Rattle.thread.specs.Code.{ok, enomsg}
use Rattle.store.specs.Store.{accept, looks, Filled}
use Rattle.thread.specs.Answer.{truth}
use Rattle.store.proofs.Laws.{either, any_some, any_none, did_no, did_yes, fills_yes, looks-is, as_was}
use Rattle.ring_buf.specs.Ring.{wrap, turn, ring, leave}
use Rattle.ring_buf.proofs.Rings.{wrap-low, wrap-below, turn-paste, appended, left, led, drop-within, held-long, spare-long}
use Rattle.ring_buf.proofs.Parts.{whole}
use Rattle.msgq.specs.Messages.{slots}
use Rattle.msgq.specs.Msgq.{Msgq, having, put, put_front, get, peek, purge, num_free, num_used, write_at, full, empty}
use Rattle.msgq.specs.Post.{Puts, PutsFront, Gets, PeeksAt, Purges, sound, held, messages}
use Rattle.msgq.proofs.Messages.{length-slots, slot-room, slot_at, slot-long, slot-paste, turn_at}
use Rattle.msgq.specs.Numbers.{Header}
use Rattle.msgq.specs.declared.slots.Slots.{Slots}
use Rattle.msgq.proofs.Headers.{Sound, is-sound, from-sound}
use Rattle.msgq.proofs.Places.{becomes, set-used, set_both}

module _ (h b : List ℕ) where
  module _ (s : Sound h b) where
    abbrev c : ℕ
    c = get_or h 0 0

    abbrev t : ℕ
    t = get_or h 1 0

    abbrev n : ℕ
    n = get_or h 2 0

    abbrev z : ℕ
    z = get_or h 3 0

    abbrev S : List (List ℕ)
    S = slots z c b

    good : sound h b ≡ true
    good = is-sound h b s

    many : length S ≡ c
    many = length-slots z c b

    pub hold : length (take n (turn t S)) ≡ n
    hold = held-long c t n S many s.within.idx s.within.used

    pub spare : length (drop n (turn t S)) ≡ c - n
    spare = spare-long c t n S many s.within.idx s.within.used

    -- a slot is within the buffer
    pub slot-fits : (k a : ℕ) → k ≡ z → a < c → a * k + k ≤ length b
    slot-fits k a e f = rw e (omega (arith, slot-room z c a f, s.room.long))

    pub slot-below : (k a : ℕ) → k ≤ c → a ≡ wrap (t + k) c → a < c
    slot-below k a e f = omega (arith, wrap-below (t + k) c (omega (arith, s.within.idx)))

    pub zero-behind : t ≡ wrap (t + 0) c
    zero-behind = let y : t + 0 ≡ t = omega arith in sym (ap (λ (x : ℕ). wrap x c) y ∙ wrap-low t c s.within.idx)

    -- what is read
    pub looks_yes : (f : Msgq → ℤ) → f (held h b) ≡ looks messages f h b
    looks_yes f = sym (looks-is messages h b f good)

    pub free-is : pos (c - n) ≡ looks messages num_free h b
    free-is = ap pos (sym spare) ∙ looks_yes num_free

    pub used-is : pos n ≡ looks messages num_used h b
    used-is = ap pos (sym hold) ∙ looks_yes num_used

    pub write-is : (a : ℕ) → a ≡ wrap (t + n) c → pos a ≡ looks messages write_at h b
    write-is a e = ap pos (e ∙ ap (λ (x : ℕ). wrap (t + x) c) (sym hold)) ∙ looks_yes write_at

    full-is : truth (eqb n c) ≡ looks messages full h b
    full-is =
        either (eqb n c)
        (λ e. rw (e, good, any_none (drop n (turn t S)) (omega (arith, spare, eqb-true n c e))))
        (λ e. rw (e, good, any_some (drop n (turn t S)) (omega (arith, spare, eqb-false n c e, s.within.used))))

    empty-is : truth (eqb n 0) ≡ looks messages empty h b
    empty-is =
        either (eqb n 0)
        (λ e. rw (e, good, any_none (take n (turn t S)) (omega (arith, hold, eqb-true n 0 e))))
        (λ e. rw (e, good, any_some (take n (turn t S)) (omega (arith, hold, eqb-false n 0 e))))

    -- the message i stands in the slot a
    pub placed : (i a : ℕ) → i < n → a ≡ wrap (t + i) c → get_or (take n (turn t S)) i [] ≡ get_or S a []
    placed i a f v =
        get_or-take n (turn t S) i [] f
        ∙ turn_at t i a S [] (omega (arith, many, s.within.idx)) (omega (arith, many, s.within.used)) (v ∙ ap (wrap (t + i)) (sym many))

    -- and fills a place of its size
    shown : (o : List ℕ) (i a : ℕ) (o' : List ℕ) → length o ≡ z → i < n → a ≡ wrap (t + i) c → o' ≡ take (length o) (drop (a * length o) b)
        → Filled (get_or (take n (turn t S)) i []) o o'
    shown o i a o' e f v w =
        let g = wrap-below (t + i) c (omega (arith, s.within.idx, s.within.used)) in
        let x : get_or (take n (turn t S)) i [] ≡ take z (drop (a * z) b) = placed i a f v ∙ slot_at z c a b (omega arith) in
        w ∙ ap (λ (k : ℕ). take k (drop (a * k) b)) e ∙ sym x
        ∙ sym (whole (get_or (take n (turn t S)) i []) o (ap length x ∙ slot-long z c a b (omega arith) s.room.long ∙ sym e))

    -- the message in the slot a
    module _ (m : List ℕ) (e : length m ≡ z) (f : n < c) (a : ℕ) (b' : List ℕ) (g : a < c) (w : b' ≡ paste b (a * length m) m (length m)) where
      is : b' ≡ paste b (a * z) m z
      is = w ∙ ap (λ (x : ℕ). paste b (a * x) m x) e

      over : a * z + z ≤ c * z
      over = slot-room z c a g

      same : length b' ≡ length b
      same = ap length is ∙ length-paste b (a * z) m z (omega (arith, over)) (omega arith)

      behind : drop (c * z) b' ≡ drop (c * z) b
      behind = ap (drop (c * z)) is ∙ drop-within (c * z) (a * z) z b m over s.room.long (omega arith)

      in_slot : slots z c b' ≡ paste S a (m ∷ []) 1
      in_slot = ap (slots z c) is ∙ slot-paste z c a b m g e s.room.long

      put-done : a ≡ wrap (t + n) c → Puts m h b ok (set h 2 (n + 1)) b'
      put-done v =
          did_yes messages (put m) h b {l = []} good (rw (eq-eqb (length m) z e, hold, lt-ltb n c f))
          (becomes h b (set h 2 (n + 1)) b' c t (n + 1) z s.words (set-used h s.words (n + 1)) s.within.idx (omega arith) s.room same behind
          (appended c t n S many s.within.idx s.within.used 1 (slots z c b') (m ∷ []) (omega arith) (omega arith)
          (ap (turn t) in_slot
          ∙ turn-paste t n 1 S (m ∷ []) (omega (arith, many)) (omega (arith, many)) (omega arith) a (v ∙ ap (wrap (t + n)) (sym many)) (omega (arith, many)))))

      front-done : a ≡ wrap (t + (c - 1)) c → PutsFront m h b ok (set (set h 1 a) 2 (n + 1)) b'
      front-done v =
          did_yes messages (put_front m) h b {l = []} good (rw (eq-eqb (length m) z e, hold, lt-ltb n c f))
          (becomes h b (set (set h 1 a) 2 (n + 1)) b' c a (n + 1) z s.words (set_both h s.words a (n + 1)) g (omega arith) s.room same behind
          ((λ i. ring c (v i) (add-one n i) ((in_slot ∙ ap (λ (x : ℕ). paste S x (m ∷ []) 1) v) i)) ∙ led c t n S many s.within.idx s.within.used m f))

-- by the numbers that the header says
module _ {h b : List ℕ} {q : Slots} (p : Header h b q) where
  s : Sound h b
  s = from-sound h b p.sound

  pub free_is : pos (q.max - q.used) ≡ looks messages num_free h b
  free_is = rw (p.max, p.used) (free-is h b s)

  pub used_is : pos q.used ≡ looks messages num_used h b
  used_is = rw p.used (used-is h b s)

  pub write_is : (a : ℕ) → a ≡ wrap (q.idx + q.used) q.max → pos a ≡ looks messages write_at h b
  write_is a e = write-is h b s a (cc)

  pub full_is : truth (eqb q.used q.max) ≡ looks messages full h b
  full_is = rw (p.used, p.max) (full-is h b s)

  pub empty_is : truth (eqb q.used 0) ≡ looks messages empty h b
  empty_is = rw p.used (empty-is h b s)

  pub purge_done : (a : ℕ) → a ≡ wrap (q.idx + q.used) q.max → Purges h b (pos q.used) (set (set h 1 a) 2 0)
  purge_done a v =
      let t = get_or h 1 0 in
      let n = get_or h 2 0 in
      let c = get_or h 0 0 in
      let S = slots (get_or h 3 0) c b in
      let e : a ≡ wrap (t + n) c = cc in
      let y : n - n ≡ 0 = omega arith in
      rw p.used
      (did_yes messages purge h b p.sound (λ i. accept (having (leave (hold h b s i) (ring c t n S)) (held h b)) (pos (hold h b s i)) [])
      (becomes h b (set (set h 1 a) 2 0) b c a 0 (get_or h 3 0) p.words (set_both h p.words a 0)
      (slot-below h b s n a s.within.used e) (omega arith) s.room refl refl
      ((λ i. ring c (e i) (sym y i) S) ∙ left c t n S (length-slots (get_or h 3 0) c b) s.within.idx s.within.used n (omega arith))))

  -- a slot is within the buffer
  pub slot_fits : (k a i : ℕ) → k ≡ get_or h 3 0 → a ≡ wrap (q.idx + i) q.max → i ≤ q.max → a * k + k ≤ length b
  slot_fits k a i e v j = slot-fits h b s k a e (slot-below h b s i a (omega (arith, p.max)) (cc))

  module _ (m : List ℕ) (e : length m ≡ get_or h 3 0) where
    -- no room
    module _ (f : q.used ≡ q.max) where
      at_most : get_or h 2 0 ≡ get_or h 0 0
      at_most = sym p.used ∙ f ∙ p.max

      pub put_full : Puts m h b enomsg h b
      put_full = did_no messages (put m) h b p.sound (rw (eq-eqb (length m) (get_or h 3 0) e, hold h b s, le-ltb (get_or h 2 0) (get_or h 0 0) (omega (arith, at_most))))

      pub front_full : PutsFront m h b enomsg h b
      front_full = did_no messages (put_front m) h b p.sound (rw (eq-eqb (length m) (get_or h 3 0) e, hold h b s, le-ltb (get_or h 2 0) (get_or h 0 0) (omega (arith, at_most))))

    module _ (f : q.used ≡ q.max → ⊥) (a : ℕ) (b' : List ℕ) (w : b' ≡ paste b (a * length m) m (length m)) where
      less : get_or h 2 0 < get_or h 0 0
      less = omega (arith, p.used, p.max, s.within.used)

      pub put_done : a ≡ wrap (q.idx + q.used) q.max → Puts m h b ok (set h 2 (q.used + 1)) b'
      put_done v =
          let x : a ≡ wrap (get_or h 1 0 + get_or h 2 0) (get_or h 0 0) = cc in
          rw p.used (put-done h b s m e less a b' (slot-below h b s (get_or h 2 0) a s.within.used x) w x)

      pub front_done : a ≡ wrap (q.idx + (q.max - 1)) q.max → PutsFront m h b ok (set (set h 1 a) 2 (q.used + 1)) b'
      front_done v =
          let x : a ≡ wrap (get_or h 1 0 + (get_or h 0 0 - 1)) (get_or h 0 0) = cc in
          rw p.used (front-done h b s m e less a b' (slot-below h b s (get_or h 0 0 - 1) a (omega arith) x) w x)

  module _ (o : List ℕ) (e : length o ≡ get_or h 3 0) (o' : List ℕ) (a : ℕ) (w : o' ≡ take (length o) (drop (a * length o) b)) where
    -- the message that stands in the slot a
    pub peek_done : (i : ℕ) → i < q.used → a ≡ wrap (q.idx + i) q.max → PeeksAt i h b o ok o'
    peek_done i f v =
        let g : i < get_or h 2 0 = omega (arith, p.used) in
        fills_yes messages (peek (length o) i) h b o {l = get_or (take (get_or h 2 0) (turn (get_or h 1 0) (slots (get_or h 3 0) (get_or h 0 0) b))) i []} p.sound
        (rw (eq-eqb (length o) (get_or h 3 0) e, hold h b s, lt-ltb i (get_or h 2 0) g)) (as_was messages h b p.sound) (shown h b s o i a o' e g (cc) w)

    pub get_done : (a' : ℕ) → (q.used ≡ 0 → ⊥) → a ≡ q.idx → a' ≡ wrap (q.idx + 1) q.max → Gets h b o ok (set (set h 1 a') 2 (q.used - 1)) o'
    get_done a' f x v =
        let c = get_or h 0 0 in
        let n = get_or h 2 0 in
        let z = get_or h 3 0 in
        let S = slots z c b in
        let g : 0 < n = omega (arith, p.used) in
        let y : a' ≡ wrap (get_or h 1 0 + 1) c = cc in
        rw p.used
        (fills_yes messages (get (length o)) h b o {l = get_or (take n (turn (get_or h 1 0) S)) 0 []} p.sound
        (rw (eq-eqb (length o) z e, hold h b s, lt-ltb 0 n g))
        (becomes h b (set (set h 1 a') 2 (n - 1)) b c a' (n - 1) z p.words (set_both h p.words a' (n - 1))
        (slot-below h b s 1 a' (omega (arith, s.within.idx)) y) (omega (arith, s.within.used)) s.room refl refl
        (ap (λ (x : ℕ). ring c x (n - 1) S) y ∙ left c (get_or h 1 0) n S (length-slots z c b) s.within.idx s.within.used 1 g))
        (shown h b s o 0 a o' e g (x ∙ p.idx ∙ zero-behind h b s) w))
