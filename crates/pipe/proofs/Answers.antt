-- What each function's answer means for the pipe. Assumes nothing.
use mathlib.Core.Path.{◌≡◌, refl, sym, ap, subst, ◌∙◌}
use mathlib.Core.Bool.{Bool, true, false, cond}
use mathlib.Core.List.{List, [], ◌∷◌}
use Prim.Native.Nat.{ℕ, ◌-◌, ◌≤◌, ◌<◌, min}
use native.Mathlib.Omega.{arith}
use borrow.Author.Tests.{lt-ltb, le-ltb, le-leb, eq-eqb, ne_eqb, eqb-false, ltb-true, ltb-false}
use lib.Dec.{eqb, ltb}
use lib.IntN.{ℤ, pos}
use lib.ListN.{length, take, get_or, set}
use lib.Seq.{take_all}
use Rattle.std.specs.Prelude.{Option, Some, None, Ok}
use Rattle.seq.specs.List.{any}
use Rattle.thread.specs.Answer.{truth}
use Rattle.thread.specs.Code.{ok, einval, eagain, epipe, enomsg}
use Rattle.store.specs.Store.{accept, carry, reply, Becomes, looks, Did, Fills}
use Rattle.store.proofs.Laws.{replies, refuses, refuses-place, did_yes, became, looks-is, start-made}
use Rattle.ring_buf.specs.Ring.{clear}
use Rattle.ring_buf.specs.Bytes.{held, bytes, put_many, get_many, reset as resetRing}
use Rattle.ring_buf.proofs.Rings.{by-lt}
use Rattle.ring_buf.proofs.Headers.{Sound, is-sound}
use Rattle.ring_buf.proofs.Answers.{held_is, spare-is, reset-done, made as made-ring}
use Rattle.ring_buf.specs.Post.{PutsN, GetsN}
use Rattle.pipe.specs.Pipe.{Pipe, Verdict, never, later, move, wholly, once, writes, writes_all, reads, reads_all, holding, less, goes_in, comes_out, to_write, to_write_all, to_read, to_read_all, write, write_all, read, read_all, reset}
use Rattle.pipe.specs.Post.{Starts, Writes, WritesAll, Reads, ReadsAll, Resets, is_open, is_resetting, formed, object, layout, data_held, space, is_empty, is_full}
use Rattle.pipe.specs.declared.Numbers.{Numbers}
use Rattle.pipe.specs.declared.Condition.TheVariants.{Closed, Open, Resetting, OpenAndResetting}
use Rattle.pipe.specs.declared.Condition.{Condition}
use Rattle.pipe.specs.Told.{flags_of, Seen, verdict, short, writes_by, reads_by, write_by, read_by}
use Rattle.pipe.proofs.Verdicts.{write_moves, write-all-fits, read-moves, read-all-fits}
use Rattle.pipe.proofs.Headers.{Formed, is-formed, from-formed, new-flags, on-ring, on-ring-place}

pub take-least : (n : ℕ) (l : List ℕ) → take n l ≡ take (min n (length l)) l
take-least n l =
    by-lt n (length l)
    (λ f. let e : n ≡ min n (length l) = omega arith in ap (λ (k : ℕ). take k l) e)
    (λ f. let e : length l ≡ min n (length l) = omega arith in take_all n l f ∙ sym (take_all (length l) l (omega arith)) ∙ ap (λ (k : ℕ). take k l) e)

-- ---- by the words of a header

module _ (h b : List ℕ) (s : Sound h b) where
  abbrev p : Pipe
  p = object h b

  abbrev writing : ℕ → Verdict
  writing n = writes (get_or h 2 0) (get_or h 0 0) (is_open (get_or h 3 0)) (is_resetting (get_or h 3 0)) n

  abbrev reading : ℕ → Verdict
  reading n = reads (get_or h 2 0) (is_open (get_or h 3 0)) (is_resetting (get_or h 3 0)) n

  pub to_write_lem : {v : Verdict} (n : ℕ) → writing n ≡ v → to_write n p ≡ v
  to_write_lem n e = ap (λ (u : ℕ). writes u (get_or h 0 0) (is_open (get_or h 3 0)) (is_resetting (get_or h 3 0)) n) (held_is h b s) ∙ e

  pub to_read_lem : {v : Verdict} (n : ℕ) → reading n ≡ v → to_read n p ≡ v
  to_read_lem n e = ap (λ (u : ℕ). reads u (is_open (get_or h 3 0)) (is_resetting (get_or h 3 0)) n) (held_is h b s) ∙ e

  writes-ring : (l : List ℕ) → get_or h 3 0 ≡ 1 → get_or h 2 0 < get_or h 0 0 → 0 < length l → write l p ≡ carry (λ q. holding q p) (put_many l (held h b))
  writes-ring l e f g =
      ap (goes_in l p) (to_write_lem (length l) (write_moves (get_or h 2 0) (get_or h 0 0) (get_or h 3 0) (length l) e g f))
      ∙ ap (λ (k : ℕ). goes_in l p (move (min (length l) k))) (sym (spare-is h b s))

  abbrev writing-all : ℕ → Verdict
  writing-all n = writes_all (get_or h 2 0) (get_or h 0 0) (is_open (get_or h 3 0)) (is_resetting (get_or h 3 0)) n

  pub to_write_all_lem : {v : Verdict} (n : ℕ) → writing-all n ≡ v → to_write_all n p ≡ v
  to_write_all_lem n e = ap (λ (u : ℕ). writes_all u (get_or h 0 0) (is_open (get_or h 3 0)) (is_resetting (get_or h 3 0)) n) (held_is h b s) ∙ e

  writes-all-ring : (l : List ℕ) → get_or h 3 0 ≡ 1 → get_or h 2 0 < get_or h 0 0 → 0 < length l → length l ≤ get_or h 0 0 - get_or h 2 0
      → write_all l p ≡ carry (λ q. holding q p) (put_many l (held h b))
  writes-all-ring l e f g k =
      ap (goes_in l p) (to_write_all_lem (length l) (write-all-fits (get_or h 2 0) (get_or h 0 0) (get_or h 3 0) (length l) e g f k) ∙ sym (to_write_lem (length l) refl))
      ∙ writes-ring l e f g

  reads-ring : (n : ℕ) → get_or h 3 0 < 2 → 0 < get_or h 2 0 → 0 < n → read n p ≡ carry (λ q. holding q p) (get_many n (held h b))
  reads-ring n e f g =
      ap (comes_out p) (to_read_lem n (read-moves (get_or h 2 0) (get_or h 0 0) (get_or h 3 0) n e g f) ∙ ap (λ (k : ℕ). move (min n k)) (sym (held_is h b s)))
      ∙ ap (accept (less p (min n (length (held h b).held))) (pos (min n (length (held h b).held)))) (sym (take-least n (held h b).held))

  abbrev reading-all : ℕ → Verdict
  reading-all n = reads_all (get_or h 2 0) (get_or h 0 0) (is_open (get_or h 3 0)) (is_resetting (get_or h 3 0)) n

  pub to_read_all_lem : {v : Verdict} (n : ℕ) → reading-all n ≡ v → to_read_all n p ≡ v
  to_read_all_lem n e = ap (λ (u : ℕ). reads_all u (get_or h 0 0) (is_open (get_or h 3 0)) (is_resetting (get_or h 3 0)) n) (held_is h b s) ∙ e

  reads-all-ring : (n : ℕ) → get_or h 3 0 < 2 → 0 < n → n ≤ get_or h 2 0 → read_all n p ≡ carry (λ q. holding q p) (get_many n (held h b))
  reads-all-ring n e f g =
      ap (comes_out p) (to_read_all_lem n (read-all-fits (get_or h 2 0) (get_or h 0 0) (get_or h 3 0) n e f g) ∙ sym (to_read_lem n refl))
      ∙ reads-ring n e (omega arith) f

-- ---- what the ring did

module _ (h b : List ℕ) (w : 4 ≤ length h) where
  pub wrote : {r : ℤ} {h' b' : List ℕ} (l : List ℕ) → get_or h 3 0 ≡ 1 → get_or h 2 0 < get_or h 0 0 → 0 < length l → PutsN l h b r h' b' → Writes l h b r h' b'
  wrote l e f g = on-ring h b w (omega arith) (write l) (put_many l) (λ s. writes-ring h b s l e f g)

  pub wrote-all : {r : ℤ} {h' b' : List ℕ} (l : List ℕ) → get_or h 3 0 ≡ 1 → get_or h 2 0 < get_or h 0 0 → 0 < length l → length l ≤ get_or h 0 0 - get_or h 2 0
      → PutsN l h b r h' b' → WritesAll l h b r h' b'
  wrote-all l e f g k = on-ring h b w (omega arith) (write_all l) (put_many l) (λ s. writes-all-ring h b s l e f g k)

  pub took : {r : ℤ} {h' o' : List ℕ} (o : List ℕ) → get_or h 3 0 < 2 → 0 < get_or h 2 0 → 0 < length o → GetsN h b o r h' o' → Reads h b o r h' o'
  took o e f g = on-ring-place h b w (omega arith) (read (length o)) (get_many (length o)) (λ s. reads-ring h b s (length o) e f g) o

  pub took-all : {r : ℤ} {h' o' : List ℕ} (o : List ℕ) → get_or h 3 0 < 2 → 0 < length o → length o ≤ get_or h 2 0 → GetsN h b o r h' o' → ReadsAll h b o r h' o'
  took-all o e f g = on-ring-place h b w (omega arith) (read_all (length o)) (get_many (length o)) (λ s. reads-all-ring h b s (length o) e f g) o

-- ---- refusals

module _ (h b : List ℕ) (s : Formed h b) where
  fine : formed h b ≡ true
  fine = is-formed h b s

  module _ (l : List ℕ) where
    written : {v : Verdict} → writing h b s.ring (length l) ≡ v → reply layout (write l) h b ≡ goes_in l (object h b) v
    written e = replies layout (write l) h b fine ∙ ap (goes_in l (object h b)) (to_write_lem h b s.ring (length l) e)

    -- all or nothing
    written_all : {v : Verdict} → writing-all h b s.ring (length l) ≡ v → reply layout (write_all l) h b ≡ goes_in l (object h b) v
    written_all e = replies layout (write_all l) h b fine ∙ ap (goes_in l (object h b)) (to_write_all_lem h b s.ring (length l) e)

  module _ (n : ℕ) where
    gone : {v : Verdict} → reading h b s.ring n ≡ v → reply layout (read n) h b ≡ comes_out (object h b) v
    gone e = replies layout (read n) h b fine ∙ ap (comes_out (object h b)) (to_read_lem h b s.ring n e)

    gone-all : (v : Verdict) → reading-all h b s.ring n ≡ v → reply layout (read_all n) h b ≡ comes_out (object h b) v
    gone-all v e = replies layout (read_all n) h b fine ∙ ap (comes_out (object h b)) (to_read_all_lem h b s.ring n e)

-- ---- other calls

told_none : (l : List ℕ) → truth (eqb (length l) 0) ≡ cond (any l) (pos 0) (pos 1)
told_none [] = refl
told_none (x ∷ l) = rw (ne_eqb (length (x ∷ l)) 0 (λ e. omega arith))

none_left : (u s : ℕ) → u ≤ s → eqb u s ≡ eqb (s - u) 0
none_left u s k =
    by-lt u s (λ l. rw (ne_eqb u s (λ e. omega arith), ne_eqb (s - u) 0 (λ e. omega arith))) (λ l. rw (eq-eqb u s (omega arith), eq-eqb (s - u) 0 (omega arith)))

same : {h b h' b' : List ℕ} {p q : Pipe} → p ≡ q → Becomes layout p h b h' b' → Becomes layout q h b h' b'
same {h} {b} {h'} {b'} e m = subst (λ (x : Pipe). Becomes layout x h b h' b') e m

module _ (h b : List ℕ) (s : Formed h b) where
  emptied : Becomes bytes (clear (held h b)) h b (set (set h 1 0) 2 0) b
  emptied = became bytes resetRing h b (reset-done h b s.ring) (is-sound h b s.ring) refl

  pub reset-to : (f : ℕ) → f ≤ 3 → is_resetting f ≡ true → is_open f ≡ is_open (get_or h 3 0) → Resets h b ok (set (set (set h 1 0) 2 0) 3 f)
  reset-to f k r o =
      did_yes layout reset h b (fine h b s) refl
      (same (λ i. record { opened = o i; resetting = r i; ring = clear (held h b) }) (new-flags h b s.words emptied f k))

-- by the numbers
module _ (h b : List ℕ) {p : Numbers} (s : Seen h b p) where
  abbrev in_ring : Sound h b
  in_ring = (from-formed h b s.formed).ring

  pub told_data : pos p.used ≡ looks layout data_held h b
  told_data = ap pos (s.used ∙ sym (held_is h b in_ring)) ∙ sym (looks-is layout h b data_held s.formed)

  pub told_space : pos (p.size - p.used) ≡ looks layout space h b
  told_space = rw (s.used, s.size) (ap pos (sym (spare-is h b in_ring)) ∙ sym (looks-is layout h b space s.formed))

  pub told_empty : truth (eqb p.used 0) ≡ looks layout is_empty h b
  told_empty =
      ap (λ (n : ℕ). truth (eqb n 0)) (s.used ∙ sym (held_is h b in_ring)) ∙ told_none (held h b).held
      ∙ sym (looks-is layout h b is_empty s.formed)

  pub told_full : truth (eqb p.used p.size) ≡ looks layout is_full h b
  told_full =
      ap truth (none_left p.used p.size s.under)
      ∙ rw (s.used, s.size) (ap (λ (n : ℕ). truth (eqb n 0)) (sym (spare-is h b in_ring)) ∙ told_none (held h b).spare ∙ sym (looks-is layout h b is_full s.formed))

  pub reset-opened : is_open (flags_of p.condition) ≡ true → Resets h b ok (set (set (set h 1 0) 2 0) 3 3)
  reset-opened e = reset-to h b (from-formed h b s.formed) 3 (omega arith) refl (sym (ap is_open (sym s.flags) ∙ e))

  pub reset-closed : is_open (flags_of p.condition) ≡ false → Resets h b ok (set (set (set h 1 0) 2 0) 3 2)
  reset-closed e = reset-to h b (from-formed h b s.formed) 2 (omega arith) refl (sym (ap is_open (sym s.flags) ∙ e))

-- ---- a write or a read in src

-- what all-or-nothing moves, the other moves too, and it is all
wholly_moves : (n k : ℕ) (w v : Verdict) → (w ≡ move k → ⊥) → wholly n w v ≡ move k → (v ≡ move k) × (n ≤ k)
wholly_moves n k w (never c) f e = absurd (cc)
wholly_moves n k w later f e = absurd (f e)
wholly_moves n k w (move j) f e = go (ltb j n) refl e
  where
    go : (x : Bool) → ltb j n ≡ x → cond x w (move j) ≡ move k → (move j ≡ move k) × (n ≤ k)
    go true g z = absurd (f z)
    go false g z = let y : j ≡ k = cc in (z, omega (arith, ltb-false j n g))

stays_put : (s n k : ℕ) → once s n ≡ move k → ⊥
stays_put s n k e = go (ltb s n) e
  where
    go : (x : Bool) → cond x (never einval) later ≡ move k → ⊥
    go true z = cc
    go false z = cc

stays_out : (o : Bool) (s n k : ℕ) → cond o (once s n) (never epipe) ≡ move k → ⊥
stays_out true s n k e = stays_put s n k e
stays_out false s n k e = cc

-- enough can move
not-short : (a : Bool) (n m : ℕ) → 0 < m → (a ≡ true → n ≤ m) → short a n m ≡ false
not-short true n m f g = rw (ne_eqb m 0 (λ e. omega arith), le-ltb m n (g refl))
not-short false n m f g = rw (ne_eqb m 0 (λ e. omega arith))

enough : (a : Bool) (n m : ℕ) → short a n m ≡ false → (0 < m) × (a ≡ true → n ≤ m)
enough a n m e = go a (eqb m 0) (ltb m n) refl refl e
  where
    go : (a x y : Bool) → eqb m 0 ≡ x → ltb m n ≡ y → cond x true (cond a y false) ≡ false → (0 < m) × (a ≡ true → n ≤ m)
    go a true y f g z = absurd (cc)
    go a false true f g z = (omega (arith, eqb-false m 0 f), λ w. absurd (cc))
    go a false false f g z = (omega (arith, eqb-false m 0 f), λ w. omega (arith, ltb-false m n g))

-- by what the header's words alone say
module _ (h b : List ℕ) (w : 4 ≤ length h) where
  pub put-goes : (a : Bool) {r : ℤ} {h' b' : List ℕ} (l : List ℕ) → get_or h 3 0 ≡ 1 → get_or h 2 0 ≤ get_or h 0 0 → 0 < length l
      → short a (length l) (get_or h 0 0 - get_or h 2 0) ≡ false → PutsN l h b r h' b' → Did layout (write_by a l) h b r h' b'
  put-goes true l e f g s =
      let y = enough true (length l) (get_or h 0 0 - get_or h 2 0) s in wrote-all h b w l e (omega (arith, y.0)) g (y.1 refl)
  put-goes false l e f g s =
      let y = enough false (length l) (get_or h 0 0 - get_or h 2 0) s in wrote h b w l e (omega (arith, y.0)) g

  pub get-comes : (a : Bool) {r : ℤ} {h' o' : List ℕ} (o : List ℕ) → get_or h 3 0 < 2 → 0 < length o → short a (length o) (get_or h 2 0) ≡ false
      → GetsN h b o r h' o' → Fills layout (read_by a (length o)) h b o r h' o'
  get-comes true o e g s = let y = enough true (length o) (get_or h 2 0) s in took-all h b w o e g (y.1 refl)
  get-comes false o e g s = let y = enough false (length o) (get_or h 2 0) s in took h b w o e y.0 g

write_needs : (c : Condition) (u s n k : ℕ) → writes u s (is_open (flags_of c)) (is_resetting (flags_of c)) n ≡ move k
    → (flags_of c ≡ 1) × (0 < n) × (u < s) × (k ≡ min n (s - u))
write_needs Closed u s n k e = absurd (cc)
write_needs Resetting u s n k e = absurd (cc)
write_needs OpenAndResetting u s n k e = absurd (cc)
write_needs Open u s n k e = go (eqb n 0) (ltb u s) refl refl e
  where
    go : (x y : Bool) → eqb n 0 ≡ x → ltb u s ≡ y → cond x (never enomsg) (cond y (move (min n (s - u))) later) ≡ move k → (flags_of Open ≡ 1) × (0 < n) × (u < s) × (k ≡ min n (s - u))
    go true y f g z = absurd (cc)
    go false true f g z = (refl, omega (arith, eqb-false n 0 f), ltb-true u s g, (cc))
    go false false f g z = absurd (cc)

read_needs : (c : Condition) (u n k : ℕ) → reads u (is_open (flags_of c)) (is_resetting (flags_of c)) n ≡ move k → (flags_of c < 2) × (0 < n) × (0 < u) × (k ≡ min n u)
read_needs Resetting u n k e = absurd (cc)
read_needs OpenAndResetting u n k e = absurd (cc)
read_needs Closed u n k e = go (eqb n 0) (ltb 0 u) refl refl e
  where
    go : (x y : Bool) → eqb n 0 ≡ x → ltb 0 u ≡ y → cond x (never enomsg) (cond y (move (min n u)) (never epipe)) ≡ move k → (flags_of Closed < 2) × (0 < n) × (0 < u) × (k ≡ min n u)
    go true y f g z = absurd (cc)
    go false true f g z = (omega arith, omega (arith, eqb-false n 0 f), ltb-true 0 u g, (cc))
    go false false f g z = absurd (cc)
read_needs Open u n k e = go (eqb n 0) (ltb 0 u) refl refl e
  where
    go : (x y : Bool) → eqb n 0 ≡ x → ltb 0 u ≡ y → cond x (never enomsg) (cond y (move (min n u)) later) ≡ move k → (flags_of Open < 2) × (0 < n) × (0 < u) × (k ≡ min n u)
    go true y f g z = absurd (cc)
    go false true f g z = (omega arith, omega (arith, eqb-false n 0 f), ltb-true 0 u g, (cc))
    go false false f g z = absurd (cc)

module _ (h b : List ℕ) {p : Numbers} (s : Seen h b p) where
  abbrev good : Formed h b
  good = from-formed h b s.formed

  -- a write that moves nothing now, as what the header's words say is against it
  pub put-again : (a : Bool) (l : List ℕ) (x : Option ℕ) → verdict (Ok x) ≡ writes_by a p (length l)
      → (get_or h 3 0 ≡ 1 → get_or h 2 0 ≤ get_or h 0 0 → 0 < length l → short a (length l) (get_or h 0 0 - get_or h 2 0) ≡ false → ⊥)
      → Did layout (write_by a l) h b eagain h b
  put-again true l None e f = refuses layout (write_all l) h b (written_all h b good l (sym (rw (s.used, s.size, s.flags) at e)))
  put-again false l None e f = refuses layout (write l) h b (written h b good l (sym (rw (s.used, s.size, s.flags) at e)))
  put-again true l (Some k) e f =
      let n = length l in
      let x = wholly_moves n k (once p.size n) (writes p.used p.size (is_open (flags_of p.condition)) (is_resetting (flags_of p.condition)) n) (stays_put p.size n k) (sym e) in
      let y = write_needs p.condition p.used p.size n k x.0 in
      absurd (f (sym s.flags ∙ y.0) (omega (arith, s, y)) y.1 (not-short true n (get_or h 0 0 - get_or h 2 0) (omega (arith, s, y)) (λ z. omega (arith, s, x.1, y))))
  put-again false l (Some k) e f =
      let y = write_needs p.condition p.used p.size (length l) k (sym e) in
      absurd (f (sym s.flags ∙ y.0) (omega (arith, s, y)) y.1 (not-short false (length l) (get_or h 0 0 - get_or h 2 0) (omega (arith, s, y)) (λ z. cc)))

  pub get-refused : (a : Bool) (o : List ℕ) {c : ℤ} → never c ≡ reads_by a p (length o) → Fills layout (read_by a (length o)) h b o c h o
  get-refused true o {c} e = refuses-place layout (read_all (length o)) h b (gone-all h b good (length o) (never c) (sym (rw (s.used, s.size, s.flags) at e))) o
  get-refused false o {c} e = refuses-place layout (read (length o)) h b (gone h b good (length o) (sym (rw (s.used, s.flags) at e))) o

  pub get-again : (a : Bool) (o : List ℕ) (x : Option ℕ) → verdict (Ok x) ≡ reads_by a p (length o)
      → (get_or h 3 0 < 2 → 0 < length o → short a (length o) (get_or h 2 0) ≡ false → ⊥) → Fills layout (read_by a (length o)) h b o eagain h o
  get-again true o None e f =
      refuses-place layout (read_all (length o)) h b (gone-all h b good (length o) later (sym (rw (s.used, s.size, s.flags) at e))) o
  get-again false o None e f = refuses-place layout (read (length o)) h b (gone h b good (length o) (sym (rw (s.used, s.flags) at e))) o
  get-again true o (Some k) e f =
      let n = length o in
      let x = wholly_moves n k (cond (is_open (flags_of p.condition)) (once p.size n) (never epipe)) (reads p.used (is_open (flags_of p.condition)) (is_resetting (flags_of p.condition)) n)
      (stays_out (is_open (flags_of p.condition)) p.size n k) (sym e) in
      let y = read_needs p.condition p.used n k x.0 in
      absurd (f (omega (arith, s, y)) y.1 (not-short true n (get_or h 2 0) (omega (arith, s, y)) (λ z. omega (arith, s, x.1, y))))
  get-again false o (Some k) e f =
      let y = read_needs p.condition p.used (length o) k (sym e) in
      absurd (f (omega (arith, s, y)) y.1 (not-short false (length o) (get_or h 2 0) (omega (arith, s, y)) (λ z. cc)))

module _ (h b : List ℕ) (n : ℕ) where
  pub made : 4 ≤ length h → 0 < n → n ≤ length b → Starts n h b ok (set (set (set (set h 0 n) 1 0) 2 0) 3 1)
  made k f g =
      start-made k (rw (lt-ltb 0 n f, le-leb n (length b) g))
      (new-flags h b k ((made-ring h b n (omega arith) f g).made refl) 1 (omega arith))
