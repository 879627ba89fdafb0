-- What one call does to a queue and to the line. Assumes nothing.
use mathlib.Core.Path.{◌≡◌, refl, sym, subst, ◌∙◌}
use mathlib.Core.Bool.{Bool, true, false, cond}
use mathlib.Core.List.{List, [], ◌∷◌, ◌++◌, append-nil}
use Prim.Native.Nat.{ℕ}
use native.Mathlib.Omega.{arith}
use borrow.Author.Tests.{ltb-true, eqb-true}
use lib.Dec.{eqb, ltb}
use lib.IntN.{ℤ, pos, negsuc}
use lib.ListN.{length, take, drop, get_or}
use lib.Seq.{take-append_seam}
use Rattle.thread.specs.Code.{enomsg}
use Rattle.store.specs.Store.{Reply, refuse, accept, answer, left, out, Filled}
use Rattle.store.specs.History.{Step}
use Rattle.ring_buf.specs.Ring.{append, lead, leave}
use Rattle.msgq.specs.Msgq.{Msgq, having, max, used, given}
use Rattle.msgq.specs.History.{Call, putting, putting_front, getting, peeking, purging, does, got_by, got, line, Good}
use Rattle.msgq.proofs.Goods.{all-at, good-put, good-front, good-leave}
use Rattle.msgq.proofs.Lines.{line-put, line-front, line-get, line-purge}

-- what a call does: if two tests are passed; else it is refused

abbrev right : Call → Msgq → Bool
right (putting m) q = eqb (length m) q.size
right (putting_front m) q = eqb (length m) q.size
right (getting n) q = eqb n q.size
right (peeking n i) q = eqb n q.size
right purging q = true

abbrev there : Call → Msgq → Bool
there (putting m) q = ltb (used q) (max q)
there (putting_front m) q = ltb (used q) (max q)
there (getting n) q = ltb 0 (used q)
there (peeking n i) q = ltb i (used q)
there purging q = true

abbrev to : Call → Msgq → Msgq
to (putting m) q = having (append (m ∷ []) q.ring) q
to (putting_front m) q = having (lead m q.ring) q
to (getting n) q = having (leave 1 q.ring) q
to (peeking n i) q = q
to purging q = having (leave (used q) q.ring) q

abbrev told : Call → Msgq → ℕ
told (putting m) q = 0
told (putting_front m) q = 0
told (getting n) q = 0
told (peeking n i) q = 0
told purging q = used q

abbrev gives : Call → Msgq → List ℕ
gives (putting m) q = []
gives (putting_front m) q = []
gives (getting n) q = get_or q.ring.held 0 []
gives (peeking n i) q = get_or q.ring.held i []
gives purging q = []

abbrev yes : Call → Msgq → Reply Msgq
yes k q = accept (to k q) (pos (told k q)) (gives k q)

does-is : (k : Call) (q : Msgq) (t u : Bool) → right k q ≡ t → there k q ≡ u → does k q ≡ given t (cond u (yes k q) (refuse enomsg))
does-is (putting m) q t true e f = rw (e, f)
does-is (putting m) q t false e f = rw (e, f)
does-is (putting_front m) q t true e f = rw (e, f)
does-is (putting_front m) q t false e f = rw (e, f)
does-is (getting n) q t true e f = rw (e, f)
does-is (getting n) q t false e f = rw (e, f)
does-is (peeking n i) q t true e f = rw (e, f)
does-is (peeking n i) q t false e f = rw (e, f)
does-is purging q t u e f = (λ i. given (e i) (cond (f i) (yes purging q) (refuse enomsg)))

by_tests : (R : Reply Msgq → Type 0) (k : Call) (q : Msgq) → ((n : ℕ) → R (refuse (negsuc n))) → (right k q ≡ true → there k q ≡ true → R (yes k q)) → R (does k q)
by_tests R k q x f = go (right k q) (there k q) refl refl
  where
    go : (t u : Bool) → right k q ≡ t → there k q ≡ u → R (does k q)
    go true true e g = subst R (sym (does-is k q true true e g)) (f e g)
    go true false e g = subst R (sym (does-is k q true false e g)) (x 34)
    go false u e g = subst R (sym (does-is k q false u e g)) (x 21)

pub refused-stays : (q : Msgq) (n : ℕ) (k : Call) → answer (does k q) ≡ negsuc n → left (does k q) q ≡ q
refused-stays q n k =
    by_tests (λ (y : Reply Msgq). answer y ≡ negsuc n → left y q ≡ q) k q (λ m e. refl) (λ t u e. absurd (let y : ◌≡◌ {A = ℕ} 0 1 = cc in omega arith))

-- ---- one step

pub record Holds (c z : ℕ) (ss : List (Step Call)) (q : Msgq) : Type 0 where
  pub good : Good c z q
  pub order : got ss ++ q.ring.held ≡ line ss

abbrev pub step : Call → ℤ → List ℕ → Step Call
step k a o = record { call = k; answer = a; out = o }

none-got : (k : Call) (n : ℕ) (o : List ℕ) → got_by k (negsuc n) o ≡ []
none-got (putting m) n o = refl
none-got (putting_front m) n o = refl
none-got (getting z) n o = refl
none-got (peeking z i) n o = refl
none-got purging n o = refl

came : (l o o' : List ℕ) (n : ℕ) → length l ≡ n → Filled l o o' → take n o' ≡ l
came l o o' n e v = rw (v, sym e) (take-append_seam l (drop (length l) o))

module _ (c z : ℕ) (ss : List (Step Call)) (q : Msgq) (p : Holds c z ss q) where
  -- a call that is not refused
  done : (k : Call) (o o' : List ℕ) → Filled (gives k q) o o' → right k q ≡ true → there k q ≡ true → Holds c z (step k (pos (told k q)) o' ∷ ss) (to k q)
  done (putting m) o o' w t u =
      let f = ltb-true (used q) (max q) u in
      record {
        good = good-put c z q p.good m (omega (arith, p.good.max)) (eqb-true (length m) q.size t ∙ p.good.size);
        order = rw (append-nil (got ss)) (line-put (got ss) q.ring.held (line ss) m p.order);
      }
  done (putting_front m) o o' w t u =
      let f = ltb-true (used q) (max q) u in
      record {
        good = good-front c z q p.good m (omega (arith, p.good.max)) (eqb-true (length m) q.size t ∙ p.good.size);
        order = rw (append-nil (got ss)) (line-front (got ss) q.ring.held (line ss) m p.order);
      }
  done (getting n) o o' w t u =
      let f = ltb-true 0 (used q) u in
      let x = get_or q.ring.held 0 [] in
      let l : length x ≡ n = all-at (λ (m : List ℕ). length m ≡ z) q.ring.held 0 [] p.good.messages f ∙ sym (eqb-true n q.size t ∙ p.good.size) in
      record { good = good-leave c z q p.good 1 f; order = rw (came x o o' n l w) (line-get (got ss) q.ring.held (line ss) f p.order) }
  done (peeking n i) o o' w t u = record { good = p.good; order = rw (append-nil (got ss)) p.order }
  done purging o o' w t u =
      record {
        good = good-leave c z q p.good (used q) (omega arith);
        order = rw (append-nil (got ss)) (line-purge (got ss) q.ring.held (line ss) p.order);
      }

  pub holds-next : (k : Call) (o o' : List ℕ) → Filled (out (does k q)) o o' → Holds c z (step k (answer (does k q)) o' ∷ ss) (left (does k q) q)
  holds-next k o o' =
      by_tests (λ (y : Reply Msgq). Filled (out y) o o' → Holds c z (step k (answer y) o' ∷ ss) (left y q)) k q
      (λ n w. record { good = p.good; order = rw (none-got k n o', append-nil (got ss)) p.order })
      (λ t u w. done k o o' w t u)
