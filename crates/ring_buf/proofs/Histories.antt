-- After any calls: first in, first out, byte for byte. Assumes nothing.
use mathlib.Core.Path.{◌≡◌, refl, sym, ap, ◌∙◌}
use mathlib.Core.Bool.{Bool, true, false, cond}
use mathlib.Core.List.{List, [], ◌∷◌, ◌++◌, append_assoc, append-nil}
use Prim.Native.Nat.{ℕ, ◌+◌, ◌%◌, ◌≤◌, ◌<◌}
use native.Mathlib.Omega.{arith}
use native.Mathlib.Nat.{mod-add-mod, add-zero, mod-eq_of_lt}
use lib.Dec.{ltb}
use lib.IntN.{ℤ}
use lib.ListN.{length, take, drop, length-append, length-take, length-drop, take-append-drop}
use lib.Seq.{drop_at, length-take-le}
use Rattle.seq.specs.List.{any}
use Rattle.thread.specs.Code.{ok, eagain, einval}
use Rattle.store.specs.Store.{refuse, accept, answer, out}
use Rattle.store.specs.History.{Step, Ran, fresh, ran, Made}
use Rattle.store.proofs.Histories.{hands_made, from_start, allowed}
use Rattle.ring_buf.specs.Ring.{Ring, leave}
use Rattle.ring_buf.specs.Bytes.{bytes, new, may}
use Rattle.ring_buf.specs.Post.{Starts, Gets, PeeksAt}
use Rattle.ring_buf.specs.Counters.{Counted}
use Rattle.ring_buf.specs.History.{Call, getting, peeking, does, got, line, puts, gets, Promise}
use Rattle.ring_buf.proofs.Counting.{wrap_mod, agrees}
use Rattle.ring_buf.proofs.Calls.{Acts, adds, takes, stays, clears, Fits, acts_fit, new-fits, which, refused}

record Holds (c : ℕ) (ss : List (Step Call)) (r : Ring ℕ) : Type 0 where
  order : got ss ++ r.held ≡ line ss
  fixed : r.capacity ≡ c
  fits : Fits r
  size : puts ss ≡ gets ss + length r.held
  start : r.start ≡ gets ss % c

module _ (c : ℕ) (ss : List (Step Call)) where
  -- one call keeps it
  acts_hold : {r r' : Ring ℕ} (k : Call) (a : ℤ) (o : List ℕ) → Holds c ss r → Acts r k a o r' → Holds c (record { call = k; answer = a; out = o } ∷ ss) r'
  acts_hold {r} k a o h (adds l f w e g) =
      record {
        order = rw (w, e, g, append-nil (got ss)) (sym (append_assoc (got ss) r.held l) ∙ ap (λ (q : List ℕ). q ++ l) h.order);
        fixed = h.fixed;
        fits = (acts_fit {k = k} {a = a} {o = o} (adds l f w e g) h.fits).0;
        size = rw (w, e, g) (simp length-append (omega (arith, h.size)));
        start = rw (w, g, add-zero (gets ss)) h.start;
      }
  acts_hold {r} k a o h (takes n f w e g) =
      let t : length (take n r.held) ≡ n = length-take-le n r.held f in
      record {
        order =
            rw (w, e, g, append-nil (line ss))
            (append_assoc (got ss) (take n r.held) (drop n r.held) ∙ ap (λ (q : List ℕ). got ss ++ q) (take-append-drop n r.held) ∙ h.order);
        fixed = h.fixed;
        fits = (acts_fit {k = k} {a = a} {o = o} (takes n f w e g) h.fits).0;
        size = rw (w, e, g) (simp (length-drop, t) (omega (arith, h.size)));
        start =
            rw (w, g, t)
            (wrap_mod (r.start + n) r.capacity (omega (arith, h.fits.below, h.fits.whole)) ∙ (λ i. (h.start i + n) % h.fixed i) ∙ mod-add-mod (gets ss) c n);
      }
  acts_hold k a o h (stays w e g) =
      record {
        order = rw (w, e, g, append-nil (got ss), append-nil (line ss)) h.order;
        fixed = h.fixed;
        fits = h.fits;
        size = rw (w, e, g) (omega (arith, h.size));
        start = rw (w, g, add-zero (gets ss)) h.start;
      }
  acts_hold k a o h (clears w g) =
      record {
        order = rw (w, g, append-nil (got ss)) (append-nil (got ss));
        fixed = h.fixed;
        fits = (acts_fit {k = k} {a = a} {o = o} (clears w g) h.fits).0;
        size = rw w;
        start = rw w (sym (mod-eq_of_lt (omega (arith, h.fits.below, h.fixed))));
      }

module _ (c : ℕ) (b : List ℕ) (m : may c b ≡ true) where
  holds : {ss : List (Step Call)} {r : Ring ℕ} → Ran does (new c b) ss r → Holds c ss r
  holds fresh = record { order = refl; fixed = refl; fits = new-fits c b m; size = refl; start = sym (mod-eq_of_lt (new-fits c b m).below) }
  holds (ran {ss} {s = r} {k} o o' x f) =
      acts_hold c ss k (answer (does k r)) o' (holds x) (which r.capacity r.start r.held r.spare k o o' f)

  pub promised : {ss : List (Step Call)} {r : Ring ℕ} → Ran does (new c b) ss r → Promise c ss r
  promised {ss} {r} x =
      let h = holds x in
      let p : c < 4294967296 → Counted (puts ss) (gets ss) r =
      λ f. record {
        size = h.size;
        start = h.start ∙ ap (λ (n : ℕ). gets ss % n) (sym h.fixed);
        whole = h.fits.whole;
        some = omega (arith, h.fits.below);
        small = omega (arith, h.fixed);
      } in
      record {
        order = h.order;
        held_is = sym (ap (drop (length (got ss))) (sym h.order) ∙ drop_at (got ss) r.held (length (got ss)) refl);
        fixed = h.fixed;
        whole = h.fits.whole ∙ h.fixed;
        bounded = omega (arith, h.fits.whole, h.fixed);
        refused = λ k n e. refused r.capacity r.start r.held r.spare k n e;
        counted = p;
        agrees = λ f. agrees (puts ss) (gets ss) r (p f);
      }

-- the same of a ring in memory, after an init that is answered 0
pub from-init : (c : ℕ) {h b h₀ : List ℕ} → Starts c h b ok h₀ → {ss : List (Step Call)} {h' b' : List ℕ} → Made bytes does h₀ b ss h' b'
    → (bytes.formed h' b' ≡ true) × Promise c ss (bytes.object h' b')
from-init c {b = b} s x = let a = from_start bytes does s x in (a.0, promised c b (allowed s) a.1)

one : (c : Bool) (s : Ring ℕ) (e : ℤ) (l : List ℕ) → length (out (cond c (accept s ok (take 1 l)) (refuse e))) ≤ 1
one true s e l = omega (arith, length-take 1 l)
one false s e l = omega arith

-- what get and peek_at ensure is a step too
module _ {h₀ b₀ h b : List ℕ} {ss : List (Step Call)} {r : ℤ} (x y : ℕ) (m : Made bytes does h₀ b₀ ss h b) where
  pub get-made : {h' : List ℕ} → Gets h b x r h' y → Made bytes does h₀ b₀ (record { call = getting; answer = r; out = y ∷ [] } ∷ ss) h' b
  get-made d = hands_made bytes does m (λ s. one (any s.held) (leave 1 s) eagain s.held) x y d

  pub peek-made : (i : ℕ) → PeeksAt i h b x r y → Made bytes does h₀ b₀ (record { call = peeking i; answer = r; out = y ∷ [] } ∷ ss) h b
  peek-made i d = hands_made bytes does m (λ s. one (ltb i (length s.held)) s einval (drop i s.held)) x y d
