-- Any sequence of calls keeps what a pipe promises. Assumes nothing.
use mathlib.Core.Path.{◌≡◌, refl, sym, ap, ◌∙◌}
use mathlib.Core.Bool.{Bool, true}
use mathlib.Core.Logic.{◌⊎◌, inl, inr}
use mathlib.Core.List.{List, [], ◌∷◌, ◌++◌, append_assoc, append-nil}
use Prim.Native.Nat.{ℕ, ◌-◌, ◌≤◌}
use native.Mathlib.Omega.{arith}
use lib.IntN.{ℤ, pos, negsuc}
use lib.ListN.{length, take, drop, take-append-drop}
use lib.Seq.{take_at, length-take-le}
use Rattle.thread.specs.Code.{ok}
use Rattle.store.specs.Store.{answer, left, out, Filled}
use Rattle.store.specs.History.{Step, Ran, fresh, ran, Made}
use Rattle.store.proofs.Laws.{no_code}
use Rattle.store.proofs.Histories.{from_start, throughout}
use Rattle.seq.specs.List.{All}
use Rattle.ring_buf.specs.History.{number}
use Rattle.ring_buf.proofs.Answers.{held_is, spare-is}
use Rattle.pipe.specs.Pipe.{Pipe, Verdict, never, later, move, more, less, front, done, goes_in, comes_out, to_write, to_write_all, to_read, to_read_all}
use Rattle.pipe.specs.Post.{Starts, formed, object, layout, new}
use Rattle.pipe.specs.History.{Call, writes, writes_all, reads, reads_all, resets, closes, clears, does, got, line, open_by, resetting_by, Whole, Promise}
use Rattle.pipe.proofs.Verdicts.{Within, write-within, write-all-within, read-within, read-all-within, Every, write_every, read_every}
use Rattle.pipe.proofs.Headers.{from-formed}

abbrev step : Call → ℤ → List ℕ → Step Call
step k a o = record { call = k; answer = a; out = o }

-- ---- one call

-- p has n bytes and these flags, and what came out, then what it holds, is what went in
record Stands (n : ℕ) (o r : Bool) (came went : List ℕ) (p : Pipe) : Type 0 where
  order : came ++ p.ring.held ≡ went
  size : p.ring.capacity ≡ n
  opened : p.opened ≡ o
  resetting : p.resetting ≡ r

abbrev Holds : ℕ → List (Step Call) → Pipe → Type 0
Holds n ss p = Stands n (open_by ss) (resetting_by ss) (got ss) (line ss) p

module _ (n : ℕ) (ss : List (Step Call)) (p : Pipe) (h : Holds n ss p) where
  -- nothing moves
  kept : (got ss ++ []) ++ p.ring.held ≡ line ss ++ []
  kept = (λ i. append-nil (got ss) i ++ p.ring.held) ∙ h.order ∙ sym (append-nil (line ss))

  stays : Stands n (open_by ss) (resetting_by ss) (got ss ++ []) (line ss ++ []) p
  stays = record { order = kept; size = h.size; opened = h.opened; resetting = h.resetting }

  -- a write, by its verdict
  wrote : (l : List ℕ) (v : Verdict) → Within (length l) (p.ring.capacity - length p.ring.held) v
      → let y = goes_in l p v in
      Stands n (open_by ss) (resetting_by ss) (got ss ++ []) (line ss ++ take (number (answer y)) l) (left y p)
  wrote l (never (pos c)) w = absurd w
  wrote l (never (negsuc c)) w = stays
  wrote l later w = stays
  wrote l (move k) w =
      record {
        order =
            (λ i. append-nil (got ss) i ++ (p.ring.held ++ take k l)) ∙ sym (append_assoc (got ss) p.ring.held (take k l)) ∙ ap
            (λ (x : List ℕ). x ++ take k l) h.order;
        size = h.size;
        opened = h.opened;
        resetting = h.resetting;
      }

  -- what came out stands first in the caller's place
  stood : (k : ℕ) (o o' : List ℕ) → k ≤ length p.ring.held → Filled (take k p.ring.held) o o' → take k o' ≡ take k p.ring.held
  stood k o o' f e = ap (take k) e ∙ take_at (take k p.ring.held) (drop (length (take k p.ring.held)) o) k (length-take-le k p.ring.held f)

  -- a read
  took : (m : ℕ) (o o' : List ℕ) (v : Verdict) → Within m (length p.ring.held) v → let y = comes_out p v in Filled (out y) o o'
      → Stands n (open_by ss) (resetting_by ss) (got ss ++ take (number (answer y)) o') (line ss ++ []) (left y p)
  took m o o' (never (pos c)) w f = absurd w
  took m o o' (never (negsuc c)) w f = stays
  took m o o' later w f = stays
  took m o o' (move k) w f =
      record {
        order =
            (λ i. (got ss ++ stood k o o' w.1.1 f i) ++ drop k p.ring.held) ∙ append_assoc (got ss) (take k p.ring.held) (drop k p.ring.held)
            ∙ ap (λ (x : List ℕ). got ss ++ x) (take-append-drop k p.ring.held) ∙ h.order ∙ sym (append-nil (line ss));
        size = h.size;
        opened = h.opened;
        resetting = h.resetting;
      }

  next : (k : Call) (o o' : List ℕ) → Filled (out (does k p)) o o' → Holds n (step k (answer (does k p)) o' ∷ ss) (left (does k p) p)
  next (writes l) o o' f = wrote l (to_write (length l) p) (write-within (length p.ring.held) p.ring.capacity p.opened p.resetting (length l))
  next (writes_all l) o o' f =
      wrote l (to_write_all (length l) p) (write-all-within (length p.ring.held) p.ring.capacity p.opened p.resetting (length l))
  next (reads m) o o' f = took m o o' (to_read m p) (read-within (length p.ring.held) p.opened p.resetting m) f
  next (reads_all m) o o' f =
      took m o o' (to_read_all m p) (read-all-within (length p.ring.held) p.ring.capacity p.opened p.resetting m) f
  next resets o o' f = record { order = append-nil (got ss ++ []) ∙ append-nil (got ss); size = h.size; opened = h.opened; resetting = refl }
  next closes o o' f = record { order = kept; size = h.size; opened = refl; resetting = refl }
  next clears o o' f = record { order = kept; size = h.size; opened = h.opened; resetting = refl }

-- ---- all or nothing

entire : (f : ℕ → Pipe) (o : ℕ → List ℕ) (n : ℕ) (v : Verdict) → Every n v → (number (answer (done f o v)) ≡ n) ⊎ (number (answer (done f o v)) ≡ 0)
entire f o n (never (pos c)) e = absurd e
entire f o n (never (negsuc c)) e = inr refl
entire f o n later e = inr refl
entire f o n (move k) e = inl e

whole : (k : Call) (p : Pipe) → Whole k (answer (does k p))
whole (writes l) p = tt
whole (writes_all l) p =
    entire (more l p) (λ k. []) (length l) (to_write_all (length l) p)
    (write_every (length p.ring.held) p.ring.capacity p.opened p.resetting (length l))
whole (reads n) p = tt
whole (reads_all n) p =
    entire (less p) (front p) n (to_read_all n p)
    (read_every (length p.ring.held) p.ring.capacity p.opened p.resetting n)
whole resets p = tt
whole closes p = tt
whole clears p = tt

wholes : {p₀ : Pipe} {ss : List (Step Call)} {p : Pipe} → Ran does p₀ ss p → All (λ (s : Step Call). Whole s.call s.answer) ss
wholes = throughout does (λ ss p. All (λ (s : Step Call). Whole s.call s.answer) ss) (λ k ss p o w. (whole k p, w)) tt

-- what a verdict leaves as it was
unmoved : (p : Pipe) (f : ℕ → Pipe) (o : ℕ → List ℕ) (c : ℕ) (v : Verdict) → answer (done f o v) ≡ negsuc c → left (done f o v) p ≡ p
unmoved p f o c (never z) e = refl
unmoved p f o c later e = refl
unmoved p f o c (move k) e = absurd (let y : ◌≡◌ {A = ℕ} 0 1 = cc in omega arith)

refused-stays : (k : Call) (p : Pipe) (c : ℕ) → answer (does k p) ≡ negsuc c → left (does k p) p ≡ p
refused-stays (writes l) p c e = unmoved p (more l p) (λ k. []) c (to_write (length l) p) e
refused-stays (writes_all l) p c e = unmoved p (more l p) (λ k. []) c (to_write_all (length l) p) e
refused-stays (reads n) p c e = unmoved p (less p) (front p) c (to_read n p) e
refused-stays (reads_all n) p c e = unmoved p (less p) (front p) c (to_read_all n p) e
refused-stays resets p c e = absurd (no_code e)
refused-stays closes p c e = absurd (no_code e)
refused-stays clears p c e = absurd (no_code e)

-- ---- after any sequence of calls

holds : (n : ℕ) (b : List ℕ) {ss : List (Step Call)} {p : Pipe} → Ran does (new n b) ss p → Holds n ss p
holds n b fresh = record { order = refl; size = refl; opened = refl; resetting = refl }
holds n b (ran {ss} {s = p} {k} o o' x f) = next n ss p (holds n b x) k o o' f

-- of a new pipe in memory, after an init that is answered 0
pub from-init : (n : ℕ) {h b h₀ : List ℕ} → Starts n h b ok h₀ → {ss : List (Step Call)} {h' b' : List ℕ}
    → Made layout does h₀ b ss h' b' → (formed h' b' ≡ true) × Promise n ss (object h' b')
from-init n {b = b} s {ss} {h'} {b'} x =
    let a = from_start layout does s x in
    let m = holds n b a.1 in
    let f = from-formed h' b' a.0 in (
      a.0,
      record {
        order = m.order;
        wholly = wholes a.1;
        size = m.size;
        whole = omega (arith, held_is h' b' f.ring, spare-is h' b' f.ring, f.ring.size, m.size);
        opened = m.opened;
        resetting = m.resetting;
        refused = λ k c e. refused-stays k (object h' b') c e;
      },
    )
