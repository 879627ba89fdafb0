-- A read of a pipe where threads wait. Assumes nothing.
use mathlib.Core.Path.{◌≡◌, refl, sym, ap, subst, ◌∙◌}
use mathlib.Core.Bool.{Bool, true, false}
use mathlib.Core.List.{List, [], ◌∷◌}
use Prim.Native.Nat.{ℕ, zero, suc, ◌<◌, min}
use native.Mathlib.Omega.{arith}
use lib.ListN.{length, length-drop}
use Rattle.seq.specs.List.{any}
use Rattle.seq.proofs.Order.{clash}
use Rattle.ring_buf.proofs.Rings.{by-lt}
use Rattle.pipe.specs.Pipe.{Pipe}
use Rattle.pipe.specs.HandOver.{used}
use Rattle.pipe.specs.Waiting.{Books, leaves, waited, Waited, reading, tries, took, asked, happens}
use Rattle.pipe.specs.Fair.{Fair}
use Rattle.pipe.proofs.Turns.{read-cancelled, read_broken, drains, takes, read_none, read-waits, read-moves}
use Rattle.pipe.proofs.Orders.{line-out, all_snoc, fed-begs}
use Rattle.pipe.proofs.Waiters.{by_flags, carried}

none_held : (l : List ℕ) → length l ≡ 0 → l ≡ []
none_held [] e = refl
none_held (x ∷ l) e = absurd (omega arith)

module _ (c : ℕ) (some : 0 < c) (p : Pipe) (b : Bool) (bk : Books) where
  abbrev at : List ℕ → List (List ℕ) → Waited
  at r w = waited p r w b bk

  -- n bytes at most are read
  reads : p.resetting ≡ false → (r : List ℕ) (w : List (List ℕ)) (n : ℕ) (t : Bool) → 0 < n → 0 < used p → (0 < length w → t ≡ true) → Fair c (at r w)
      → Fair c (took n t (at r w))
  reads e r w n t h k z f =
      let y = drains p e n h k in
      let x = takes p e n h k in
      subst (Fair c) (sym (λ i. waited (y i) r w t (leaves (x i) bk)))
      (record {
        size = f.size;
        under = omega (arith, length-drop (min n (used p)) p.ring.held);
        live = f.live;
        asks = f.asks;
        offers = f.offers;
        no_byte = λ d. absurd (omega (arith, ap length (f.no_byte d)));
        no_room = λ d y. clash (sym (z d) ∙ y);
        line = line-out bk.got p.ring.held bk.went f.line (min n (used p));
        order = f.order;
        turns = f.turns;
      })

  -- a reader behind those that wait
  begs : p.resetting ≡ false → p.opened ≡ true → (r : List ℕ) (w : List (List ℕ)) (n : ℕ) (k : Bool) → 0 < n → used p ≡ 0 → Fair c (at r w)
      → Fair c (asked k n (at r w))
  begs e o r w n true h z f = f
  begs e o r w n false h z f =
      record {
        size = f.size;
        under = f.under;
        live = λ d. (o, e);
        asks = all_snoc (λ (x : ℕ). 0 < x) r n f.asks h;
        offers = f.offers;
        no_byte = λ d. none_held p.ring.held z;
        no_room = f.no_room;
        line = f.line;
        order = f.order;
        turns = fed-begs bk.fed r bk.begged n f.turns;
      }

  module _ (r : List ℕ) (n : ℕ) (k : Bool) (h : 0 < n) where
    some-held : p.resetting ≡ false → 0 < used p → (w : List (List ℕ)) → Fair c (at r w) → Fair c (happens (at r w) (tries (reading n k)))
    some-held e u [] f =
        carried c some (at r []) (reading n k) (read-moves p e (omega arith) (omega arith) n false h u) (reads e r [] n b h u (λ d. absurd (omega arith)) f)
    some-held e u (x ∷ w) f =
        carried c some (at r (x ∷ w)) (reading n k) (read-moves p e (omega arith) (omega arith) n true h u) (reads e r (x ∷ w) n true h u (λ d. refl) f)

    none-there : used p ≡ 0 → (w : List (List ℕ)) → Fair c (at r w) → Fair c (happens (at r w) (tries (reading n k)))
    none-there z w f =
        by_flags p (λ e. carried c some (at r w) (reading n k) (read-cancelled p (omega arith) (omega arith) n (any w) e) f)
        (λ e o. carried c some (at r w) (reading n k) (read_broken p (omega arith) (omega arith) n (any w) e o h z) f)
        (λ e o. carried c some (at r w) (reading n k) (read-waits p e (omega arith) (omega arith) n (any w) o h z) (begs e o r w n k h z f))

  read-on : p.resetting ≡ false → (r : List ℕ) (w : List (List ℕ)) (n : ℕ) (k : Bool) → Fair c (at r w) → Fair c (happens (at r w) (tries (reading n k)))
  read-on e r w zero k f = carried c some (at r w) (reading 0 k) (read_none p e (omega arith) (omega arith) 0 (any w) refl) f
  read-on e r w (suc n) k f = by-lt 0 (used p) (λ h. some-held r (suc n) k (omega arith) e h w f) (λ h. none-there r (suc n) k (omega arith) (omega arith) w f)

  pub read_fair : (r : List ℕ) (w : List (List ℕ)) (n : ℕ) (k : Bool) → Fair c (at r w) → Fair c (happens (at r w) (tries (reading n k)))
  read_fair r w n k f =
      by_flags p (λ e. carried c some (at r w) (reading n k) (read-cancelled p (omega arith) (omega arith) n (any w) e) f) (λ e o. read-on e r w n k f)
      (λ e o. read-on e r w n k f)
