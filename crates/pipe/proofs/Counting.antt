-- The numbers that are decided are the pipe's then. Assumes nothing.
use mathlib.Core.Path.{◌≡◌, refl, sym, ap, subst, ◌∙◌}
use mathlib.Core.Bool.{Bool, true, false}
use mathlib.Core.List.{List, [], ◌∷◌}
use Prim.Native.Nat.{ℕ, zero, suc, ◌+◌, ◌-◌, ◌≤◌, ◌<◌, min}
use native.Mathlib.Omega.{arith}
use borrow.Author.Tests.{eq-eqb}
use lib.ListN.{length, take, length-append, length-take, length-drop}
use Rattle.seq.specs.List.{any}
use Rattle.store.specs.Store.{Reply, settled}
use Rattle.ring_buf.specs.Ring.{append}
use Rattle.ring_buf.proofs.Rings.{by-lt}
use Rattle.pipe.specs.Pipe.{Pipe, holding}
use Rattle.pipe.specs.Post.{Moves, held_then}
use Rattle.pipe.specs.HandOver.{used}
use Rattle.pipe.specs.Waiting.{Books, Waited, waited, Try, writing, reading, entering, wanted, decision, filled, drained, queued, asked, told}
use Rattle.pipe.specs.Fair.{Fair, Counts, Counted}
use Rattle.pipe.proofs.Turns.{write-cancelled, write_broken, read-cancelled, read_broken, fills, drains, write-none, write-waits, write_moves, read_none, read-waits, read-moves}
use Rattle.pipe.proofs.Waiters.{none-wanted, by_flags}

-- by the decision
counts : (s : Waited) (e : Try) {d : Reply Moves} → decision e s ≡ d → used (told e d s).pipe ≡ settled (λ m. m.used) d (used s.pipe) → Counts e s
counts s e x y = subst (λ (d : Reply Moves). used (told e d s).pipe ≡ settled (λ m. m.used) d (used s.pipe)) (sym x) y

module _ (c : ℕ) (some : 0 < c) (p : Pipe) (b : Bool) (bk : Books) where
  abbrev at : List ℕ → List (List ℕ) → Waited
  at r w = waited p r w b bk

  module _ (e : p.resetting ≡ false) (o : p.opened ≡ true) (l : List ℕ) (n : ℕ) (k : 0 < n) (h : n ≤ length l) (m : n ≤ p.ring.capacity - used p) where
    holds : used (filled l n p) ≡ used p + n
    holds = ap used (fills p o e l n k h m) ∙ length-append p.ring.held (take n l) ∙ omega (arith, length-take n l)

    handed : (a : ℕ) → n ≤ a → used p ≡ 0 → used (drained a (filled l n p)) ≡ held_then true (used p) n
    handed a j z =
        let q = holding (append (take n l) p.ring) p in
        let u : used q ≡ n = length-append p.ring.held (take n l) ∙ omega (arith, length-take n l) in
        ap (λ (x : Pipe). used (drained a x)) (fills p o e l n k h m) ∙ ap used (drains q e a (omega arith) (omega arith))
        ∙ length-drop (min a (used q)) q.ring.held ∙ rw (eq-eqb (used p) 0 z) (omega arith)

  stays : (k : Bool) (r : List ℕ) (w : List (List ℕ)) (l : List ℕ) → used (queued k l (at r w)).pipe ≡ used p
  stays true r w l = refl
  stays false r w l = refl

  begs-stays : (k : Bool) (r : List ℕ) (w : List (List ℕ)) (n : ℕ) → used (asked k n (at r w)).pipe ≡ used p
  begs-stays true r w n = refl
  begs-stays false r w n = refl

  module _ (e : p.resetting ≡ false) (o : p.opened ≡ true) where
    write_open : (r l : List ℕ) (k : Bool) → Fair c (at r []) → Counts (writing l k) (at r [])
    write_open r [] k f = counts (at r []) (writing [] k) (write-none p o e (omega arith) (omega arith) (wanted r []) (any r) (none-wanted r)) refl
    write_open [] (y ∷ l) k f =
        by-lt (used p) c
        (λ h. counts (at [] []) (writing (y ∷ l) k) (write_moves p o e (omega arith) (omega arith) (length (y ∷ l)) false (omega arith) (omega arith))
        (holds e o (y ∷ l) (min (length (y ∷ l)) (p.ring.capacity - used p)) (omega arith) (omega arith) (omega arith)))
        (λ h. counts (at [] []) (writing (y ∷ l) k) (write-waits p o e (omega arith) (omega arith) (length (y ∷ l)) false (omega arith) (omega arith))
        (stays k [] [] (y ∷ l)))
    write_open (a ∷ r) (y ∷ l) k f =
        let i : used p ≡ 0 = ap length (f.no_byte (omega arith)) in
        counts (at (a ∷ r) []) (writing (y ∷ l) k)
        (write_moves p o e (omega arith) (omega arith) (min a (length (y ∷ l))) true (omega (arith, f.asks.0)) (omega arith))
        (handed e o (y ∷ l) (min (min a (length (y ∷ l))) (p.ring.capacity - used p)) (omega (arith, f.asks.0)) (omega arith) (omega arith) a
        (omega arith) i)

  write-counts : (r l : List ℕ) (k : Bool) → Fair c (at r []) → Counts (writing l k) (at r [])
  write-counts r l k f =
      by_flags p (λ e. counts (at r []) (writing l k) (write-cancelled p (omega arith) (omega arith) (wanted r l) (any r) e) refl)
      (λ e o. counts (at r []) (writing l k) (write_broken p (omega arith) (omega arith) (wanted r l) (any r) e o) refl) (λ e o. write_open e o r l k f)

  enter-counts : (r : List ℕ) (w : List (List ℕ)) → Fair c (at r w) → Counts entering (at r w)
  enter-counts r [] f =
      by_flags p (λ e. counts (at r []) entering (write-cancelled p (omega arith) (omega arith) (wanted r []) (any r) e) refl)
      (λ e o. counts (at r []) entering (write_broken p (omega arith) (omega arith) (wanted r []) (any r) e o) refl)
      (λ e o. counts (at r []) entering (write-none p o e (omega arith) (omega arith) (wanted r []) (any r) (none-wanted r)) refl)
  enter-counts [] (x ∷ w) f =
      let y = f.live (omega arith) in
      by-lt (used p) c
      (λ h. counts (at [] (x ∷ w)) entering (write_moves p y.0 y.1 (omega arith) (omega arith) (length x) false f.offers.0 (omega arith))
      (holds y.1 y.0 x (min (length x) (p.ring.capacity - used p)) (omega (arith, f.offers.0)) (omega arith) (omega arith)))
      (λ h. counts (at [] (x ∷ w)) entering (write-waits p y.0 y.1 (omega arith) (omega arith) (length x) false f.offers.0 (omega arith)) refl)
  enter-counts (a ∷ r) (x ∷ w) f =
      let i : used p ≡ 0 = ap length (f.no_byte (omega arith)) in
      let y = f.live (omega arith) in
      counts (at (a ∷ r) (x ∷ w)) entering
      (write_moves p y.0 y.1 (omega arith) (omega arith) (min a (length x)) true (omega (arith, f.asks.0, f.offers.0)) (omega arith))
      (handed y.1 y.0 x (min (min a (length x)) (p.ring.capacity - used p)) (omega (arith, f.asks.0, f.offers.0)) (omega arith) (omega arith) a
      (omega arith) i)

  module _ (r : List ℕ) (n : ℕ) (k : Bool) (h : 0 < n) where
    some-held : p.resetting ≡ false → 0 < used p → (w : List (List ℕ)) → Fair c (at r w) → Counts (reading n k) (at r w)
    some-held e u [] f =
        counts (at r []) (reading n k) (read-moves p e (omega arith) (omega arith) n false h u)
        (ap used (drains p e n h u) ∙ length-drop (min n (used p)) p.ring.held)
    some-held e u (x ∷ w) f =
        counts (at r (x ∷ w)) (reading n k) (read-moves p e (omega arith) (omega arith) n true h u)
        (ap used (drains p e n h u) ∙ length-drop (min n (used p)) p.ring.held)

    none-there : used p ≡ 0 → (w : List (List ℕ)) → Fair c (at r w) → Counts (reading n k) (at r w)
    none-there z w f =
        by_flags p (λ e. counts (at r w) (reading n k) (read-cancelled p (omega arith) (omega arith) n (any w) e) refl)
        (λ e o. counts (at r w) (reading n k) (read_broken p (omega arith) (omega arith) n (any w) e o h z) refl)
        (λ e o. counts (at r w) (reading n k) (read-waits p e (omega arith) (omega arith) n (any w) o h z) (begs-stays k r w n))

  read-on : p.resetting ≡ false → (r : List ℕ) (w : List (List ℕ)) (n : ℕ) (k : Bool) → Fair c (at r w) → Counts (reading n k) (at r w)
  read-on e r w zero k f = counts (at r w) (reading 0 k) (read_none p e (omega arith) (omega arith) 0 (any w) refl) refl
  read-on e r w (suc n) k f = by-lt 0 (used p) (λ h. some-held r (suc n) k (omega arith) e h w f) (λ h. none-there r (suc n) k (omega arith) (omega arith) w f)

  read-counts : (r : List ℕ) (w : List (List ℕ)) (n : ℕ) (k : Bool) → Fair c (at r w) → Counts (reading n k) (at r w)
  read-counts r w n k f =
      by_flags p (λ e. counts (at r w) (reading n k) (read-cancelled p (omega arith) (omega arith) n (any w) e) refl) (λ e o. read-on e r w n k f)
      (λ e o. read-on e r w n k f)

pub counted : (c : ℕ) → 0 < c → (s : Waited) → Fair c s → Counted s
counted c some s f =
    record {
      writing = λ l k z. go s.writers z l k f;
      reading = λ n k. read-counts c some s.pipe s.letting s.books s.readers s.writers n k f;
      entering = enter-counts c some s.pipe s.letting s.books s.readers s.writers f;
    }
  where
    go : (w : List (List ℕ)) → w ≡ [] → (l : List ℕ) (k : Bool) → Fair c (waited s.pipe s.readers w s.letting s.books)
        → Counts (writing l k) (waited s.pipe s.readers w s.letting s.books)
    go [] z l k f = write-counts c some s.pipe s.letting s.books s.readers l k f
    go (x ∷ w) z l k f = absurd (omega (arith, ap length z))
