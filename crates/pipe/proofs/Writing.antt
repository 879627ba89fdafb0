-- A write to a pipe where threads wait, and the first writer that tries again. Assumes nothing.
use mathlib.Core.Path.{◌≡◌, ap}
use mathlib.Core.Bool.{Bool, true, false}
use mathlib.Core.List.{List, [], ◌∷◌, ◌++◌}
use Prim.Native.Nat.{ℕ, ◌-◌, ◌<◌, min}
use native.Mathlib.Omega.{arith}
use lib.IntN.{pos, negsuc}
use lib.ListN.{length}
use Rattle.seq.specs.List.{any}
use Rattle.store.specs.Store.{Reply, refuse, accept}
use Rattle.ring_buf.proofs.Rings.{by-lt}
use Rattle.pipe.specs.Pipe.{Pipe}
use Rattle.pipe.specs.Post.{Moves}
use Rattle.pipe.specs.HandOver.{used}
use Rattle.pipe.specs.Waiting.{Books, waited, Waited, writing, entering, tries, wanted, decision, settled, told, happens}
use Rattle.pipe.specs.Fair.{Fair}
use Rattle.pipe.proofs.Turns.{write-cancelled, write_broken, write-none, write-waits, write_moves}
use Rattle.pipe.proofs.Orders.{cut_in, cut-enter}
use Rattle.pipe.proofs.Waiters.{by_flags, none-wanted, carried, into, hand, waits}

module _ (c : ℕ) (some : 0 < c) (p : Pipe) (b : Bool) (bk : Books) where
  abbrev at : List ℕ → List (List ℕ) → Waited
  at r w = waited p r w b bk

  module _ (e : p.resetting ≡ false) (o : p.opened ≡ true) where
    write_open : (r : List ℕ) (w : List (List ℕ)) (l : List ℕ) (k : Bool) → Fair c (at r w) → Fair c (happens (at r w) (tries (writing l k)))
    write_open r w [] k f = carried c some (at r w) (writing [] k) (write-none p o e (omega arith) (omega arith) (wanted r []) (any r) (none-wanted r)) f
    write_open r (x ∷ w) (y ∷ l) k f = go (decision (writing (y ∷ l) k) (at r (x ∷ w)))
      where
        go : (d : Reply Moves) → Fair c (told (writing (y ∷ l) k) d (at r (x ∷ w)))
        go (refuse z) = f
        go (accept m (pos z) q) = waits c some p b bk e o r (x ∷ w) (y ∷ l) k (omega arith) (λ d. f.no_room (omega arith) d) f
        go (accept m (negsuc z) q) = f
    write_open [] [] (y ∷ l) k f =
        let n = min (length (y ∷ l)) (p.ring.capacity - used p) in
        by-lt (used p) c
        (λ h. carried c some (at [] []) (writing (y ∷ l) k) (write_moves p o e (omega arith) (omega arith) (length (y ∷ l)) false (omega arith) (omega arith))
        (into c some p b bk e o (y ∷ l) n (omega arith) (omega arith) [] [] (bk.called ++ (y ∷ l) ∷ []) tt (λ d z. omega arith) f (omega arith)
        (cut_in bk.went bk.called n (y ∷ l) (omega arith) (omega arith) f.order)))
        (λ h. carried c some (at [] []) (writing (y ∷ l) k) (write-waits p o e (omega arith) (omega arith) (length (y ∷ l)) false (omega arith) (omega arith))
        (waits c some p b bk e o [] [] (y ∷ l) k (omega arith) (λ z. omega arith) f))
    write_open (a ∷ r) [] (y ∷ l) k f =
        let i : used p ≡ 0 = ap length (f.no_byte (omega arith)) in
        let n = min (min a (length (y ∷ l))) (p.ring.capacity - used p) in
        carried c some (at (a ∷ r) []) (writing (y ∷ l) k)
        (write_moves p o e (omega arith) (omega arith) (min a (length (y ∷ l))) true (omega (arith, f.asks.0)) (omega arith))
        (hand c some p b bk e o (y ∷ l) n (omega (arith, f.asks.0)) (omega arith) [] [] (bk.called ++ (y ∷ l) ∷ []) tt (λ d z. omega arith) a r f
        (omega arith) (omega arith)
        (cut_in bk.went bk.called n (y ∷ l) (omega (arith, f.asks.0)) (omega arith) f.order))

  pub write_fair : (r : List ℕ) (w : List (List ℕ)) (l : List ℕ) (k : Bool) → Fair c (at r w) → Fair c (happens (at r w) (tries (writing l k)))
  write_fair r w l k f =
      by_flags p (λ e. carried c some (at r w) (writing l k) (write-cancelled p (omega arith) (omega arith) (wanted r l) (any r) e) f)
      (λ e o. carried c some (at r w) (writing l k) (write_broken p (omega arith) (omega arith) (wanted r l) (any r) e o) f) (λ e o. write_open e o r w l k f)

  -- ---- the first writer tries again

  quiet : (r : List ℕ) (w : List (List ℕ)) → (0 < length w → used p ≡ c) → Fair c (at r w) → Fair c (settled (at r w))
  quiet r w z f =
      record {
        size = f.size;
        under = f.under;
        live = f.live;
        asks = f.asks;
        offers = f.offers;
        no_byte = f.no_byte;
        no_room = λ d y. z d;
        line = f.line;
        order = f.order;
        turns = f.turns;
      }

  pub enter_fair : (r : List ℕ) (w : List (List ℕ)) → Fair c (at r w) → Fair c (happens (at r w) (tries entering))
  enter_fair r [] f =
      let z = quiet r [] (λ d. absurd (omega arith)) f in
      by_flags p (λ e. carried c some (at r []) entering (write-cancelled p (omega arith) (omega arith) (wanted r []) (any r) e) z)
      (λ e o. carried c some (at r []) entering (write_broken p (omega arith) (omega arith) (wanted r []) (any r) e o) z)
      (λ e o. carried c some (at r []) entering (write-none p o e (omega arith) (omega arith) (wanted r []) (any r) (none-wanted r)) z)
  enter_fair [] (x ∷ w) f =
      let y = f.live (omega arith) in
      let n = min (length x) (p.ring.capacity - used p) in
      by-lt (used p) c
      (λ h. carried c some (at [] (x ∷ w)) entering (write_moves p y.0 y.1 (omega arith) (omega arith) (length x) false f.offers.0 (omega arith))
      (into c some p b bk y.1 y.0 x n (omega (arith, f.offers.0)) (omega arith) (x ∷ w) w bk.called f.offers.1
      (λ d z. omega (arith, f.no_room (omega arith) z)) f (omega arith)
      (cut-enter bk.went x w bk.called n (omega (arith, f.offers.0)) (omega arith) f.order)))
      (λ h. carried c some (at [] (x ∷ w)) entering (write-waits p y.0 y.1 (omega arith) (omega arith) (length x) false f.offers.0 (omega arith))
      (quiet [] (x ∷ w) (λ d. omega arith) f))
  enter_fair (a ∷ r) (x ∷ w) f =
      let i : used p ≡ 0 = ap length (f.no_byte (omega arith)) in
      let y = f.live (omega arith) in
      let n = min (min a (length x)) (p.ring.capacity - used p) in
      carried c some (at (a ∷ r) (x ∷ w)) entering
      (write_moves p y.0 y.1 (omega arith) (omega arith) (min a (length x)) true (omega (arith, f.asks.0, f.offers.0)) (omega arith))
      (hand c some p b bk y.1 y.0 x n (omega (arith, f.asks.0, f.offers.0)) (omega arith) (x ∷ w) w bk.called f.offers.1
      (λ d z. omega (arith, f.no_room (omega arith) z)) a r f (omega arith) (omega arith)
      (cut-enter bk.went x w bk.called n (omega (arith, f.asks.0, f.offers.0)) (omega arith) f.order))
