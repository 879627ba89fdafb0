-- What goes straight to a waiting reader is what it would have read, and nothing overtakes what is held. Assumes nothing.
use mathlib.Core.Path.{◌≡◌, refl, sym, ap, ◌∙◌}
use mathlib.Core.Bool.{true, false}
use mathlib.Core.List.{List, [], ◌++◌}
use Prim.Native.Nat.{ℕ, ◌+◌, ◌-◌, ◌≤◌, ◌<◌, min}
use native.Mathlib.Omega.{arith}
use borrow.Author.Tests.{lt-ltb, ne_eqb}
use lib.IntN.{pos}
use lib.ListN.{length, take, length-append, length-take, length-drop, drop_of_length-le}
use lib.Seq.{take_all, take-append-le}
use Rattle.store.specs.Store.{accept, out}
use Rattle.pipe.specs.Pipe.{Pipe, Verdict, move, writes, more, less, goes_in, comes_out, to_write, to_read, write}
use Rattle.pipe.specs.Post.{wakes}
use Rattle.pipe.specs.HandOver.{used, flags, HandsOver, Behind, MakesRoom}
use Rattle.pipe.proofs.Verdicts.{is-proper, write-is, read_is}
use Rattle.pipe.proofs.Agreements.{flag_open, flag-resetting, flag-few, fits, write_same, read_same}

pub hands_over : (l : List ℕ) (n : ℕ) (p : Pipe) → p.opened ≡ true → p.resetting ≡ false → p.ring.held ≡ [] → 0 < p.ring.capacity → 0 < length l
    → length l ≤ n → HandsOver l n p
hands_over l n p o r z some f g =
    let c = p.ring.capacity in
    let k = min (length l) c in
    let q = more l p k in
    let m : min (length l) (c - 0) ≡ k = omega arith in
    let v : writes 0 c p.opened p.resetting (length l) ≡ move k = rw (o, r, ne_eqb (length l) 0 (λ y. omega arith), lt-ltb 0 c some) (ap move m) in
    let w : to_write (length l) p ≡ move k = ap (λ (x : List ℕ). writes (length x) c p.opened p.resetting (length l)) z ∙ v in
    let u : used q ≡ k = length-append p.ring.held (take k l) ∙ omega (arith, length-take k l, ap length z) in
    let y : min n (used q) ≡ k = omega arith in
    let x : to_read n q ≡ move k = rw (r, ne_eqb n 0 (λ y. omega arith), lt-ltb 0 (used q) (omega arith)) (ap move y) in
    record {
      full = q;
      after = less q k;
      decided =
          write-is 0 c (flags p) (length l) true (is-proper 0 c (flags p) some (omega arith) (flag-few p.opened p.resetting))
          ((λ i. writes 0 c (flag_open p.opened p.resetting i) (flag-resetting p.opened p.resetting i) (length l)) ∙ v);
      write = ap (goes_in l p) w;
      read = ap (comes_out q) x ∙ ap (accept (less q k) (pos k)) (take_all k q.ring.held (omega arith) ∙ ap (λ (a : List ℕ). a ++ take k l) z);
      empty = drop_of_length-le q.ring.held {i = k} (omega arith);
    }

-- l goes in, at an open pipe that is not full
module _ (l : List ℕ) (p : Pipe) (o : p.opened ≡ true) (r : p.resetting ≡ false) (g : 0 < length l) (f : used p < p.ring.capacity) where
  abbrev went : ℕ
  went = min (length l) (p.ring.capacity - used p)

  to_move : to_write (length l) p ≡ move went
  to_move = rw (o, r, ne_eqb (length l) 0 (λ y. omega arith), lt-ltb (used p) p.ring.capacity f)

  goes_in_lem : write l p ≡ accept (more l p went) (pos went) []
  goes_in_lem = ap (goes_in l p) to_move

  pub goes-behind : (n : ℕ) → 0 < n → 0 < used p → Behind l n p
  goes-behind n h k =
      let q = more l p went in
      let u : used q ≡ used p + went = length-append p.ring.held (take went l) ∙ omega (arith, length-take went l) in
      record {
        after = q;
        decided =
            write-is (used p) p.ring.capacity (flags p) (length l) true (fits p (omega arith) (omega arith))
            (write_same p (omega arith) (omega arith) (length l) ∙ to_move)
            ∙ ap (λ (j : ℕ). accept (record { actual = went; used = j }) wakes []) (rw (ne_eqb (used p) 0 (λ y. omega arith)) (sym u));
        write = goes_in_lem;
        held = refl;
        first =
            λ m. let y : min n (used q) ≡ n = omega arith in
            let x : to_read n q ≡ move n = rw (r, ne_eqb n 0 (λ y. omega arith), lt-ltb 0 (used q) (omega arith)) (ap move y) in
            ap (λ (v : Verdict). out (comes_out q v)) x ∙ take-append-le n p.ring.held (take went l) m;
      }

pub makes_room : (n : ℕ) (l : List ℕ) (p : Pipe) → p.opened ≡ true → p.resetting ≡ false → used p ≤ p.ring.capacity → 0 < used p → 0 < n → 0 < length l
    → MakesRoom n l p
makes_room n l p o r z some f g =
    let k = min n (used p) in
    let q = less p k in
    let v : to_read n p ≡ move k = rw (r, ne_eqb n 0 (λ y. omega arith), lt-ltb 0 (used p) some) in
    let u : used q ≡ used p - k = length-drop k p.ring.held in
    record {
      room = q;
      after = more l q (went l q o r g (omega arith));
      decided =
          read_is (used p) p.ring.capacity (flags p) n true (fits p (omega arith) z) (read_same p (omega arith) z n ∙ v)
          ∙ ap (λ (j : ℕ). accept (record { actual = k; used = j }) wakes []) (sym u);
      read = ap (comes_out p) v;
      write = goes_in_lem l q o r g (omega arith);
      held = refl;
    }
