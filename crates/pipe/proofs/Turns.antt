-- What is decided of an open pipe, and what its write and its read do. Assumes nothing.
use mathlib.Core.Path.{◌≡◌, refl, ap, ◌∙◌}
use mathlib.Core.Bool.{Bool, true, false, cond}
use mathlib.Core.List.{List, []}
use Prim.Native.Nat.{ℕ, ◌-◌, ◌≤◌, ◌<◌, min}
use native.Mathlib.Omega.{arith}
use borrow.Author.Tests.{eq-eqb, ne_eqb, lt-ltb, le-ltb}
use lib.ListN.{length, take, length-take}
use lib.Seq.{take_all}
use Rattle.thread.specs.Code.{epipe, enomsg, ecanceled}
use Rattle.store.specs.Store.{Reply, refuse, accept, left, out}
use Rattle.ring_buf.specs.Ring.{append}
use Rattle.pipe.specs.Pipe.{Pipe, Verdict, never, later, move, holding, more, less, goes_in, comes_out, to_write, to_read, read, reset, close}
use Rattle.pipe.specs.Post.{goes, wakes, pends, decided, held_then}
use Rattle.pipe.specs.HandOver.{used, flags}
use Rattle.pipe.specs.Waiting.{decides_write, decides_read, filled, drained}
use Rattle.pipe.specs.Fair.{Ended}
use Rattle.pipe.proofs.Verdicts.{write-is, read_is}
use Rattle.pipe.proofs.Agreements.{fits, write_same, read_same}

-- the verdict of the pipe is what is decided
module _ (p : Pipe) (some : 0 < p.ring.capacity) (under : used p ≤ p.ring.capacity) (n : ℕ) (w : Bool) where
  by-write : {v : Verdict} → to_write n p ≡ v → decides_write p n w ≡ decided (used p) (cond w wakes goes) (held_then w (used p)) v
  by-write e = write-is (used p) p.ring.capacity (flags p) n w (fits p some under) (write_same p some under n ∙ e)

  by_read : {v : Verdict} → to_read n p ≡ v → decides_read p n w ≡ decided (used p) (cond w wakes goes) (λ k. used p - k) v
  by_read e = read_is (used p) p.ring.capacity (flags p) n w (fits p some under) (read_same p some under n ∙ e)

  -- ---- flags come first, whoever waits

  pub write-cancelled : p.resetting ≡ true → decides_write p n w ≡ refuse ecanceled
  write-cancelled r = by-write {v = never ecanceled} (rw r)

  pub read-cancelled : p.resetting ≡ true → decides_read p n w ≡ refuse ecanceled
  read-cancelled r = by_read {v = never ecanceled} (rw r)

  pub write_broken : p.resetting ≡ false → p.opened ≡ false → decides_write p n w ≡ refuse epipe
  write_broken r o = by-write {v = never epipe} (rw (r, o))

  pub read_broken : p.resetting ≡ false → p.opened ≡ false → 0 < n → used p ≡ 0 → decides_read p n w ≡ refuse epipe
  read_broken r o f e = by_read {v = never epipe} (rw (r, o, ne_eqb n 0 (λ y. omega arith), le-ltb 0 (used p) (omega arith)))

pub ended : (p : Pipe) → 0 < p.ring.capacity → used p ≤ p.ring.capacity → Ended p
ended p some under =
    let q = left (reset p) p in
    let k = left (close p) p in
    record {
      reset_write = λ n w. write-cancelled q some (omega arith) n w refl;
      reset_read = λ n w. read-cancelled q some (omega arith) n w refl;
      close_write = λ n w. write_broken k some under n w refl refl;
      close_read = λ n w f e. read_broken k some under n w refl refl f (ap length e);
    }

-- ---- a read of a pipe that is not resetting

module _ (p : Pipe) (r : p.resetting ≡ false) where
  reads-moves : (n : ℕ) → 0 < n → 0 < used p → to_read n p ≡ move (min n (used p))
  reads-moves n f g = rw (r, ne_eqb n 0 (λ y. omega arith), lt-ltb 0 (used p) g)

  -- as many as n leave
  module _ (n : ℕ) (f : 0 < n) (g : 0 < used p) where
    reads : read n p ≡ comes_out p (move (min n (used p)))
    reads = ap (comes_out p) (reads-moves n f g)

    pub drains : drained n p ≡ less p (min n (used p))
    drains = ap (λ (y : Reply Pipe). left y p) reads

    pub takes : out (read n p) ≡ take (min n (used p)) p.ring.held
    takes = ap out reads

  module _ (some : 0 < p.ring.capacity) (under : used p ≤ p.ring.capacity) (n : ℕ) (w : Bool) where
    pub read_none : n ≡ 0 → decides_read p n w ≡ refuse enomsg
    read_none e = by_read p some under n w {v = never enomsg} (rw (r, eq-eqb n 0 e))

    pub read-waits : p.opened ≡ true → 0 < n → used p ≡ 0 → decides_read p n w ≡ accept (record { actual = 0; used = used p }) pends []
    read-waits o f e = by_read p some under n w {v = later} (rw (o, r, ne_eqb n 0 (λ y. omega arith), le-ltb 0 (used p) (omega arith)))

    pub read-moves : 0 < n → 0 < used p
        → decides_read p n w ≡ accept (record { actual = min n (used p); used = used p - min n (used p) }) (cond w wakes goes) []
    read-moves f g = by_read p some under n w (reads-moves n f g)

-- ---- a write to an open pipe

module _ (p : Pipe) (o : p.opened ≡ true) (r : p.resetting ≡ false) where
  abbrev size : ℕ
  size = p.ring.capacity

  writes-moves : (n : ℕ) → 0 < n → used p < size → to_write n p ≡ move (min n (size - used p))
  writes-moves n f g = rw (o, r, ne_eqb n 0 (λ y. omega arith), lt-ltb (used p) size g)

  -- n of the bytes of l go in
  pub fills : (l : List ℕ) (n : ℕ) → 0 < n → n ≤ length l → n ≤ size - used p → filled l n p ≡ more l p n
  fills l n f g h =
      let t : length (take n l) ≡ n = length-take n l ∙ omega arith in
      let m : min (length (take n l)) (size - used p) ≡ n = omega arith in
      ap (λ (v : Verdict). left (goes_in (take n l) p v) p)
      (writes-moves (length (take n l)) (omega arith) (omega arith) ∙ ap move m)
      ∙ ap (λ (x : List ℕ). holding (append x p.ring) p) (take_all n (take n l) (omega arith))

  module _ (some : 0 < size) (under : used p ≤ size) (n : ℕ) (w : Bool) where
    pub write-none : n ≡ 0 → decides_write p n w ≡ refuse enomsg
    write-none e = by-write p some under n w {v = never enomsg} (rw (o, r, eq-eqb n 0 e))

    pub write-waits : 0 < n → used p ≡ size → decides_write p n w ≡ accept (record { actual = 0; used = used p }) pends []
    write-waits f e = by-write p some under n w {v = later} (rw (o, r, ne_eqb n 0 (λ y. omega arith), le-ltb (used p) size (omega arith)))

    pub write_moves : 0 < n → used p < size
        → decides_write p n w ≡ accept (record { actual = min n (size - used p); used = held_then w (used p) (min n (size - used p)) }) (cond w wakes goes) []
    write_moves f g = by-write p some under n w (writes-moves n f g)
