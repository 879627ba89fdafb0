-- All or nothing. Assumes nothing.
use mathlib.Core.Path.{◌≡◌, refl, sym, ap, ◌∙◌}
use mathlib.Core.Bool.{true, false}
use mathlib.Core.List.{List}
use Prim.Native.Nat.{ℕ, ◌-◌, ◌≤◌, ◌<◌}
use native.Mathlib.Omega.{arith}
use borrow.Author.Tests.{lt-ltb, le-ltb}
use lib.ListN.{length}
use Rattle.seq.proofs.Order.{clash}
use Rattle.thread.specs.Code.{einval, epipe}
use Rattle.pipe.specs.Pipe.{Pipe, never, later, once, goes_in, comes_out, to_write, to_write_all, to_read, to_read_all}
use Rattle.pipe.specs.HandOver.{used}
use Rattle.pipe.specs.Whole.{AllOrNothing}
use Rattle.pipe.proofs.Verdicts.{whole-write, whole-read, write-all-not, read-all-not}

module _ (l : List ℕ) (n : ℕ) (p : Pipe) where
  same_write : (p.opened ≡ true → p.resetting ≡ false → length l ≤ p.ring.capacity - used p) → to_write_all (length l) p ≡ to_write (length l) p
  same_write h = whole-write (used p) p.ring.capacity (length l) p.opened p.resetting h

  same_read : (p.resetting ≡ false → n ≤ used p) → to_read_all n p ≡ to_read n p
  same_read h = whole-read (used p) p.ring.capacity n p.opened p.resetting h

  is_later : (s m : ℕ) → m ≤ s → once s m ≡ later
  is_later s m h = rw (le-ltb s m h)

  is_never : (s m : ℕ) → s < m → once s m ≡ never einval
  is_never s m h = rw (lt-ltb s m h)

  module _ (o : p.opened ≡ true) (r : p.resetting ≡ false) where
    too_long : p.ring.capacity - used p < length l → to_write_all (length l) p ≡ once p.ring.capacity (length l)
    too_long k = rw (o, r) (write-all-not (used p) p.ring.capacity 1 (length l) refl (omega arith) k)

    too_few : used p < n → to_read_all n p ≡ once p.ring.capacity n
    too_few k = rw (o, r) (read-all-not (used p) p.ring.capacity 1 n (omega arith) (omega arith) k)

  no_more : p.opened ≡ false → p.resetting ≡ false → used p < n → to_read_all n p ≡ never epipe
  no_more o r k = rw (o, r) (read-all-not (used p) p.ring.capacity 0 n (omega arith) (omega arith) k)

  pub all_or_nothing : AllOrNothing l n p
  all_or_nothing =
      record {
        write_fits = λ h. ap (goes_in l p) (same_write (λ o r. h));
        write_closed = λ c. ap (goes_in l p) (same_write (λ o r. clash (sym o ∙ c)));
        write_resetting = λ c. ap (goes_in l p) (same_write (λ o r. clash (sym c ∙ r)));
        write_later = λ o r k m. ap (goes_in l p) (too_long o r k ∙ is_later p.ring.capacity (length l) m);
        write_never = λ o r k. ap (goes_in l p) (too_long o r (omega arith) ∙ is_never p.ring.capacity (length l) k);
        read_fits = λ h. ap (comes_out p) (same_read (λ r. h));
        read_resetting = λ c. ap (comes_out p) (same_read (λ r. clash (sym c ∙ r)));
        read_later = λ o r k m. ap (comes_out p) (too_few o r k ∙ is_later p.ring.capacity n m);
        read_never = λ o r k m. ap (comes_out p) (too_few o r k ∙ is_never p.ring.capacity n m);
        read_closed = λ o r k. ap (comes_out p) (no_more o r k);
      }
