-- Nobody waits for ever. Assumes nothing.
use mathlib.Core.Path.{◌≡◌, refl, ap, subst, ◌∙◌}
use mathlib.Core.Bool.{Bool, true, false}
use mathlib.Core.List.{List, [], ◌∷◌}
use Prim.Native.Nat.{ℕ, zero, suc, ◌-◌, ◌≤◌, ◌<◌, min}
use native.Mathlib.Omega.{arith}
use lib.IntN.{ℤ}
use lib.ListN.{length}
use Rattle.seq.specs.List.{any}
use Rattle.store.specs.Store.{Reply, refuse}
use Rattle.ring_buf.proofs.Rings.{by-lt}
use Rattle.pipe.specs.Pipe.{Pipe}
use Rattle.pipe.specs.Post.{Moves}
use Rattle.pipe.specs.HandOver.{used}
use Rattle.pipe.specs.Waiting.{Books, waited, Waited, writing, entering, tries, wanted, decides_write, told, happens}
use Rattle.pipe.specs.Fair.{Fair, NotBoth, Serves, Enters, lets, Settled}
use Rattle.pipe.proofs.Turns.{write-cancelled, write_broken, write-none, write-waits, write_moves}
use Rattle.pipe.proofs.Waiters.{none-wanted, by_flags}
use Rattle.pipe.proofs.Fairness.{next_fair}

-- with other writers
abbrev with : Waited → List (List ℕ) → Waited
with s w = waited s.pipe s.readers w s.letting s.books

module _ (c : ℕ) (some : 0 < c) where
  pub not-both : (s : Waited) → Fair c s → NotBoth s
  not-both s f x y = go s.letting refl
    where
      go : (t : Bool) → s.letting ≡ t → s.letting ≡ true
      go true e = e
      go false e = absurd (omega (arith, f.no_room y e, ap length (f.no_byte x)))

  module _ (p : Pipe) (b : Bool) (bk : Books) where
    pub enters : (r : List ℕ) (x : List ℕ) (w : List (List ℕ)) → used p < c → Fair c (waited p r (x ∷ w) b bk) → Enters (waited p r (x ∷ w) b bk) x w
    enters [] x w h f =
        let m = write_moves p (f.live (omega arith)).0 (f.live (omega arith)).1 (omega arith) (omega arith) (length x) false f.offers.0 (omega arith) in
        record {
          told = min (length x) (p.ring.capacity - used p);
          some = omega (arith, f.offers.0);
          few = omega arith;
          writers = ap (λ (d : Reply Moves). (told entering d (waited p [] (x ∷ w) b bk)).writers) m;
          went = ap (λ (d : Reply Moves). (told entering d (waited p [] (x ∷ w) b bk)).books.went) m;
        }
    enters (a ∷ r) x w h f =
        let m =
        write_moves p (f.live (omega arith)).0 (f.live (omega arith)).1 (omega arith) (omega arith) (min a (length x)) true
        (omega (arith, f.asks.0, f.offers.0)) (omega arith) in
        record {
          told = min (min a (length x)) (p.ring.capacity - used p);
          some = omega (arith, f.asks.0, f.offers.0);
          few = omega arith;
          writers = ap (λ (d : Reply Moves). (told entering d (waited p (a ∷ r) (x ∷ w) b bk)).writers) m;
          went = ap (λ (d : Reply Moves). (told entering d (waited p (a ∷ r) (x ∷ w) b bk)).books.went) m;
        }

    pub serves : (a : ℕ) (r : List ℕ) (x : ℕ) (l : List ℕ) → Fair c (waited p (a ∷ r) [] b bk) → Serves (waited p (a ∷ r) [] b bk) (x ∷ l) a r
    serves a r x l f =
        let i : used p ≡ 0 = ap length (f.no_byte (omega arith)) in
        let y = f.live (omega arith) in
        let m = write_moves p y.0 y.1 (omega arith) (omega arith) (min a (length (x ∷ l))) true (omega (arith, f.asks.0)) (omega arith) in
        record {
          told = min (min a (length (x ∷ l))) (p.ring.capacity - used p);
          some = omega (arith, f.asks.0);
          few = omega arith;
          readers = λ k. ap (λ (d : Reply Moves). (told (writing (x ∷ l) k) d (waited p (a ∷ r) [] b bk)).readers) m;
          went = λ k. ap (λ (d : Reply Moves). (told (writing (x ∷ l) k) d (waited p (a ∷ r) [] b bk)).books.went) m;
        }

    -- a try where nobody waits, and one where there is no room
    nobody : (r : List ℕ) → Fair c (waited p r [] b bk) → (happens (waited p r [] b bk) (tries entering)).writers ≡ []
    nobody r f =
        by_flags p (λ e. by (write-cancelled p (omega arith) (omega arith) (wanted r []) (any r) e))
        (λ e o. by (write_broken p (omega arith) (omega arith) (wanted r []) (any r) e o))
        (λ e o. by (write-none p o e (omega arith) (omega arith) (wanted r []) (any r) (none-wanted r)))
      where
        by : {z : ℤ} → decides_write p (wanted r []) (any r) ≡ refuse z → (happens (waited p r [] b bk) (tries entering)).writers ≡ []
        by e = ap (λ (d : Reply Moves). (told entering d (waited p r [] b bk)).writers) e

    full : (r x : List ℕ) (w : List (List ℕ)) → used p ≡ c → Fair c (waited p r (x ∷ w) b bk)
        → used (happens (waited p r (x ∷ w) b bk) (tries entering)).pipe ≡ c
    full [] x w e f =
        ap (λ (d : Reply Moves). used (told entering d (waited p [] (x ∷ w) b bk)).pipe)
        (write-waits p (f.live (omega arith)).0 (f.live (omega arith)).1 (omega arith) (omega arith) (length x) false f.offers.0 (omega arith)) ∙ e
    full (a ∷ r) x w e f = absurd (omega (arith, ap length (f.no_byte (omega arith))))

    once : (r : List ℕ) (w : List (List ℕ)) → Fair c (waited p r w b bk) → (0 < length w → used p ≡ c)
        → Settled c (happens (waited p r w b bk) (tries entering))
    once r [] f z = λ d. absurd (omega (arith, ap length (nobody r f)))
    once r (x ∷ w) f z = λ d. full r x w (z (omega arith)) f

  -- a whole read: it is settled, and stays so
  stays : (n : ℕ) (s : Waited) → Fair c s → Settled c s → Settled c (lets n s)
  stays zero s f z = z
  stays (suc n) s f z =
      stays n (happens s (tries entering)) (next_fair c some (tries entering) s f) (once s.pipe s.letting s.books s.readers s.writers f z)

  pub lets-all : (n : ℕ) (s : Waited) → Fair c s → length s.writers ≤ n → Settled c (lets n s)
  lets-all zero s f h = λ d. absurd (omega arith)
  lets-all (suc n) s f h =
      by-lt (used s.pipe) c (λ k. room s.writers refl k (lets-all n (happens s (tries entering)) (next_fair c some (tries entering) s f)))
      (λ k. stays (suc n) s f (λ d. omega (arith, f.under)))
    where
      room : (w : List (List ℕ)) → s.writers ≡ w → used s.pipe < c
          → (length (happens s (tries entering)).writers ≤ n → Settled c (lets n (happens s (tries entering)))) → Settled c (lets (suc n) s)
      room [] e k i = stays (suc n) s f (λ d. absurd (omega (arith, ap length e)))
      room (x ∷ w) e k i =
          let t = enters s.pipe s.letting s.books s.readers x w k (subst (λ (y : List (List ℕ)). Fair c (with s y)) e f) in
          let q : length (happens s (tries entering)).writers ≡ length w =
          ap (λ (y : List (List ℕ)). length (happens (with s y) (tries entering)).writers) e ∙ ap length t.writers in
          i (omega (arith, ap length e))
