-- Our contracts imply Gale's: functions that only tell, and those on plain numbers. Assumes nothing.
use mathlib.Core.Path.{◌≡◌, sym, ◌∙◌}
use mathlib.Core.Bool.{Bool, true, false}
use mathlib.Core.List.{List, []}
use mathlib.Core.Logic.{inl, inr, ⊎_elim}
use Prim.Native.Nat.{ℕ, ◌+◌, ◌≤◌, ◌<◌}
use native.Mathlib.Omega.{arith}
use lib.IntN.{ℤ}
use Rattle.thread.specs.Code.{ok, einval}
use Rattle.store.specs.Store.{Reply, looks, Hands}
use Rattle.store.proofs.Laws.{either, less, no_code, not-one, replies_bad, handed, decided, declined, looks_bad}
use Rattle.timeout.specs.Timeout.{Timeout, never, fires, right}
use Rattle.timeout.specs.Post.{AddDecided, AbortDecided, AnnounceDecided, place}
use Rattle.timeout.specs.Upstream as upstream
use Rattle.timeout.specs.Upstream.{Sum, AnnounceDecide}
use Rattle.timeout.proofs.Numbers.{add_in_time, add-late, fires-is, fires-not}
use Rattle.timeout.proofs.Numbers.{announces-none, announces-quiet, announces-fires, decides-wrong, decides-right}

-- a sum of ticks that is told, and one that is refused
pub sums : (c n : ℕ) (r : ℤ) (m' : ℕ) → (c + n < never → (r ≡ ok) × (m' ≡ c + n)) → (never ≤ c + n → r ≡ einval) → Sum c n r m'
sums c n r m' f g =
    less (c + n) never
    (λ k. let y = f k in record { is = λ z. y.1; below = λ z. k; clock = λ z. omega arith; code = λ f. absurd (f.0 y.0); over = λ f. absurd (f.0 y.0) })
    (λ k. let y = g k in record { is = λ z. no_code (sym z ∙ y); below = λ z. no_code (sym z ∙ y); clock = λ z. no_code (sym z ∙ y); code = λ f. y; over = λ f. k })

pub add_decide_lem : (c n m : ℕ) (r : ℤ) (m' : ℕ) → AddDecided c n m r m' → Sum c n r m'
add_decide_lem c n m r m' d = sums c n r m' (λ k. decided (add_in_time c n k) d) (λ k. (declined (add-late c n k) d).0)

pub abort_decide_lem : (b r : Bool) → AbortDecided b r → upstream.AbortDecide b r
abort_decide_lem b r e = e

module _ (c n d m : ℕ) (b : Bool) (r : ℤ) (m' : ℕ) (q : AnnounceDecided c n d b m r m') where
  pub announce_decide_lem : right b d c ≡ true → AnnounceDecide c n d b r m'
  announce_decide_lem i = less (c + n) never (λ k. either (fires b d (c + n)) (rings k) (quiet k)) late
    where
      late : never ≤ c + n → AnnounceDecide c n d b r m'
      late k =
          let z = declined (decides-right b d c n i ∙ announces-none b d c n k) q in
          record {
            below = λ g. ⊎_elim (λ g. no_code (sym g ∙ z.0)) (λ g. no_code (sym g ∙ z.0)) g;
            moved = λ g. ⊎_elim (λ g. no_code (sym g ∙ z.0)) (λ g. no_code (sym g ∙ z.0)) g;
            fired = λ g. no_code (sym g ∙ z.0);
            not_fired = λ g. no_code (sym g ∙ z.0);
            code = λ g. z.0;
            over = λ g. k;
          }

      quiet : c + n < never → fires b d (c + n) ≡ false → AnnounceDecide c n d b r m'
      quiet k f =
          let z = decided (decides-right b d c n i ∙ announces-quiet b d c n k f) q in
          record {
            below = λ g. k;
            moved = λ g. z.1;
            fired = λ g. not-one (sym z.0 ∙ g);
            not_fired = λ g. ⊎_elim (λ w. inl w) (λ w. inr (inr (⊎_elim (λ v. omega (arith, z.1)) (λ v. omega (arith, z.1)) w))) (fires-not b d (c + n) f);
            code = λ g. absurd (g.0 z.0);
            over = λ g. absurd (g.0 z.0);
          }

      rings : c + n < never → fires b d (c + n) ≡ true → AnnounceDecide c n d b r m'
      rings k f =
          let z = decided (decides-right b d c n i ∙ announces-fires b d c n k f) q in
          let w = fires-is b d (c + n) f in
          record {
            below = λ g. k;
            moved = λ g. z.1;
            fired = λ g. (w.0, λ v. omega (arith, w.1), omega (arith, w.2, z.1));
            not_fired = λ g. not-one (sym g ∙ z.0);
            code = λ g. absurd (g.1 z.0);
            over = λ g. absurd (g.1 z.0);
          }

  -- an active deadline that is behind the clock, and not 0; or a clock that is at never
  pub announce-decide-refuses : right b d c ≡ false → (r ≡ einval) × (m' ≡ m)
  announce-decide-refuses e = declined (decides-wrong b d c n e) q

-- functions that only tell: of a malformed timeout nothing
pub get-refuses : (f : Timeout → ℤ) (h : List ℕ) (r : ℤ) → place.formed h [] ≡ false → r ≡ looks place f h [] → r ≡ einval
get-refuses f h r e d = d ∙ looks_bad place h [] f e

pub ask_refuses : (f : Timeout → Reply Timeout) (h : List ℕ) (m : ℕ) (r : ℤ) (m' : ℕ) → place.formed h [] ≡ false → Hands place f h [] m r h m'
    → (r ≡ einval) × (m' ≡ m)
ask_refuses f h m r m' e d = handed place f h [] m (replies_bad place f h [] e) d
