-- Our contracts imply Gale's: what is told of a timeout in memory. Assumes nothing.
use mathlib.Core.Path.{◌≡◌, refl, ap, ◌∙◌}
use mathlib.Core.Bool.{Bool, true}
use mathlib.Core.List.{List, []}
use mathlib.Core.Logic.{inl, inr}
use Prim.Native.Nat.{ℕ, ◌≤◌}
use native.Mathlib.Omega.{arith}
use lib.Dec.{eqb, ltb}
use lib.IntN.{ℤ}
use lib.ListN.{length, get_or}
use borrow.Author.Tests.{ltb-true, ltb-false, eqb-true, eqb-false}
use Rattle.store.specs.Store.{Reply, answer, carry, out, looks, first, Hands}
use Rattle.store.proofs.Laws.{either, replies, handed, looks-is}
use Rattle.timeout.specs.Timeout.{Timeout, never, yes_no, remaining, expires, clock_now, timepoint_calc, timepoint_timeout}
use Rattle.timeout.specs.Post.{GetsRemaining, GetsExpiry, SaysActive, SaysForever, SaysNoWait, GetsNow, CalcsTimepoint, GetsTimepointTimeout, place}
use Rattle.timeout.specs.Upstream.{Inv, Remaining, Expires, IsActive, IsForever, IsNoWait, Now, Sum, TimepointTimeout}
use Rattle.timeout.proofs.Numbers.{add_in_time, add-late, until-never, until-is}
use Rattle.timeout.proofs.Answers.{remaining-none, remaining-some, expires-idle, expires-active}
use Rattle.timeout.proofs.Upstream.{inv-formed}
use Rattle.timeout.proofs.Others.{sums}

module _ (h : List ℕ) (k : 3 ≤ length h) (i : Inv (place.object h [])) (r : ℤ) where
  abbrev it : Timeout
  it = place.object h []

  e : place.formed h [] ≡ true
  e = inv-formed h k i

  -- the test b is told
  seen : (f : Timeout → Bool) {b : Bool} → f it ≡ b → r ≡ looks place (λ t. yes_no (f t)) h [] → r ≡ yes_no b
  seen f p d = d ∙ looks-is place h [] (λ t. yes_no (f t)) e ∙ ap yes_no p

  pub is_active_lem : SaysActive h r → IsActive it r
  is_active_lem d =
      either (ltb 0 (get_or h 1 0)) (λ f. inl (seen (λ t. ltb 0 t.active) f d, ltb-true 0 (get_or h 1 0) f))
      (λ f. inr (seen (λ t. ltb 0 t.active) f d, λ z. omega (arith, ltb-false 0 (get_or h 1 0) f)))

  pub is_forever_lem : SaysForever h r → IsForever it r
  is_forever_lem d =
      either (eqb (get_or h 0 0) never) (λ f. inl (seen (λ t. eqb t.deadline never) f d, eqb-true (get_or h 0 0) never f))
      (λ f. inr (seen (λ t. eqb t.deadline never) f d, eqb-false (get_or h 0 0) never f))

  pub is_no_wait_lem : SaysNoWait h r → IsNoWait it r
  is_no_wait_lem d =
      either (eqb (get_or h 0 0) 0) (λ f. inl (seen (λ t. eqb t.deadline 0) f d, eqb-true (get_or h 0 0) 0 f))
      (λ f. inr (seen (λ t. eqb t.deadline 0) f d, eqb-false (get_or h 0 0) 0 f))

  module _ (m m' : ℕ) where
    told : (f : Timeout → Reply Timeout) {y : Reply Timeout} → f it ≡ y → Hands place f h [] m r h m' → (r ≡ answer y) × (m' ≡ first m (out y))
    told f o d = handed place f h [] m (replies place f h [] e ∙ o) d

    pub remaining-is : GetsRemaining h m r m' → Remaining it m'
    remaining-is d =
        record {
          inactive = λ z. (told remaining (remaining-none it z) d).1;
          forever = λ z f. (told remaining (remaining-some it z) d).1 ∙ until-never (get_or h 0 0) (get_or h 2 0) f;
          some_left = λ z f g. (told remaining (remaining-some it z) d).1 ∙ until-is (get_or h 0 0) (get_or h 2 0) f;
          none_left = λ z f g. (told remaining (remaining-some it z) d).1 ∙ until-is (get_or h 0 0) (get_or h 2 0) f ∙ omega arith;
        }

    pub expires-is : GetsExpiry h m r m' → Expires it m'
    expires-is d = record { inactive = λ z. (told expires (expires-idle it z) d).1; active = λ z. (told expires (expires-active it z) d).1 }

    pub now-is : GetsNow h m r m' → Now it m'
    now-is d = (told clock_now refl d).1

    pub timepoint_calc_lem : (n : ℕ) → CalcsTimepoint n h m r m' → Sum (get_or h 2 0) n r m'
    timepoint_calc_lem n d =
        sums (get_or h 2 0) n r m' (λ k. told (timepoint_calc n) (ap (carry (λ n. it)) (add_in_time (get_or h 2 0) n k)) d)
        (λ k. (told (timepoint_calc n) (ap (carry (λ n. it)) (add-late (get_or h 2 0) n k)) d).0)

    pub timepoint_timeout_lem : (tp : ℕ) → GetsTimepointTimeout tp h m r m' → TimepointTimeout tp (get_or h 2 0) m'
    timepoint_timeout_lem tp d =
        let u = (told (timepoint_timeout tp) refl d).1 in
        record {
          forever = λ f. u ∙ until-never tp (get_or h 2 0) f;
          is_at_once = λ f. u ∙ until-is tp (get_or h 2 0) (λ z. omega arith) ∙ omega arith;
          some_left = λ f g z. u ∙ until-is tp (get_or h 2 0) f;
          none_left = λ f g z. u ∙ until-is tp (get_or h 2 0) f ∙ omega arith;
        }
