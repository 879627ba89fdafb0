-- Upstream's lemmas. Assumes nothing.
use mathlib.Core.Path.{◌≡◌, refl, ap, ◌∙◌}
use mathlib.Core.List.{[], ◌∷◌}
use mathlib.Core.Logic.{inl, inr}
use Prim.Native.Nat.{ℕ, ◌+◌, ◌-◌, ◌≤◌, ◌<◌}
use native.Mathlib.Omega.{arith}
use lib.Dec.{ltb}
use borrow.Author.Tests.{ltb-true, lt-ltb}
use Rattle.thread.specs.Code.{ok}
use Rattle.store.specs.Store.{Reply, accept, left, carry}
use Rattle.timeout.specs.Timeout.{Timeout, timeout, never, add_decide, add, until}
use Rattle.timeout.specs.History.{Call}
use Rattle.timeout.specs.Upstream.{Inv, Inductive, AddCorrect, AbortDeactivates, FiresExpired, NoOverflow, NeverExpires, AlwaysExpires}
use Rattle.timeout.specs.Upstream.{AddRoundtrip, TimepointRoundtrip, AbortThenAdd}
use Rattle.timeout.proofs.Numbers.{in_time, add_in_time, fires_early, fires-due, until-is}
use Rattle.timeout.proofs.Whole.{set_is, abort-is, announce-quiet, announce_rings}
use Rattle.timeout.proofs.Moves.{still_ahead}
use Rattle.timeout.proofs.Calls.{Addition, relative, absolutely, forever, no-wait, Does, refuses, sets, aborts, moves-on, rings, which}

inv-adds : (c : ℕ) {k : Call} {x : ℕ} → c < never → Addition c k x → Inv (timeout x 1 c)
inv-adds c b relative = record { tick = b; ahead = λ j. inr (omega arith) }
inv-adds c b (absolutely e) = record { tick = b; ahead = λ j. inr e }
inv-adds c b forever = record { tick = b; ahead = λ j. inr (omega arith) }
inv-adds c b no-wait = record { tick = b; ahead = λ j. inl refl }

inv-does : (t : Timeout) {k : Call} {y : Reply Timeout} → Inv t → Does t k y → Inv (left y t)
inv-does t i (refuses m) = i
inv-does t i (sets e f) = inv-adds t.clock i.tick f
inv-does t i (aborts e) = record { tick = i.tick; ahead = λ j. absurd (omega arith) }
inv-does t i (moves-on {n} f e) = record { tick = f; ahead = λ j. inr (still_ahead t n f e j) }
inv-does t i (rings f e) = record { tick = f; ahead = λ j. absurd (omega arith) }

pub invariant_inductive : Inductive
invariant_inductive =
    record {
      init = λ c e. record { tick = ltb-true c never e; ahead = λ j. absurd (omega arith) };
      calls = λ t k i. inv-does t i (which t k);
    }

module _ (c n : ℕ) (b : c + n < never) where
  pub add-deadline_correct : AddCorrect c n
  add-deadline_correct =
      record {
        sum = add_in_time c n b;
        ahead = omega arith;
        adds = λ d. set_is (timeout d 0 c) (add_decide c n) refl (add_in_time c n b);
      }

  pub announce-fires-expired : (d : ℕ) → d ≤ c + n → FiresExpired d c n
  announce-fires-expired d e = (e, λ a k. announce_rings (timeout d a c) n b (fires-due (ltb 0 a) d (c + n) (lt-ltb 0 a k) (omega arith) e))

  pub forever-never-expires : NeverExpires c n
  forever-never-expires = (b, λ a. announce-quiet (timeout never a c) n b (fires_early (ltb 0 a) never (c + n) b))

  pub no_wait_always_expires : AlwaysExpires c n
  no_wait_always_expires = announce-fires-expired 0 (omega arith)

  back : (t : Timeout) → accept t ok (until (c + n) c ∷ []) ≡ accept t ok (n ∷ [])
  back t = ap (λ (m : ℕ). accept t ok (m ∷ [])) (until-is (c + n) c (λ e. omega arith) ∙ omega arith)

  pub add-remaining_roundtrip : AddRoundtrip c n
  add-remaining_roundtrip = (omega arith, back (timeout (c + n) 1 c))

  pub timepoint_roundtrip : TimepointRoundtrip c n
  timepoint_roundtrip d a = (ap (carry (λ n. timeout d a c)) (add_in_time c n b), back (timeout d a c))

pub tick_no_overflow : (a b : ℕ) → b < never - a → NoOverflow a b
tick_no_overflow a b k = let f : a + b < never = omega arith in (f, λ r. in_time a b f r)

pub abort_deactivates : AbortDeactivates
abort_deactivates d a c k = abort-is (timeout d a c) k

pub abort-then-add : AbortThenAdd
abort-then-add d a c n k b = ap (λ (y : Reply Timeout). add n (left y (timeout d a c))) (abort-is (timeout d a c) k) ∙ (add-deadline_correct c n b).adds d
