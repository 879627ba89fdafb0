-- What one call does to a timeout: it sets a deadline, aborts, moves the clock, fires, or nothing changes. Assumes nothing.
use mathlib.Core.Path.{◌≡◌, refl}
use mathlib.Core.Bool.{true, false}
use mathlib.Core.List.{List, [], ◌∷◌}
use Prim.Native.Nat.{ℕ, ◌+◌, ◌≤◌, ◌<◌}
use native.Mathlib.Omega.{arith}
use lib.IntN.{pos, negsuc}
use Rattle.thread.specs.Code.{ok, einval}
use Rattle.store.specs.Store.{Reply, refuse, accept, answer, left}
use Rattle.store.specs.History.{Step, Made}
use Rattle.store.proofs.Laws.{less}
use Rattle.store.proofs.Histories.{throughout_made}
use Rattle.timeout.specs.Timeout.{Timeout, timeout, never, is_active, fires, arm}
use Rattle.timeout.specs.Post.{place}
use Rattle.timeout.specs.History.{Call, adding, adding_absolute, adding_forever, adding_no_wait, aborting, announcing, does}
use Rattle.timeout.proofs.Numbers.{add-late, add_in_time, absolute-behind, absolute_far, absolute-is}
use Rattle.timeout.proofs.Whole.{set-busy, set_no, set_is, abort_no, abort-is, by-announce}

-- the deadline x of a call that adds, with the clock at c
pub data Addition (c : ℕ) : Call → ℕ → Type 0 where
  relative : {n : ℕ} → Addition c (adding n) (c + n)
  absolutely : {d : ℕ} → c ≤ d → Addition c (adding_absolute d) d
  forever : Addition c adding_forever never
  no-wait : Addition c adding_no_wait 0

-- the call, and the reply
pub data Does (t : Timeout) : Call → Reply Timeout → Type 0 where
  refuses : {k : Call} (m : ℕ) → Does t k (refuse (negsuc m))
  sets : {k : Call} {x : ℕ} {l : List ℕ} → t.active ≡ 0 → Addition t.clock k x → Does t k (accept (timeout x 1 t.clock) ok l)
  aborts : 0 < t.active → Does t aborting (accept (timeout t.deadline 0 t.clock) ok [])
  moves-on : {n : ℕ} → t.clock + n < never → fires (is_active t) t.deadline (t.clock + n) ≡ false
      → Does t (announcing n) (accept (timeout t.deadline t.active (t.clock + n)) ok [])
  rings : {n : ℕ} → t.clock + n < never → fires (is_active t) t.deadline (t.clock + n) ≡ true
      → Does t (announcing n) (accept (timeout t.deadline 0 (t.clock + n)) (pos 1) [])

module _ (t : Timeout) where
  module _ {k : Call} (y : Reply ℕ) where
    set-none : y ≡ refuse einval → Does t k (arm y t)
    set-none e = less 0 t.active (λ g. rw (set-busy t y g) (refuses 15)) (λ g. rw (set_no t y (omega arith) e) (refuses 21))

    set-one : {x : ℕ} {l : List ℕ} → Addition t.clock k x → y ≡ accept x ok l → Does t k (arm y t)
    set-one i e =
        less 0 t.active (λ g. rw (set-busy t y g) (refuses 15))
        (λ g. let z : t.active ≡ 0 = omega arith in rw (set_is t y z e) (sets z i))

  pub which : (k : Call) → Does t k (does k t)
  which (adding n) = less (t.clock + n) never (λ k. set-one _ relative (add_in_time t.clock n k)) (λ k. set-none _ (add-late t.clock n k))
  which (adding_absolute x) =
      less x t.clock (λ k. set-none _ (absolute-behind x t.clock k))
      (λ k. less x never (λ j. set-one _ (absolutely k) (absolute-is x t.clock k j)) (λ j. set-none _ (absolute_far x t.clock j)))
  which adding_forever = set-one _ forever refl
  which adding_no_wait = set-one _ no-wait refl
  which aborting = less 0 t.active (λ k. rw (abort-is t k) (aborts k)) (λ k. rw (abort_no t (omega arith)) (refuses 21))
  which (announcing n) = by-announce t n (Does t (announcing n)) (λ k. refuses 21) (λ k e. moves-on k e) (λ k e. rings k e)

-- an invariant that each of these keeps is kept by any calls
abbrev pub Keeps : (List (Step Call) → Timeout → Type 0) → Type 0
Keeps I =
    (es : List (Step Call)) (t : Timeout) (o : List ℕ) → I es t → (k : Call) (y : Reply Timeout) → Does t k y
    → I (record { call = k; answer = answer y; out = o } ∷ es) (left y t)

pub always_keeps : (I : List (Step Call) → Timeout → Type 0) → Keeps I → {h h' : List ℕ} {es : List (Step Call)} → place.formed h [] ≡ true
    → I [] (place.object h []) → Made place does h [] es h' [] → (place.formed h' [] ≡ true) × I es (place.object h' [])
always_keeps I keeps e i m = throughout_made does I (λ k es t o i. keeps es t o i k (does k t) (which t k)) place e i m
