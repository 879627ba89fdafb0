-- Two calls, one after the other. Assumes nothing.
use mathlib.Core.Path.{◌≡◌, refl, ap, ◌∙◌}
use mathlib.Core.Bool.{true}
use mathlib.Core.List.{[]}
use Prim.Native.Nat.{ℕ, ◌+◌, ◌-◌}
use native.Mathlib.Omega.{arith}
use lib.ListN.{get_or}
use borrow.Author.Tests.{lt-ltb}
use Rattle.store.specs.Store.{answer, carry}
use Rattle.store.proofs.Laws.{less, no_code, replies, handed, found}
use Rattle.timeout.specs.Timeout.{timeout, never, add, add_no_wait, abort, announce, remaining, timepoint_calc, timepoint_timeout, whether_active}
use Rattle.timeout.specs.Post.{place}
use Rattle.timeout.specs.Pairs.{AddRemaining, CalcTimeout, AbortActive, AbortAdd, RemainingFires, NoWaitFires}
use Rattle.timeout.proofs.Numbers.{add_in_time, add-late, until-is}
use Rattle.timeout.proofs.Memory.{sound}
use Rattle.timeout.proofs.Answers.{remaining-some}
use Rattle.timeout.proofs.Steps.{went, add_ok, abort-ok, no_wait-ok, fires-then, quiet_then, told}

pub add-remaining : AddRemaining
add-remaining h h' n m m' r d q =
    let w = went (add n) h h' d in
    let c = get_or h 2 0 in
    let s = add_ok (place.object h []) n w.code in
    let p = handed place remaining h' [] m (replies place remaining h' [] w.still ∙ ap remaining (w.object ∙ s.1)) q in
    (p.0, p.1 ∙ until-is (c + n) c (λ e. omega (arith, s.0)) ∙ omega arith)

pub calc_timeout : CalcTimeout
calc_timeout h n m tp k k' r p q =
    less (c + n) never
    (λ b.
    let t : tp ≡ c + n = (handed place (timepoint_calc n) h [] m (replies place (timepoint_calc n) h [] e ∙ ap (carry (λ n. place.object h [])) (add_in_time c n b)) p).1 in
    let y = handed place (timepoint_timeout tp) h [] k (replies place (timepoint_timeout tp) h [] e) q in
    (y.0, y.1 ∙ until-is tp c (λ e. omega arith) ∙ omega arith))
    (λ b. no_code (handed place (timepoint_calc n) h [] m (replies place (timepoint_calc n) h [] e ∙ ap (carry (λ n. place.object h [])) (add-late c n b)) p).0)
  where
    c : ℕ
    c = get_or h 2 0

    e : place.formed h [] ≡ true
    e = found place (timepoint_calc n) h [] p.0

pub abort-active : AbortActive
abort-active h h' d =
    let w = went abort h h' d in
    rw w.still (ap whether_active (w.object ∙ abort-ok (place.object h []) w.code))

pub abort-add : AbortAdd
abort-add h h' h'' n r d b q =
    let w = went abort h h' d in
    let o = w.object ∙ abort-ok (place.object h []) w.code in
    told (add n) h' h'' r (timeout (get_or h 0 0) 0 (get_or h 2 0)) q w.still o ∙ rw (lt-ltb (get_or h 2 0 + n) never b)

pub remaining-fires : RemainingFires
remaining-fires h h' m m' n r k f p q =
    let t = place.object h [] in
    let e = found place remaining h [] p.0 in
    let u : m' ≡ get_or h 0 0 - get_or h 2 0 =
    (handed place remaining h [] m (replies place remaining h [] e ∙ remaining-some t k) p).1 ∙ until-is (get_or h 0 0) (get_or h 2 0) (λ e. omega arith) in
    let z : r ≡ answer (announce n t) = told (announce n) h h' r t q e refl in
    (λ b. z ∙ quiet_then t n k (omega arith) (omega arith), λ b. z ∙ fires-then t n k (omega (arith, sound h e)) (omega arith))

pub no_wait-fires : NoWaitFires
no_wait-fires h h' h'' n r d b q =
    let w = went add_no_wait h h' d in
    let o = w.object ∙ no_wait-ok (place.object h []) w.code in
    let t = timeout 0 1 (get_or h 2 0) in
    told (announce n) h' h'' r t q w.still o ∙ fires-then t n (omega arith) b (omega arith)
