-- What a caller knows from an answer of 0, and of the next call. Assumes nothing.
use mathlib.Core.Path.{◌≡◌, sym, ap, ◌∙◌}
use mathlib.Core.Bool.{true}
use mathlib.Core.List.{List, []}
use Prim.Native.Nat.{ℕ, ◌+◌, ◌≤◌, ◌<◌}
use native.Mathlib.Omega.{arith}
use lib.IntN.{ℤ, pos}
use borrow.Author.Tests.{lt-ltb, le-ltb}
use Rattle.thread.specs.Code.{ok}
use Rattle.store.specs.Store.{Reply, answer, left, Did}
use Rattle.store.proofs.Laws.{less, no_code, answers, found}
use Rattle.store.proofs.Histories.{done}
use Rattle.timeout.specs.Timeout.{Timeout, timeout, never, is_active, add, add_no_wait, abort, announce}
use Rattle.timeout.specs.Post.{place}
use Rattle.timeout.proofs.Numbers.{fires_early, fires-due}
use Rattle.timeout.proofs.Whole.{announce-quiet, announce_rings}

-- a call that was answered 0 leaves a timeout
pub record Went (f : Timeout → Reply Timeout) (h h' : List ℕ) : Type 0 where
  pub still : place.formed h' [] ≡ true
  pub object : place.object h' [] ≡ left (f (place.object h [])) (place.object h [])
  pub code : answer (f (place.object h [])) ≡ ok

pub went : (f : Timeout → Reply Timeout) (h h' : List ℕ) → Did place f h [] ok h' [] → Went f h h'
went f h h' d =
    let e = found place f h [] d in
    record { still = (done place f h [] e d).0; object = (done place f h [] e d).1; code = sym (answers place f h [] d e) }

module _ (t : Timeout) where
  pub add_ok : (n : ℕ) → answer (add n t) ≡ ok → (t.clock + n < never) × (left (add n t) t ≡ timeout (t.clock + n) 1 t.clock)
  add_ok n =
      less 0 t.active (λ e z. no_code (sym (rw (lt-ltb 0 t.active e) at z)))
      (λ e. less (t.clock + n) never (λ f z. (f, rw (le-ltb 0 t.active e, lt-ltb (t.clock + n) never f)))
      (λ f z. no_code (sym (rw (le-ltb 0 t.active e, le-ltb (t.clock + n) never f) at z))))

  pub abort-ok : answer (abort t) ≡ ok → left (abort t) t ≡ timeout t.deadline 0 t.clock
  abort-ok = less 0 t.active (λ e z. rw (lt-ltb 0 t.active e)) (λ e z. no_code (sym (rw (le-ltb 0 t.active e) at z)))

  pub no_wait-ok : answer (add_no_wait t) ≡ ok → left (add_no_wait t) t ≡ timeout 0 1 t.clock
  no_wait-ok = less 0 t.active (λ e z. no_code (sym (rw (lt-ltb 0 t.active e) at z))) (λ e z. rw (le-ltb 0 t.active e))

  -- an announcement to what is active, due or not
  module _ (n : ℕ) (k : 0 < t.active) (b : t.clock + n < never) where
    pub fires-then : t.deadline ≤ t.clock + n → answer (announce n t) ≡ pos 1
    fires-then e = ap answer (announce_rings t n b (fires-due (is_active t) t.deadline (t.clock + n) (lt-ltb 0 t.active k) (omega arith) e))

    pub quiet_then : t.clock + n < t.deadline → answer (announce n t) ≡ ok
    quiet_then e = ap answer (announce-quiet t n b (fires_early (is_active t) t.deadline (t.clock + n) e))

-- of what is t now
pub told : (f : Timeout → Reply Timeout) (h h' : List ℕ) (r : ℤ) (t : Timeout) → Did place f h [] r h' [] → place.formed h [] ≡ true
    → place.object h [] ≡ t → r ≡ answer (f t)
told f h h' r t d e o = answers place f h [] d e ∙ ap (λ (t : Timeout). answer (f t)) o
