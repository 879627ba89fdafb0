-- Our contracts imply those of Gale's timer.rs. Assumes nothing.
use mathlib.Core.Path.{◌≡◌, refl, sym, subst, ◌∙◌}
use mathlib.Core.Bool.{true}
use mathlib.Core.List.{List, []}
use mathlib.Core.Logic.{inl, inr}
use Prim.Native.Nat.{ℕ, suc, ◌≤◌, ◌<◌}
use native.Mathlib.Omega.{arith}
use native.Mathlib.Numerals.{add-one}
use lib.Dec.{eqb}
use lib.IntN.{ℤ}
use lib.ListN.{length, get_or}
use borrow.Author.Tests.{le-leb, lt-leb, leb-true, eqb-true, eqb-false}
use Rattle.thread.specs.Code.{einval, eoverflow}
use Rattle.store.specs.Store.{Reply, refuse, answer, left, Did, looks}
use Rattle.store.proofs.Laws.{either, no_code, kept_bad, kept_no, looks-is, looks_bad}
use Rattle.store.proofs.Histories.{done, holds_after}
use Rattle.timer.specs.Timer.{Timer, most, start, stop, expire, status_get, count, ticks, runs}
use Rattle.timer.specs.Post.{Starts, StartsRunning, Stops, Expires, GetsStatus, PeeksStatus, GetsPeriod, SaysRunning, place}
use Rattle.timer.specs.Upstream.{Init, Start, Stop, Expire, StatusGet, IsRunning, PeriodGet, StatusPeek}
use Rattle.timer.proofs.Answers.{by_expiry}

pub timer-init : (p : ℕ) (h h' : List ℕ) (r : ℤ) → 3 ≤ length h → Starts p h r h' → Init p (place.object h' [])
timer-init p h h' r k s =
    let o = (s.made (s.code ∙ rw (le-leb 3 (length h) k))).object in
    subst (λ (t : Timer). Init p t) (sym o) (record { status = refl; kept = refl; stopped = refl; once = λ e. e; again = λ e. e })

pub init-refuses : (p : ℕ) (h h' : List ℕ) (r : ℤ) → length h < 3 → Starts p h r h' → (r ≡ einval) × (h' ≡ h)
init-refuses p h h' r k s =
    let e : r ≡ einval = s.code ∙ rw (lt-leb 3 (length h) k) in
    (e, (s.kept 21 e).0)

expires_upstream : (t : Timer) → t.status ≤ most → Expire t (answer (expire t)) (left (expire t) t)
expires_upstream t f =
    by_expiry (λ y. Expire t (answer y) (left y t)) t
    (λ b.
    record {
      period = refl;
      running = refl;
      counted = λ n e. sym (add-one t.status);
      told = λ n e. cc;
      code = λ g. absurd (g (suc t.status) refl);
      stayed = λ g. absurd (g (suc t.status) refl);
      over = λ g. absurd (g (suc t.status) refl);
    })
    (λ b.
    record {
      period = refl;
      running = refl;
      counted = λ n e. no_code (sym e);
      told = λ n e. no_code (sym e);
      code = λ g. refl;
      stayed = λ g. refl;
      over = λ g. omega arith;
    })

module _ (h h' : List ℕ) (r : ℤ) where
  -- what upstream has no word for: a header that is too short
  pub refuses : (f : Timer → Reply Timer) → length h < 3 → Did place f h [] r h' [] → (r ≡ einval) × (h' ≡ h)
  refuses f k d = let e = kept_bad place f h [] d (lt-leb 3 (length h) k) in (e.0, e.1)

  pub get-refuses : (f : Timer → ℤ) → length h < 3 → r ≡ looks place f h [] → r ≡ einval
  get-refuses f k d = d ∙ looks_bad place h [] f (lt-leb 3 (length h) k)

  module _ (k : 3 ≤ length h) where
    e : place.formed h [] ≡ true
    e = le-leb 3 (length h) k

    -- upstream's invariant is `true`; ours is kept by each call
    pub inv-kept : (f : Timer → Reply Timer) → Did place f h [] r h' [] → 3 ≤ length h'
    inv-kept f d = leb-true 3 (length h') (done place f h [] e d).0

    -- an expiry that the count has no room for: no word changes
    pub expire-refuses : get_or h 0 0 ≡ most → Expires h r h' → (r ≡ eoverflow) × (h' ≡ h)
    expire-refuses z d =
        let y : expire (place.object h []) ≡ refuse eoverflow = rw z in
        let q = kept_no place expire h [] d e y in
        (q.0, q.1)

    pub timer-start : StartsRunning h r h' → Start (place.object h []) (place.object h' [])
    timer-start d = holds_after place start h [] (λ z t. Start (place.object h []) t) e d (record { period = refl; status = refl; running = λ e. omega arith })

    pub timer-stop : Stops h r h' → Stop (place.object h []) (place.object h' [])
    timer-stop d = holds_after place stop h [] (λ z t. Stop (place.object h []) t) e d (record { period = refl; status = refl; running = refl })

    -- the count is a word of 32 bits
    pub timer-expire : get_or h 0 0 ≤ most → Expires h r h' → Expire (place.object h []) r (place.object h' [])
    timer-expire b d = holds_after place expire h [] (Expire (place.object h [])) e d (expires_upstream (place.object h []) b)

    pub timer-status-get : GetsStatus h r h' → StatusGet (place.object h []) r (place.object h' [])
    timer-status-get d = holds_after place status_get h [] (StatusGet (place.object h [])) e d (record { period = refl; running = refl; told = refl; status = refl })

    seen : (f : Timer → ℤ) → r ≡ looks place f h [] → r ≡ f (place.object h [])
    seen f d = d ∙ looks-is place h [] f e

    pub status_peek_lem : PeeksStatus h r → StatusPeek (place.object h []) r
    status_peek_lem d = seen count d

    pub period_get_lem : GetsPeriod h r → PeriodGet (place.object h []) r
    period_get_lem d = seen ticks d

    pub is_running_lem : SaysRunning h r → IsRunning (place.object h []) r
    is_running_lem d =
        either (eqb (get_or h 2 0) 0) (λ e. inl (rw e at (seen runs d), eqb-true (get_or h 2 0) 0 e))
        (λ e. inr (rw e at (seen runs d), eqb-false (get_or h 2 0) 0 e))
