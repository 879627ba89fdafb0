-- How the owner is written, by what was stored. Assumes nothing.
use mathlib.Core.Path.{◌≡◌, refl, sym, ap, ◌∙◌}
use mathlib.Core.Bool.{Bool, true, false, cond}
use mathlib.Core.List.{List, [], ◌∷◌}
use Prim.Native.Nat.{ℕ, zero, suc, ◌≤◌, ◌<◌}
use native.Mathlib.Omega.{arith}
use lib.Dec.{ltb}
use lib.IntN.{ℤ, pos, negsuc}
use lib.ListN.{length, get_or, set}
use Rattle.seq.proofs.Back.{back-length}
use Rattle.seq.proofs.Order.{length-insert}
use Rattle.thread.specs.Code.{ok, enomem, ebusy}
use Rattle.thread.specs.Caller.{caller_code}
use Rattle.store.specs.Store.{Reply, refuse, accept, left, asked, Did}
use Rattle.store.proofs.Laws.{kept_bad}
use Rattle.store.proofs.Histories.{done}
use Rattle.wait_queue.specs.Queue.{max_waiters, entry, ident, prio, waiting, roomy, holds, joined}
use Rattle.wait_queue.specs.Turn.{wait_queue, waits, pend, unpend_first}
use Rattle.wait_queue.specs.Post.{Pends}
use Rattle.mutex.specs.Post.{Written}
use Rattle.seq.proofs.Words.{spell}

-- a queue does not become shorter by who joins it, and does by who is woken
module _ (n : ℕ) (e : List ℕ) (r : ℤ) (m : ℕ) (e' : List ℕ) where
  pub now : (f : List ℕ → Reply (List ℕ)) → roomy n e ≡ true → Did wait_queue f (n ∷ []) e r (m ∷ []) e' → m ≡ length (left (f (waiting e n)) (waiting e n))
  now f o d = sym (back-length e' m) ∙ ap length (done wait_queue f (n ∷ []) e o d).1

  pub no_shorter : (i p st : ℕ) → Pends i p st n e r m e' → n ≤ m
  no_shorter i p st d = by (roomy n e) refl
    where
      go : (z : ℤ) (b c : Bool)
          → length (waiting e n)
          ≤ length (left (asked z (cond b (refuse ebusy) (cond c (accept (joined (entry p i) (waiting e n)) waits []) (refuse enomem)))) (waiting e n))
      go (negsuc z) b c = omega arith
      go (pos z) true c = omega arith
      go (pos z) false true = omega (arith, length-insert prio (entry p i) (waiting e n))
      go (pos z) false false = omega arith

      by : (a : Bool) → roomy n e ≡ a → n ≤ m
      by true o =
          let k = go (caller_code p st) (holds (ident (entry p i)) (waiting e n)) (ltb (length (waiting e n)) max_waiters) in
          omega (arith, now (pend i p st) o d, back-length e n)
      by false o = omega (arith, ap (λ (l : List ℕ). get_or l 0 0) (kept_bad wait_queue (pend i p st) (n ∷ []) e d o).1)

  pub shorter : roomy n e ≡ true → 0 < n → Did wait_queue (unpend_first ok) (n ∷ []) e r (m ∷ []) e' → m < n
  shorter o b d = go n b (now (unpend_first ok) o d)
    where
      go : (c : ℕ) → 0 < c → m ≡ length (left (unpend_first ok (waiting e c)) (waiting e c)) → m < c
      go zero b l = absurd (omega arith)
      go (suc c) b l = omega (arith, l, back-length e c)

module _ (h h' : List ℕ) where
  stays : get_or h' 0 0 ≡ get_or h 0 0 → get_or h' 1 0 ≡ get_or h 1 0 → get_or h 3 0 ≤ get_or h' 3 0 → Written h h'
  stays x y l = record { found = λ p q. absurd (omega arith); woken = λ p q. absurd (omega arith); stays = λ p q r. x; last = λ p. y }

  gets : get_or h' 0 0 ≡ 1 → (0 < get_or h 0 0 → get_or h 3 0 ≤ get_or h' 3 0 → ⊥) → Written h h'
  gets x z = record { found = λ p q. x; woken = λ p q. x; stays = λ p q r. absurd (z p q); last = λ p. absurd (omega arith) }

  goes : get_or h' 0 0 ≡ 0 → get_or h' 1 0 ≡ get_or h 1 0 → Written h h'
  goes x y = record { found = λ p q. absurd (omega arith); woken = λ p q. absurd (omega arith); stays = λ p q r. absurd (omega arith); last = λ p. y }

-- nothing was stored
pub unwritten : (h : List ℕ) → Written h h
unwritten h = stays h h refl refl (omega arith)

module _ (h : List ℕ) (k : 4 ≤ length h) where
  -- a lock more or less
  pub counts : (c : ℕ) → Written h (set h 2 c)
  counts c =
      let l : get_or (set h 2 c) 3 0 ≡ get_or h 3 0 = rw (spell 4 h k) refl in
      stays h (set h 2 c) (rw (spell 4 h k) refl) (rw (spell 4 h k) refl) (omega arith)

  -- a free one is taken
  pub takes : (i : ℕ) → get_or h 0 0 ≡ 0 → Written h (set (set (set h 0 1) 1 i) 2 1)
  takes i z = gets h (set (set (set h 0 1) 1 i) 2 1) (rw (spell 4 h k) refl) (λ p q. omega arith)

  -- one is freed, or new
  pub frees : Written h (set (set h 0 0) 2 0)
  frees = goes h (set (set h 0 0) 2 0) (rw (spell 4 h k) refl) (rw (spell 4 h k) refl)

  pub starts : Written h (set (set (set h 0 0) 2 0) 3 0)
  starts = goes h (set (set (set h 0 0) 2 0) 3 0) (rw (spell 4 h k) refl) (rw (spell 4 h k) refl)

  module _ (e : List ℕ) (r : ℤ) (m : ℕ) (e' : List ℕ) where
    -- a thread waits, or is refused
    pub joins : (i p st : ℕ) → Pends i p st (get_or h 3 0) e r m e' → Written h (set h 3 m)
    joins i p st d =
        let l : get_or (set h 3 m) 3 0 ≡ m = rw (spell 4 h k) refl in
        stays h (set h 3 m) (rw (spell 4 h k) refl) (rw (spell 4 h k) refl) (omega (arith, no_shorter (get_or h 3 0) e r m e' i p st d))

    -- it is handed over
    pub passes : (i : ℕ) → roomy (get_or h 3 0) e ≡ true → 0 < get_or h 3 0 → Did wait_queue (unpend_first ok) (get_or h 3 0 ∷ []) e r (m ∷ []) e'
        → Written h (set (set (set (set h 3 m) 0 1) 1 i) 2 1)
    passes i o b d =
        let l : get_or (set (set (set (set h 3 m) 0 1) 1 i) 2 1) 3 0 ≡ m = rw (spell 4 h k) refl in
        gets h (set (set (set (set h 3 m) 0 1) 1 i) 2 1) (rw (spell 4 h k) refl) (λ p q. omega (arith, shorter (get_or h 3 0) e r m e' o b d))
