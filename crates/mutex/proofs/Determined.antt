-- The mutex's contracts leave nothing open: how the owner is written fixes the two words that its numbers do not. Assumes nothing.
use mathlib.Core.Path.{◌≡◌, refl, sym, ap, ◌∙◌}
use mathlib.Core.Bool.{Bool, true, false}
use mathlib.Core.List.{List, [], ◌∷◌}
use Prim.Native.Nat.{ℕ, zero, suc, ◌<◌}
use native.Mathlib.Omega.{arith}
use lib.Dec.{ltb}
use lib.IntN.{ℤ, pos}
use lib.Signed.{mag}
use lib.ListN.{get_or}
use borrow.Author.Tests.{ltb-true, ltb-false}
use Rattle.seq.specs.Only.{Only, Alike}
use Rattle.seq.proofs.Only.{said, and, exactly, back_alike}
use Rattle.thread.proofs.Determined.{tells, tells-by}
use Rattle.store.specs.Store.{Reply, Did, Hands}
use Rattle.store.proofs.Determined.{Outcome}
use Rattle.kind.specs.Object.{Object}
use Rattle.kind.proofs.Determined.{same_outcome, same_start}
use Rattle.mutex.specs.Mutex.{nobody, thread, Mutex, free, mutex_kind}
use Rattle.mutex.specs.Post.{owner_in, layout, place, try_lock_out, unlock_out, lock_out, pass_out, Starts, Written, Audits, LockDecided, UnlockDecided}
use Rattle.mutex.specs.Determined.{Determined}
use Rattle.mutex.specs.Answer.{to_lock, to_unlock, to_release, unlocking, heir}
use Rattle.mutex.specs.declared.LockDecision.{LockDecision}
use Rattle.mutex.specs.declared.LockDecision.TheVariants as locking
use Rattle.mutex.specs.declared.UnlockDecisionKind.{UnlockDecisionKind}
use Rattle.mutex.specs.declared.UnlockDecisionKind.TheVariants as kinds
use Rattle.mutex.specs.declared.ReleaseDecision.{ReleaseDecision}
use Rattle.mutex.specs.declared.ReleaseDecision.TheVariants as releasing
use Rattle.mutex.specs.declared.UnlockResult.{UnlockResult}
use Rattle.mutex.specs.declared.UnlockResult.TheVariants as results

module _ (h h₁ h₂ : List ℕ) (u : Written h h₁) (v : Written h h₂) (l : get_or h₁ 3 0 ≡ get_or h₂ 3 0) where
  flags : 0 < get_or h₁ 0 0 → 0 < get_or h₂ 0 0 → get_or h₁ 0 0 ≡ get_or h₂ 0 0
  flags a b = go (ltb 0 (get_or h 0 0)) (ltb (get_or h₁ 3 0) (get_or h 3 0)) refl refl
    where
      go : (c d : Bool) → ltb 0 (get_or h 0 0) ≡ c → ltb (get_or h₁ 3 0) (get_or h 3 0) ≡ d → get_or h₁ 0 0 ≡ get_or h₂ 0 0
      go false d x y = let z : get_or h 0 0 ≡ 0 = omega (arith, ltb-false 0 (get_or h 0 0) x) in u.found z a ∙ sym (v.found z b)
      go true true x y = let z = ltb-true (get_or h₁ 3 0) (get_or h 3 0) y in u.woken z a ∙ sym (v.woken (omega arith) b)
      go true false x y =
          let z = ltb-true 0 (get_or h 0 0) x in
          let n = ltb-false (get_or h₁ 3 0) (get_or h 3 0) y in
          u.stays z n a ∙ sym (v.stays z (omega arith) b)

  owner : owner_in (get_or h₁ 0 0) (get_or h₁ 1 0) ≡ owner_in (get_or h₂ 0 0) (get_or h₂ 1 0) → (get_or h₁ 0 0 ≡ get_or h₂ 0 0) × (get_or h₁ 1 0 ≡ get_or h₂ 1 0)
  owner o = go (ltb 0 (get_or h₁ 0 0)) (ltb 0 (get_or h₂ 0 0)) refl refl
    where
      go : (c d : Bool) → ltb 0 (get_or h₁ 0 0) ≡ c → ltb 0 (get_or h₂ 0 0) ≡ d → (get_or h₁ 0 0 ≡ get_or h₂ 0 0) × (get_or h₁ 1 0 ≡ get_or h₂ 1 0)
      go true true x y =
          let z : thread (get_or h₁ 1 0) ≡ thread (get_or h₂ 1 0) = rw (x, y) at o in
          (flags (ltb-true 0 (get_or h₁ 0 0) x) (ltb-true 0 (get_or h₂ 0 0) y), cc)
      go true false x y = let z : thread (get_or h₁ 1 0) ≡ nobody = rw (x, y) at o in absurd (let w : ◌≡◌ {A = ℕ} 0 1 = cc in omega arith)
      go false true x y = let z : nobody ≡ thread (get_or h₂ 1 0) = rw (x, y) at o in absurd (let w : ◌≡◌ {A = ℕ} 0 1 = cc in omega arith)
      go false false x y =
          let a : get_or h₁ 0 0 ≡ 0 = omega (arith, ltb-false 0 (get_or h₁ 0 0) x) in
          let b : get_or h₂ 0 0 ≡ 0 = omega (arith, ltb-false 0 (get_or h₂ 0 0) y) in
          (a ∙ sym b, u.last a ∙ sym (v.last b))

  -- the four words
  words : layout.num h₁ ≡ layout.num h₂ → Alike 4 h₁ h₂
  words n = let o = owner (ap (λ (m : Mutex). m.owner) n) in back_alike 4 h₁ h₂ (λ i. l i ∷ (n i).count ∷ o.1 i ∷ o.0 i ∷ [])

module _ (f : Object Mutex → Reply (Object Mutex)) (h e : List ℕ) where
  does-only : Only (λ ((r, h', e') : Outcome). Did place f h e r h' e' × Written h h')
  does-only x y m k = same_outcome layout h e f x y m.0 k.0 (λ n l. words h x.1 y.1 m.1 k.1 l n)

  pub reads_only : Only (λ ((r, h') : ℤ × List ℕ). Did place f h e r h' e × Written h h')
  reads_only x y m k = let q = does-only (x.0, x.1, e) (y.0, y.1, e) m k in λ i. ((q i).0, (q i).1)

  hands_only : (w : ℕ) → Only (λ ((r, h', w') : ℤ × List ℕ × ℕ). Hands place f h e w r h' w' × Written h h')
  hands_only w x y m k =
      and (λ r h'. Did place f h e r h' e × Written h h') _ reads_only (said _) x y ((m.0.0, m.1), m.0.1) ((k.0.0, k.1), k.0.1)

starts_only : (h : List ℕ) → Only (λ ((r, h') : ℤ × List ℕ). Starts h r h')
starts_only h x y m k = same_start mutex_kind layout free h x y m.0 k.0 (λ n l. words h x.1 y.1 m.1 k.1 l n)

audit-only : (h e : List ℕ) → Only (λ (r : Bool). Audits h e r)
audit-only h e x y m k = exactly x y m.sound m.complete k.sound k.complete

-- there are two threads, and a queue in which nobody waits
other : ◌≡◌ {A = ℕ} 1 0 → ⊥
other z = omega arith

lock-only : (count : ℕ) (null current no_wait : Bool) → Only (λ (r : ℤ). LockDecided count null current no_wait r)
lock-only count null current no_wait x y m k = m 0 1 [] other refl ∙ sym (k 0 1 [] other refl)

unlock-only : (count : ℕ) (null current : Bool) → Only (λ (r : ℤ). UnlockDecided count null current r)
unlock-only count null current x y m k = m 0 1 [] other ∙ sym (k 0 1 [] other)

-- which answer has a number
lock-of : ℕ → LockDecision
lock-of zero = locking.Acquire
lock-of (suc zero) = locking.Pend
lock-of (suc (suc n)) = locking.Reentrant

lock-back : (x : LockDecision) → lock-of (mag (to_lock x)) ≡ x
unfolding lock-of
lock-back locking.Acquire = refl
lock-back locking.Pend = refl
lock-back locking.Reentrant = refl

lock-number : (x : LockDecision) → to_lock x ≡ pos (mag (to_lock x))
lock-number locking.Acquire = refl
lock-number locking.Pend = refl
lock-number locking.Reentrant = refl

kind-of : ℕ → UnlockDecisionKind
kind-of zero = kinds.Released
kind-of (suc n) = kinds.FullyUnlocked

kind-back : (x : UnlockDecisionKind) → kind-of (mag (to_unlock x)) ≡ x
unfolding kind-of
kind-back kinds.Released = refl
kind-back kinds.FullyUnlocked = refl

kind-number : (x : UnlockDecisionKind) → to_unlock x ≡ pos (mag (to_unlock x))
kind-number kinds.Released = refl
kind-number kinds.FullyUnlocked = refl

release-of : ℕ → ReleaseDecision
release-of zero = releasing.Unlocked
release-of (suc zero) = releasing.Unlocked
release-of (suc (suc n)) = releasing.Transferred

release-back : (x : ReleaseDecision) → release-of (mag (to_release x)) ≡ x
unfolding release-of
release-back releasing.Unlocked = refl
release-back releasing.Transferred = refl

release-number : (x : ReleaseDecision) → to_release x ≡ pos (mag (to_release x))
release-number releasing.Unlocked = refl
release-number releasing.Transferred = refl

-- whom an unlock tells is the word, and of the others there is one each
result-of : ℕ → ℕ → UnlockResult
result-of zero w = results.Released
result-of (suc zero) w = results.Unlocked
result-of (suc (suc n)) w = results.Transferred w

result-back : (x : UnlockResult) → result-of (mag (unlocking x)) (heir x 0) ≡ x
unfolding result-of
result-back results.Released = refl
result-back results.Unlocked = refl
result-back (results.Transferred w) = refl

result-number : (x : UnlockResult) → unlocking x ≡ pos (mag (unlocking x))
result-number results.Released = refl
result-number results.Unlocked = refl
result-number (results.Transferred w) = refl

pub determined : Determined
determined =
    record {
      lock_decide = lock-only;
      unlock_decide = unlock-only;
      init = starts_only;
      try_lock = λ i. reads_only (try_lock_out i);
      lock_blocking = λ i p st. does-only (lock_out i p st);
      pass = hands_only pass_out;
      unlock = λ i. hands_only (unlock_out i);
      release_decide = λ i p st h e. said _;
      is_locked = λ h e. said _;
      lock_count_get = λ h e. said _;
      num_waiters = λ h e. said _;
      owner_get = λ h e. said _;
      audit = audit-only;
      lock_decide_answer = tells to_lock lock-number (λ x y e. sym (lock-back x) ∙ ap (λ z. lock-of (mag z)) e ∙ lock-back y);
      unlock_decide_answer = tells to_unlock kind-number (λ x y e. sym (kind-back x) ∙ ap (λ z. kind-of (mag z)) e ∙ kind-back y);
      release_decide_answer = tells to_release release-number (λ x y e. sym (release-back x) ∙ ap (λ z. release-of (mag z)) e ∙ release-back y);
      unlock_answer =
          tells-by unlocking result-number heir
          (λ x y e k. sym (result-back x) ∙ (λ i. result-of (mag (e i)) (k 0 i)) ∙ result-back y);
    }
