-- The condition variable's contracts leave nothing open, also not of the mutex that a wait gives back. Assumes nothing.
use mathlib.Core.Path.{◌≡◌, refl, sym, ap, subst, ◌∙◌}
use mathlib.Core.Bool.{Bool, true, false}
use mathlib.Core.List.{List, [], ◌∷◌}
use Prim.Native.Nat.{ℕ, zero, suc}
use lib.IntN.{ℤ, pos, negsuc}
use lib.Signed.{mag}
use lib.ListN.{length}
use Rattle.seq.specs.Only.{Only}
use Rattle.seq.specs.List.{back}
use Rattle.seq.proofs.Back.{back-length}
use Rattle.seq.proofs.Only.{said, back_alike}
use Rattle.store.specs.Store.{Refused, Allowed, Did, Hands}
use Rattle.store.specs.Determined.{Faithful}
use Rattle.store.proofs.Determined.{did_only, fills_only, hands_only}
use Rattle.wait_queue.specs.Turn.{waits}
use Rattle.kind.specs.Determined.{Legible}
use Rattle.kind.proofs.Determined as kind
use Rattle.kind.proofs.Determined.{opened-only, audited_only}
use Rattle.mutex.specs.Post as mutex
use Rattle.mutex.specs.Post.{release_out}
use Rattle.mutex.proofs.Determined as mutex-only
use Rattle.condvar.specs.Condvar.{condvar_kind}
use Rattle.condvar.specs.Post.{layout, place, signal_out, broadcast_out, wait_out, Waits, SignalDecided, BroadcastDecided, WaitDecided}
use Rattle.condvar.specs.Determined.{Determined}
use Rattle.condvar.specs.Answer.{to_signal}
use Rattle.condvar.specs.declared.SignalAction.{SignalAction}
use Rattle.condvar.specs.declared.SignalAction.TheVariants as signals

-- the one word is the length of the queue
legible : Legible layout
legible h h' n l = back_alike 1 h h' (λ i. l i ∷ [])

faithful : Faithful place
faithful = kind.faithful layout legible

-- there is a queue in which somebody waits, one in which nobody does, and one of each length
signal-only : (waiter : Bool) → Only (λ (r : ℤ). SignalDecided waiter r)
signal-only true x y m k = m (0 ∷ []) refl ∙ sym (k (0 ∷ []) refl)
signal-only false x y m k = m [] refl ∙ sym (k [] refl)

broadcast-only : (n : ℕ) → Only (λ (r : ℤ). BroadcastDecided n r)
broadcast-only n x y m k = m (back [] n) (back-length [] n) ∙ sym (k (back [] n) (back-length [] n))

wait-only : (no_wait : Bool) → Only (λ (r : ℤ). WaitDecided no_wait r)
wait-only no_wait x y m k = m [] ∙ sym (k [])

-- a wait: neither is done, or both
module _ (i p st : ℕ) (h e m d : List ℕ) (w : ℕ) where
  abbrev Left : Type 0
  Left = List ℕ × List ℕ × List ℕ × ℕ

  abbrev Neither : Left → Type 0
  Neither x = (x.0 ≡ h) × (x.1 ≡ e) × (x.2 ≡ m) × (x.3 ≡ w)

  abbrev Both : ℤ → Left → Type 0
  Both r x = Did place (wait_out i p st) h e waits x.0 x.1 × Hands mutex.place (release_out i p st) m d w r x.2 x.3

  left-only : (r : ℤ) (x y : Left) → Refused r (Neither x) → Refused r (Neither y) → Allowed r (Both r x) → Allowed r (Both r y)
      → mutex.Written m x.2 → mutex.Written m y.2 → x ≡ y
  left-only (negsuc c) x y a b f g u v =
      let k : x.0 ≡ y.0 = a.0 ∙ sym b.0 in
      let l : x.1 ≡ y.1 = a.1 ∙ sym b.1 in
      let n : x.2 ≡ y.2 = a.2 ∙ sym b.2 in
      let o : x.3 ≡ y.3 = a.3 ∙ sym b.3 in
      λ j. (k j, l j, n j, o j)
  left-only (pos c) x y a b f g u v =
      let k = did_only faithful h e (wait_out i p st) (waits, x.0, x.1) (waits, y.0, y.1) f.0 g.0 in
      let n = mutex-only.reads_only (release_out i p st) m d (pos c, x.2) (pos c, y.2) (f.1.0, u) (g.1.0, v) in
      let o : x.3 ≡ y.3 = f.1.1 ∙ sym g.1.1 in
      λ j. ((k j).1, (k j).2, (n j).1, o j)

  waited-only : Only (λ ((r, h', e', m', w') : ℤ × List ℕ × List ℕ × List ℕ × ℕ). Waits i p st h e m d w r h' e' m' w')
  waited-only x y u v =
      let c : x.0 ≡ y.0 = u.code ∙ sym v.code in
      let s : Left = (x.1, x.2, x.3, x.4) in
      let t : Left = (y.1, y.2, y.3, y.4) in
      let a : Refused x.0 (Neither t) = subst (λ (r : ℤ). Refused r (Neither t)) (sym c) v.neither in
      let b : Allowed x.0 (Both x.0 t) = subst (λ (r : ℤ). Allowed r (Both r t)) (sym c) v.both in
      let z = left-only x.0 s t u.neither a u.both b u.written v.written in
      λ j. (c j, (z j).0, (z j).1, (z j).2, (z j).3)

-- which action has a number
action-of : ℕ → SignalAction
action-of zero = signals.Noop
action-of (suc n) = signals.WakeOne

action-back : (x : SignalAction) → action-of (mag (to_signal x)) ≡ x
unfolding action-of
action-back signals.Noop = refl
action-back signals.WakeOne = refl

pub determined : Determined
determined =
    record {
      signal_decide = signal-only;
      broadcast_decide = broadcast-only;
      wait_decide = wait-only;
      init = λ h. opened-only condvar_kind layout tt h legible;
      signal = λ h e. hands_only faithful h e signal_out;
      broadcast = λ h e out. fills_only faithful h e (broadcast_out (length out)) out;
      wait_blocking = waited-only;
      num_waiters = λ h e. said _;
      has_waiters = λ h e. said _;
      audit = audited_only condvar_kind layout;
      signal_decide_answer = λ x y e. sym (action-back x) ∙ ap (λ z. action-of (mag z)) e ∙ action-back y;
    }
