-- The futex's contracts leave nothing open. Assumes nothing.
use mathlib.Core.Path.{sym, ◌∙◌, refl}
use mathlib.Core.Bool.{Bool}
use mathlib.Core.List.{[], ◌∷◌}
use Prim.Native.Nat.{ℕ}
use lib.IntN.{ℤ}
use lib.ListN.{length}
use lib.Signed.{mag}
use Rattle.seq.specs.Only.{Only}
use Rattle.seq.specs.List.{back}
use Rattle.seq.proofs.Back.{back-length}
use Rattle.seq.proofs.Only.{said, back_alike}
use Rattle.thread.proofs.Determined.{tells-by}
use Rattle.store.specs.Determined.{Faithful}
use Rattle.store.proofs.Determined.{did_only, reads_only, fills_only, decided-only}
use Rattle.kind.specs.Determined.{Legible}
use Rattle.kind.proofs.Determined.{faithful, opened-only, audited_only}
use Rattle.futex.specs.Futex.{futex_kind}
use Rattle.futex.specs.Post.{layout, place, wait_out, wake_out, set_out, WaitDecided, WakeDecided}
use Rattle.futex.specs.Determined.{Determined}
use Rattle.futex.specs.Decision.{woken, remaining}
use Rattle.futex.proofs.Law.{mk}

-- the two words are the value and the length of the queue
legible : Legible layout
legible h h' n l = back_alike 2 h h' (λ i. l i ∷ (n i).val ∷ [])

told : Faithful place
told = faithful layout legible

-- there is a queue of each length
wait-only : (val expected : ℕ) → Only (λ (r : ℤ). WaitDecided val expected r)
wait-only val expected x y m k = m [] ∙ sym (k [])

wake-only : (n : ℕ) (all : Bool) (w : ℕ) → Only (λ ((r, w') : ℤ × ℕ). WakeDecided n all w r w')
wake-only n all w x y m k =
    let l = back-length [] n in
    decided-only _ w x y (m (mk 0) (back [] n) l) (k (mk 0) (back [] n) l)

pub determined : Determined
determined =
    record {
      wait_decide = wait-only;
      wake_decide = wake-only;
      init = λ val h. opened-only futex_kind layout (mk val) h legible;
      wait = λ expected i p st h e. did_only told h e (wait_out expected i p st);
      wake = λ all h e out. fills_only told h e (wake_out all (length out)) out;
      val_set = λ val h e. reads_only told h e (set_out val);
      val_get = λ h e. said _;
      num_waiters = λ h e. said _;
      audit = audited_only futex_kind layout;
      wake_answer = tells-by woken (λ x. refl) remaining (λ x y e k i. record { woken = mag (e i); remaining = k 0 i });
    }
