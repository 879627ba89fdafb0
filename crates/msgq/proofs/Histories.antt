-- Any sequence of calls keeps what a message queue promises. Assumes nothing.
use mathlib.Core.Path.{◌≡◌, refl, sym, ap, ◌∙◌}
use mathlib.Core.Bool.{true}
use mathlib.Core.List.{List, [], ◌∷◌, ◌++◌, append-nil}
use Prim.Native.Nat.{ℕ, ◌<◌}
use native.Mathlib.Nat.{zero-add}
use native.Mathlib.Omega.{arith}
use borrow.Author.Tests.{ltb-true}
use lib.Dec.{ltb}
use lib.IntN.{ℤ, pos, negsuc}
use Rattle.seq.specs.List.{All}
use Rattle.seq.proofs.Order.{clash}
use Rattle.thread.specs.Code.{ok}
use Rattle.store.specs.History.{Step, Ran, fresh, ran, Made}
use Rattle.seq.proofs.Order.{both_true}
use Rattle.store.proofs.Histories.{from_start, allowed}
use Rattle.ring_buf.proofs.Rings.{wrap-below, length-turn}
use Rattle.msgq.specs.Messages.{slots}
use Rattle.msgq.specs.Msgq.{Msgq}
use Rattle.msgq.specs.Post.{Starts, room, messages, new}
use Rattle.msgq.specs.History.{Call, putting, putting_front, getting, peeking, purging, does, line, sent, simple, Good, Promise}
use Rattle.msgq.proofs.Messages.{length-slots}
use Rattle.msgq.proofs.Steps.{Holds, step, holds-next, refused-stays}

-- a new queue
pub new-good : (c z : ℕ) (b : List ℕ) → 0 < c → Good c z (new z c b)
new-good c z b f =
    record {
      max = refl;
      size = refl;
      read = f;
      write = wrap-below 0 c (omega arith);
      slots = zero-add _ ∙ length-turn 0 (slots z c b) (omega arith) ∙ length-slots z c b;
      messages = tt;
    }

-- with puts behind, gets and peeks alone, the line is what was put
sent_by_lem : (k : Call) (a : ℤ) (o : List ℕ) (ss : List (Step Call)) → simple k ≡ true → line ss ≡ sent ss → line (step k a o ∷ ss) ≡ sent (step k a o ∷ ss)
sent_by_lem (putting m) (pos n) o ss e f = ap (λ (l : List (List ℕ)). l ++ m ∷ []) f
sent_by_lem (putting m) (negsuc n) o ss e f = f ∙ sym (append-nil (sent ss))
sent_by_lem (putting_front m) a o ss e f = clash (sym e)
sent_by_lem (getting i) (pos n) o ss e f = f ∙ sym (append-nil (sent ss))
sent_by_lem (getting i) (negsuc n) o ss e f = f ∙ sym (append-nil (sent ss))
sent_by_lem (peeking i j) (pos n) o ss e f = f ∙ sym (append-nil (sent ss))
sent_by_lem (peeking i j) (negsuc n) o ss e f = f ∙ sym (append-nil (sent ss))
sent_by_lem purging a o ss e f = clash (sym e)

all-sent : (ss : List (Step Call)) → All (λ (s : Step Call). simple s.call ≡ true) ss → line ss ≡ sent ss
all-sent [] a = refl
all-sent (s ∷ ss) a = sent_by_lem s.call s.answer s.out ss a.0 (all-sent ss a.1)

module _ (c z : ℕ) (b : List ℕ) (f : 0 < c) where
  holds : {ss : List (Step Call)} {q : Msgq} → Ran does (new z c b) ss q → Holds c z ss q
  holds fresh = record { good = new-good c z b f; order = refl }
  holds (ran {ss} {s = q} {k} o o' x w) = holds-next c z ss q (holds x) k o o' w

  pub promised : {ss : List (Step Call)} {q : Msgq} → Ran does (new z c b) ss q → Promise c z ss q
  promised {ss} {q} x =
      let h = holds x in
      record { good = h.good; order = h.order; fifo = λ a. h.order ∙ all-sent ss a; refused = λ k n e. refused-stays q n k e }

-- the same of a queue in memory, after an init that is answered 0
pub from-init : (c z : ℕ) {h b h₀ : List ℕ} → Starts z c h b ok h₀ → {ss : List (Step Call)} {h' b' : List ℕ} → Made messages does h₀ b ss h' b'
    → (messages.formed h' b' ≡ true) × Promise c z ss (messages.object h' b')
from-init c z {b = b} s x =
    let a = from_start messages does s x in
    (a.0, promised c z b (ltb-true 0 c (both_true (ltb 0 c) (room z c b) (allowed s)).0) a.1)
