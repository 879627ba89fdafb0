-- What is told of a ring, by the words that were read. Assumes nothing.
use mathlib.Core.Path.{sym, ap, ◌∙◌}
use mathlib.Core.List.{List}
use Prim.Native.Nat.{ℕ, ◌-◌, ◌+◌}
use lib.Dec.{eqb}
use borrow.Author.Tests.{eqb-true, eqb-false}
use lib.IntN.{pos}
use Rattle.thread.specs.Answer.{truth}
use Rattle.store.proofs.Laws.{either}
use Rattle.ring_buf.specs.Ring.{wrap}
use Rattle.ring_buf.specs.Post.{Words, GetsSize, GetsSpace, GetsTail, SaysEmpty, SaysFull}
use Rattle.ring_buf.specs.declared.header.RingBuf.{RingBuf}
use Rattle.ring_buf.proofs.Headers.{read-sound}
use Rattle.ring_buf.proofs.Answers.{size-told, space-told, tail-told, empty-told, some-told, full-told, free-told}

module _ {h b : List ℕ} {r : RingBuf} (w : Words h b r) where
  pub size_read : GetsSize h b (pos r.size)
  size_read = ap pos w.size ∙ sym (size-told h b (read-sound w))

  pub space_read : GetsSpace h b (pos (r.capacity - r.size))
  space_read = rw (w.capacity, w.size) (sym (space-told h b (read-sound w)))

  pub tail_read : GetsTail h b (pos (wrap (r.head + r.size) r.capacity))
  tail_read = rw (w.capacity, w.head, w.size) (sym (tail-told h b (read-sound w)))

  pub empty_read : SaysEmpty h b (truth (eqb r.size 0))
  empty_read =
      either (eqb r.size 0)
      (λ e. ap truth e ∙ sym (empty-told h b (read-sound w) (sym w.size ∙ eqb-true r.size 0 e)))
      (λ e. ap truth e ∙ sym (some-told h b (read-sound w) (λ x. eqb-false r.size 0 e (w.size ∙ x))))

  pub full_read : SaysFull h b (truth (eqb r.size r.capacity))
  full_read =
      either (eqb r.size r.capacity)
      (λ e. ap truth e ∙ sym (full-told h b (read-sound w) (sym w.size ∙ eqb-true r.size r.capacity e ∙ w.capacity)))
      (λ e. ap truth e ∙ sym (free-told h b (read-sound w) (λ x. eqb-false r.size r.capacity e (w.size ∙ x ∙ sym w.capacity))))
