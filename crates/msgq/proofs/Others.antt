-- Our contracts imply those of Gale's msgq.rs: the functions that only look, and init. Assumes nothing.
use mathlib.Core.Path.{◌≡◌, ap, ◌∙◌}
use mathlib.Core.Bool.{Bool, true, false, cond}
use mathlib.Core.Logic.{inl, inr}
use mathlib.Core.List.{List}
use Prim.Native.Nat.{ℕ, ◌*◌, ◌≤◌, ◌<◌}
use native.Mathlib.Omega.{arith}
use borrow.Author.Tests.{lt-ltb, le-leb}
use lib.IntN.{ℤ, pos}
use lib.ListN.{length, get_or}
use Rattle.thread.specs.Code.{ok, einval}
use Rattle.store.specs.Store.{looks}
use Rattle.store.proofs.Laws.{any_some, any_none, looks-is}
use Rattle.ring_buf.proofs.Rings.{by-lt, wrap-low}
use Rattle.msgq.specs.Msgq.{Msgq, max, used, read_idx, write_idx, num_free, num_used, msg_size, max_msgs, read_at, write_at, full, empty}
use Rattle.msgq.specs.Post.{Starts, CountsFree, CountsUsed, GetsMsgSize, GetsMaxMsgs, SaysFull, SaysEmpty, GetsReadIdx, GetsWriteIdx, sound, held, messages, may}
use Rattle.msgq.specs.History.{Good}
use Rattle.msgq.specs.Upstream.{Inv, Housed, Init, NumFree, NumUsed, MsgSize, MaxMsgs, IsFull, IsEmpty, ReadIdx, WriteIdx}
use Rattle.msgq.proofs.Headers.{is-roomy, from-sound}
use Rattle.msgq.proofs.Memory.{memory-good, inv-formed, formed-inv}

module _ (h b : List ℕ) (w : ℕ) (k : Housed h b) (i : Inv (get_or h 3 0) (get_or h 0 0) (get_or h 1 0) w (get_or h 2 0)) where
  abbrev Q : Msgq
  Q = held h b

  right : sound h b ≡ true
  right = inv-formed h b w k i

  G : Good (get_or h 0 0) (get_or h 3 0) Q
  G = memory-good h b right

  module _ (r : ℤ) where
    asked : (f : Msgq → ℤ) → r ≡ looks messages f h b → r ≡ f Q
    asked f e = e ∙ looks-is messages h b f right

    pub msgq_num-free : CountsFree h b r → NumFree Q r
    msgq_num-free e = (asked num_free e ∙ ap pos (omega (arith, G.slots, G.max)), omega arith)

    pub msgq_num-used : CountsUsed h b r → NumUsed Q r
    msgq_num-used e = (asked num_used e, omega (arith, G.slots, G.max))

    pub msgq_msg_size : GetsMsgSize h b r → MsgSize Q r
    msgq_msg_size e = (asked msg_size e, i.some_bytes)

    pub msgq_max_msgs : GetsMaxMsgs h b r → MaxMsgs Q r
    msgq_max_msgs e = (asked max_msgs e, i.some_room)

    pub msgq_read-idx : GetsReadIdx h b r → ReadIdx Q r
    msgq_read-idx e = asked read_at e

    pub msgq_write-idx : GetsWriteIdx h b r → WriteIdx Q r
    msgq_write-idx e = asked write_at e

    pub msgq_is-full : SaysFull h b r → IsFull Q r
    msgq_is-full e =
        by-lt 0 (length Q.ring.spare)
        (λ f. inr (asked full e ∙ rw (any_some Q.ring.spare f), λ x. absurd (omega (arith, G.slots, G.max))))
        (λ f. inl (asked full e ∙ rw (any_none Q.ring.spare (omega arith)), omega (arith, G.slots, G.max)))

    pub msgq_is-empty : SaysEmpty h b r → IsEmpty Q r
    msgq_is-empty e =
        by-lt 0 (used Q) (λ f. inr (asked empty e ∙ rw (any_some Q.ring.held f), λ x. absurd (omega arith)))
        (λ f. inl (asked empty e ∙ rw (any_none Q.ring.held (omega arith)), omega arith))

-- init
module _ (size c : ℕ) (h b : List ℕ) (r : ℤ) (h' : List ℕ) (k : 4 ≤ length h) (s : Starts size c h b r h') where
  answered : r ≡ cond (may size c b) ok einval
  answered = s.code ∙ rw (le-leb 4 (length h) k)

  refused : (r ≡ ok → ⊥) → r ≡ einval
  refused f = go (may size c b) answered
    where
      go : (t : Bool) → r ≡ cond t ok einval → r ≡ einval
      go true e = absurd (f e)
      go false e = e

  accepted : 0 < c → 0 < size → c * size ≤ 4294967295 → c * size ≤ length b → r ≡ ok
  accepted f g l m = answered ∙ rw (lt-ltb 0 c f, is-roomy size c b (record { some = g; small = l; long = m }))

  pub msgq_init : Init size c b r (held h' b)
  msgq_init =
      record {
        inv = λ e. (formed-inv h' b (s.made e).formed).1;
        size_is = λ e. ap (λ (q : Msgq). q.size) (s.made e).object;
        max_is = λ e. ap max (s.made e).object;
        read = λ e. ap read_idx (s.made e).object;
        write = λ e. let f = (from-sound h' b (s.made e).formed).within.idx in
            ap write_idx (s.made e).object ∙ wrap-low 0 c (omega (arith, ap max (s.made e).object));
        empty = λ e. ap used (s.made e).object;
        code = refused;
        reason = λ e. by-lt 0 c
            (λ f. by-lt 0 size
            (λ g. by-lt 4294967295 (c * size) (λ l. inr (inr (inl l)))
            (λ l. by-lt (length b) (c * size) (λ m. inr (inr (inr m))) (λ m. absurd (e (accepted f g l m)))))
            (λ g. inl (omega arith)))
            (λ f. inr (inl (omega arith)));
      }
