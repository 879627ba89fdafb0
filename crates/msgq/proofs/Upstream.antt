-- Our contracts imply those of Gale's msgq.rs: the calls that change the queue or hand out a message. Assumes nothing.
use mathlib.Core.Path.{◌≡◌, sym, ap, subst, ◌∙◌}
use mathlib.Core.Bool.{true}
use mathlib.Core.List.{List, [], ◌∷◌}
use Prim.Native.Nat.{ℕ, suc, ◌+◌, ◌<◌}
use native.Mathlib.Omega.{arith}
use borrow.Author.Tests.{lt-ltb, eq-eqb}
use lib.IntN.{ℤ}
use lib.ListN.{length, get_or, length-append}
use lib.Seq.{get_or-append_seam}
use Rattle.store.specs.Store.{Reply, answer, left, out, reply, Did, Filled}
use Rattle.store.proofs.Laws.{answers, handed-is}
use Rattle.store.proofs.Histories.{done}
use Rattle.ring_buf.specs.Ring.{wrap, append, lead}
use Rattle.ring_buf.proofs.Parts.{whole}
use Rattle.msgq.specs.Msgq.{Msgq, having, max, used, read_idx, write_idx, put, put_front, get, peek, purge}
use Rattle.msgq.specs.Post.{Puts, PutsFront, Gets, PeeksAt, Purges, sound, held, messages}
use Rattle.msgq.specs.History.{Good}
use Rattle.msgq.specs.Upstream.{Inv, Housed, Put, PutFront, Get, InSlot, PeekAt, Purge}
use Rattle.msgq.proofs.Calls.{stores, front_yes}
use Rattle.msgq.proofs.Goods.{all-at}
use Rattle.msgq.proofs.Implied.{put-does, front-does, get-does, peek-does, purge-does}
use Rattle.msgq.proofs.Memory.{memory-good, inv-formed, slot_of, first_slot}

module _ (h b : List ℕ) (w : ℕ) (k : Housed h b) (i : Inv (get_or h 3 0) (get_or h 0 0) (get_or h 1 0) w (get_or h 2 0)) where
  abbrev Q : Msgq
  Q = held h b

  right : sound h b ≡ true
  right = inv-formed h b w k i

  G : Good (get_or h 0 0) (get_or h 3 0) Q
  G = memory-good h b right

  module _ (r : ℤ) (h' : List ℕ) where
    -- what holds of the call holds of the memory
    holds : (f : Msgq → Reply Msgq) (R : ℤ → Msgq → Type 0) {b' : List ℕ} → Did messages f h b r h' b' → R (answer (f Q)) (left (f Q) Q) → R r (held h' b')
    holds f R d a = subst (R r) (sym (done messages f h b right d).1) (subst (λ (z : ℤ). R z (left (f Q) Q)) (sym (answers messages f h b d right)) a)

    pub msgq_put : (m b' : List ℕ) → length m ≡ get_or h 3 0 → Puts m h b r h' b' → Put Q r (held h' b')
    msgq_put m b' e d = holds (put m) (Put Q) d (put-does (get_or h 0 0) (get_or h 3 0) Q i.some_bytes G m e)

    pub msgq_put-front : (m b' : List ℕ) → length m ≡ get_or h 3 0 → PutsFront m h b r h' b' → PutFront Q r (held h' b')
    msgq_put-front m b' e d = holds (put_front m) (PutFront Q) d (front-does (get_or h 0 0) (get_or h 3 0) Q i.some_bytes G m e)

    pub msgq_get : (o o' : List ℕ) → length o ≡ get_or h 3 0 → Gets h b o r h' o' → Get Q r (held h' b)
    msgq_get o o' e (d, _) =
        holds (get (length o)) (Get Q) d
        (subst (λ (x : ℕ). Get Q (answer (get x Q)) (left (get x Q) Q)) (sym e) (get-does (get_or h 0 0) (get_or h 3 0) Q i.some_bytes G))

    pub msgq_purge : Purges h b r h' → Purge Q r (held h' b)
    msgq_purge d = holds purge (Purge Q) d (purge-does (get_or h 0 0) (get_or h 3 0) Q i.some_bytes G)

    -- the slots
    pub put-slot : (m b' : List ℕ) → length m ≡ get_or h 3 0 → used Q < max Q → Puts m h b r h' b' → InSlot (write_idx Q) m (held h' b') b'
    put-slot m b' e f d =
        let x : held h' b' ≡ having (append (m ∷ []) Q.ring) Q = (done messages (put m) h b right d).1 ∙ stores (get_or h 0 0) (get_or h 3 0) Q G m e f in
        let n : used (held h' b') ≡ used Q + 1 = ap used x ∙ length-append Q.ring.held (m ∷ []) in
        let y : get_or (held h' b').ring.held (used Q) [] ≡ m = ap (λ (q : Msgq). get_or q.ring.held (used Q) []) x ∙ get_or-append_seam Q.ring.held m [] [] in
        let v : wrap (get_or h' 1 0 + used Q) (get_or h' 0 0) ≡ write_idx Q = ap (λ (q : Msgq). wrap (read_idx q + used Q) (max q)) x in
        subst (λ (t : ℕ). InSlot t m (held h' b') b') v
        (subst (λ (t : List ℕ). InSlot (wrap (get_or h' 1 0 + used Q) (get_or h' 0 0)) t (held h' b') b') y
        (slot_of h' b' (done messages (put m) h b right d).0 (used Q) (omega arith)))

    pub front-slot : (m b' : List ℕ) → length m ≡ get_or h 3 0 → used Q < max Q → PutsFront m h b r h' b' → InSlot (read_idx (held h' b')) m (held h' b') b'
    front-slot m b' e f d =
        let x : held h' b' ≡ having (lead m Q.ring) Q =
        (done messages (put_front m) h b right d).1 ∙ ap (λ (y : Reply Msgq). left y Q) (front_yes (get_or h 0 0) (get_or h 3 0) Q G m e f) in
        let n : used (held h' b') ≡ suc (used Q) = ap used x in
        let y : get_or (held h' b').ring.held 0 [] ≡ m = ap (λ (q : Msgq). get_or q.ring.held 0 []) x in
        subst (λ (t : List ℕ). InSlot (get_or h' 1 0) t (held h' b') b') y (first_slot h' b' (done messages (put_front m) h b right d).0 (omega arith))

  -- what is handed out is the message
  handed_out : (f : Msgq → Reply Msgq) (n : ℕ) (o o' : List ℕ) → length o ≡ get_or h 3 0 → n < used Q → out (f Q) ≡ get_or Q.ring.held n []
      → Filled (out (reply messages f h b)) o o' → o' ≡ get_or Q.ring.held n []
  handed_out f n o o' e g x d =
      subst (λ (t : List ℕ). Filled t o o') (handed-is messages f h b right ∙ x) d
      ∙ whole (get_or Q.ring.held n []) o (all-at (λ (t : List ℕ). length t ≡ get_or h 3 0) Q.ring.held n [] G.messages g ∙ sym e)

  pub get-slot : (o : List ℕ) (r : ℤ) (h' o' : List ℕ) → length o ≡ get_or h 3 0 → 0 < used Q → Gets h b o r h' o' → InSlot (read_idx Q) o' Q b
  get-slot o r h' o' e f (_, d) = subst (λ (t : List ℕ). InSlot (read_idx Q) t Q b) (sym (handed_out (get (length o)) 0 o o' e f (rw (eq-eqb (length o) (get_or h 3 0) e, lt-ltb 0 (used Q) f)) d))
      (first_slot h b right f)

  pub peek-slot : (n : ℕ) (o : List ℕ) (r : ℤ) (o' : List ℕ) → length o ≡ get_or h 3 0 → n < used Q → PeeksAt n h b o r o'
      → InSlot (wrap (read_idx Q + n) (max Q)) o' Q b
  peek-slot n o r o' e f (_, d) = subst (λ (t : List ℕ). InSlot (wrap (read_idx Q + n) (max Q)) t Q b) (sym (handed_out (peek (length o) n) n o o' e f (rw (eq-eqb (length o) (get_or h 3 0) e, lt-ltb n (used Q) f)) d))
      (slot_of h b right n f)

  pub msgq_peek-at : (n : ℕ) (o : List ℕ) (r : ℤ) (o' : List ℕ) → length o ≡ get_or h 3 0 → PeeksAt n h b o r o' → PeekAt n Q r
  msgq_peek-at n o r o' e (d, _) =
      subst (PeekAt n Q) (sym (answers messages (peek (length o) n) h b d right ∙ ap (λ (x : ℕ). answer (peek x n Q)) e))
      (peek-does (get_or h 0 0) (get_or h 3 0) Q i.some_bytes G n)
