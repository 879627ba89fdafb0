-- The message queue's contracts leave nothing open. Assumes nothing.
use mathlib.Core.Path.{◌≡◌, refl, sym, ap, ◌∙◌}
use mathlib.Core.List.{List, [], ◌∷◌, ◌++◌}
use mathlib.Core.Bool.{cond}
use Prim.Native.Nat.{ℕ, zero, suc, ◌+◌, ◌*◌, ◌<◌}
use native.Mathlib.Nat.{suc-mul, zero-mul}
use native.Mathlib.Omega.{arith}
use lib.IntN.{ℤ, pos}
use lib.ListN.{length, take, drop, get_or}
use lib.Seq.{take-add}
use lib.Dec.{eqb}
use lib.Signed.{mag}
use Rattle.seq.specs.Only.{Only}
use Rattle.seq.proofs.Only.{said, back_alike}
use Rattle.thread.specs.Answer.{TellsByTwo, done}
use Rattle.thread.proofs.Determined.{tells-by-two}
use Rattle.store.specs.Store.{Reply}
use Rattle.store.specs.Determined.{Faithful}
use Rattle.store.proofs.Determined.{did_only, reads_only, fills_only, starts_only, decided-only}
use Rattle.ring_buf.specs.Ring.{ring}
use Rattle.ring_buf.proofs.Determined.{ring-only}
use Rattle.msgq.specs.Messages.{slots}
use Rattle.msgq.specs.Msgq.{Msgq, Numbers, put, put_front, get, peek, purge}
use Rattle.msgq.specs.Post.{messages, new, may, put_decision, get_decision, put_front_decision, peek_decision, Settled}
use Rattle.msgq.specs.Determined.{Determined}
use Rattle.msgq.specs.Decision.{put_code, get_code}
use Rattle.msgq.specs.declared.PutDecision.{PutDecision}
use Rattle.msgq.specs.declared.PutDecision.TheVariants as putting
use Rattle.msgq.specs.declared.GetDecision.{GetDecision}
use Rattle.msgq.specs.declared.GetDecision.TheVariants as getting
use Rattle.msgq.specs.declared.DecideResult.{DecideResult}
use Rattle.msgq.proofs.Messages.{length-slots}
use Rattle.msgq.proofs.Headers.{from-sound}
use Rattle.msgq.proofs.Answers.{hold}

-- the slots are the buffer's first bytes
slots-only : (size n : ℕ) (b b' : List ℕ) → slots size n b ≡ slots size n b' → take (n * size) b ≡ take (n * size) b'
unfolding slots
slots-only size zero b b' e = rw (zero-mul size) refl
slots-only size (suc n) b b' e =
    let x : take size b ≡ take size b' = cc in
    let y : slots size n (drop size b) ≡ slots size n (drop size b') = cc in
    let k = slots-only size n (drop size b) (drop size b') y in
    let z : suc n * size ≡ size + n * size = suc-mul n size ∙ omega arith in
    let q : take (size + n * size) b ≡ take (size + n * size) b' = take-add size (n * size) b ∙ (λ i. x i ++ k i) ∙ sym (take-add size (n * size) b') in
    rw z q

buffer : (size c t n : ℕ) (b b' : List ℕ) → t < c → ring c t n (slots size c b) ≡ ring c t n (slots size c b') → take (c * size) b ≡ take (c * size) b'
buffer size c t n b b' k e =
    let l = length-slots size c b in
    slots-only size c b b' (ring-only c t n (slots size c b) (slots size c b') (omega arith) (l ∙ sym (length-slots size c b')) e)

faithful : Faithful messages
faithful =
    record {
      header = λ h b h' b' f f' e.
          let n = sym (hold h b (from-sound h b f)) ∙ ap (λ (q : Msgq). length q.ring.held) e ∙ hold h' b' (from-sound h' b' f') in
          back_alike 4 h h' (λ i. (e i).size ∷ n i ∷ (e i).ring.start ∷ (e i).ring.capacity ∷ []);
      buffer = λ h b b' f f' e.
          let k = (from-sound h b f).within.idx in buffer (get_or h 3 0) (get_or h 0 0) (get_or h 1 0) (get_or h 2 0) b b' k (λ i. (e i).ring);
    }

settled_only : (d : Reply Numbers) (i u : ℕ) → Only (λ ((r, i', u') : ℤ × ℕ × ℕ). Settled d i u r i' u')
settled_only d i u x y m k =
    let r : x.0 ≡ y.0 = m.code ∙ sym k.code in
    let a : x.1 ≡ y.1 = m.idx ∙ sym k.idx in
    let b : x.2 ≡ y.2 = m.used ∙ sym k.used in
    λ j. (r j, a j, b j)

-- which decision has a number
a_put : ℤ → PutDecision
a_put z = cond (eqb (mag z) 0) putting.Store (cond (eqb (mag z) 1) putting.WakeReader putting.Pend)

a_put-told : (d : PutDecision) → a_put (put_code d) ≡ d
unfolding a_put
a_put-told putting.Store = refl
a_put-told putting.WakeReader = refl
a_put-told putting.Pend = refl

put-number : (d : PutDecision) → put_code d ≡ pos (mag (put_code d))
put-number putting.Store = refl
put-number putting.WakeReader = refl
put-number putting.Pend = refl

a_get : ℤ → GetDecision
a_get z = cond (eqb (mag z) 0) getting.Read (cond (eqb (mag z) 1) getting.WakeWriter getting.Pend)

a_get-told : (d : GetDecision) → a_get (get_code d) ≡ d
unfolding a_get
a_get-told getting.Read = refl
a_get-told getting.WakeWriter = refl
a_get-told getting.Pend = refl

get-number : (d : GetDecision) → get_code d ≡ pos (mag (get_code d))
get-number getting.Read = refl
get-number getting.WakeWriter = refl
get-number getting.Pend = refl

-- the two words are the index and the count, and a number that tells the decision tells all
settled-told : {D : Type 0} (f : D → ℤ) → ((x : D) → f x ≡ pos (mag (f x))) → ((x y : D) → f x ≡ f y → x ≡ y)
    → TellsByTwo {T = DecideResult D} (λ d. f d.decision) (λ d _. d.new_idx) (λ d _. d.new_used)
settled-told f p q =
    tells-by-two (λ d. f d.decision) (λ d. p d.decision) (λ d _. d.new_idx) (λ d _. d.new_used)
    (λ x y e k l i. record { decision = q x.decision y.decision e i; new_idx = k 0 i; new_used = l 0 i })

pub determined : Determined
determined =
    record {
      put_decide = λ w n c reader no_wait. settled_only (put_decision w n c reader no_wait);
      get_decide = λ t n c writer no_wait. settled_only (get_decision t n c writer no_wait);
      put_front_decide = λ t n c. settled_only (put_front_decision t n c);
      peek_at_decide = λ t n c i. decided-only (peek_decision t n c i);
      init = λ size n h b. starts_only faithful h b (may size n b) (new size n b);
      put = λ m h b. did_only faithful h b (put m);
      put_front = λ m h b. did_only faithful h b (put_front m);
      get = λ h b out. fills_only faithful h b (get (length out)) out;
      peek_at = λ i h b out p q m n. let k = fills_only faithful h b (peek (length out) i) out (p.0, h, p.1) (q.0, h, q.1) m n in λ j. ((k j).0, (k j).2);
      purge = λ h b. reads_only faithful h b purge;
      num_free_get = λ h b. said _;
      num_used_get = λ h b. said _;
      msg_size_get = λ h b. said _;
      max_msgs_get = λ h b. said _;
      is_full = λ h b. said _;
      is_empty = λ h b. said _;
      read_idx_get = λ h b. said _;
      write_idx_get = λ h b. said _;
      put_answer = settled-told put_code put-number (λ x y e. sym (a_put-told x) ∙ (λ i. a_put (e i)) ∙ a_put-told y);
      get_answer = settled-told get_code get-number (λ x y e. sym (a_get-told x) ∙ (λ i. a_get (e i)) ∙ a_get-told y);
      put_front_answer = settled-told done (λ x. refl) (λ x y e. refl);
    }
