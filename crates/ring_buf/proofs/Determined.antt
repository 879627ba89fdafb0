-- What a ring becomes determines each word of its header and each byte of its buffer. So a contract leaves nothing open. Assumes nothing.
use mathlib.Core.Path.{◌≡◌, sym, ap, ◌∙◌}
use mathlib.Core.List.{List, [], ◌∷◌, ◌++◌, append-nil}
use Prim.Native.Nat.{ℕ, ◌+◌, ◌-◌, ◌<◌}
use native.Mathlib.Omega.{arith}
use lib.ListN.{length, take, get_or, take-append-drop}
use lib.Seq.{length-take-le}
use Rattle.seq.proofs.Only.{said, two, back_alike}
use Rattle.store.specs.Determined.{Faithful}
use Rattle.store.proofs.Determined.{did_only, reads_only, fills_only, hands_only, starts_only}
use Rattle.ring_buf.specs.Ring.{Ring, wrap, turn, ring}
use Rattle.ring_buf.specs.Bytes.{bytes, new, may, put, get, put_many, get_many, peek, reset}
use Rattle.ring_buf.specs.Determined.{Determined}
use Rattle.ring_buf.proofs.Rings.{wrap-high, turned, turn-turn}
use Rattle.ring_buf.proofs.Headers.{from-sound}
use Rattle.ring_buf.proofs.Answers.{held_is}

module _ {A : Type 0} where
  -- a buffer that is turned is turned back
  unturn : (t : ℕ) (b : List A) → t < length b → turn (length b - t) (turn t b) ≡ b
  unturn t b h =
      let z : wrap (t + (length b - t)) (length b) ≡ 0 = wrap-high (t + (length b - t)) (length b) (omega arith) ∙ omega arith in
      turn-turn t (length b - t) b h (omega arith) ∙ ap (λ (x : ℕ). turn x b) z ∙ turned 0 b ∙ append-nil b

  -- what a ring holds, and what stands in its free places, is its whole buffer
  pub ring-only : (c t n : ℕ) (b b' : List A) → t < length b → length b ≡ length b' → ring c t n b ≡ ring c t n b' → b ≡ b'
  ring-only c t n b b' k l e =
      let q : turn t b ≡ turn t b' =
      sym (take-append-drop n (turn t b)) ∙ ap (λ (r : Ring A). r.held ++ r.spare) e ∙ take-append-drop n (turn t b') in
      sym (unturn t b k) ∙ (λ i. turn (l i - t) (q i)) ∙ unturn t b' (omega arith)

pub faithful : Faithful bytes
faithful =
    record {
      header = λ h b h' b' f f' e.
          let n = sym (held_is h b (from-sound h b f)) ∙ ap (λ (r : Ring ℕ). length r.held) e ∙ held_is h' b' (from-sound h' b' f') in
          back_alike 3 h h' (λ i. n i ∷ (e i).start ∷ (e i).capacity ∷ []);
      buffer = λ h b b' f f' e.
          let s = from-sound h b f in
          let l = length-take-le (get_or h 0 0) b s.room in
          let l' = length-take-le (get_or h 0 0) b' (from-sound h b' f').room in
          ring-only (get_or h 0 0) (get_or h 1 0) (get_or h 2 0) (take (get_or h 0 0) b) (take (get_or h 0 0) b') (omega (arith, s.start)) (l ∙ sym l') e;
    }

pub determined : Determined
determined =
    record {
      place = λ x n. said _;
      copy = λ dst src. said _;
      formed = λ h b. said _;
      init = λ c h b. starts_only faithful h b (may c b) (new c b);
      put = λ x h b. did_only faithful h b (put x);
      get = λ h b x. hands_only faithful h b get x;
      put_n = λ src h b. did_only faithful h b (put_many src);
      get_n = λ h b out. fills_only faithful h b (get_many (length out)) out;
      peek_at = λ i h b x p q m n. let k = hands_only faithful h b (peek i) x (p.0, h, p.1) (q.0, h, q.1) m n in λ j. ((k j).0, (k j).2);
      reset = λ h b. reads_only faithful h b reset;
      size_get = λ h b. said _;
      space_get = λ h b. said _;
      capacity_get = λ h b. said _;
      is_empty = λ h b. said _;
      is_full = λ h b. said _;
      head_get = λ h b. said _;
      tail_get = λ h b. said _;
      claim_decide = λ head base size asked. two _ _ (said _) (said _);
      finish_decide = λ head tail size. said _;
      space_get_decide = λ putHead getTail size. said _;
      size_get_decide = λ putTail getHead. said _;
      claim_answer = λ x y s o i. record { claim_size = s i; buffer_offset = o i };
    }
