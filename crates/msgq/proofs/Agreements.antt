-- The decide functions agree with the queue. Assumes nothing.
use mathlib.Core.Path.{◌≡◌, refl, sym, ◌∙◌}
use mathlib.Core.Bool.{Bool, true, false}
use mathlib.Core.List.{List, [], ◌∷◌}
use Prim.Native.Nat.{ℕ, ◌≤◌}
use native.Mathlib.Omega.{arith}
use native.Mathlib.Numerals.{add-one}
use borrow.Author.Tests.{ltb-true, eq-eqb}
use lib.Dec.{ltb}
use lib.ListN.{length, get_or, length-append, length-drop}
use Rattle.store.specs.Store.{Reply, accept, refuse, answer, carry, handing}
use Rattle.ring_buf.specs.Bytes.{numbers}
use Rattle.msgq.specs.Msgq.{Msgq, max, used, read_idx, write_idx, peeks, put, put_front, get, peek}
use Rattle.msgq.specs.Post.{put_decision, get_decision, put_front_decision, peek_decision}
use Rattle.msgq.specs.History.{Good}
use Rattle.msgq.specs.Agreement.{By, Agrees}
use Rattle.msgq.proofs.Headers.{is_within}
use Rattle.msgq.proofs.Calls.{write-next}

module _ (c z : ℕ) (q : Msgq) (g : Good c z q) where
  few : used q ≤ max q
  few = omega (arith, g.slots, g.max)

  pub read-within : numbers (max q) (read_idx q) (used q) ≡ true
  read-within = is_within (max q) (read_idx q) (used q) (record { idx = omega (arith, g.read, g.max); used = few })

  pub write-within : numbers (max q) (write_idx q) (used q) ≡ true
  write-within = is_within (max q) (write_idx q) (used q) (record { idx = omega (arith, g.write, g.max); used = few })

  put-agrees : (m : List ℕ) → length m ≡ q.size → By (put m q) q write_idx (put_decision (write_idx q) (used q) (max q) false true)
  put-agrees m e = go (ltb (used q) (max q)) refl
    where
      go : (b : Bool) → ltb (used q) (max q) ≡ b → By (put m q) q write_idx (put_decision (write_idx q) (used q) (max q) false true)
      go true u =
          let f = ltb-true (used q) (max q) u in
          rw (write-within, eq-eqb (length m) q.size e, u)
          (record {
            code = refl;
            idx = write-next c z q g m (e ∙ g.size) (omega (arith, g.max));
            used = length-append q.ring.held (m ∷ []);
          })
      go false u = rw (write-within, eq-eqb (length m) q.size e, u) (record { code = refl; idx = refl; used = refl })

  front-agrees : (m : List ℕ) → length m ≡ q.size → By (put_front m q) q read_idx (put_front_decision (read_idx q) (used q) (max q))
  front-agrees m e = go (ltb (used q) (max q)) refl
    where
      go : (b : Bool) → ltb (used q) (max q) ≡ b → By (put_front m q) q read_idx (put_front_decision (read_idx q) (used q) (max q))
      go true u = rw (read-within, eq-eqb (length m) q.size e, u) (record { code = refl; idx = refl; used = sym (add-one (used q)) })
      go false u = rw (read-within, eq-eqb (length m) q.size e, u) (record { code = refl; idx = refl; used = refl })

  get-agrees : By (get q.size q) q read_idx (get_decision (read_idx q) (used q) (max q) false true)
  get-agrees = go (ltb 0 (used q)) refl
    where
      go : (b : Bool) → ltb 0 (used q) ≡ b → By (get q.size q) q read_idx (get_decision (read_idx q) (used q) (max q) false true)
      go true u = rw (read-within, eq-eqb q.size q.size refl, u) (record { code = refl; idx = refl; used = length-drop 1 q.ring.held })
      go false u = rw (read-within, eq-eqb q.size q.size refl, u) (record { code = refl; idx = refl; used = refl })

  peek-agrees : (i : ℕ) → answer (peek q.size i q) ≡ answer (peek_decision (read_idx q) (used q) (max q) i)
  peek-agrees i = rw (read-within, eq-eqb q.size q.size refl) (go (peeks (read_idx q) (used q) (max q) i))
    where
      go : (y : Reply ℕ) → answer (handing (get_or q.ring.held i []) (carry (λ (x : ℕ). q) y)) ≡ answer y
      go (refuse a) = refl
      go (accept n a o) = refl

  pub agrees : Agrees q
  agrees = record { put = put-agrees; put_front = front-agrees; get = get-agrees; peek = peek-agrees }
