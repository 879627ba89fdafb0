-- What a call on a queue does, where it is not refused and where it is; and its indices then. Assumes nothing.
use mathlib.Core.Path.{◌≡◌, refl, sym, ap, ◌∙◌}
use mathlib.Core.List.{List, [], ◌∷◌}
use Prim.Native.Nat.{ℕ, suc, ◌+◌, ◌-◌, ◌≤◌, ◌<◌}
use native.Mathlib.Omega.{arith}
use borrow.Author.Tests.{lt-ltb, le-ltb, eq-eqb}
use lib.ListN.{length, get_or, length-append, length-drop}
use Rattle.thread.specs.Code.{ok, enomsg}
use Rattle.store.specs.Store.{Reply, accept, refuse, left}
use Rattle.ring_buf.specs.Ring.{wrap, append, lead, leave}
use Rattle.ring_buf.proofs.Rings.{by-lt, wrap-low, wrap-high, wrap-wrap}
use Rattle.msgq.specs.Msgq.{Msgq, having, max, used, read_idx, write_idx, put, put_front, get}
use Rattle.msgq.specs.History.{Good}
use Rattle.msgq.specs.HandOver.{stored, read}

module _ (c z : ℕ) (q : Msgq) (g : Good c z q) where
  module _ (m : List ℕ) (e : length m ≡ z) where
    pub put_yes : used q < c → put m q ≡ accept (having (append (m ∷ []) q.ring) q) ok []
    put_yes f = rw (eq-eqb (length m) q.size (e ∙ sym g.size), lt-ltb (used q) (max q) (omega (arith, g.max)))

    pub put_no : used q ≡ c → put m q ≡ refuse enomsg
    put_no f = rw (eq-eqb (length m) q.size (e ∙ sym g.size), le-ltb (used q) (max q) (omega (arith, g.max)))

    pub front_yes : used q < c → put_front m q ≡ accept (having (lead m q.ring) q) ok []
    front_yes f = rw (eq-eqb (length m) q.size (e ∙ sym g.size), lt-ltb (used q) (max q) (omega (arith, g.max)))

    pub front_no : used q ≡ c → put_front m q ≡ refuse enomsg
    front_no f = rw (eq-eqb (length m) q.size (e ∙ sym g.size), le-ltb (used q) (max q) (omega (arith, g.max)))

    pub stores : used q < c → stored m q ≡ having (append (m ∷ []) q.ring) q
    stores f = ap (λ (y : Reply Msgq). left y q) (put_yes f)

    -- the next message goes to the next slot
    pub write-next : used q < c → write_idx (having (append (m ∷ []) q.ring) q) ≡ wrap (write_idx q + 1) (max q)
    write-next f =
        ap (λ (n : ℕ). wrap (read_idx q + n) (max q)) (length-append q.ring.held (m ∷ []))
        ∙ sym (wrap-wrap (read_idx q) (used q) 1 (max q) (omega (arith, g.read, g.max)) (omega (arith, g.max)))

    -- it goes to the same slot
    pub write-led : used q < c → write_idx (having (lead m q.ring) q) ≡ write_idx q
    write-led f =
        by-lt (read_idx q) 1
        (λ x. let t : read_idx q + (max q - 1) ≡ max q - 1 = omega arith in
        let y : max q - 1 + suc (used q) - max q ≡ used q = omega (arith, g.max) in
        let v : read_idx q + used q ≡ used q = omega arith in
        ap (λ (n : ℕ). wrap (wrap n (max q) + suc (used q)) (max q)) t
        ∙ ap (λ (n : ℕ). wrap (n + suc (used q)) (max q)) (wrap-low (max q - 1) (max q) (omega (arith, g.read, g.max)))
        ∙ wrap-high (max q - 1 + suc (used q)) (max q) (omega arith) ∙ y ∙ sym (wrap-low (used q) (max q) (omega (arith, g.max)))
        ∙ ap (λ (n : ℕ). wrap n (max q)) (sym v))
        (λ x. let t : read_idx q + (max q - 1) - max q + suc (used q) ≡ read_idx q + used q = omega (arith, g.read, g.max) in
        ap (λ (n : ℕ). wrap (n + suc (used q)) (max q)) (wrap-high (read_idx q + (max q - 1)) (max q) (omega (arith, g.read, g.max))) ∙ ap (λ (n : ℕ). wrap n (max q)) t)

  pub get_yes : 0 < used q → get q.size q ≡ accept (having (leave 1 q.ring) q) ok (get_or q.ring.held 0 [])
  get_yes f = rw (eq-eqb q.size q.size refl, lt-ltb 0 (used q) f)

  pub get_no : used q ≡ 0 → get q.size q ≡ refuse enomsg
  get_no f = rw (eq-eqb q.size q.size refl, le-ltb 0 (used q) (omega arith))

  pub reads : 0 < used q → read q ≡ having (leave 1 q.ring) q
  reads f = ap (λ (y : Reply Msgq). left y q) (get_yes f)

  pub write-left : (k : ℕ) → k ≤ used q → write_idx (having (leave k q.ring) q) ≡ write_idx q
  write-left k f =
      let x : k + (used q - k) ≡ used q = omega arith in
      ap (λ (n : ℕ). wrap (wrap (read_idx q + k) (max q) + n) (max q)) (length-drop k q.ring.held)
      ∙ wrap-wrap (read_idx q) k (used q - k) (max q) (omega (arith, g.read, g.max)) (omega (arith, g.slots, g.max)) ∙ ap (λ (n : ℕ). wrap (read_idx q + n) (max q)) x
