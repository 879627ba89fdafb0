-- A get keeps the line, with readers and writers that wait. Assumes nothing.
use mathlib.Core.Path.{◌≡◌, refl, sym, ap, ◌∙◌}
use mathlib.Core.Bool.{Bool, true, false}
use mathlib.Core.List.{List, [], ◌∷◌}
use Prim.Native.Nat.{ℕ, ◌+◌, ◌<◌}
use native.Mathlib.Omega.{arith}
use borrow.Author.Tests.{lt-ltb, ltb-true, ltb-false, eq-eqb}
use lib.Dec.{ltb}
use lib.ListN.{length, drop, get_or, length-append, length-drop}
use Rattle.seq.specs.List.{any}
use Rattle.seq.proofs.Order.{clash}
use Rattle.store.specs.Store.{out}
use Rattle.ring_buf.specs.Ring.{wrap, append, leave}
use Rattle.msgq.specs.Msgq.{Msgq, having, max, used, read_idx, get}
use Rattle.msgq.specs.Post.{sane, get_decision}
use Rattle.msgq.specs.History.{getting}
use Rattle.msgq.specs.HandOver.{Waited, decision, stored, read, Fair}
use Rattle.msgq.proofs.Decisions.{get-refuses, get-pends, get-wakes, get-reads}
use Rattle.msgq.proofs.Calls.{stores, reads}
use Rattle.msgq.proofs.Lines.{line_stays, line_read, line_refill}
use Rattle.msgq.proofs.Goods.{good-put, good-leave}
use Rattle.msgq.proofs.Waiters.{get-sane, After, carried, refused}

none_held : {A : Type 0} (l : List A) → length l ≡ 0 → l ≡ []
none_held [] e = refl
none_held (x ∷ l) e = absurd (omega arith)

abbrev pub waited : Msgq → ℕ → List (List ℕ) → List (List ℕ) → List (List ℕ) → List (List ℕ) → Waited
waited q r w got line turned = record { queue = q; readers = r; writers = w; got = got; line = line; turned = turned }

module _ (c z : ℕ) (q : Msgq) (r : ℕ) (got line turned : List (List ℕ)) (n : ℕ) (k : Bool) (e : n ≡ z) where
  abbrev first : List ℕ
  first = get_or q.ring.held 0 []

  -- what is handed out
  gave : q.size ≡ z → 0 < used q → out (get n q) ≡ first
  gave f u = rw (eq-eqb n q.size (e ∙ sym f), lt-ltb 0 (used q) u)

  abbrev s : List (List ℕ) → Waited
  s w = waited q r w got line turned

  abbrev Decided : List (List ℕ) → Type 0
  Decided w = decision (getting n) k (s w) ≡ get_decision (read_idx q) (used q) (max q) (any w) k

  -- no writer waits
  get-plain : (p : Fair c z (s [])) → Decided [] → After c z (s []) p (getting n) k
  get-plain p d = go (ltb 0 (used q)) k refl refl
    where
      right : sane (read_idx q) (used q) (max q) false (max q) ≡ true
      right = get-sane c z q p.good false (λ x. clash (sym x))

      go : (u b : Bool) → ltb 0 (used q) ≡ u → k ≡ b → After c z (s []) p (getting n) k
      go true b y w =
          let f = ltb-true 0 (used q) y in
          carried c z (s []) p (getting n) k
          (d ∙ get-reads (read_idx q) (used q) (max q) false k right (wrap (read_idx q + 1) (max q)) (λ v. absurd (omega arith)) refl refl)
          (rw (reads c z q p.good f, gave p.good.size f)
          (record {
            good = good-leave c z q p.good 1 f;
            sizes = tt;
            no_message = λ v. absurd (omega (arith, ap length (p.no_message v)));
            no_room = λ v. absurd (omega arith);
            line = line_read got q.ring.held [] line f p.line;
          }))
      go false true y w =
          refused c z (s []) p (getting n) k (d ∙ get-refuses (read_idx q) (used q) (max q) false k right (omega (arith, ltb-false 0 (used q) y)) w)
      go false false y w =
          let o : used q ≡ 0 = omega (arith, ltb-false 0 (used q) y) in
          carried c z (s []) p (getting n) k (d ∙ get-pends (read_idx q) (used q) (max q) false k right o w)
          (record {
            good = p.good;
            sizes = tt;
            no_message = λ v. none_held q.ring.held o;
            no_room = λ v. absurd (omega arith);
            line = line_stays got _ _ p.line;
          })

  -- the writer with m waits first
  get_refill : (m : List ℕ) (w : List (List ℕ)) (p : Fair c z (s (m ∷ w))) → Decided (m ∷ w) → After c z (s (m ∷ w)) p (getting n) k
  get_refill m w p d =
      let o = p.no_room (omega arith) in
      let f : 0 < used q = omega (arith, p.good.read) in
      let g = good-leave c z q p.good 1 f in
      let b : used (having (leave 1 q.ring) q) < c = omega (arith, length-drop 1 q.ring.held) in
      let x : stored m (read q) ≡ having (append (m ∷ []) (leave 1 q.ring)) q =
      ap (stored m) (reads c z q p.good f) ∙ stores c z (having (leave 1 q.ring) q) g m p.sizes.0 b in
      carried c z (s (m ∷ w)) p (getting n) k
      (d
      ∙ get-wakes (read_idx q) (used q) (max q) true k (get-sane c z q p.good true (λ y. o)) (wrap (read_idx q + 1) (max q)) (λ v. absurd (omega arith)) refl refl)
      (rw (x, gave p.good.size f)
      (record {
        good = good-put c z (having (leave 1 q.ring) q) g m b p.sizes.0;
        sizes = p.sizes.1;
        no_message = λ v. absurd (omega (arith, ap length (p.no_message v)));
        no_room = λ v. length-append (drop 1 q.ring.held) (m ∷ []) ∙ omega (arith, length-drop 1 q.ring.held);
        line = line_refill got q.ring.held w line m f p.line;
      }))

  pub get_fair : (w : List (List ℕ)) (p : Fair c z (s w)) → Decided w → After c z (s w) p (getting n) k
  get_fair [] p d = get-plain p d
  get_fair (m ∷ w) p d = get_refill m w p d
