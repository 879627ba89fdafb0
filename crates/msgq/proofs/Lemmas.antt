-- What upstream's lemmas that end in `ensures true` say. Assumes nothing.
use mathlib.Core.Path.{◌≡◌, refl, sym, ap, subst, ◌∙◌}
use mathlib.Core.List.{List, [], ◌∷◌, ◌++◌, append-nil}
use Prim.Native.Nat.{ℕ, zero, suc, ◌+◌, ◌-◌, ◌≤◌, ◌<◌}
use native.Mathlib.Nat.{add-zero}
use native.Mathlib.Omega.{arith}
use lib.ListN.{length, drop, get_or, length-append, length-drop}
use lib.Seq.{append_snoc}
use Rattle.seq.specs.List.{All}
use Rattle.store.specs.Store.{out}
use Rattle.ring_buf.specs.Ring.{wrap, append, leave}
use Rattle.ring_buf.proofs.Rings.{wrap-low}
use Rattle.msgq.specs.Msgq.{Msgq, having, max, used, read_idx, write_idx, get}
use Rattle.msgq.specs.Post.{new}
use Rattle.msgq.specs.History.{Good}
use Rattle.msgq.specs.HandOver.{stored, read}
use Rattle.msgq.specs.Upstream.{Inductive, Roundtrip, filled, drained, drawn, FillDrain}
use Rattle.msgq.proofs.Calls.{stores, get_yes, reads, write-next, write-left}
use Rattle.msgq.proofs.Goods.{good-put, good-leave}
use Rattle.msgq.proofs.Histories.{promised, new-good}
use Rattle.msgq.proofs.Implied.{next-is, good-inv}

pub invariant_inductive : (size c : ℕ) (b : List ℕ) → 0 < size → 0 < c → Inductive size c b
invariant_inductive size c b f g ss q x = good-inv c size q f (promised c size b g x).good

pub put-get_roundtrip : (c z : ℕ) (q : Msgq) (m : List ℕ) → Good c z q → length m ≡ z → used q < c → Roundtrip m q
put-get_roundtrip c z q m g e f =
    let a = having (append (m ∷ []) q.ring) q in
    let h = good-put c z q g m f e in
    let x = stores c z q g m e f in
    let n = length-append q.ring.held (m ∷ []) in
    let y : read (stored m q) ≡ having (leave 1 a.ring) a = ap read x ∙ reads c z a h (omega arith) in
    let v : used q + 1 - 1 ≡ used q = omega arith in
    record {
      count = ap used y ∙ length-drop 1 (q.ring.held ++ m ∷ []) ∙ ap (λ (k : ℕ). k - 1) n ∙ v;
      read = ap read_idx y ∙ next-is (read_idx q) (max q) (omega (arith, g.read, g.max));
      write = ap write_idx y ∙ write-left c z a h 1 (omega arith) ∙ write-next c z q g m e f ∙ next-is (write_idx q) (max q) (omega (arith, g.write, g.max));
      oldest = ap (λ (t : Msgq). t.ring.held) x;
      left_behind = ap (λ (t : Msgq). t.ring.held) y;
    }

-- ---- as many puts as fit, and as many gets

first_of : (l : List (List ℕ)) → 0 < length l → get_or l 0 [] ∷ drop 1 l ≡ l
first_of [] f = absurd (omega arith)
first_of (x ∷ l) f = refl

none_of : (l : List (List ℕ)) → length l ≡ 0 → [] ≡ l
none_of [] f = refl
none_of (x ∷ l) f = absurd (omega arith)

module _ (c z : ℕ) where
  fill : (ms : List (List ℕ)) (q : Msgq) → Good c z q → All (λ (m : List ℕ). length m ≡ z) ms → used q + length ms ≤ c
      → Good c z (filled ms q) × ((filled ms q).ring.held ≡ q.ring.held ++ ms)
  fill [] q g a f = (g, sym (append-nil q.ring.held))
  fill (m ∷ ms) q g a f =
      let e = stores c z q g m a.0 (omega arith) in
      let h = subst (Good c z) (sym e) (good-put c z q g m (omega arith) a.0) in
      let l : (stored m q).ring.held ≡ q.ring.held ++ m ∷ [] = ap (λ (t : Msgq). t.ring.held) e in
      let n : used (stored m q) ≡ used q + 1 = ap length l ∙ length-append q.ring.held (m ∷ []) in
      let x = fill ms (stored m q) h a.1 (omega arith) in
      (x.0, x.1 ∙ ap (λ (t : List (List ℕ)). t ++ ms) l ∙ append_snoc q.ring.held m ms)

  drain : (n : ℕ) (q : Msgq) → Good c z q → used q ≡ n → Good c z (drained n q) × ((drawn n q ≡ q.ring.held) × (used (drained n q) ≡ 0))
  drain zero q g f = (g, (none_of q.ring.held f, f))
  drain (suc n) q g f =
      let e = reads c z q g (omega arith) in
      let h = subst (Good c z) (sym e) (good-leave c z q g 1 (omega arith)) in
      let l : (read q).ring.held ≡ drop 1 q.ring.held = ap (λ (t : Msgq). t.ring.held) e in
      let v : used (read q) ≡ n = ap length l ∙ length-drop 1 q.ring.held ∙ omega arith in
      let x = drain n (read q) h v in
      let y : out (get q.size q) ≡ get_or q.ring.held 0 [] = ap out (get_yes c z q g (omega arith)) in
      (x.0, ((λ i. y i ∷ (x.1.0 ∙ l) i) ∙ first_of q.ring.held (omega arith), x.1.1))

-- where nothing is held the two indices are one
met : (c z : ℕ) (q : Msgq) → Good c z q → used q ≡ 0 → read_idx q ≡ write_idx q
met c z q g e =
    sym (ap (λ (k : ℕ). wrap (read_idx q + k) (max q)) e ∙ ap (λ (k : ℕ). wrap k (max q)) (add-zero (read_idx q)) ∙ wrap-low (read_idx q) (max q) (omega (arith, g.read, g.max)))

pub fill-drain_symmetric : (size c : ℕ) (b : List ℕ) (ms : List (List ℕ)) → 0 < c → All (λ (m : List ℕ). length m ≡ size) ms → length ms ≤ c → FillDrain size c b ms
fill-drain_symmetric size c b ms f a g =
    let x = fill c size ms (new size c b) (new-good c size b f) a (omega arith) in
    let y = drain c size (length ms) (filled ms (new size c b)) x.0 (ap length x.1) in
    record { held = x.1; order = y.1.0 ∙ x.1; empty = y.1.1; met = met c size (drained (length ms) (filled ms (new size c b))) y.0 y.1.1 }
