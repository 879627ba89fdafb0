-- The functions on plain numbers imply upstream's clauses. Assumes nothing.
use mathlib.Core.Path.{◌≡◌, refl, sym, ap, ◌∙◌}
use mathlib.Core.Bool.{Bool, true}
use mathlib.Core.List.{[]}
use Prim.Native.Nat.{ℕ, ◌+◌, ◌-◌, ◌≤◌, ◌<◌}
use native.Mathlib.Omega.{arith}
use lib.IntN.{ℤ}
use Rattle.store.specs.Store.{Reply, accept, refuse, answer, settled}
use Rattle.store.proofs.Laws.{decided, declined}
use Rattle.thread.specs.Code.{ok}
use Rattle.ring_buf.specs.Ring.{wrap}
use Rattle.ring_buf.proofs.Rings.{wrap-low, wrap-high, wrap-below}
use Rattle.msgq.specs.Msgq.{Numbers, counts}
use Rattle.msgq.specs.Post.{PutDecided, GetDecided, PutFrontDecided, PeekAtDecided, sane, Settled}
use Rattle.msgq.specs.Upstream.{next_idx, prev_idx, PutDecide, GetDecide, PutFrontDecide, PeekAtDecide}
use Rattle.msgq.proofs.Headers.{by_both, is_within, is-sane}
use Rattle.msgq.proofs.Decisions.{put-refuses, put-pends, put-wakes, put-stores, get-refuses, get-pends, get-wakes, get-reads, lead-refuses, lead-stores, peek-past, peek_finds}
use Rattle.msgq.proofs.Implied.{next-is, prev_is}

-- a decision that is told
module _ {y : Reply Numbers} {i u : ℕ} {r : ℤ} {i' u' : ℕ} (d : Settled y i u r i' u') where
  told : {a n : ℕ} {c : ℤ} → y ≡ accept (counts a n) c [] → (r ≡ c) × ((i' ≡ a) × (u' ≡ n))
  told e = (
    d.code ∙ ap answer e,
    (d.idx ∙ ap (λ (x : Reply Numbers). settled (λ (v : Numbers). v.idx) x i) e, d.used ∙ ap (λ (x : Reply Numbers). settled (λ (v : Numbers). v.used) x u) e),
  )

  pub kept : {c : ℤ} → y ≡ refuse c → (r ≡ c) × ((i' ≡ i) × (u' ≡ u))
  kept e = (
    d.code ∙ ap answer e,
    (d.idx ∙ ap (λ (x : Reply Numbers). settled (λ (v : Numbers). v.idx) x i) e, d.used ∙ ap (λ (x : Reply Numbers). settled (λ (v : Numbers). v.used) x u) e),
  )

module _ (t n c : ℕ) (w : Bool) (f : t < c) (g : n ≤ c) where
  idle : (m : ℕ) → (w ≡ true → n ≡ m) → sane t n c w m ≡ true
  idle m h = is-sane t n c w m (record { idx = f; used = g }) h

  module _ (k : Bool) (i u : ℕ) (r : ℤ) (i' u' : ℕ) where
    -- nobody waits unless the queue is empty
    pub put_decide_lem : (w ≡ true → n ≡ 0) → PutDecided t n c w k i u r i' u' → PutDecide t n c w k i u r i' u'
    put_decide_lem h d =
        let s = idle 0 h in
        let v = next-is t c f in
        record {
          wakes = λ x y. told d (put-wakes t n c w k s (λ z. absurd (omega arith)) y);
          stores = λ x y. told d (put-stores t n c w k s (next_idx t c) (λ z. absurd (omega arith)) y (sym v));
          within = λ x y. omega (arith, (told d (put-stores t n c w k s (wrap (t + 1) c) (λ z. absurd (omega arith)) y refl)).1.0, wrap-below (t + 1) c (omega arith));
          full = λ x y. kept d (put-refuses t n c w k s (omega arith) y);
          waits = λ x y. told d (put-pends t n c w k s (omega arith) y);
        }

    -- nobody waits unless it is full
    pub get_decide_lem : (w ≡ true → n ≡ c) → GetDecided t n c w k i u r i' u' → GetDecide t n c w k i u r i' u'
    get_decide_lem h d =
        let s = idle c h in
        let v = next-is t c f in
        record {
          wakes = λ x y. told d (get-wakes t n c w k s (next_idx t c) (λ z. absurd (omega arith)) y (sym v));
          reads = λ x y. told d (get-reads t n c w k s (next_idx t c) (λ z. absurd (omega arith)) y (sym v));
          within = λ x. by_both w (λ y. omega (arith, (told d (get-wakes t n c w k s (wrap (t + 1) c) (λ z. absurd (omega arith)) y refl)).1.0, wrap-below (t + 1) c (omega arith)))
              (λ y. omega (arith, (told d (get-reads t n c w k s (wrap (t + 1) c) (λ z. absurd (omega arith)) y refl)).1.0, wrap-below (t + 1) c (omega arith)));
          empty = λ x y. kept d (get-refuses t n c w k s x y);
          waits = λ x y. let a = told d (get-pends t n c w k s x y) in (a.0, (a.1.0, a.1.1 ∙ x));
        }

  module _ (i u : ℕ) (r : ℤ) (i' u' : ℕ) where
    pub put_front_decide_lem : PutFrontDecided t n c i u r i' u' → PutFrontDecide t n c i u r i' u'
    put_front_decide_lem d =
        let s = is_within c t n (record { idx = f; used = g }) in
        let v = prev_is t c f in
        record {
          stores = λ x. told d (lead-stores t n c (prev_idx t c) s (λ z. absurd (omega arith)) (sym v));
          within = λ x. omega (arith, (told d (lead-stores t n c (wrap (t + (c - 1)) c) s (λ z. absurd (omega arith)) refl)).1.0, wrap-below (t + (c - 1)) c (omega arith));
          full = λ x. kept d (lead-refuses t n c s (omega arith));
        }

  pub peek_at_decide_lem : (i x : ℕ) (r : ℤ) (x' : ℕ) → PeekAtDecided t n c i x r x' → PeekAtDecide t n c i x r x'
  peek_at_decide_lem i x r x' d =
      let s = is_within c t n (record { idx = f; used = g }) in
      let found : i < n → (r ≡ ok) × (x' ≡ wrap (t + i) c) = λ v. decided (peek_finds t n c i (wrap (t + i) c) s v refl) d in
      record {
        done = λ v. (found v).0;
        within = λ v. omega (arith, (found v).1, wrap-below (t + i) c (omega arith));
        past = λ v. (declined (peek-past t n c i s v) d).0;
        low = λ v w. (found v).1 ∙ wrap-low (t + i) c w;
        high = λ v w. (found v).1 ∙ wrap-high (t + i) c w;
      }
