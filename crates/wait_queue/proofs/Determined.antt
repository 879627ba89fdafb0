-- The queue that an operation leaves, and the words behind it, are all words that there are. So a contract leaves nothing open. Assumes nothing.
use mathlib.Core.Path.{◌≡◌, refl, sym, ap, ◌∙◌}
use mathlib.Core.Bool.{Bool, true, false, cond}
use mathlib.Core.List.{List, [], ◌∷◌}
use Prim.Native.Nat.{ℕ}
use native.Mathlib.Omega.{arith}
use lib.Dec.{leb}
use lib.IntN.{ℤ, pos}
use lib.ListN.{length, get_or, take}
use lib.Signed.{mag}
use Rattle.seq.specs.Only.{Only}
use Rattle.seq.proofs.Back.{back-length}
use Rattle.seq.proofs.Order.{clash}
use Rattle.seq.proofs.Only.{said, exactly, back_alike, take_alike}
use Rattle.thread.proofs.Determined.{tells}
use Rattle.store.specs.Store.{fitting}
use Rattle.store.specs.Determined.{Faithful}
use Rattle.store.proofs.Determined.{did_only, fills_only, hands_only}
use Rattle.wait_queue.specs.Queue.{entry, waiting, roomy}
use Rattle.wait_queue.specs.declared.Outcome.{Outcome}
use Rattle.wait_queue.specs.declared.Outcome.TheVariants.{Acquired, Blocked}
use Rattle.wait_queue.specs.Turn.{wait_queue, outcome, pend, unpend_first, unpend_all, remove, parked}
use Rattle.wait_queue.specs.Post.{Audits}
use Rattle.wait_queue.specs.Determined.{Determined}
use Rattle.wait_queue.proofs.Memory.{is-roomy}

-- a queue tells its length, and each of its entries
pub same_length : (e₁ e₂ : List ℕ) (n₁ n₂ : ℕ) → waiting e₁ n₁ ≡ waiting e₂ n₂ → n₁ ≡ n₂
same_length e₁ e₂ n₁ n₂ q = sym (back-length e₁ n₁) ∙ ap length q ∙ back-length e₂ n₂

pub same_entries : (n : ℕ) (e₁ e₂ : List ℕ) → roomy n e₁ ≡ true → roomy n e₂ ≡ true → waiting e₁ n ≡ waiting e₂ n → take n e₁ ≡ take n e₂
same_entries n e₁ e₂ f g q =
    let a = is-roomy n e₁ f in
    let b = is-roomy n e₂ g in
    take_alike n e₁ e₂ (omega (arith, a.few, a.room)) (omega (arith, b.few, b.room)) (back_alike n e₁ e₂ q)

pub faithful : Faithful wait_queue
faithful =
    record {
      header = λ h b h' b' f g q i l. let z : i ≡ 0 = omega arith in rw z (same_length b b' (get_or h 0 0) (get_or h' 0 0) q);
      buffer = λ h b b' f g q. same_entries (get_or h 0 0) b b' (roomy_of h b f) (roomy_of h b' g) q;
    }
  where
    roomy_of : (h b : List ℕ) → wait_queue.formed h b ≡ true → roomy (get_or h 0 0) b ≡ true
    roomy_of h b f = go (leb 1 (length h)) f
      where
        go : (c : Bool) → cond c (roomy (get_or h 0 0) b) false ≡ true → roomy (get_or h 0 0) b ≡ true
        go true z = z
        go false z = clash (sym z)

-- the header is one word
word : {A : Type 0} (C : ℤ → List ℕ → A → Type 0) → Only (λ ((r, h', x) : ℤ × List ℕ × A). C r h' x) → Only (λ ((r, n', x) : ℤ × ℕ × A). C r (n' ∷ []) x)
word C o x y m k = let q = o (x.0, x.1 ∷ [], x.2) (y.0, y.1 ∷ [], y.2) m k in λ i. ((q i).0, get_or (q i).1 0 0, (q i).2)

audit-only : (n : ℕ) (e : List ℕ) → Only (λ (r : Bool). Audits n e r)
audit-only n e x y m k = exactly x y m.sound m.complete k.sound k.complete

-- each outcome has a number of its own
outcome-number : (x : Outcome) → outcome x ≡ pos (mag (outcome x))
outcome-number Acquired = refl
outcome-number Blocked = refl

outcome-once : (x y : Outcome) → outcome x ≡ outcome y → x ≡ y
outcome-once Acquired Acquired e = refl
outcome-once Acquired Blocked e = absurd (let y : ◌≡◌ {A = ℕ} 0 1 = ap mag e in omega arith)
outcome-once Blocked Acquired e = absurd (let y : ◌≡◌ {A = ℕ} 1 0 = ap mag e in omega arith)
outcome-once Blocked Blocked e = refl

pub determined : Determined
determined =
    record {
      over = λ n. said _;
      fits = λ n e. said _;
      caller = λ p st. said _;
      new = said _;
      len = λ n e. said _;
      is_empty = λ n e. said _;
      holds = λ n i e. said _;
      enter = λ i p n e. word _ (did_only faithful (n ∷ []) e (parked (entry p i)));
      pend = λ i p st n e. word _ (did_only faithful (n ∷ []) e (pend i p st));
      unpend_first = λ z n e w. word _ (hands_only faithful (n ∷ []) e (unpend_first z) w);
      unpend_all = λ z n e out. word _ (fills_only faithful (n ∷ []) e (fitting (length out) (unpend_all z)) out);
      remove = λ i n e. word _ (did_only faithful (n ∷ []) e (remove i));
      audit = audit-only;
      outcome_answer = tells outcome outcome-number outcome-once;
    }
