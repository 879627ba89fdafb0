-- When a wait is over. Assumes nothing.
use mathlib.Core.Path.{◌≡◌, refl, sym, ap, ◌∙◌}
use mathlib.Core.Bool.{Bool, true, false, cond, ◌&&◌}
use mathlib.Core.List.{List, []}
use Prim.Native.Nat.{ℕ, ◌≤◌}
use native.Mathlib.Omega.{arith}
use borrow.Author.Tests.{leb-true, le-leb}
use lib.Dec.{leb}
use lib.IntN.{pos}
use lib.ListN.{length, get_or}
use Rattle.seq.specs.Bits.{bit}
use Rattle.seq.proofs.Bits.{bit-bits, by_bits}
use Rattle.seq.proofs.Masks.{bit-none}
use Rattle.seq.proofs.Tests.{any_found, found-any, none_any, all_each, each_all}
use Rattle.thread.specs.Code.{ebusy, einval}
use Rattle.store.specs.Store.{refuse, accept, answer}
use Rattle.store.proofs.Laws.{no_code, not-one, looks-is}
use Rattle.event.specs.Event.{width, any_there, all_there, matching, told, met, matched, pends}
use Rattle.event.specs.Post.{place}
use Rattle.event.specs.Waiting.{Conditions, Decides, Agree, None}
use Rattle.event.proofs.Answers.{met-now, wait-busy, wait-pends}

pub conditions : (d e : ℕ) → Conditions d e
conditions d e =
    record {
      any_has = any_found width _;
      any_is = λ i h p q. found-any width _ i h (rw (p, q));
      all_has = λ a i h p. needed p (all_each width _ a i h);
      all_is = λ f. each_all width _ (λ i h. wanted (bit i d) (f i h));
      matching_is = λ i h. bit-bits width i _ h;
      all_matching = λ b a. sym (by_bits width d _ b (λ i h. both (bit i d) (bit i e) (all_each width _ a i h)));
    }
  where
    needed : {b c : Bool} → b ≡ true → cond b c true ≡ true → c ≡ true
    needed {c = c} p e = rw p at e

    wanted : {c : Bool} (b : Bool) → (b ≡ true → c ≡ true) → cond b c true ≡ true
    wanted true f = f refl
    wanted false f = refl

    both : (b c : Bool) → cond b c true ≡ true → b ≡ c && b
    both true true e = refl
    both true false e = sym e
    both false true e = refl
    both false false e = refl

pub decides-wait : (e d t : ℕ) (b : Bool) → Decides e d t b
decides-wait e d t b = record { over = met-now e d t b; only = go (leb t 1) (met t d e) b refl }
  where
    go : (l m c : Bool) → leb t 1 ≡ l
        → answer (cond l (cond m (accept (matching d e) matched []) (cond c (refuse ebusy) (accept 0 pends []))) (refuse einval)) ≡ matched
        → (t ≤ 1) × (m ≡ true)
    go true true c p z = (leb-true t 1 p, refl)
    go true false true p z = no_code (sym z)
    go true false false p z = not-one (sym z)
    go false m c p z = no_code (sym z)

-- on memory
told_yes : (b : Bool) → told b ≡ pos 1 → b ≡ true
told_yes true e = refl
told_yes false e = not-one e

pub agree : (h : List ℕ) (d : ℕ) (b : Bool) → 1 ≤ length h → Agree h d b
agree h d b k =
    let e = get_or h 0 0 in
    let any = looks-is place h [] (λ e. told (any_there d e)) (le-leb 1 (length h) k) in
    let all = looks-is place h [] (λ e. told (all_there d e)) (le-leb 1 (length h) k) in
    record {
      any_over = λ z. ap answer (met-now e d 0 b (omega arith) (told_yes (any_there d e) (sym any ∙ z)));
      over_any = λ z. any ∙ ap told ((decides-wait e d 0 b).only z).1;
      all_over = λ z. ap answer (met-now e d 1 b (omega arith) (told_yes (all_there d e) (sym all ∙ z)));
      over_all = λ z. all ∙ ap told ((decides-wait e d 1 b).only z).1;
    }

-- no flag is desired
and_none : (b : Bool) → b && false ≡ false
and_none true = refl
and_none false = refl

any_none : (e : ℕ) → any_there 0 e ≡ false
any_none e = none_any width _ (λ i h. rw (bit-none i) (and_none (bit i e)))

pub none_desired : (e : ℕ) (b : Bool) → None e b
none_desired e b =
    record {
      all =
          met-now e 0 1 b (omega arith) (each_all width _ (λ i h. rw (bit-none i)))
          ∙ ap (λ (n : ℕ). accept n matched []) (sym (by_bits width 0 _ (omega arith) (λ i h. rw (bit-none i) (sym (and_none (bit i e))))));
      any = (wait-busy e 0 0 true (omega arith) (any_none e) refl, wait-pends e 0 0 false (omega arith) (any_none e) refl);
    }
