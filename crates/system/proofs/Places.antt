-- Places in a queue: where a thread joins, where it stands, and what is left when it leaves. Assumes nothing.
use mathlib.Core.Path.{◌≡◌, refl, sym, ap, subst, ◌∙◌}
use mathlib.Core.Bool.{Bool, true, false, cond}
use mathlib.Core.List.{List, [], ◌∷◌, ◌++◌}
use Prim.Native.Nat.{ℕ, suc, ◌≤◌, ◌<◌}
use native.Mathlib.Omega.{arith}
use lib.Dec.{eqb, ltb}
use borrow.Author.Tests.{eq-eqb, eqb-true, ltb-true, ltb-false}
use Rattle.seq.specs.List.{All, Sorted}
use Rattle.seq.proofs.Order.{all_map, others_same}
use Rattle.wait_queue.specs.Queue.{entry, prio, ident, of, joined, without, NoLower}
use Rattle.system.specs.Rules.{times}
use Rattle.system.proofs.Times.{not-held}

-- who stands in a queue once leaves it as the others stood
stands : (i w : ℕ) (a b : List ℕ) → ident w ≡ i → 0 < times i (a ++ (w ∷ b))
stands i w [] b e = rw (eq-eqb (ident w) i e) (omega arith)
stands i w (x ∷ a) b e = go (eqb (ident x) i) (stands i w a b e)
  where
    go : (c : Bool) → 0 < times i (a ++ (w ∷ b)) → 0 < cond c (suc (times i (a ++ (w ∷ b)))) (times i (a ++ (w ∷ b)))
    go true h = omega arith
    go false h = h

pub leaves : (i w : ℕ) (a b : List ℕ) → ident w ≡ i → times i (a ++ (w ∷ b)) ≡ 1 → without i (a ++ (w ∷ b)) ≡ a ++ b
leaves i w [] b e h =
    let z : suc (times i b) ≡ 1 = rw (eq-eqb (ident w) i e) at h in
    rw (eq-eqb (ident w) i e) (others_same (of i) b (not-held i b (omega arith)))
leaves i w (x ∷ a) b e h = go (eqb (ident x) i) refl h (leaves i w a b e)
  where
    go : (c : Bool) → eqb (ident x) i ≡ c → cond c (suc (times i (a ++ (w ∷ b)))) (times i (a ++ (w ∷ b))) ≡ 1
        → (times i (a ++ (w ∷ b)) ≡ 1 → without i (a ++ (w ∷ b)) ≡ a ++ b) → cond c (without i (a ++ (w ∷ b))) (x ∷ without i (a ++ (w ∷ b))) ≡ x ∷ (a ++ b)
    go true u z ih = absurd (omega (arith, stands i w a b e))
    go false u z ih = ap (λ l. x ∷ l) (ih z)

-- where w goes in a queue that is in order
pub record Found (w : ℕ) (q : List ℕ) : Type 0 where
  pub ahead : List ℕ
  pub behind : List ℕ
  pub all : q ≡ ahead ++ behind
  pub high : All (λ x. prio x ≤ prio w) ahead
  pub low : All (λ x. prio w < prio x) behind
  pub is : joined w q ≡ ahead ++ (w ∷ behind)

pub find : (w : ℕ) (q : List ℕ) → Sorted NoLower q → Found w q
find w [] s = record { ahead = []; behind = []; all = refl; high = tt; low = tt; is = refl }
find w (x ∷ q) s = go (ltb (prio w) (prio x)) refl (find w q s.1)
  where
    go : (b : Bool) → ltb (prio w) (prio x) ≡ b → Found w q → Found w (x ∷ q)
    go true e f =
        let l : prio w < prio x = ltb-true (prio w) (prio x) e in
        record {
          ahead = [];
          behind = x ∷ q;
          all = refl;
          high = tt;
          low = (
            l,
            all_map (NoLower x) (λ y. prio w < prio y) q (λ y z. omega arith)
                s.0,
          );
          is = rw e;
        }
    go false e f =
        record {
          ahead = x ∷ f.ahead;
          behind = f.behind;
          all = ap (λ l. x ∷ l) f.all;
          high = (ltb-false (prio w) (prio x) e, f.high);
          low = f.low;
          is = rw e (ap (λ l. x ∷ l) f.is);
        }

-- an entry tells its thread's priority
pub tells : (x p : ℕ) → x ≡ entry p (ident x) → prio x ≡ p
tells x p e = omega arith

pub parts : (P : ℕ → Type 0) (a b : List ℕ) → All P (a ++ b) → All P a × All P b
parts P [] b h = (tt, h)
parts P (x ∷ a) b h = ((h.0, (parts P a b h.1).0), (parts P a b h.1).1)

-- there is one place, by any priorities
module _ (k : ℕ → ℕ) (w p : ℕ) where
  abbrev pub Under : ℕ → Type 0
  Under x = k x ≤ p

  abbrev pub Over : ℕ → Type 0
  Over x = p < k x

  pub one_place : (q a b c d : List ℕ) → q ≡ a ++ b → q ≡ c ++ d → All Under a → All Over b → All Under c → All Over d → a ++ (w ∷ b) ≡ c ++ (w ∷ d)
  one_place q [] b [] d e f h l h' l' = ap (λ x. w ∷ x) (sym e ∙ f)
  one_place q [] b (y ∷ c) d e f h l h' l' =
      let z : b ≡ y ∷ (c ++ d) = sym e ∙ f in absurd (let u : All Over (y ∷ (c ++ d)) = subst (All Over) z l in omega (arith, u.0, h'.0))
  one_place q (x ∷ a) b [] d e f h l h' l' =
      let z : d ≡ x ∷ (a ++ b) = sym f ∙ e in absurd (let u : All Over (x ∷ (a ++ b)) = subst (All Over) z l' in omega (arith, u.0, h.0))
  one_place q (x ∷ a) b (y ∷ c) d e f h l h' l' =
      let z : x ∷ (a ++ b) ≡ y ∷ (c ++ d) = sym e ∙ f in
      let u : x ≡ y = cc in
      let v : a ++ b ≡ c ++ d = cc in
      (λ j. u j ∷ one_place (c ++ d) a b c d (sym v) refl h.1 l h'.1 l' j)

-- who stands in a queue stands somewhere
pub record Split (i : ℕ) (q : List ℕ) : Type 0 where
  pub ahead : List ℕ
  pub entry : ℕ
  pub behind : List ℕ
  pub all : q ≡ ahead ++ (entry ∷ behind)
  pub is : ident entry ≡ i

pub split : (i : ℕ) (q : List ℕ) → 0 < times i q → Split i q
split i [] h = absurd (omega arith)
split i (x ∷ q) h = go (eqb (ident x) i) refl h (split i q)
  where
    go : (b : Bool) → eqb (ident x) i ≡ b → 0 < cond b (suc (times i q)) (times i q) → (0 < times i q → Split i q) → Split i (x ∷ q)
    go true e z ih = record { ahead = []; entry = x; behind = q; all = refl; is = eqb-true (ident x) i e }
    go false e z ih =
        let r : Split i q = ih z in record { ahead = x ∷ r.ahead; entry = r.entry; behind = r.behind; all = ap (λ l. x ∷ l) r.all; is = r.is }
