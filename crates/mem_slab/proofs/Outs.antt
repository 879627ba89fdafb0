-- Which blocks are out after a call, in any memory. Assumes nothing.
use mathlib.Core.Path.{◌≡◌, refl, sym, ap, subst, ◌∙◌}
use mathlib.Core.Bool.{Bool, true, false, cond}
use mathlib.Core.List.{List, [], ◌∷◌}
use Prim.Native.Nat.{ℕ, suc, ◌≤◌}
use native.Mathlib.Omega.{arith}
use lib.Dec.{ltb, eqb}
use lib.IntN.{ℤ, pos, negsuc}
use lib.ListN.{length, get_or, take}
use lib.Seq.{length-take-le}
use borrow.Author.Tests.{lt-ltb, ltb-true, ne_eqb, eqb-true, eqb-false}
use Rattle.seq.proofs.Order.{clash}
use Rattle.thread.specs.Code.{einval}
use Rattle.store.specs.Store.{Reply, refuse, answer, reply, After}
use Rattle.store.specs.History.{Step, begun, made}
use Rattle.store.proofs.Laws.{refuted}
use Rattle.mem_slab.specs.Slab.{Slab, is_out}
use Rattle.mem_slab.specs.Post.{slab, place}
use Rattle.mem_slab.specs.Blocks.{Call, alloc_call, free_call, does, Calls, Runs, changed, held, out, OthersStay, Outcome, NoTwo}
use Rattle.mem_slab.proofs.Memory.{both, Sound, is-sound}
use Rattle.mem_slab.proofs.Calls.{not-zero, out-here, out-other, Does, gives, spent, takes, strange, unused, astray, which}

-- what holds of the reply to a call in memory, by what the memory is
pub by_call : (k : Call) (h l : List ℕ) (P : Reply Slab → Type 0) → P (refuse einval) → (Sound h l → (y : Reply Slab) → Does (slab h l) k y → P y)
    → P (reply place (does k) h l)
by_call k h l P bad well = go (place.formed h l) refl
  where
    go : (c : Bool) → place.formed h l ≡ c → P (reply place (does k) h l)
    go true e = rw e (well (is-sound h l e) (does k (slab h l)) (which (slab h l) k))
    go false e = rw e bad

pub outcome : (k : Call) (h l : List ℕ) (r : ℤ) (h' l' : List ℕ) → Calls k h l r h' l' → Outcome k r h l h' l'
outcome k h l r h' l' d =
    by_call k h l (λ y. r ≡ answer y → After place y h l h' l' → Outcome k r h l h' l') (λ e a. said e (none k a)) (λ s y w e a. said e (go s w a))
    d.code d.after
  where
    said : {c : ℤ} → r ≡ c → Outcome k c h l h' l' → Outcome k r h l h' l'
    said e o = subst (λ c. Outcome k c h l h' l') (sym e) o

    none : (k : Call) → (h' ≡ h) × (l' ≡ l) → Outcome k einval h l h' l'
    none alloc_call a = a
    none (free_call b) a = a

    links : Sound h l → get_or h 0 0 ≤ length (take (get_or h 0 0) l)
    links s = omega (arith, length-take-le (get_or h 0 0) l s.room)

    go : {k : Call} {y : Reply Slab} → Sound h l → Does (slab h l) k y → After place y h l h' l' → Outcome k (answer y) h l h' l'
    go s (gives u p q) m =
        let n = get_or h 0 0 in
        let x = get_or h 3 0 in
        record {
          here = s.inside;
          before = rw (lt-ltb x n s.inside) (ne_eqb (get_or (take n l) x 0) 0 (λ e. omega arith));
          after = ap (λ (t : Slab). is_out t x) m.object ∙ out-here n x 0 (take n l) s.inside (links s);
          others = λ i d. ap (λ (t : Slab). is_out t i) m.object ∙ out-other n x 0 (take n l) i d;
        }
    go s (takes {b} o u) m =
        let n = get_or h 0 0 in
        let x = get_or h 3 0 in (
          refl,
          record {
            before = o;
            after = ap (λ (t : Slab). is_out t b) m.object ∙ out-here n b (suc x) (take n l) (ltb-true b n (both (ltb b n) _ o).0) (links s) ∙ not-zero x;
            others = λ i d. ap (λ (t : Slab). is_out t i) m.object ∙ out-other n b (suc x) (take n l) i d;
          },
        )
    go s (spent u) a = a
    go s (strange o) a = a
    go s (unused o u) a = a
    go {k} s (astray e) a = none k a

-- a block is out as callers would count it
pub out_changes : (k : Call) (r : ℤ) (b : ℕ) (h l h' l' : List ℕ) → Outcome k r h l h' l' → out h' l' b ≡ changed k r b (out h l b)
out_changes k r b h l h' l' o = go k r o
  where
    by : (i : ℕ) (v : Bool) → out h' l' i ≡ v → OthersStay i h l h' l' → (c : Bool) → eqb i b ≡ c → out h' l' b ≡ cond c v (out h l b)
    by i v e f true t = rw (eqb-true i b t) at e
    by i v e f false t = f b (λ x. eqb-false i b t (sym x))

    go : (k : Call) (r : ℤ) → Outcome k r h l h' l' → out h' l' b ≡ changed k r b (out h l b)
    go alloc_call (pos i) o = by i true o.after o.others (eqb i b) refl
    go alloc_call (negsuc n) o = rw (o.0, o.1)
    go (free_call i) (pos n) o = by i false o.1.after o.1.others (eqb i b) refl
    go (free_call i) (negsuc n) o = rw (o.0, o.1)

changed_too : (k : Call) (r : ℤ) (b : ℕ) (v w : Bool) → (v ≡ true → w ≡ true) → changed k r b v ≡ true → changed k r b w ≡ true
changed_too k r b v w f = go k r
  where
    too : (u c : Bool) → cond c u v ≡ true → cond c u w ≡ true
    too u true e = e
    too u false e = f e

    go : (k : Call) (r : ℤ) → changed k r b v ≡ true → changed k r b w ≡ true
    go alloc_call (pos i) = too true (eqb i b)
    go alloc_call (negsuc n) = f
    go (free_call i) (pos n) = too false (eqb i b)
    go (free_call i) (negsuc n) = f

module _ (h₀ l₀ : List ℕ) where
  -- a block that is held is out
  pub held_out : (xs : List (Step Call)) (h l : List ℕ) (b : ℕ) → Runs h₀ l₀ xs h l → held xs b ≡ true → out h l b ≡ true
  held_out [] h l b begun e = clash (sym e)
  held_out (x ∷ xs) h' l' b (made {k = k} {r} {h} {b = l} o o' u d f) e =
      out_changes k r b h l h' l' (outcome k h l r h' l' d) ∙ changed_too k r b (held xs b) (out h l b) (held_out xs h l b u) e

  pub no_two : NoTwo h₀ l₀
  no_two xs h l h' l' b u d = refuted (λ e. clash (sym (held_out xs h l b u e) ∙ (outcome alloc_call h l (pos b) h' l' d).before))
