-- Any sequence of calls from init keeps what a slab promises. Assumes nothing.
use mathlib.Core.Path.{◌≡◌, refl, sym, ap, ◌∙◌}
use mathlib.Core.Bool.{Bool, true, false, cond, not, ◌&&◌}
use mathlib.Core.List.{List, [], ◌∷◌}
use Prim.Native.Nat.{ℕ, suc, ◌-◌, ◌<◌}
use native.Mathlib.Omega.{arith}
use lib.Dec.{ltb, eqb}
use lib.IntN.{ℤ}
use lib.ListN.{drop}
use borrow.Author.Tests.{lt-ltb, ltb-true}
use Rattle.seq.proofs.Order.{clash}
use Rattle.store.specs.Store.{Reply, answer, left, out}
use Rattle.store.specs.History.{Step}
use Rattle.store.proofs.Histories.{plain-made, throughout, from_start, allowed}
use Rattle.mem_slab.specs.Slab.{Slab, is_out}
use Rattle.mem_slab.specs.Post.{place}
use Rattle.mem_slab.specs.Blocks.{Call, does, Calls, Runs, held}
use Rattle.mem_slab.specs.History.{count, number, free_list, top, stock, AllTold, Promise, Always}
use Rattle.mem_slab.proofs.Memory.{both}
use Rattle.mem_slab.proofs.Along.{number_ext}
use Rattle.mem_slab.proofs.Calls.{not-zero, out-set, Does, gives, spent, takes, strange, unused, astray, which}
use Rattle.mem_slab.proofs.Stack.{Good, first-is, popped, good-alloc, good-leads, here, some-used, pushed, good-free, free_new, none_out, good_new}

record Holds (z n : ℕ) (xs : List (Step Call)) (s : Slab) : Type 0 where
  good : Good s
  blocks : s.blocks ≡ n
  size : s.size ≡ z
  told : AllTold n xs
  list : free_list s ≡ stock n xs
  out : (b : ℕ) → is_out s b ≡ held xs b

goes_on : {z n : ℕ} {xs : List (Step Call)} {s : Slab} {k : Call} {y : Reply Slab} → Does s k y → Holds z n xs s → (o : List ℕ)
    → Holds z n (record { call = k; answer = answer y; out = o } ∷ xs) (left y s)
goes_on {s = s} (gives u p q) h o =
    let g = h.good in
    record {
      good = good-alloc s g u;
      blocks = h.blocks;
      size = h.size;
      told = (rw (first-is s g u) at (ap top h.list), h.told);
      list = popped s g u ∙ (rw (first-is s g u) at (ap (drop 1) h.list));
      out = λ b. out-set s.blocks s.next 0 s.link g.inside g.links b ∙ ap (cond (eqb s.next b) true) (h.out b);
    }
goes_on {s = s} (spent u) h o =
    let e : s.blocks - s.used ≡ 0 = omega arith in
    record { good = h.good; blocks = h.blocks; size = h.size; told = (rw e at (ap top h.list), h.told); list = h.list; out = h.out }
goes_on {s = s} (takes {b} q u) h o =
    let g = h.good in
    record {
      good = good-free s g b q;
      blocks = h.blocks;
      size = h.size;
      told = (rw (sym (h.out b) ∙ q), h.told);
      list = pushed s g b q ∙ ap (λ (f : List ℕ). b ∷ f) h.list;
      out = λ i. out-set s.blocks b (suc s.next) s.link (here s g b q) g.links i ∙ rw (not-zero s.next) (ap (cond (eqb b i) false) (h.out i));
    }
goes_on (strange {b} q) h o =
    record { good = h.good; blocks = h.blocks; size = h.size; told = (rw (sym (h.out b) ∙ q), h.told); list = h.list; out = h.out }
goes_on {s = s} (unused {b} q u) h o = absurd (omega (arith, some-used s h.good b q))
goes_on {s = s} (astray e) h o = clash (sym (good-leads s h.good) ∙ e)

promise : {z n : ℕ} {xs : List (Step Call)} {s : Slab} → Holds z n xs s → Promise z n xs s
promise {z} {n} {xs} {s} h =
    record {
      blocks = h.blocks;
      size = h.size;
      told = h.told;
      list = h.list;
      once = once;
      out = h.out;
      used = h.good.used ∙ number_ext (is_out s) (held xs) s.blocks h.out ∙ ap (number (held xs)) h.blocks;
      all_held = all_held;
      some_free = λ b i f e. clash (sym (all_held e b i) ∙ f);
    }
  where
    once : (b : ℕ) → count b (stock n xs) ≡ cond (ltb b n && not (held xs b)) 1 0
    once b = ap (count b) (sym h.list) ∙ h.good.once b ∙ (λ i. cond (ltb b (h.blocks i) && not (h.out b i)) 1 0)

    all_held : stock n xs ≡ [] → (b : ℕ) → b < n → held xs b ≡ true
    all_held e b i = go (held xs b) refl
      where
        go : (o : Bool) → held xs b ≡ o → held xs b ≡ true
        go true o = o
        go false o = absurd (let v : ◌≡◌ {A = ℕ} 0 1 = sym (ap (count b) e) ∙ once b ∙ rw (o, lt-ltb b n i) in omega arith)

pub slab_history : (z n : ℕ) → Always z n
slab_history z n h l h₀ l₀ s xs h' l' m =
    let b : 0 < n = ltb-true 0 n (both (ltb 0 n) _ (both (ltb 0 z) _ (allowed s)).1).0 in
    promise (throughout does (Holds z n) (λ k ss t o i. goes_on (which t k) i o)
    (record { good = good_new z n b; blocks = refl; size = refl; told = tt; list = free_new z n b; out = none_out z n b }) (from_start place does s m).1)

-- each function makes a step: what it ensures is what a step needs
nothing-out : {s : Slab} {k : Call} {y : Reply Slab} → Does s k y → out y ≡ []
nothing-out (gives u p q) = refl
nothing-out (spent u) = refl
nothing-out (takes o u) = refl
nothing-out (strange o) = refl
nothing-out (unused o u) = refl
nothing-out (astray e) = refl

pub call-made : {h₀ l₀ h l h' l' : List ℕ} {xs : List (Step Call)} (k : Call) {r : ℤ} → Runs h₀ l₀ xs h l → Calls k h l r h' l'
    → Runs h₀ l₀ (record { call = k; answer = r; out = [] } ∷ xs) h' l'
call-made k m d = plain-made place does m (λ s. nothing-out (which s k)) d
