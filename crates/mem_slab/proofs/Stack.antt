-- The free blocks of a slab are a stack: what alloc and free keep. Assumes nothing.
use mathlib.Core.Path.{◌≡◌, refl, subst, sym, ap, ◌∙◌}
use mathlib.Core.Bool.{Bool, true, false, cond, not, ◌&&◌, and-false}
use mathlib.Core.List.{List, [], ◌∷◌}
use Prim.Native.Nat.{ℕ, zero, suc, ◌+◌, ◌-◌, ◌≤◌, ◌<◌}
use native.Mathlib.Omega.{arith}
use lib.Dec.{ltb, eqb}
use lib.ListN.{length, get_or, set, length-set, get_or-append, get_or-eq_default}
use lib.Seq.{get_or-set_same, get_or-set_other, get_or_at}
use borrow.Author.Tests.{lt-ltb, le-leb, ltb-true, ltb-false, eq-eqb, ne_eqb, eqb-true, eqb-false}
use Rattle.seq.proofs.Order.{clash}
use Rattle.mem_slab.specs.Slab.{Slab, is_out, leads, given, returned, up_from, new_links, fresh}
use Rattle.mem_slab.specs.History.{count, number, along, free_list, is_free}
use Rattle.mem_slab.proofs.Memory.{both}
use Rattle.mem_slab.proofs.New.{length_up, length-new}
use Rattle.mem_slab.proofs.Calls.{not-zero, out-here, out-other, out-set}
use Rattle.mem_slab.proofs.Along.{along-same, along_up, number_more, number-none, count_up, count_none}

pub record Good (s : Slab) : Type 0 where
  pub few : s.used ≤ s.blocks
  pub inside : s.next < s.blocks
  pub links : s.blocks ≤ length s.link
  pub named : (b : ℕ) → get_or s.link b 0 ≤ s.blocks
  pub once : (b : ℕ) → count b (free_list s) ≡ cond (is_free s b) 1 0
  pub used : s.used ≡ number (is_out s) s.blocks

named_set : (n b v : ℕ) (k : List ℕ) → b < length k → v ≤ n → ((i : ℕ) → get_or k i 0 ≤ n) → (i : ℕ) → get_or (set k b v) i 0 ≤ n
named_set n b v k p e f i = go (eqb i b) refl
  where
    go : (c : Bool) → eqb i b ≡ c → get_or (set k b v) i 0 ≤ n
    go true t = rw (eqb-true i b t, get_or-set_same k b v 0 p) e
    go false t = rw (get_or-set_other k b i v 0 (eqb-false i b t)) (f i)

one_only : (b : Bool) (m : ℕ) → suc m ≡ cond b 1 0 → (b ≡ true) × (m ≡ 0)
one_only true m e = (refl, omega arith)
one_only false m e = absurd (omega arith)

not-out : (p o : Bool) → (p && not (p && o)) ≡ true → o ≡ false
not-out true true e = clash (sym e)
not-out true false e = refl
not-out false o e = clash (sym e)

module _ (s : Slab) (g : Good s) where
  -- the blocks that are free after the next
  abbrev pub rest : List ℕ
  rest = along s.link (get_or s.link s.next 0 - 1) (s.blocks - suc s.used)

  module _ (e : s.used < s.blocks) where
    pub first-is : free_list s ≡ s.next ∷ rest
    first-is = let y : s.blocks - s.used ≡ suc (s.blocks - suc s.used) = omega arith in rw y

    first-once : (is_free s s.next ≡ true) × (count s.next rest ≡ 0)
    first-once = one_only (is_free s s.next) (count s.next rest) (rw (first-is, eq-eqb s.next s.next refl) at (g.once s.next))

    next-free : 0 < get_or s.link s.next 0
    next-free =
        let l = get_or s.link s.next 0 in
        let y : l ≡ 0 → ⊥ = eqb-false l 0 (not-out (ltb s.next s.blocks) (eqb l 0) first-once.0) in
        omega arith

    -- alloc takes the first
    pub popped : free_list (given s (suc s.used)) ≡ rest
    popped = along-same s.link s.next 0 (get_or s.link s.next 0 - 1) (s.blocks - suc s.used) first-once.1

    once-alloc : (b : ℕ) → count b rest ≡ cond (is_free (given s (suc s.used)) b) 1 0
    once-alloc b = rw (out-set s.blocks s.next 0 s.link g.inside g.links b) (go (eqb s.next b) refl)
      where
        go : (c : Bool) → eqb s.next b ≡ c → count b rest ≡ cond (ltb b s.blocks && not (cond (eqb s.next b) true (is_out s b))) 1 0
        go true t = rw (t, and-false (ltb b s.blocks), ← eqb-true s.next b t) first-once.1
        go false t = rw t (rw (first-is, t) at (g.once b))

    pub good-alloc : Good (given s (suc s.used))
    good-alloc =
        let x = s.next in
        let n = s.blocks in
        let k = s.link in
        let was : is_out s x ≡ false = rw (lt-ltb x n g.inside) (ne_eqb (get_or k x 0) 0 (λ q. omega (arith, next-free))) in
        let is = out-here n x 0 k g.inside g.links in
        record {
          few = omega arith;
          inside = omega (arith, next-free, g.named x);
          links = rw (length-set k x 0) g.links;
          named = named_set n x 0 k (omega (arith, g.inside, g.links)) (omega arith) g.named;
          once = λ b. ap (count b) popped ∙ once-alloc b;
          used = ap suc g.used ∙ sym (number_more (is_out s) (is_out (given s (suc s.used))) x was is (out-other n x 0 k) n g.inside);
        }

  pub good-leads : leads s ≡ true
  good-leads = go (ltb s.used s.blocks) refl
    where
      go : (c : Bool) → ltb s.used s.blocks ≡ c → leads s ≡ true
      go true t = rw (t, lt-ltb 0 (get_or s.link s.next 0) (next-free (ltb-true _ _ t))) (le-leb _ _ (g.named s.next))
      go false t = rw t

  module _ (b : ℕ) (o : is_out s b ≡ true) where
    pub here : b < s.blocks
    here = ltb-true b s.blocks (both (ltb b s.blocks) _ o).0

    one_fewer : number (is_out s) s.blocks ≡ suc (number (is_out (returned s b (s.used - 1))) s.blocks)
    one_fewer =
        number_more (is_out (returned s b (s.used - 1))) (is_out s) b (out-here s.blocks b (suc s.next) s.link here g.links ∙ not-zero s.next) o
        (λ i d. sym (out-other s.blocks b (suc s.next) s.link i d)) s.blocks here

    pub some-used : 0 < s.used
    some-used = omega (arith, g.used, one_fewer)

    absent : count b (free_list s) ≡ 0
    absent = g.once b ∙ rw (o, lt-ltb b s.blocks here)

    -- free puts b in front
    pub pushed : free_list (returned s b (s.used - 1)) ≡ b ∷ free_list s
    pushed =
        let y : s.blocks - (s.used - 1) ≡ suc (s.blocks - s.used) = omega (arith, some-used, g.few) in
        let w : suc s.next - 1 ≡ s.next = omega arith in
        rw (y, get_or-set_same s.link b (suc s.next) 0 (omega (arith, here, g.links)), w)
        (ap (λ (l : List ℕ). b ∷ l) (along-same s.link b (suc s.next) s.next (s.blocks - s.used) absent))

    once-free : (i : ℕ) → count i (b ∷ free_list s) ≡ cond (is_free (returned s b (s.used - 1)) i) 1 0
    once-free i = rw (out-set s.blocks b (suc s.next) s.link here g.links i, not-zero s.next) (go (eqb b i) refl)
      where
        go : (c : Bool) → eqb b i ≡ c → count i (b ∷ free_list s) ≡ cond (ltb i s.blocks && not (cond (eqb b i) false (is_out s i))) 1 0
        go true t =
            rw t (subst (λ (x : ℕ). suc (count x (free_list s)) ≡ cond (ltb x s.blocks && true) 1 0) (eqb-true b i t) (rw (lt-ltb b s.blocks here) (ap suc absent)))
        go false t = rw t (g.once i)

    pub good-free : Good (returned s b (s.used - 1))
    good-free =
        record {
          few = omega (arith, g.few);
          inside = here;
          links = rw (length-set s.link b (suc s.next)) g.links;
          named = named_set s.blocks b (suc s.next) s.link (omega (arith, here, g.links)) g.inside g.named;
          once = λ i. ap (count i) pushed ∙ once-free i;
          used = omega (arith, one_fewer, g.used);
        }

-- a new slab
get_d_up : (k n j : ℕ) → j < n → get_or (up_from k n) j 0 ≡ j + k
get_d_up k zero j h = absurd (omega arith)
get_d_up k (suc n) zero h = omega arith
get_d_up k (suc n) (suc j) h = omega (arith, get_d_up (suc k) n j (omega arith))

module _ (z n : ℕ) (some-blocks : 0 < n) where
  abbrev links : List ℕ
  links = new_links n

  link_up : (j : ℕ) → suc j < n → get_or links j 0 ≡ suc (suc j)
  link_up j h =
      omega (arith, get_or-append (up_from 2 (n - 1)) (1 ∷ []) 0 j (omega (arith, length_up 2 (n - 1))), get_d_up 2 (n - 1) j (omega arith))

  link-last : get_or links (n - 1) 0 ≡ 1
  link-last = get_or_at (up_from 2 (n - 1)) 1 [] 0 (n - 1) (length_up 2 (n - 1))

  -- each block names one
  link-new : (j : ℕ) → (get_or links j 0 ≤ n) × (is_out (fresh z n) j ≡ false)
  link-new j = go (ltb (suc j) n) (ltb j n) refl refl
    where
      go : (a b : Bool) → ltb (suc j) n ≡ a → ltb j n ≡ b → (get_or links j 0 ≤ n) × (is_out (fresh z n) j ≡ false)
      go true b s t =
          let k = ltb-true (suc j) n s in
          rw (link_up j k, lt-ltb j n (omega arith)) (k, not-zero (suc j))
      go false true s t =
          let e : j ≡ n - 1 = omega (arith, ltb-false (suc j) n s, ltb-true j n t) in
          rw (t, e, link-last) (some-blocks, refl)
      go false false s t = rw (t, get_or-eq_default links 0 {n = j} (omega (arith, length-new n some-blocks, ltb-false j n t))) (omega arith, refl)

  pub none_out : (b : ℕ) → is_out (fresh z n) b ≡ false
  none_out b = (link-new b).1

  once-new : (b : ℕ) → count b (up_from 0 n) ≡ cond (ltb b n && not (is_out (fresh z n) b)) 1 0
  once-new b = go (ltb b n) refl
    where
      go : (c : Bool) → ltb b n ≡ c → count b (up_from 0 n) ≡ cond (ltb b n && not (is_out (fresh z n) b)) 1 0
      go true t = rw (none_out b, t) (count_up b 0 n (omega arith) (omega (arith, ltb-true b n t)))
      go false t = rw (none_out b, t) (count_none b 0 n (λ e. omega (arith, ltb-false b n t)))

  -- all are free, by their numbers
  pub free_new : free_list (fresh z n) ≡ up_from 0 n
  free_new = let y : n - 0 ≡ n = omega arith in rw y (along_up links n 0 n (omega arith) link_up)

  pub good_new : Good (fresh z n)
  good_new =
      record {
        few = omega arith;
        inside = some-blocks;
        links = omega (arith, length-new n some-blocks);
        named = λ b. (link-new b).0;
        once = λ b. ap (count b) free_new ∙ once-new b;
        used = sym (number-none (is_out (fresh z n)) n none_out);
      }
