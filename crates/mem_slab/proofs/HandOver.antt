-- A block that is handed over; nobody waits in vain. Assumes nothing.
use mathlib.Core.Path.{◌≡◌, refl, sym, ap, ◌∙◌}
use mathlib.Core.Bool.{Bool, true, false}
use mathlib.Core.List.{List, [], ◌∷◌}
use Prim.Native.Nat.{ℕ, suc, ◌-◌, ◌≤◌, ◌<◌}
use native.Mathlib.Omega.{arith}
use lib.Dec.{ltb, eqb}
use lib.IntN.{pos}
use lib.ListN.{length, get_or, set}
use lib.Seq.{set-set, set-get_or, get_or-set_same, length-take-le}
use borrow.Author.Tests.{lt-ltb, le-leb, ltb-true, ltb-false, ne_eqb, eqb-true}
use Rattle.thread.specs.Code.{ok}
use Rattle.store.specs.Store.{Reply, accept, answer, After}
use Rattle.store.proofs.Laws.{no_code, did_yes, becomes-back}
use Rattle.store.proofs.Determined.{did_same}
use Rattle.mem_slab.specs.Slab.{Slab, is_out, alloc, returned}
use Rattle.mem_slab.specs.Post.{slab, place, led}
use Rattle.mem_slab.specs.Blocks.{free_call}
use Rattle.mem_slab.specs.HandOver.{HandedOver, HandOver, Counts, Ask, allocates, releases, next, counts, NoneInVain}
use Rattle.mem_slab.proofs.Memory.{both, Sound, sound-is}
use Rattle.mem_slab.proofs.Calls.{Does, takes, strange, unused, astray}
use Rattle.mem_slab.proofs.Outs.{by_call}
use Rattle.mem_slab.proofs.Determined.{faithful}

-- the waiter's alloc answers the block that was freed, and all is as it was
gives_back : (s : Slab) (b : ℕ) → is_out s b ≡ true → 0 < s.used → s.used ≤ s.blocks → s.next < s.blocks → s.blocks ≤ length s.link
    → led alloc (returned s b (s.used - 1)) ≡ accept s (pos b) []
gives_back s b o some few inside long =
    let n = s.blocks in
    let k = s.link in
    let x = s.next in
    let p = both (ltb b n) (eqb (get_or k b 0) 0) o in
    let y : suc x - 1 ≡ x = omega arith in
    let w : suc (s.used - 1) ≡ s.used = omega arith in
    let z : set (set k b (suc x)) b 0 ≡ k = set-set k b (suc x) 0 ∙ ap (set k b) (sym (eqb-true (get_or k b 0) 0 p.1)) ∙ set-get_or k b 0 in
    rw (
      lt-ltb (s.used - 1) n (omega arith),
      get_or-set_same k b (suc x) 0 (omega (arith, ltb-true b n p.0)),
      lt-ltb 0 (suc x) (omega arith),
      le-leb (suc x) n (omega arith),
      y,
      w,
      z,
    )

pub hand_over : (b : ℕ) (h l : List ℕ) → HandOver b h l
hand_over b h l h₁ l₁ h' l' r d a =
    by_call (free_call b) h l (λ y. ok ≡ answer y → After place y h l h₁ l₁ → HandedOver b h l r h' l') (λ e q. absurd (no_code e)) (λ s y w e q. go s w e q)
    d.code d.after
  where
    go : {y : Reply Slab} → Sound h l → Does (slab h l) (free_call b) y → ok ≡ answer y → After place y h l h₁ l₁ → HandedOver b h l r h' l'
    go s (takes o u) e m =
        let g = ap (led alloc) m.object ∙ gives_back (slab h l) b o u s.few s.inside (omega (arith, length-take-le (get_or h 0 0) l s.room)) in
        let w = becomes-back place (sound-is h l s) (ap (λ (t : Slab). t.blocks) m.object) m in
        let y = did_same faithful h₁ l₁ (led alloc) a (did_yes place (led alloc) h₁ l₁ m.formed g w) in
        record { block = y.0; header = y.1; links = y.2; count = rw (ne_eqb (get_or h 2 0) 0 (λ q. omega arith)) }
    go s (strange o) e q = absurd (no_code e)
    go s (unused o u) e q = absurd (no_code e)
    go s (astray f) e q = absurd (no_code e)

-- nobody waits while a block is free
module _ (n u w : ℕ) where
  abbrev Vain : Counts → Type 0
  Vain c = (c.out ≤ n) × (0 < c.waiting → c.out ≡ n)

  vain_next : Vain (record { out = u; waiting = w }) → (x : Ask) → Vain (next n (record { out = u; waiting = w }) x)
  vain_next v (allocates b) = go b (ltb u n) refl
    where
      go : (b c : Bool) → ltb u n ≡ c → Vain (next n (record { out = u; waiting = w }) (allocates b))
      go b true t = let k : u < n = ltb-true u n t in rw t (omega arith, λ p. absurd (omega (arith, v.1 p)))
      go true false t = rw t v
      go false false t = let k : n ≤ u = ltb-false u n t in rw t (v.0, λ p. omega (arith, v.0))
  vain_next v releases = go (eqb u 0) (ltb 0 w) refl refl
    where
      go : (c d : Bool) → eqb u 0 ≡ c → ltb 0 w ≡ d → Vain (next n (record { out = u; waiting = w }) releases)
      go true d s t = rw s v
      go false true s t = let k : 0 < w = ltb-true 0 w t in rw (s, t) (v.0, λ p. v.1 k)
      go false false s t = let k : w ≤ 0 = ltb-false 0 w t in rw (s, t) (omega (arith, v.0), λ p. absurd (omega arith))

vain : (n : ℕ) (xs : List Ask) → ((counts n xs).out ≤ n) × (0 < (counts n xs).waiting → (counts n xs).out ≡ n)
vain n [] = (omega arith, λ p. absurd (omega arith))
vain n (x ∷ xs) = vain_next n (counts n xs).out (counts n xs).waiting (vain n xs) x

pub none_in_vain : (n : ℕ) (xs : List Ask) → NoneInVain n xs
none_in_vain n xs = let v = vain n xs in record { few = v.0; waiting = v.1 }
