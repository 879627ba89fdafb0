-- A slab in memory: what its being fit says, and what a call leaves. Assumes nothing.
use mathlib.Core.Path.{◌≡◌, refl, sym}
use mathlib.Core.Bool.{Bool, true, false, cond, ◌&&◌, and-eq-true_iff}
use mathlib.Core.List.{List}
use Prim.Native.Nat.{ℕ, ◌≤◌, ◌<◌}
use native.Mathlib.Omega.{arith}
use lib.Dec.{ltb, leb}
use lib.IntN.{ℤ}
use lib.ListN.{length, get_or, take, length-take}
use lib.Seq.{length-take-le, get_or-take}
use borrow.Author.Tests.{lt-ltb, le-leb, ltb-true, leb-true}
use Rattle.seq.proofs.Order.{clash}
use Rattle.thread.specs.Code.{einval}
use Rattle.store.specs.Store.{Reply, refuse, Did}
use Rattle.store.proofs.Laws.{did}
pub use Rattle.mem_slab.specs.Fit.{Sound, Fit}
use Rattle.mem_slab.specs.Slab.{Slab, sound, leads}
use Rattle.mem_slab.specs.Post.{slab, place, fit, led, sees}

-- tests
pub both : (x y : Bool) → (x && y) ≡ true → (x ≡ true) × (y ≡ true)
both x y = (and-eq-true_iff x y).0

pub sound-is : (h l : List ℕ) → Sound h l → place.formed h l ≡ true
sound-is h l s =
    rw (
      le-leb 4 (length h) s.words,
      lt-ltb 0 (get_or h 0 0) s.blocks,
      lt-ltb 0 (get_or h 1 0) s.sized,
      le-leb (get_or h 2 0) (get_or h 0 0) s.few,
      lt-ltb (get_or h 3 0) (get_or h 0 0) s.inside,
      length-take-le (get_or h 0 0) l s.room,
    ) (le-leb (get_or h 0 0) (get_or h 0 0) (omega arith))

long-take : (n : ℕ) (l : List ℕ) → n ≤ length (take n l) → n ≤ length l
long-take n l h = omega (arith, length-take n l)

pub is-sound : (h l : List ℕ) → place.formed h l ≡ true → Sound h l
is-sound h l k =
    let a = both (leb 4 (length h)) (sound (slab h l)) k in
    let b = both (ltb 0 (get_or h 0 0)) _ a.1 in
    let c = both (ltb 0 (get_or h 1 0)) _ b.1 in
    let d = both (leb (get_or h 2 0) (get_or h 0 0)) _ c.1 in
    let e = both (ltb (get_or h 3 0) (get_or h 0 0)) _ d.1 in
    record {
      words = leb-true 4 (length h) a.0;
      blocks = ltb-true 0 (get_or h 0 0) b.0;
      sized = ltb-true 0 (get_or h 1 0) c.0;
      few = leb-true (get_or h 2 0) (get_or h 0 0) d.0;
      inside = ltb-true (get_or h 3 0) (get_or h 0 0) e.0;
      room = long-take (get_or h 0 0) l (leb-true (get_or h 0 0) (length (take (get_or h 0 0) l)) e.1);
    }

module _ (h l : List ℕ) (s : Sound h l) where
  pub next-link : get_or (take (get_or h 0 0) l) (get_or h 3 0) 0 ≡ get_or l (get_or h 3 0) 0
  next-link = get_or-take (get_or h 0 0) l (get_or h 3 0) 0 s.inside

  abbrev Leads : Type 0
  Leads = (get_or h 2 0 < get_or h 0 0 → 0 < get_or l (get_or h 3 0) 0) × (get_or h 2 0 < get_or h 0 0 → get_or l (get_or h 3 0) 0 ≤ get_or h 0 0)

  pub leads-is : Leads → leads (slab h l) ≡ true
  leads-is f = go (ltb (get_or h 2 0) (get_or h 0 0)) refl
    where
      go : (b : Bool) → ltb (get_or h 2 0) (get_or h 0 0) ≡ b → leads (slab h l) ≡ true
      go true t =
          let k : get_or h 2 0 < get_or h 0 0 = ltb-true (get_or h 2 0) (get_or h 0 0) t in
          rw (t, next-link, lt-ltb 0 (get_or l (get_or h 3 0) 0) (f.0 k)) (le-leb (get_or l (get_or h 3 0) 0) (get_or h 0 0) (f.1 k))
      go false t = rw t

  pub is-led : leads (slab h l) ≡ true → get_or h 2 0 < get_or h 0 0 → (0 < get_or l (get_or h 3 0) 0) × (get_or l (get_or h 3 0) 0 ≤ get_or h 0 0)
  is-led e k =
      let t = rw (lt-ltb (get_or h 2 0) (get_or h 0 0) k, next-link) at e in
      let p = both (ltb 0 (get_or l (get_or h 3 0) 0)) _ t in
      (ltb-true 0 (get_or l (get_or h 3 0) 0) p.0, leb-true (get_or l (get_or h 3 0) 0) (get_or h 0 0) p.1)

pub fit_is : (h l : List ℕ) → Fit h l → fit h l ≡ true
fit_is h l f = rw (sound-is h l f.sound) (leads-is h l f.sound (f.free, f.named))

pub is-fit : (h l : List ℕ) → fit h l ≡ true → Fit h l
is-fit h l k =
    let p = both (place.formed h l) (leads (slab h l)) k in
    let s = is-sound h l p.0 in
    record { sound = s; free = λ u. (is-led h l s p.1 u).0; named = λ u. (is-led h l s p.1 u).1 }

module _ (h l : List ℕ) where
  unguarded : {A : Type 0} (x y : A) → fit h l ≡ false → cond (place.formed h l) (cond (leads (slab h l)) x y) y ≡ y
  unguarded x y k = go (place.formed h l) (leads (slab h l)) k
    where
      go : (b c : Bool) → (b && c) ≡ false → cond b (cond c x y) y ≡ y
      go false c z = refl
      go true false z = refl
      go true true z = clash z

  -- so the reply and the number that is seen
  pub unfit : (f : Slab → Reply Slab) → fit h l ≡ false → Did place (led f) h l einval h l
  unfit f k = did place (led f) h l (refuse einval) h l (unguarded (f (slab h l)) (refuse einval) k) (refl, refl)

  pub seen : (f : Slab → ℤ) → Fit h l → f (slab h l) ≡ sees f h l
  seen f k = rw (sound-is h l k.sound, leads-is h l k.sound (k.free, k.named))

  pub unseen : (f : Slab → ℤ) → fit h l ≡ false → einval ≡ sees f h l
  unseen f k = sym (unguarded (f (slab h l)) einval k)
