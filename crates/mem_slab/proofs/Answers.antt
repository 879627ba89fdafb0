-- How each answer of a function meets the slab's definition. Assumes nothing.
use mathlib.Core.Path.{◌≡◌, refl}
use mathlib.Core.Bool.{Bool, true, false, ◌&&◌}
use mathlib.Core.List.{List, []}
use Prim.Native.Nat.{ℕ, ◌+◌, ◌-◌, ◌≤◌, ◌<◌}
use native.Mathlib.Numerals.{add-one}
use native.Mathlib.Omega.{arith}
use lib.IntN.{pos}
use lib.ListN.{get_or, take, set, length-set}
use lib.Seq.{get_or-take, take-set-lt, drop-set-lt}
use borrow.Author.Tests.{lt-ltb, eq-eqb, ne_eqb}
use Rattle.seq.proofs.Words.{spelled, spell}
use Rattle.thread.specs.Code.{ok, einval}
use Rattle.store.specs.Store.{Becomes}
use Rattle.store.proofs.Laws.{did_no, did_yes}
use Rattle.std.specs.Prelude.{Ok}
use Rattle.mem_slab.specs.declared.Numbers.{Numbers}
use Rattle.mem_slab.specs.Answer.{numbers}
use Rattle.mem_slab.specs.Slab.{Slab, is_out, leads, alloc, free}
use Rattle.mem_slab.specs.Post.{slab, place, fit, led, is_full, is_empty, Allocs, Frees}
use Rattle.mem_slab.proofs.Memory.{sound-is, Fit, fit_is, is-fit, leads-is, next-link, unfit}

-- the numbers that formed answers
pub named : (h l : List ℕ) → Fit h l → {x : Numbers} → Ok x ≡ numbers h l → x ≡ record { blocks = get_or h 0 0; size = get_or h 1 0; used = get_or h 2 0; next = get_or h 3 0 }
named h l f e = let z = rw (fit_is h l f) at e in cc

module _ (h l : List ℕ) (f : Fit h l) where
  abbrev blocks : ℕ
  blocks = get_or h 0 0

  abbrev used : ℕ
  used = get_or h 2 0

  abbrev next : ℕ
  next = get_or h 3 0

  formed : place.formed h l ≡ true
  formed = sound-is h l f.sound

  is_leading : leads (slab h l) ≡ true
  is_leading = leads-is h l f.sound (f.free, f.named)

  -- the header's last two words and one link are written
  writes : (u' x' i v : ℕ) → u' ≤ blocks → x' < blocks → i < blocks
      → Becomes place (record { blocks = blocks; size = get_or h 1 0; used = u'; next = x'; link = set (take blocks l) i v }) h l (set (set h 2 u') 3 x')
      (set l i v)
  writes u' x' i v p q k =
      let s = f.sound in
      let z = rw (spell 4 h s.words) at s.sized in
      rw (spell 4 h s.words) (record {
        formed = sound-is (set (set (spelled 4 h) 2 u') 3 x') (set l i v)
            (record { words = omega arith; blocks = s.blocks; sized = z; few = p; inside = q; room = rw (length-set l i v) s.room });
        object = rw (take-set-lt blocks l i v k);
        beside = refl;
        rest = drop-set-lt blocks l i v k;
        long = (refl, length-set l i v);
      })

  pub gives : (used ≡ blocks → ⊥) → Allocs h l (pos next) (set (set h 2 (used + 1)) 3 (get_or l next 0 - 1)) (set l next 0)
  gives e =
      let s = f.sound in
      let k : used < blocks = omega (arith, s.few) in
      let p : 0 < get_or l next 0 = f.free k in
      let q : get_or l next 0 ≤ blocks = f.named k in
      did_yes place (led alloc) h l {l = []} formed (rw (is_leading, lt-ltb used blocks k, next-link h l s, ← add-one used))
      (writes (used + 1) (get_or l next 0 - 1) next 0 (omega arith) (omega arith) s.inside)

  pub takes : (b : ℕ) → b < blocks → get_or l b 0 ≡ 0 → (used ≡ 0 → ⊥) → Frees b h l ok (set (set h 2 (used - 1)) 3 b) (set l b (next + 1))
  takes b k z e =
      did_yes place (led (free b)) h l {l = []} formed (rw (is_leading, lt-ltb b blocks k, get_or-take blocks l b 0 k, z, ne_eqb used 0 e, ← add-one next))
      (writes (used - 1) b b (next + 1) (omega (arith, f.sound.few)) k k)

-- a block that is not out, and memory that is not as it should be
module _ (b : ℕ) (h l : List ℕ) where
  pub not-out : (fit h l && is_out (slab h l) b) ≡ false → Frees b h l einval h l
  not-out e = go (fit h l) refl e
    where
      go : (c : Bool) → fit h l ≡ c → (c && is_out (slab h l) b) ≡ false → Frees b h l einval h l
      go false t o = unfit h l (free b) t
      go true t o =
          let f = is-fit h l t in
          did_no place (led (free b)) h l (sound-is h l f.sound) (rw (leads-is h l f.sound (f.free, f.named), o))

-- what is asked of a slab
pub full : (s : Slab) → s.used ≡ s.blocks → is_full s ≡ pos 1
full s e = rw (eq-eqb s.used s.blocks e)

pub not_full : (s : Slab) → (s.used ≡ s.blocks → ⊥) → is_full s ≡ pos 0
not_full s e = rw (ne_eqb s.used s.blocks e)

pub empty : (s : Slab) → s.used ≡ 0 → is_empty s ≡ pos 1
empty s e = rw (eq-eqb s.used 0 e)

pub not-empty : (s : Slab) → (s.used ≡ 0 → ⊥) → is_empty s ≡ pos 0
not-empty s e = rw (ne_eqb s.used 0 e)
