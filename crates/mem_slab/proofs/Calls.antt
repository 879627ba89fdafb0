-- What one call does to a slab: a block goes out, or comes back, or nothing changes. Assumes nothing.
use mathlib.Core.Path.{◌≡◌, refl, sym}
use mathlib.Core.Bool.{Bool, true, false, cond, ◌&&◌}
use mathlib.Core.List.{List, []}
use Prim.Native.Nat.{ℕ, suc, ◌-◌, ◌≤◌, ◌<◌}
use native.Mathlib.Omega.{arith}
use lib.Dec.{ltb, eqb}
use lib.IntN.{pos}
use lib.ListN.{length, get_or, set}
use lib.Seq.{get_or-set_same, get_or-set_other}
use borrow.Author.Tests.{lt-ltb, ltb-true, ltb-false, leb-true, ne_eqb, eqb-true, eqb-false}
use Rattle.thread.specs.Code.{ok, enomem, einval}
use Rattle.store.specs.Store.{Reply, refuse, accept}
use Rattle.mem_slab.specs.Slab.{Slab, is_out, leads, given, returned}
use Rattle.mem_slab.specs.Blocks.{Call, alloc_call, free_call, does}
use Rattle.mem_slab.proofs.Memory.{both}

pub not-zero : (x : ℕ) → eqb (suc x) 0 ≡ false
not-zero x = ne_eqb (suc x) 0 (λ e. omega arith)

-- a link is written: which blocks are out then
module _ (n b v : ℕ) (k : List ℕ) where
  pub out-here : b < n → n ≤ length k → (ltb b n && eqb (get_or (set k b v) b 0) 0) ≡ eqb v 0
  out-here p q = rw (lt-ltb b n p, get_or-set_same k b v 0 (omega arith))

  pub out-other : (i : ℕ) → (i ≡ b → ⊥) → (ltb i n && eqb (get_or (set k b v) i 0) 0) ≡ (ltb i n && eqb (get_or k i 0) 0)
  out-other i d = rw (get_or-set_other k b i v 0 d)

  pub out-set : b < n → n ≤ length k → (i : ℕ) → (ltb i n && eqb (get_or (set k b v) i 0) 0) ≡ cond (eqb b i) (eqb v 0) (ltb i n && eqb (get_or k i 0) 0)
  out-set p q i = go (eqb b i) refl
    where
      go : (c : Bool) → eqb b i ≡ c → (ltb i n && eqb (get_or (set k b v) i 0) 0) ≡ cond c (eqb v 0) (ltb i n && eqb (get_or k i 0) 0)
      go true t = rw (← eqb-true b i t) (out-here p q)
      go false t = out-other i (λ z. eqb-false b i t (sym z))

-- the call, and the reply
pub data Does (s : Slab) : Call → Reply Slab → Type 0 where
  gives : s.used < s.blocks → 0 < get_or s.link s.next 0 → get_or s.link s.next 0 ≤ s.blocks
      → Does s alloc_call (accept (given s (suc s.used)) (pos s.next) [])
  spent : s.blocks ≤ s.used → Does s alloc_call (refuse enomem)
  takes : {b : ℕ} → is_out s b ≡ true → 0 < s.used → Does s (free_call b) (accept (returned s b (s.used - 1)) ok [])
  -- it is not out; none is, by the count; the slab does not lead
  strange : {b : ℕ} → is_out s b ≡ false → Does s (free_call b) (refuse einval)
  unused : {b : ℕ} → is_out s b ≡ true → s.used ≡ 0 → Does s (free_call b) (refuse einval)
  astray : {k : Call} → leads s ≡ false → Does s k (refuse einval)

pub which : (s : Slab) (k : Call) → Does s k (does k s)
which s k = go (leads s) refl k
  where
    allocates : leads s ≡ true → (t : Bool) → ltb s.used s.blocks ≡ t → Does s alloc_call (does alloc_call s)
    allocates e true t =
        let p = both (ltb 0 (get_or s.link s.next 0)) _ (rw t at e) in
        rw (e, t) (gives (ltb-true _ _ t) (ltb-true _ _ p.0) (leb-true _ _ p.1))
    allocates e false t = rw (e, t) (spent (ltb-false _ _ t))

    frees : leads s ≡ true → (b : ℕ) (o u : Bool) → is_out s b ≡ o → eqb s.used 0 ≡ u → Does s (free_call b) (does (free_call b) s)
    frees e b false u o t = rw (e, o) (strange o)
    frees e b true true o t = rw (e, o, t) (unused o (eqb-true _ _ t))
    frees e b true false o t = let z = eqb-false s.used 0 t in rw (e, o, t) (takes o (omega arith))

    go : (c : Bool) → leads s ≡ c → (k : Call) → Does s k (does k s)
    go false e k = rw e (astray e)
    go true e alloc_call = allocates e (ltb s.used s.blocks) refl
    go true e (free_call b) = frees e b (is_out s b) (eqb s.used 0) refl refl
