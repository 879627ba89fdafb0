-- Our contracts imply those of Gale's mem_slab.rs. Assumes nothing.
use mathlib.Core.Path.{◌≡◌, refl, sym, ap, ◌∙◌}
use mathlib.Core.Bool.{Bool, true, false, cond, ◌&&◌, and-false}
use mathlib.Core.Logic.{◌⊎◌, inl, inr}
use mathlib.Core.List.{List, []}
use Prim.Native.Nat.{ℕ, suc, ◌+◌, ◌-◌, ◌≤◌, ◌<◌}
use native.Mathlib.Numerals.{add-one}
use native.Mathlib.Omega.{arith}
use lib.Dec.{ltb, leb, eqb}
use lib.IntN.{ℤ, pos, negsuc}
use lib.Signed.{mag}
use lib.ListN.{length, get_or}
use lib.Seq.{set-set, set-get_or, get_or-set_same, length-take-le}
use borrow.Author.Tests.{lt-ltb, le-ltb, le-leb, lt-leb, ltb-false, eq-eqb, ne_eqb}
use Rattle.seq.proofs.Order.{clash}
use Rattle.thread.specs.Code.{ok, einval}
use Rattle.store.specs.Store.{Reply, refuse, accept, answer, left, reply, After}
use Rattle.store.proofs.Laws.{no_code, did_yes, becomes-back}
use Rattle.store.proofs.Histories.{holds_after}
use Rattle.store.proofs.Determined.{did_same}
use Rattle.mem_slab.specs.Slab.{Slab, is_out, leads, alloc, free, given}
use Rattle.mem_slab.specs.Post.{CountsUsed, CountsFree, CountsBlocks, GetsBlockSize, SaysFull, SaysEmpty, slab, place, fit, led, Allocs, Frees, sees, is_full, is_empty, Starts, AllocDecided, FreeDecided}
use Rattle.mem_slab.specs.Blocks.{Call, alloc_call, free_call, meant, out}
use Rattle.mem_slab.specs.Upstream.{Inv, Init, Alloc, Free, NumUsedGet, NumFreeGet, NumBlocksGet, BlockSizeGet, IsFull, IsEmpty, AllocDecide, FreeDecide, Inductive, AllocFree, AllocFreeMemory, FreeAlloc, Conserves, FullRejects, AllFreeRejects}
use Rattle.mem_slab.proofs.Memory.{both, Sound, sound-is, is-sound, Fit, leads-is, is-fit, unfit, unseen, seen}
use Rattle.mem_slab.proofs.Calls.{not-zero, Does, gives, spent, takes, strange, unused, astray, which}
use Rattle.mem_slab.proofs.Outs.{by_call}
use Rattle.mem_slab.proofs.Answers.{not-out, full, not_full, empty, not-empty}
use Rattle.mem_slab.proofs.Determined.{faithful}

-- decide functions
module _ (u n m : ℕ) (w : Bool) (r : ℤ) (m' : ℕ) (d : AllocDecided u n w m r m') where
  pub alloc_decide_lem : 0 < n → u ≤ n → AllocDecide u n w m r m'
  alloc_decide_lem b k =
      record {
        gives = λ e. d.code ∙ rw (lt-ltb 0 n b, le-leb u n k, lt-ltb u n e);
        more = λ e. d.number ∙ rw (lt-ltb 0 n b, le-leb u n k, lt-ltb u n e, add-one u);
        refuses = λ e q. d.code ∙ rw (lt-ltb 0 n b, le-leb u n k, le-ltb u n e, q);
        kept = λ e q p. d.number ∙ rw (lt-ltb 0 n b, le-leb u n k, le-ltb u n e, q) p;
        pends = λ e q. d.code ∙ rw (lt-ltb 0 n b, le-leb u n k, le-ltb u n e, q);
        same = λ e q. d.number ∙ rw (lt-ltb 0 n b, le-leb u n k, le-ltb u n e, q);
      }

  pub alloc-decide-refuses : (n ≡ 0) ⊎ (n < u) → (r ≡ einval) × (m' ≡ m)
  alloc-decide-refuses (inl e) = (d.code ∙ rw (le-ltb 0 n (omega arith)), d.number ∙ rw (le-ltb 0 n (omega arith)))
  alloc-decide-refuses (inr e) = let z = lt-leb u n e in (d.code ∙ rw (z, and-false (ltb 0 n)), d.number ∙ rw (z, and-false (ltb 0 n)))

module _ (u m : ℕ) (w : Bool) (r : ℤ) (m' : ℕ) (d : FreeDecided u w m r m') where
  pub free_decide_lem : 0 < u → FreeDecide u w r m'
  free_decide_lem b =
      let z : eqb u 0 ≡ false = ne_eqb u 0 (λ e. omega arith) in
      record {
        wakes = λ q. d.code ∙ rw (z, q);
        same = λ q. d.number ∙ rw (z, q);
        frees = λ q. d.code ∙ rw (z, q);
        fewer = λ q. d.number ∙ rw (z, q);
      }

  pub free-decide-refuses : u ≡ 0 → (r ≡ einval) × (m' ≡ m)
  free-decide-refuses e = let z = eq-eqb u 0 e in (d.code ∙ rw z, d.number ∙ rw z)

-- init
formed-inv : (h l : List ℕ) → place.formed h l ≡ true → Inv (slab h l)
formed-inv h l e = let s = is-sound h l e in record { blocks = s.blocks; sized = s.sized; few = s.few }

pub slab-init : (z n : ℕ) (h l : List ℕ) (r : ℤ) (h' l' : List ℕ) → 4 ≤ length h → n ≤ length l → Starts z n h l r h' l' → Init z n r (slab h' l')
slab-init z n h l r h' l' w k s = go (ltb 0 z) (ltb 0 n) refl refl
  where
    code : r ≡ cond (ltb 0 z && (ltb 0 n && leb n (length l))) ok einval
    code = s.code ∙ rw (le-leb 4 (length h) w)

    bad : (z ≡ 0) ⊎ (n ≡ 0) → r ≡ einval → Init z n r (slab h' l')
    bad e c =
        let never : r ≡ ok → ⊥ = λ q. no_code (sym q ∙ c) in
        record { inv = λ q. absurd (never q); used = λ q. absurd (never q); blocks = λ q. absurd (never q); size = λ q. absurd (never q); code = λ q. c; reason = λ q. e }

    go : (a b : Bool) → ltb 0 z ≡ a → ltb 0 n ≡ b → Init z n r (slab h' l')
    go false b x y = bad (inl (omega (arith, ltb-false 0 z x))) (code ∙ rw x)
    go true false x y = bad (inr (omega (arith, ltb-false 0 n y))) (code ∙ rw (x, y))
    go true true x y =
        let c : r ≡ ok = code ∙ rw (x, y, le-leb n (length l) k) in
        let m = s.made c in
        record {
          inv = λ q. formed-inv h' l' m.formed;
          used = λ q. ap (λ (t : Slab). t.used) m.object;
          blocks = λ q. ap (λ (t : Slab). t.blocks) m.object;
          size = λ q. ap (λ (t : Slab). t.size) m.object;
          code = λ q. absurd (q c);
          reason = λ q. absurd (q c);
        }

-- alloc and free
alloc-does : {s : Slab} {y : Reply Slab} → Inv s → leads s ≡ true → Does s alloc_call y → Alloc s (answer y) (left y s)
alloc-does {s} i e (gives u p q) =
    record {
      keeps = record { inv = record { blocks = i.blocks; sized = i.sized; few = u }; blocks = refl; size = refl };
      gives = λ z. refl;
      more = λ z. sym (add-one s.used);
      refuses = λ z. absurd (omega arith);
      kept = λ z. absurd (omega arith);
    }
alloc-does i e (spent u) =
    record {
      keeps = record { inv = i; blocks = refl; size = refl };
      gives = λ z. absurd (omega arith);
      more = λ z. absurd (omega arith);
      refuses = λ z. refl;
      kept = λ z. refl;
    }
alloc-does i e (astray f) = clash (sym e ∙ f)

free-does : {s : Slab} {b : ℕ} {y : Reply Slab} → Inv s → leads s ≡ true → (0 < s.used → is_out s b ≡ true) → Does s (free_call b) y
    → Free s (answer y) (left y s)
free-does {s} {b} i e k w = go w
  where
    none : (0 < s.used → ⊥) → Free s einval s
    none never =
        record {
          keeps = record { inv = i; blocks = refl; size = refl };
          frees = λ z. absurd (never z);
          fewer = λ z. absurd (never z);
          refuses = λ z. refl;
          kept = λ z. refl;
        }

    go : {y : Reply Slab} → Does s (free_call b) y → Free s (answer y) (left y s)
    go (takes o u) =
        record {
          keeps = record { inv = record { blocks = i.blocks; sized = i.sized; few = omega (arith, i.few) }; blocks = refl; size = refl };
          frees = λ z. refl;
          fewer = λ z. refl;
          refuses = λ z. absurd (omega arith);
          kept = λ z. absurd (omega arith);
        }
    go (strange o) = none (λ z. clash (sym (k z) ∙ o))
    go (unused o u) = none (λ z. omega arith)
    go (astray f) = clash (sym e ∙ f)

module _ (h l : List ℕ) (r : ℤ) (h' l' : List ℕ) where
  module _ (f : Fit h l) where
    formed : place.formed h l ≡ true
    formed = sound-is h l f.sound

    leading : leads (slab h l) ≡ true
    leading = leads-is h l f.sound (f.free, f.named)

    pub slab-alloc : Allocs h l r h' l' → Alloc (slab h l) r (slab h' l')
    slab-alloc d = holds_after place (led alloc) h l (Alloc (slab h l)) formed d (alloc-does (formed-inv h l formed) leading (which (slab h l) alloc_call))

    -- upstream is not told which block: one that is out, if any is
    pub slab-free : (b : ℕ) → (0 < get_or h 2 0 → out h l b ≡ true) → Frees b h l r h' l' → Free (slab h l) r (slab h' l')
    slab-free b k d =
        holds_after place (led (free b)) h l (Free (slab h l)) formed d (free-does (formed-inv h l formed) leading k (which (slab h l) (free_call b)))

    -- what is asked of a slab
    gets : (g : Slab → ℤ) → r ≡ sees g h l → r ≡ g (slab h l)
    gets g d = d ∙ sym (seen h l g f)

    pub num_used_get_lem : CountsUsed h l r → NumUsedGet (slab h l) r
    num_used_get_lem = gets (λ s. pos s.used)

    pub num_free_get_lem : CountsFree h l r → NumFreeGet (slab h l) r
    num_free_get_lem = gets (λ s. pos (s.blocks - s.used))

    pub num_blocks_get_lem : CountsBlocks h l r → NumBlocksGet (slab h l) r
    num_blocks_get_lem = gets (λ s. pos s.blocks)

    pub block_size_get_lem : GetsBlockSize h l r → BlockSizeGet (slab h l) r
    block_size_get_lem = gets (λ s. pos s.size)

    pub is_full_lem : SaysFull h l r → IsFull (slab h l) r
    is_full_lem d = record { full = λ e. gets is_full d ∙ full (slab h l) e; other = λ e. gets is_full d ∙ not_full (slab h l) e }

    pub is_empty_lem : SaysEmpty h l r → IsEmpty (slab h l) r
    is_empty_lem d = record { empty = λ e. gets is_empty d ∙ empty (slab h l) e; other = λ e. gets is_empty d ∙ not-empty (slab h l) e }

  abbrev pub Refused : Type 0
  Refused = (r ≡ einval) × (h' ≡ h) × (l' ≡ l)

  -- what upstream demands is refused here
  module _ (e : fit h l ≡ false) where
    pub alloc-refuses : Allocs h l r h' l' → Refused
    alloc-refuses d = did_same faithful h l (led alloc) d (unfit h l alloc e)

    pub free_unfit_refuses : (b : ℕ) → Frees b h l r h' l' → Refused
    free_unfit_refuses b d = did_same faithful h l (led (free b)) d (unfit h l (free b) e)

    pub get-refuses : (g : Slab → ℤ) → r ≡ sees g h l → r ≡ einval
    get-refuses g d = d ∙ sym (unseen h l g e)

  -- and so is the free of a block that is not out, whatever the number of those that are
  pub free-refuses : (b : ℕ) → out h l b ≡ false → Frees b h l r h' l' → Refused
  free-refuses b o d = did_same faithful h l (led (free b)) d (not-out b h l (rw o (and-false (fit h l))))

-- upstream's lemmas
pub invariant_inductive : (h l : List ℕ) (r : ℤ) (h' l' : List ℕ) → Inductive h l r h' l'
invariant_inductive h l r h' l' =
    record { init = λ z n s. formed-inv h' l' (s.made refl).formed; calls = λ k i d. go k i (reply place (led (meant k)) h l) d.after }
  where
    go : (k : Call) → Inv (slab h l) → (y : Reply Slab) → After place y h l h' l' → Inv (slab h' l')
    go k i (refuse c) a = rw (a.0, a.1) i
    go k i (accept s c o) a = formed-inv h' l' a.formed

pub alloc-free : (u n : ℕ) → u < n → AllocFree u n
alloc-free u n k =
    let y : suc u - 1 ≡ u = omega arith in
    record { alloc = λ w. rw (lt-ltb u n k); free = rw (not-zero u, y) }

pub free-alloc : (u n : ℕ) → 0 < u → u ≤ n → FreeAlloc u n
free-alloc u n b k =
    let y : suc (u - 1) ≡ u = omega arith in
    record { free = rw (ne_eqb u 0 (λ e. omega arith)); alloc = λ w. rw (lt-ltb (u - 1) n (omega arith), y) }

pub conservation : (h l : List ℕ) → Conserves h l
conservation h l f u n a b c = go (fit h l) refl
  where
    go : (t : Bool) → fit h l ≡ t → f + u ≡ n
    go true t =
        let k = is-fit h l t in
        let x : f ≡ get_or h 0 0 - get_or h 2 0 = ap mag (a ∙ sym (seen h l (λ s. pos (s.blocks - s.used)) k)) in
        let y : u ≡ get_or h 2 0 = ap mag (b ∙ sym (seen h l (λ s. pos s.used) k)) in
        let z : n ≡ get_or h 0 0 = ap mag (c ∙ sym (seen h l (λ s. pos s.blocks) k)) in
        omega (arith, k.sound.few)
    go false t = absurd (let y : pos u ≡ einval = b ∙ sym (unseen h l (λ s. pos s.used) t) in let z : ◌≡◌ {A = ℕ} 0 1 = cc in omega arith)

pub full_rejects_alloc : (u n : ℕ) → u ≡ n → FullRejects u n
full_rejects_alloc u n e = rw (le-ltb u n (omega arith))

pub all-free_rejects_free : (u : ℕ) → u ≡ 0 → AllFreeRejects u
all-free_rejects_free u e w = rw (eq-eqb u 0 e)

-- a block that goes out and comes back
comes_back : (s : Slab) → s.next < s.blocks → s.blocks ≤ length s.link → 0 < get_or s.link s.next 0 → leads (given s (suc s.used)) ≡ true
    → led (free s.next) (given s (suc s.used)) ≡ accept s ok []
comes_back s inside long some e =
    let x = s.next in
    let k = s.link in
    let y : suc s.used - 1 ≡ s.used = omega arith in
    let w : suc (get_or k x 0 - 1) ≡ get_or k x 0 = omega arith in
    rw (e, lt-ltb x s.blocks inside, get_or-set_same k x 0 0 (omega arith), not-zero s.used, y, w, set-set k x 0 (get_or k x 0), set-get_or k x 0)

pub alloc-free-memory : (h l : List ℕ) → AllocFreeMemory h l
alloc-free-memory h l b h₁ l₁ h' l' r d t a =
    by_call alloc_call h l (λ y. pos b ≡ answer y → After place y h l h₁ l₁ → (r ≡ ok) × (h' ≡ h) × (l' ≡ l)) (λ e q. no e) (λ s y w e q. go s w e q)
    d.code d.after
  where
    no : {P : Type 0} {n : ℕ} → pos b ≡ negsuc n → P
    no e = absurd (let y : ◌≡◌ {A = ℕ} 0 1 = cc in omega arith)

    go : {y : Reply Slab} → Sound h l → Does (slab h l) alloc_call y → pos b ≡ answer y → After place y h l h₁ l₁ → (r ≡ ok) × (h' ≡ h) × (l' ≡ l)
    go s (gives u p q) e m =
        let v : leads (given (slab h l) (suc (get_or h 2 0))) ≡ true = sym (ap leads m.object) ∙ (both (place.formed h₁ l₁) (leads (slab h₁ l₁)) t).1 in
        let c = comes_back (slab h l) s.inside (omega (arith, length-take-le (get_or h 0 0) l s.room)) p v in
        let g : led (free b) (slab h₁ l₁) ≡ accept (slab h l) ok [] = rw (ap mag e) (ap (led (free (get_or h 3 0))) m.object ∙ c) in
        did_same faithful h₁ l₁ (led (free b)) a
        (did_yes place (led (free b)) h₁ l₁ m.formed g (becomes-back place (sound-is h l s) (ap (λ (z : Slab). z.blocks) m.object) m))
    go s (spent u) e q = no e
    go s (astray f) e q = no e
