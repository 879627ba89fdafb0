-- The links of a new slab, and init's answers. Assumes nothing.
use mathlib.Core.Path.{◌≡◌, refl, sym, ap, ◌∙◌}
use mathlib.Core.List.{List, [], ◌∷◌, ◌++◌, append_assoc}
use Prim.Native.Nat.{ℕ, zero, suc, ◌+◌, ◌-◌, ◌≤◌, ◌<◌}
use native.Mathlib.Numerals.{add-one}
use native.Mathlib.Omega.{arith}
use lib.ListN.{length, get_or, take, drop, set, length-append, length-drop}
use lib.Seq.{drop-cons, set_at, take_at, drop_at}
use borrow.Author.Tests.{lt-ltb, le-leb}
use Rattle.seq.proofs.Words.{spelled, spell}
use Rattle.thread.specs.Code.{ok}
use Rattle.store.specs.Store.{Filled}
use Rattle.store.proofs.Laws.{start-made}
use Rattle.mem_slab.specs.Slab.{up_from, new_links}
use Rattle.mem_slab.specs.Post.{Starts}
use Rattle.mem_slab.proofs.Memory.{sound-is}

pub length_up : (k n : ℕ) → length (up_from k n) ≡ n
length_up k zero = refl
length_up k (suc n) = ap suc (length_up (suc k) n)

up_more : (k n x : ℕ) (t : List ℕ) → x ≡ n + k → up_from k n ++ x ∷ t ≡ up_from k (suc n) ++ t
up_more k zero x t e = let z : x ≡ k = omega arith in ap (λ (y : ℕ). y ∷ t) z
up_more k (suc n) x t e = ap (λ (l : List ℕ). k ∷ l) (up_more (suc k) n x t (omega arith))

-- the links of i blocks are written
abbrev pub linked : ℕ → List ℕ → List ℕ
linked i l = up_from 2 i ++ drop i l

module _ (i : ℕ) (l : List ℕ) (k : i < length l) where
  writes_at : (x : ℕ) → set (linked i l) i x ≡ up_from 2 i ++ x ∷ drop (suc i) l
  writes_at x = rw (drop-cons l i 0 k) (set_at (up_from 2 i) (get_or l i 0) (drop (suc i) l) x i (length_up 2 i))

  pub linked_more : set (linked i l) i (i + 2) ≡ linked (i + 1) l
  linked_more = writes_at (i + 2) ∙ up_more 2 i (i + 2) (drop (suc i) l) refl ∙ rw (add-one i)

pub length-new : (n : ℕ) → 0 < n → length (new_links n) ≡ n
length-new n k = omega (arith, length-append (up_from 2 (n - 1)) (1 ∷ []), length_up 2 (n - 1))

-- and the last one's names the first
pub linked_all : (n : ℕ) (l : List ℕ) → 0 < n → n ≤ length l → (i : ℕ) → i ≡ n - 1 → Filled (new_links n) l (set (linked i l) i 1)
linked_all n l b k i e =
    let m : suc i ≡ n = omega arith in
    rw (length-new n b, writes_at i l (omega arith) 1, m, e) (sym (append_assoc (up_from 2 (n - 1)) (1 ∷ []) (drop n l)))

-- the links come first in what was lent
filled : (k l l' : List ℕ) (n : ℕ) → length k ≡ n → n ≤ length l → Filled k l l' → (length l' ≡ length l) × (take n l' ≡ k) × (drop n l' ≡ drop n l)
filled k l l' n e m f =
    rw (f, e) (omega (arith, length-append k (drop n l), length-drop n l), take_at k (drop n l) n e, drop_at k (drop n l) n e)

module _ (z n : ℕ) (h l : List ℕ) where
  module _ (w : 4 ≤ length h) where
    pub starts : 0 < z → 0 < n → n ≤ length l → (l' : List ℕ) → Filled (new_links n) l l' → Starts z n h l ok (set (set (set (set h 0 n) 1 z) 2 0) 3 0) l'
    starts a b c l' f =
        let q = filled (new_links n) l l' n (length-new n b) c f in
        start-made w (rw (lt-ltb 0 z a, lt-ltb 0 n b) (le-leb n (length l) c)) (rw (spell 4 h w) (record {
          formed = sound-is (set (set (set (set (spelled 4 h) 0 n) 1 z) 2 0) 3 0) l'
              (record { words = omega arith; blocks = b; sized = a; few = omega arith; inside = b; room = omega (arith, q.0) });
          object = rw q.1;
          beside = refl;
          rest = q.2;
          long = (refl, q.0);
        }))
