-- The slab's contracts leave nothing open. Assumes nothing.
use mathlib.Core.Bool.{◌&&◌, cond}
use mathlib.Core.List.{[], ◌∷◌}
use mathlib.Core.Path.{◌≡◌, refl, sym, ◌∙◌}
use Prim.Native.Nat.{ℕ}
use lib.Dec.{ltb, leb, eqb}
use lib.ListN.{length}
use lib.IntN.{ℤ, pos}
use lib.Signed.{mag}
use Rattle.seq.proofs.Only.{said, back_alike}
use Rattle.thread.proofs.Determined.{tells-by}
use Rattle.store.specs.Determined.{Faithful}
use Rattle.store.proofs.Determined.{did_only, started_only, decided-only}
use Rattle.mem_slab.specs.Slab.{alloc, free, fresh}
use Rattle.mem_slab.specs.Post.{place, led}
use Rattle.mem_slab.specs.Determined.{Determined}
use Rattle.mem_slab.specs.Answer.{alloc_number, alloc_used, free_number, free_used}
use Rattle.mem_slab.specs.declared.AllocDecision.{AllocDecision}
use Rattle.mem_slab.specs.declared.AllocDecision.TheVariants as to_alloc
use Rattle.mem_slab.specs.declared.FreeDecision.{FreeDecision}
use Rattle.mem_slab.specs.declared.FreeDecision.TheVariants as to_free

-- the four words and the links are the slab
pub faithful : Faithful place
faithful =
    record {
      header = λ h l h' l' f f' e. back_alike 4 h h' (λ i. (e i).next ∷ (e i).used ∷ (e i).size ∷ (e i).blocks ∷ []);
      buffer = λ h l l' f f' e. λ i. (e i).link;
    }

-- which decision has a number and a count
an_alloc : ℤ → ℕ → AllocDecision
an_alloc z n = cond (eqb (mag z) 0) (to_alloc.Alloc n) to_alloc.Pend

an_alloc-told : (used : ℕ) (d : AllocDecision) → an_alloc (alloc_number d) (alloc_used used d 0) ≡ d
unfolding an_alloc
an_alloc-told used (to_alloc.Alloc n) = refl
an_alloc-told used to_alloc.Pend = refl

alloc-number : (d : AllocDecision) → alloc_number d ≡ pos (mag (alloc_number d))
alloc-number (to_alloc.Alloc n) = refl
alloc-number to_alloc.Pend = refl

a_free : ℤ → ℕ → FreeDecision
a_free z n = cond (eqb (mag z) 0) (to_free.Free n) to_free.WakeThread

a_free-told : (used : ℕ) (d : FreeDecision) → a_free (free_number d) (free_used used d 0) ≡ d
unfolding a_free
a_free-told used (to_free.Free n) = refl
a_free-told used to_free.WakeThread = refl

free-number : (d : FreeDecision) → free_number d ≡ pos (mag (free_number d))
free-number (to_free.Free n) = refl
free-number to_free.WakeThread = refl

pub determined : Determined
determined =
    record {
      alloc_decide = λ used blocks no_wait. decided-only _;
      free_decide = λ used waiter. decided-only _;
      init = λ size blocks h l. started_only faithful h l (ltb 0 size && (ltb 0 blocks && leb blocks (length l))) (fresh size blocks);
      alloc = λ h l. did_only faithful h l (led alloc);
      free = λ block h l. did_only faithful h l (led (free block));
      num_used_get = λ h l. said _;
      num_free_get = λ h l. said _;
      num_blocks_get = λ h l. said _;
      block_size_get = λ h l. said _;
      is_full = λ h l. said _;
      is_empty = λ h l. said _;
      alloc_answer = λ used.
          tells-by alloc_number alloc-number (alloc_used used)
          (λ x y e k. sym (an_alloc-told used x) ∙ (λ i. an_alloc (e i) (k 0 i)) ∙ an_alloc-told used y);
      free_answer = λ used.
          tells-by free_number free-number (free_used used)
          (λ x y e k. sym (a_free-told used x) ∙ (λ i. a_free (e i) (k 0 i)) ∙ a_free-told used y);
    }
