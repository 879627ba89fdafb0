-- A word goes in, and a word comes out. Assumes nothing.
use mathlib.Core.Path.{◌≡◌, refl, sym, ap, subst}
use mathlib.Core.List.{List, [], ◌∷◌}
use Prim.Native.Nat.{ℕ, suc, ◌+◌, ◌<◌}
use native.Mathlib.Numerals.{add-one}
use native.Mathlib.Omega.{arith}
use lib.ListN.{length, get_or, set, length-set}
use lib.Seq.{drop-set-lt}
use borrow.Author.Tests.{lt-ltb}
use Rattle.seq.specs.List.{back}
use Rattle.seq.proofs.Back.{back-length}
use Rattle.thread.specs.Code.{ok}
use Rattle.store.specs.Store.{accept, Becomes}
use Rattle.store.proofs.Laws.{did_yes, hands_yes}
use Rattle.stack.specs.Stack.{Stack, push, pop}
use Rattle.stack.specs.Post.{Pushes, Pops, place}
use Rattle.stack.proofs.Memory.{Sound, formed, counts, one_more, one_fewer}

-- how many words are held
pub ruleset held = (back-length)

module _ (h w : List ℕ) (s : Sound h w) where
  pub pushed : (x : ℕ) → get_or h 1 0 < get_or h 0 0 → Pushes x h w ok (set h 1 (get_or h 1 0 + 1)) (set w (get_or h 1 0) x)
  pushed x b =
      rw add-one (did_yes place (push x) h w {l = []} (formed h w s) (rw (back-length w (get_or h 1 0), lt-ltb (get_or h 1 0) (get_or h 0 0) b))
      (subst (λ (y : Stack). Becomes place y h w (set h 1 (suc (get_or h 1 0))) (set w (get_or h 1 0) x))
      (one_more (get_or h 0 0) (get_or h 1 0) w b s.housed x)
      (counts h w (set w (get_or h 1 0) x) (suc (get_or h 1 0)) s b (length-set w (get_or h 1 0) x) (drop-set-lt (get_or h 0 0) w (get_or h 1 0) x b))))

  pub popped : (x n : ℕ) → get_or h 1 0 ≡ suc n → Pops h w x ok (set h 1 n) (get_or w n 0)
  popped x n e =
      let b : n < get_or h 0 0 = omega (arith, s) in
      hands_yes place pop h w x {l = get_or w n 0 ∷ []} (formed h w s) (rw (e, lt-ltb 0 (length (back w (suc n))) (omega (arith, back-length w (suc n))))
      (ap (λ (y : Stack). accept y ok (get_or w n 0 ∷ [])) (sym (one_fewer (get_or h 0 0) n w b s.housed))))
      (counts h w w n s (omega arith) refl refl)
