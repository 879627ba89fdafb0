-- The contracts of the functions on plain numbers imply Gale's. Assumes nothing.
use mathlib.Core.Path.{sym, ◌∙◌}
use mathlib.Core.Bool.{Bool, true, false, cond}
use mathlib.Core.List.{[]}
use Prim.Native.Nat.{ℕ}
use lib.Dec.{leb}
use lib.IntN.{ℤ, negsuc}
use Rattle.thread.specs.Code.{ebusy, einval}
use Rattle.store.specs.Store.{refuse, accept, Decided}
use Rattle.store.proofs.Laws.{no_code, not-one}
use Rattle.event.specs.Event.{matching, met, matched, pends}
use Rattle.event.specs.Post.{WaitDecided, PostDecided}
use Rattle.event.specs.Upstream.{Inv, WaitDecide, PostDecide}
use Rattle.event.proofs.Words.{and_is, replaced_is}

module _ (e x : ℕ) (he : Inv e) (hx : Inv x) where
  pub event_post-decide : (m r : ℕ) → Inv m → PostDecided e x m r → PostDecide e x m r
  event_post-decide m r hm p = p ∙ sym (replaced_is x m e hx hm he)

  pub event_wait-decide : (t m : ℕ) (b : Bool) (r : ℤ) (m' : ℕ) → WaitDecided e x t b m r m' → WaitDecide e x m r m'
  event_wait-decide t m b r m' d = go (leb t 1) (met t x e) b d
    where
      refused : {c : ℕ} → Decided (refuse (negsuc c)) m r m' → WaitDecide e x m r m'
      refused d = record { matches = λ z. no_code (sym z ∙ d.code); waiting = λ z. no_code (sym z ∙ d.code); not_matched = λ z p. d.number ∙ p }

      go : (l c n : Bool) → Decided (cond l (cond c (accept (matching x e) matched []) (cond n (refuse ebusy) (accept 0 pends []))) (refuse einval)) m r m'
          → WaitDecide e x m r m'
      go true true n d =
          record {
            matches = λ z. d.number ∙ sym (and_is x e hx he);
            waiting = λ z. not-one (sym d.code ∙ z);
            not_matched = λ z. absurd (z d.code);
          }
      go true false true d = refused d
      go true false false d = record { matches = λ z. not-one (sym z ∙ d.code); waiting = λ z. d.number; not_matched = λ z p. d.number }
      go false c n d = refused d
