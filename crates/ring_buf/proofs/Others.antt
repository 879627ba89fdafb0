-- Upstream's other functions on a ring: peek, reset, init, and those that only read. Assumes nothing.
use mathlib.Core.Path.{◌≡◌, refl, sym, subst, ◌∙◌}
use mathlib.Core.Bool.{Bool, true, false}
use mathlib.Core.Logic.{inl, inr}
use mathlib.Core.List.{List}
use Prim.Native.Nat.{ℕ, ◌+◌, ◌≤◌}
use native.Mathlib.Omega.{arith}
use native.Mathlib.Decide.{ℕ_discrete as dec_eq}
use borrow.Author.Tests.{ltb-true, ltb-false, le-leb}
use lib.Dec.{ltb, leb}
use lib.IntN.{ℤ}
use lib.ListN.{length, get_or}
use Rattle.seq.proofs.Order.{cond_same}
use Rattle.thread.specs.Code.{ok, einval}
use Rattle.store.specs.Store.{Reply, Did, looks}
use Rattle.store.proofs.Laws.{became, kept_bad, looks_bad}
use Rattle.ring_buf.specs.Ring.{Ring}
use Rattle.ring_buf.specs.Bytes.{bytes, may, reset}
use Rattle.ring_buf.specs.Post.{Starts, PeeksAt, Resets, GetsSize, GetsSpace, GetsCapacity, SaysEmpty, SaysFull, GetsHead, GetsTail}
use Rattle.ring_buf.specs.Upstream.{RingBuf, struct, view, Inv, Housed, Init, PeekAt, Reset, SizeGet, SpaceGet, CapacityGet, IsEmpty, IsFull, HeadGet, TailGet}
use Rattle.ring_buf.proofs.Rings.{wrap-low, wrap-below}
use Rattle.ring_buf.proofs.Headers.{Sound, from-sound}
use Rattle.ring_buf.proofs.Answers.{peek-past, peek-done, size-told, space-told, capacity-told, head-told, tail-told, empty-told, some-told, full-told, free-told}
use Rattle.ring_buf.proofs.Determined.{determined}
use Rattle.ring_buf.proofs.Upstream.{inv, inv-formed, became_view}

module _ (h b : List ℕ) (r : ℤ) (h' : List ℕ) (k : Housed h b) (i : Inv (view h)) where
  abbrev good : bytes.formed h b ≡ true
  good = inv-formed h b k i

  abbrev s : Sound h b
  s = from-sound h b good

  abbrev is : ℕ → ℕ → RingBuf
  is t n = struct (get_or h 0 0) t n

  pub ring-reset : Resets h b r h' → Reset (view h) (view h')
  ring-reset d =
      let v : view h' ≡ is 0 0 = became_view (became bytes reset h b d good refl) in
      subst (λ (v' : RingBuf). Reset (view h) v') (sym v)
      (record {
        inv = inv (get_or h 0 0) 0 0 (omega arith) (omega arith);
        room = refl;
        size = refl;
        head = refl;
        tail = wrap-low 0 (get_or h 0 0) (omega arith);
      })

  pub ring-peek-at : (idx x y : ℕ) → PeeksAt idx h b x r y → PeekAt idx (view h) b r y
  ring-peek-at idx x y d =
      record {
        done = λ f j. (same (peek-done h b s x idx _ f refl) j).0;
        within = λ f. wrap-below (get_or h 1 0 + idx) (get_or h 0 0) (omega arith);
        slot = λ f j. (same (peek-done h b s x idx _ f refl) j).1;
        past = λ f j. (same (peek-past h b s x idx f) j).0;
      }
    where
      same : {r' : ℤ} {y' : ℕ} → PeeksAt idx h b x r' y' → ◌≡◌ {A = ℤ × ℕ} (r, y) (r', y')
      same {r'} {y'} e = determined.peek_at idx h b x (r, y) (r', y') d e

  -- functions that only read
  pub size_get_lem : GetsSize h b r → SizeGet (view h) r
  size_get_lem d = (d ∙ size-told h b s, s.size)

  pub space_get_lem : GetsSpace h b r → SpaceGet (view h) r
  space_get_lem d = d ∙ space-told h b s

  pub capacity_get_lem : GetsCapacity h b r → CapacityGet (view h) r
  capacity_get_lem d = (d ∙ capacity-told h b s, omega arith)

  pub head_get_lem : GetsHead h b r → HeadGet (view h) r
  head_get_lem d = d ∙ head-told h b s

  pub tail_get_lem : GetsTail h b r → TailGet (view h) r
  tail_get_lem d = d ∙ tail-told h b s

  pub is_empty_lem : SaysEmpty h b r → IsEmpty (view h) r
  is_empty_lem d = go (dec_eq (get_or h 2 0) 0)
    where
      go : Dec (get_or h 2 0 ≡ 0) → IsEmpty (view h) r
      go (yes e) = inl (d ∙ empty-told h b s e, e)
      go (no e) = inr (d ∙ some-told h b s e, e)

  pub is_full_lem : SaysFull h b r → IsFull (view h) r
  is_full_lem d = go (dec_eq (get_or h 2 0) (get_or h 0 0))
    where
      go : Dec (get_or h 2 0 ≡ get_or h 0 0) → IsFull (view h) r
      go (yes e) = inl (d ∙ full-told h b s e, e)
      go (no e) = inr (d ∙ free-told h b s e, e)

-- what upstream demands is refused here
pub refuses : (f : Ring ℕ → Reply (Ring ℕ)) (h b : List ℕ) (r : ℤ) (h' b' : List ℕ) → bytes.formed h b ≡ false → Did bytes f h b r h' b' → (r ≡ einval) × (h' ≡ h) × (b' ≡ b)
refuses f h b r h' b' e d = kept_bad bytes f h b d e

pub get-refuses : (f : Ring ℕ → ℤ) (h b : List ℕ) (r : ℤ) → bytes.formed h b ≡ false → r ≡ looks bytes f h b → r ≡ einval
get-refuses f h b r e d = d ∙ looks_bad bytes h b f e

-- upstream is lent no memory: here there has to be a header and a buffer for all
module _ (h b : List ℕ) (c : ℕ) (r : ℤ) (h' : List ℕ) (s : Starts c h b r h') where
  pub ring-init : 3 ≤ length h → c ≤ length b → Init c r (view h')
  ring-init w m = go (ltb 0 c) refl
    where
      apart : r ≡ ok → r ≡ einval → ⊥
      apart z k = let y : ◌≡◌ {A = ℕ} 0 1 = cc in omega arith

      go : (t : Bool) → ltb 0 c ≡ t → Init c r (view h')
      go true e =
          let f = ltb-true 0 c e in
          let k : r ≡ ok = s.code ∙ rw (le-leb 3 (length h) w, e, le-leb c (length b) m) in
          subst (λ (v : RingBuf). Init c r v) (sym (became_view (s.made k)))
          (record {
            inv = λ z. inv c 0 0 f (omega arith);
            room = λ z. refl;
            head = λ z. refl;
            tail = λ z. wrap-low 0 c f;
            size = λ z. refl;
            code = λ f. absurd (f k);
            refused = λ f. absurd (f k);
          })
      go false e =
          let k : r ≡ einval = s.code ∙ rw (le-leb 3 (length h) w, e) in
          record {
            inv = λ z. absurd (apart z k);
            room = λ z. absurd (apart z k);
            head = λ z. absurd (apart z k);
            tail = λ z. absurd (apart z k);
            size = λ z. absurd (apart z k);
            code = λ f. k;
            refused = λ f. omega (arith, ltb-false 0 c e);
          }

  pub init-refuses : may c b ≡ false → (r ≡ einval) × (h' ≡ h)
  init-refuses e =
      let k : r ≡ einval = s.code ∙ rw e (cond_same (leb 3 (length h)) einval) in
      (k, (s.kept 21 k).0)
