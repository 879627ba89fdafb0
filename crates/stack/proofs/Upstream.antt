-- Our contracts imply those of Gale's stack.rs. Assumes nothing.
use mathlib.Core.Path.{◌≡◌, refl, ap, ◌∙◌}
use mathlib.Core.Bool.{true, false}
use mathlib.Core.List.{List}
use Prim.Native.Nat.{ℕ, ◌≤◌, ◌<◌}
use native.Mathlib.Omega.{arith}
use lib.IntN.{ℤ}
use lib.ListN.{length, get_or}
use Rattle.seq.proofs.Back.{back-length}
use Rattle.thread.specs.Code.{enomem, ebusy, einval}
use Rattle.store.specs.Store.{Reply, answer, left, out, first}
use Rattle.store.proofs.Laws.{kept_bad, kept_no, handed_bad, handed-is}
use Rattle.stack.specs.Stack.{Stack, push, pop}
use Rattle.stack.specs.Post.{Pushes, Pops, place}
use Rattle.stack.specs.History.{Call, pushing, popping, does, depth}
use Rattle.stack.specs.Upstream.{Inv, Housed, Push, Pop, Stored, Taken}
use Rattle.stack.proofs.Memory.{is-sound, formed}
use Rattle.stack.proofs.Calls.{mk, push-some, push-none, Does, stores, no_room, takes, nothing, which}
use Rattle.store.proofs.Histories.{holds_after}

-- memory is as it should be exactly if upstream's invariant holds of the stack in it, and it is housed
pub inv-formed : (h w : List ℕ) → Housed h w → Inv (place.object h w) → place.formed h w ≡ true
inv-formed h w k i = formed h w (record { words = k.words; some_room = i.some_room; within = omega (arith, i.within, back-length w (get_or h 1 0)); housed = k.memory })

pub formed-inv : (h w : List ℕ) → place.formed h w ≡ true → Housed h w × Inv (place.object h w)
formed-inv h w e =
    let s = is-sound h w e in
    (record { words = s.words; memory = s.housed }, record { some_room = s.some_room; within = omega (arith, back-length w (get_or h 1 0)) })

-- one call on a stack with upstream's invariant
pub push-does : {c x : ℕ} {l p : List ℕ} {y : Reply Stack} → Inv (mk c l p) → Does c l p (pushing x) y → Push (mk c l p) (answer y) (left y (mk c l p))
push-does i (stores b) =
    record {
      inv = record { some_room = i.some_room; within = b };
      room = refl;
      stored = λ z. refl;
      counted = λ z. omega arith;
      full = λ z. absurd (omega arith);
      stayed = λ z. absurd (omega arith);
    }
push-does i (no_room b) =
    record {
      inv = i;
      room = refl;
      stored = λ z. absurd (omega arith);
      counted = λ z. absurd (omega arith);
      full = λ z. refl;
      stayed = λ z. refl;
    }

pub pop-does : {c : ℕ} {l p : List ℕ} {y : Reply Stack} → Inv (mk c l p) → Does c l p popping y → Pop (mk c l p) (answer y) (left y (mk c l p))
pop-does i takes =
    record {
      inv = record { some_room = i.some_room; within = omega (arith, i.within) };
      room = refl;
      taken = λ z. refl;
      counted = λ z. omega arith;
      nothing = λ z. absurd (omega arith);
      stayed = λ z. absurd (omega arith);
    }
pop-does i nothing =
    record {
      inv = i;
      room = refl;
      taken = λ z. absurd (omega arith);
      counted = λ z. absurd (omega arith);
      nothing = λ z. refl;
      stayed = λ z. refl;
    }

takes_first : {c : ℕ} {l p : List ℕ} {y : Reply Stack} (m m' : ℕ) → Does c l p popping y → 0 < length l → m' ≡ first m (out y)
    → Taken m' (mk c l p) (left y (mk c l p))
takes_first m m' takes b f = record { held = cc }
takes_first m m' nothing b f = absurd (omega arith)

module _ (h w : List ℕ) (r : ℤ) (h' : List ℕ) where
  module _ (k : Housed h w) (i : Inv (place.object h w)) where
    abbrev here : {k : Call} → Does (get_or h 0 0) (place.object h w).held (place.object h w).spare k (does k (place.object h w))
    here {k} = which (get_or h 0 0) (place.object h w).held (place.object h w).spare k

    pub stack_push : (x : ℕ) (w' : List ℕ) → Pushes x h w r h' w' → Push (place.object h w) r (place.object h' w')
    stack_push x w' d = holds_after place (push x) h w (Push (place.object h w)) (inv-formed h w k i) d (push-does i here)

    pub stack-pop : (m m' : ℕ) → Pops h w m r h' m' → Pop (place.object h w) r (place.object h' w)
    stack-pop m m' (d, _) = holds_after place pop h w (Pop (place.object h w)) (inv-formed h w k i) d (pop-does i here)

    -- and which word it is
    pub push-stores : (x : ℕ) (w' : List ℕ) → depth (place.object h w) < get_or h 0 0 → Pushes x h w r h' w' → Stored x (place.object h w) (place.object h' w')
    push-stores x w' b d =
        holds_after place (push x) h w (λ z s'. Stored x (place.object h w) s') (inv-formed h w k i) d
        (rw (push-some (get_or h 0 0) (place.object h w).held (place.object h w).spare x b) (record { held = refl }))

    pub pop-takes : (m m' : ℕ) → 0 < depth (place.object h w) → Pops h w m r h' m' → Taken m' (place.object h w) (place.object h' w)
    pop-takes m m' b (d, f) =
        holds_after place pop h w (λ z s'. Taken m' (place.object h w) s') (inv-formed h w k i) d
        (takes_first m m' here b (f ∙ ap (first m) (handed-is place pop h w (inv-formed h w k i))))

    -- a refusal changes no word
    pub push-full-stays : (x : ℕ) (w' : List ℕ) → get_or h 0 0 ≤ depth (place.object h w) → Pushes x h w r h' w' → (r ≡ enomem) × (h' ≡ h) × (w' ≡ w)
    push-full-stays x w' b d =
        kept_no place (push x) h w d (inv-formed h w k i) (push-none (get_or h 0 0) (place.object h w).held (place.object h w).spare x b)

    pub pop-empty-stays : (m m' : ℕ) → get_or h 1 0 ≡ 0 → Pops h w m r h' m' → (r ≡ ebusy) × (h' ≡ h) × (m' ≡ m)
    pop-empty-stays m m' e (d, f) =
        let z = inv-formed h w k i in
        let y : (r ≡ ebusy) × (h' ≡ h) × (w ≡ w) = kept_no place pop h w d z (rw e) in
        (y.0, y.1, f ∙ rw (z, e))

  -- what upstream demands is refused here
  pub push-refuses : (x : ℕ) (w' : List ℕ) → place.formed h w ≡ false → Pushes x h w r h' w' → (r ≡ einval) × (h' ≡ h) × (w' ≡ w)
  push-refuses x w' e d = kept_bad place (push x) h w d e

  pub pop-refuses : (m m' : ℕ) → place.formed h w ≡ false → Pops h w m r h' m' → (r ≡ einval) × (h' ≡ h) × (m' ≡ m)
  pop-refuses m m' e (d, f) = let y = kept_bad place pop h w d e in (y.0, y.1, f ∙ ap (first m) (handed_bad place pop h w e))
