-- The words that a call leaves, and what they are then. Assumes nothing.
use mathlib.Core.Path.{◌≡◌, refl, ap}
use mathlib.Core.List.{List, ◌∷◌}
use Prim.Native.Nat.{ℕ, ◌*◌, ◌≤◌, ◌<◌}
use native.Mathlib.Omega.{arith}
use lib.ListN.{length, drop, get_or, set, length-drop}
use Rattle.seq.proofs.Words.{by-words}
use Rattle.store.specs.Store.{Becomes}
use Rattle.ring_buf.specs.Ring.{Ring, ring}
use Rattle.msgq.specs.Messages.{slots}
use Rattle.msgq.specs.Post.{room, messages}
use Rattle.msgq.proofs.Headers.{Room, is-sound}

-- the words that are written
module _ (h : List ℕ) (k : 4 ≤ length h) where
  pub set-used : (n' : ℕ) → set h 2 n' ≡ get_or h 0 0 ∷ get_or h 1 0 ∷ n' ∷ get_or h 3 0 ∷ drop 4 h
  set-used n' = by-words 4 (λ (h : List ℕ). set h 2 n' ≡ get_or h 0 0 ∷ get_or h 1 0 ∷ n' ∷ get_or h 3 0 ∷ drop 4 h) (λ c t n z rest. refl) h k

  pub set_both : (t' n' : ℕ) → set (set h 1 t') 2 n' ≡ get_or h 0 0 ∷ t' ∷ n' ∷ get_or h 3 0 ∷ drop 4 h
  set_both t' n' = by-words 4 (λ (h : List ℕ). set (set h 1 t') 2 n' ≡ get_or h 0 0 ∷ t' ∷ n' ∷ get_or h 3 0 ∷ drop 4 h) (λ c t n z rest. refl) h k

-- a header whose four words are new, and a buffer
pub becomes : (h b h' b' : List ℕ) (c t n z : ℕ) {r : Ring (List ℕ)} → 4 ≤ length h → h' ≡ c ∷ t ∷ n ∷ z ∷ drop 4 h → t < c → n ≤ c → Room z c b
    → length b' ≡ length b → drop (c * z) b' ≡ drop (c * z) b → ring c t n (slots z c b') ≡ r → Becomes messages (record { size = z; ring = r }) h b h' b'
becomes h b h' b' c t n z k e f g room l d o =
    rw e
    (record {
      formed =
          is-sound (c ∷ t ∷ n ∷ z ∷ drop 4 h) b'
          (record { words = omega arith; within = record { idx = f; used = g }; room = record { some = room.some; small = room.small; long = omega arith } });
      object = ap (λ (x : Ring (List ℕ)). record { size = z; ring = x }) o;
      beside = refl;
      rest = d;
      long = (simp length-drop (omega arith), l);
    })
