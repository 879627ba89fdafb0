-- The queue in any memory that is as it should be. Assumes nothing.
use mathlib.Core.Path.{◌≡◌, refl, sym, subst}
use mathlib.Core.Bool.{true}
use mathlib.Core.List.{List, []}
use Prim.Native.Nat.{ℕ, ◌+◌, ◌<◌}
use native.Mathlib.Omega.{arith}
use lib.ListN.{length, take, drop, get_or}
use Rattle.seq.specs.List.{All}
use Rattle.seq.proofs.Sub.{sub_take, sub_drop, sub_holds}
use Rattle.ring_buf.specs.Ring.{wrap, turn}
use Rattle.ring_buf.proofs.Rings.{turned, wrap-below}
use Rattle.msgq.specs.Messages.{slots}
use Rattle.msgq.specs.Msgq.{used}
use Rattle.msgq.specs.Post.{sound, held}
use Rattle.msgq.specs.History.{Good}
use Rattle.msgq.specs.Upstream.{Inv, InvOf, Housed, InSlot}
use Rattle.msgq.proofs.Messages.{all_slots}
use Rattle.msgq.proofs.Headers.{is-sound, from-sound}
use Rattle.msgq.proofs.Answers.{hold, spare, slot-below, zero-behind, placed}
use Rattle.msgq.proofs.Goods.{all_append}
use Rattle.msgq.proofs.Implied.{good-inv}

pub memory-good : (h b : List ℕ) → sound h b ≡ true → Good (get_or h 0 0) (get_or h 3 0) (held h b)
memory-good h b e =
    let s = from-sound h b e in
    let S = slots (get_or h 3 0) (get_or h 0 0) b in
    let n = hold h b s in
    let v = spare h b s in
    let a = all_slots (get_or h 3 0) (get_or h 0 0) b s.room.long in
    let P : List ℕ → Type 0 = λ m. length m ≡ get_or h 3 0 in
    record {
      max = refl;
      size = refl;
      read = s.within.idx;
      write = wrap-below (get_or h 1 0 + length (take (get_or h 2 0) (turn (get_or h 1 0) S))) (get_or h 0 0) (omega (arith, s.within.idx, s.within.used));
      slots = omega (arith, s.within.used);
      messages =
          sub_holds P (sub_take (get_or h 2 0) (turn (get_or h 1 0) S))
          (subst (All P) (sym (turned (get_or h 1 0) S))
          (all_append P (drop (get_or h 1 0) S) (take (get_or h 1 0) S) (sub_holds P (sub_drop (get_or h 1 0) S) a) (sub_holds P (sub_take (get_or h 1 0) S) a)));
    }

-- memory is as it should be exactly if upstream's invariant holds of it, and it is housed. The write index, which upstream keeps, is worked out
pub inv-formed : (h b : List ℕ) (w : ℕ) → Housed h b → Inv (get_or h 3 0) (get_or h 0 0) (get_or h 1 0) w (get_or h 2 0) → sound h b ≡ true
inv-formed h b w k i =
    is-sound h b
    (record {
      words = k.words;
      within = record { idx = i.read; used = i.within };
      room = record { some = i.some_bytes; small = k.small; long = k.memory };
    })

pub formed-inv : (h b : List ℕ) → sound h b ≡ true → Housed h b × InvOf (held h b)
formed-inv h b e =
    let s = from-sound h b e in (
      record { words = s.words; small = s.room.small; memory = s.room.long },
      good-inv (get_or h 0 0) (get_or h 3 0) (held h b) s.room.some (memory-good h b e),
    )

-- the message i stands in the slot i behind the first
pub slot_of : (h b : List ℕ) → sound h b ≡ true → (i : ℕ) → i < used (held h b) → InSlot (wrap (get_or h 1 0 + i) (get_or h 0 0)) (get_or (held h b).ring.held i []) (held h b) b
slot_of h b e i f =
    let s = from-sound h b e in
    let n = hold h b s in
    let a = wrap (get_or h 1 0 + i) (get_or h 0 0) in
    (slot-below h b s i a (omega (arith, s.within.used)) refl, sym (placed h b s i a (omega arith) refl))

pub first_slot : (h b : List ℕ) → sound h b ≡ true → 0 < used (held h b) → InSlot (get_or h 1 0) (get_or (held h b).ring.held 0 []) (held h b) b
first_slot h b e f =
    subst (λ (t : ℕ). InSlot t (get_or (held h b).ring.held 0 []) (held h b) b) (sym (zero-behind h b (from-sound h b e))) (slot_of h b e 0 f)
