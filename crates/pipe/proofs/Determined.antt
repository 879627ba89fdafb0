-- The pipe's contracts leave nothing open. Assumes nothing.
use mathlib.Core.Path.{◌≡◌, refl, sym, ap, ◌∙◌}
use mathlib.Core.Bool.{true, cond}
use mathlib.Core.List.{List, [], ◌∷◌}
use Prim.Native.Nat.{ℕ, zero, suc, ◌≤◌}
use native.Mathlib.Omega.{arith}
use lib.Dec.{eqb}
use lib.IntN.{ℤ, pos, negsuc}
use lib.ListN.{length, get_or}
use lib.Signed.{mag}
use Rattle.seq.specs.Only.{Only}
use Rattle.seq.proofs.Only.{said, back_alike}
use Rattle.thread.proofs.Determined.{tells-by-two}
use Rattle.store.specs.Store.{Reply}
use Rattle.store.specs.Determined.{Faithful}
use Rattle.store.proofs.Determined.{did_only, reads_only, fills_only, starts_only}
use Rattle.store.proofs.Product.{past-zero}
use Rattle.ring_buf.specs.Bytes.{sound, may}
use Rattle.ring_buf.proofs.Headers.{is-sound}
use Rattle.ring_buf.proofs.Determined as ring
use Rattle.pipe.specs.Pipe.{Pipe, write, write_all, read, read_all, reset, close, clear_reset}
use Rattle.pipe.specs.Post.{is_open, is_resetting, layout, formed, new, Moves, write_decision, write_all_decision, read_decision, read_all_decision, Decided}
use Rattle.pipe.specs.declared.WriteDecision.{WriteDecision}
use Rattle.pipe.specs.declared.WriteDecision.TheVariants.{WriteOk, WakeReader, WritePend}
use Rattle.pipe.specs.declared.ReadDecision.{ReadDecision}
use Rattle.pipe.specs.declared.ReadDecision.TheVariants.{ReadOk, WakeWriter, ReadPend}
use Rattle.pipe.specs.declared.DecideResult.{DecideResult}
use Rattle.pipe.specs.Told.{write_number, read_number, write_told, read_told, actual_told, used_told}
use Rattle.pipe.specs.Determined.{Determined}
use Rattle.pipe.proofs.Headers.{from-formed}

-- the word of flags
flags_are : (f : ℕ) → f ≤ 3 → f ≡ cond (is_open f) (cond (is_resetting f) 3 1) (cond (is_resetting f) 2 0)
flags_are zero k = refl
flags_are (suc zero) k = refl
flags_are (suc (suc zero)) k = refl
flags_are (suc (suc (suc zero))) k = refl
flags_are (suc (suc (suc (suc f)))) k = absurd (omega arith)

its_ring : (h b : List ℕ) → formed h b ≡ true → sound h b ≡ true
its_ring h b f = is-sound h b (from-formed h b f).ring

-- the first three words and the buffer are the ring's
faithful : Faithful layout
faithful =
    record {
      header = λ h b h' b' f f' e.
          let a = (ring.faithful).header h b h' b' (its_ring h b f) (its_ring h' b' f') (λ i. (e i).ring) in
          let g : get_or h 3 0 ≡ get_or h' 3 0 =
          flags_are (get_or h 3 0) (from-formed h b f).flags ∙ ap (λ (p : Pipe). cond p.opened (cond p.resetting 3 1) (cond p.resetting 2 0)) e
          ∙ sym (flags_are (get_or h' 3 0) (from-formed h' b' f').flags) in
          back_alike 4 h h' (λ i. g i ∷ a 2 (omega arith) i ∷ a 1 (omega arith) i ∷ a 0 (omega arith) i ∷ []);
      buffer = λ h b b' f f' e. rw (past-zero (get_or h 0 0)) ((ring.faithful).buffer h b b' (its_ring h b f) (its_ring h b' f') (λ i. (e i).ring));
    }

decided-only : (d : Reply Moves) (a u : ℕ) → Only (λ ((r, a', u') : ℤ × ℕ × ℕ). Decided d a u r a' u')
decided-only d a u x y m k =
    let r : x.0 ≡ y.0 = m.code ∙ sym k.code in
    let b : x.1 ≡ y.1 = m.actual ∙ sym k.actual in
    let c : x.2 ≡ y.2 = m.used ∙ sym k.used in
    λ i. (r i, b i, c i)

-- the decision that a number is of
by_three : {D : Type 0} → D → D → D → ℤ → D
by_three a b c (pos n) = cond (eqb n 0) a (cond (eqb n 1) b c)
by_three a b c (negsuc n) = a

write_numbered : (d : WriteDecision) → write_number d ≡ pos (mag (write_number d))
write_numbered WriteOk = refl
write_numbered WakeReader = refl
write_numbered WritePend = refl

write-back : (d : WriteDecision) → by_three WriteOk WakeReader WritePend (write_number d) ≡ d
unfolding by_three
write-back WriteOk = refl
write-back WakeReader = refl
write-back WritePend = refl

read_numbered : (d : ReadDecision) → read_number d ≡ pos (mag (read_number d))
read_numbered ReadOk = refl
read_numbered WakeWriter = refl
read_numbered ReadPend = refl

read-back : (d : ReadDecision) → by_three ReadOk WakeWriter ReadPend (read_number d) ≡ d
unfolding by_three
read-back ReadOk = refl
read-back WakeWriter = refl
read-back ReadPend = refl

-- the decision, how many bytes move and how many are held then
result_of : {D : Type 0} {x y : DecideResult D} → x.decision ≡ y.decision → ((n : ℕ) → actual_told x n ≡ actual_told y n)
    → ((n : ℕ) → used_told x n ≡ used_told y n) → x ≡ y
result_of e k l = λ i. record { decision = e i; actual_bytes = k 0 i; new_used = l 0 i }

pub determined : Determined
determined =
    record {
      init = λ n h b. starts_only faithful h b (may n b) (new n b);
      write = λ src h b. did_only faithful h b (write src);
      write_all = λ src h b. did_only faithful h b (write_all src);
      read = λ h b out. fills_only faithful h b (read (length out)) out;
      read_all = λ h b out. fills_only faithful h b (read_all (length out)) out;
      reset = λ h b. reads_only faithful h b reset;
      close = λ h b. reads_only faithful h b close;
      clear_reset = λ h b. reads_only faithful h b clear_reset;
      space_get = λ h b. said _;
      data_get = λ h b. said _;
      size = λ h b. said _;
      is_empty = λ h b. said _;
      is_full = λ h b. said _;
      is_open = λ h b. said _;
      is_resetting = λ h b. said _;
      write_decide = λ used n flags len reader. decided-only (write_decision used n flags len reader);
      write_all_decide = λ used n flags len reader. decided-only (write_all_decision used n flags len reader);
      read_decide = λ used n flags len writer. decided-only (read_decision used n flags len writer);
      read_all_decide = λ used n flags len writer. decided-only (read_all_decision used n flags len writer);
      write_decide_answer =
          tells-by-two write_told (λ d. write_numbered d.decision) actual_told used_told
          (λ x y e. result_of (sym (write-back x.decision) ∙ ap (by_three WriteOk WakeReader WritePend) e ∙ write-back y.decision));
      read_decide_answer =
          tells-by-two read_told (λ d. read_numbered d.decision) actual_told used_told
          (λ x y e. result_of (sym (read-back x.decision) ∙ ap (by_three ReadOk WakeWriter ReadPend) e ∙ read-back y.decision));
    }
