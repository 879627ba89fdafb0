-- Our contracts imply those of Gale's pipe.rs. Assumes nothing.
use mathlib.Core.Path.{◌≡◌, refl, sym, ap, subst, ◌∙◌}
use mathlib.Core.Bool.{Bool, true, false, cond}
use mathlib.Core.List.{List, [], ◌∷◌}
use Prim.Native.Nat.{ℕ, suc, ◌+◌, ◌-◌, ◌≤◌, ◌<◌, min}
use native.Mathlib.Omega.{arith}
use borrow.Author.Tests.{lt-ltb, le-ltb, le-leb, eq-eqb, ne_eqb, eqb-true, eqb-false}
use lib.Dec.{eqb}
use lib.IntN.{ℤ, pos, negsuc}
use lib.ListN.{length, take, get_or, length-append, length-take, length-drop}
use Rattle.seq.specs.List.{any}
use Rattle.thread.specs.Code.{ok, einval}
use Rattle.store.specs.Store.{accept, answer, Did, looks, left}
use Rattle.store.specs.History.{Step, Made}
use Rattle.store.proofs.Laws.{looks-is, looks_bad, answers, kept_bad}
use Rattle.store.proofs.Histories.{done as after}
use Rattle.ring_buf.proofs.Answers.{held_is, spare-is}
use Rattle.pipe.specs.Pipe.{Pipe, Verdict, never, later, move, goes_in, comes_out, to_write, to_read, write, read, reset, close}
use Rattle.pipe.specs.Post.{Starts, Writes, Reads, Resets, Closes, ClearsReset, GetsSpace, GetsData, GetsSize, SaysEmpty, SaysFull, SaysOpen, SaysResetting, WriteDecided, ReadDecided, formed, object, layout, size as size_of, data_held, space, is_empty, is_full, flag, goes, proper}
use Rattle.pipe.specs.History.{Call, writes as writesCall, reads as readsCall, resets, closes, clears, does}
use Rattle.pipe.specs.HandOver.{used, flags}
use Rattle.pipe.specs.Upstream.{size, Inv, Err, Init, WriteCheck, ReadCheck, Reset, Close, ClearReset, SpaceGet, DataGet, IsEmpty, IsFull, IsOpen, IsResetting, SizeGet, WriteDecide, ReadDecide, Roundtrip, Conservation, ResetEmpties, CloseClears}
use Rattle.pipe.proofs.Verdicts.{Within, write-within, read-within, is-proper, write-is, read_is, write_moves, read-moves}
use Rattle.pipe.proofs.Headers.{Formed, from-formed}
use Rattle.pipe.proofs.Histories.{from-init}

no_number : {c n : ℕ} → negsuc c ≡ pos n → ⊥
no_number e = let y : ◌≡◌ {A = ℕ} 0 1 = cc in omega arith

-- what is tested at each call is upstream's invariant
pub inv : (h b : List ℕ) → formed h b ≡ true → Inv (object h b)
inv h b f = let s = from-formed h b f in record { some = omega (arith, s.ring.start); under = omega (arith, held_is h b s.ring, s.ring.size) }

-- a malformed pipe is refused, and nothing changes
pub refuses : (k : Call) {h b : List ℕ} {r : ℤ} {h' b' : List ℕ} → formed h b ≡ false → Did layout (does k) h b r h' b' → (r ≡ einval) × ((h' ≡ h) × (b' ≡ b))
refuses k {h} {b} f d = let a = kept_bad layout (does k) h b d f in (a.0, (a.1, a.2))

-- ---- init

pub pipe-init : (n : ℕ) {h b : List ℕ} {r : ℤ} {h' : List ℕ} → 4 ≤ length h → n ≤ length b → Starts n h b r h'
    → Init n r (object h' b)
pipe-init n {h} {b} {r} {h'} w room s =
    record {
      inv = λ e. inv h' b (s.made e).formed;
      empty = λ e. ap used (s.made e).object;
      sized = λ e. ap size (s.made e).object;
      flagged = λ e. ap flags (s.made e).object;
      code = λ e. (bad e).0;
      reason = λ e. (bad e).1;
    }
  where
    go : (t : Bool) → eqb n 0 ≡ t → (r ≡ ok → ⊥) → (r ≡ einval) × (n ≡ 0)
    go true x e = let z = eqb-true n 0 x in (s.code ∙ rw (le-leb 4 (length h) w, le-ltb 0 n (omega arith)), z)
    go false x e = let z = eqb-false n 0 x in absurd (e (s.code ∙ rw (le-leb 4 (length h) w, lt-ltb 0 n (omega arith), le-leb n (length b) room)))

    bad : (r ≡ ok → ⊥) → (r ≡ einval) × (n ≡ 0)
    bad = go (eqb n 0) refl

-- ---- write_check and read_check

module _ (l : List ℕ) (p : Pipe) where
  -- a refusal
  write-none : (c : ℕ) → Inv p → WriteCheck (length l) p (negsuc c) p
  write-none c i =
      record {
        inv = i;
        sized = refl;
        closed = λ o k e. no_number e;
        resetting = λ r k e. no_number e;
        some = λ k e. absurd (no_number e);
        few = λ k e. absurd (no_number e);
        more = λ k e. absurd (no_number e);
        under = λ k e. absurd (no_number e);
        kept = λ e. refl;
      }

  wrote : (v : Verdict) → Within (length l) (size p - used p) v → (p.opened ≡ false → Err (answer (goes_in l p v)))
      → (p.resetting ≡ true → Err (answer (goes_in l p v)))
      → Inv (left (goes_in l p v) p) → WriteCheck (length l) p (answer (goes_in l p v)) (left (goes_in l p v) p)
  wrote (never (pos c)) w o r i = absurd w
  wrote (never (negsuc c)) w o r i = write-none c i
  wrote later w o r i = write-none 10 i
  wrote (move n) w o r i =
      let m = length-append p.ring.held (take n l) in
      let t = length-take n l in
      record {
        inv = i;
        sized = refl;
        closed = o;
        resetting = r;
        some = λ k e. let y : n ≡ k = cc in omega (arith, w.0);
        few = λ k e. let y : n ≡ k = cc in omega (arith, w.1.0);
        more = λ k e. let y : n ≡ k = cc in m ∙ omega (arith, w.1.0);
        under = λ k e. i.under;
        kept = λ e. absurd (e n refl);
      }

  closed_errs : p.opened ≡ false → Err (answer (write l p))
  closed_errs e k x = go p.resetting refl
    where
      go : (t : Bool) → p.resetting ≡ t → ⊥
      go true y = no_number (rw y at x)
      go false y = no_number (rw (y, e) at x)

  resetting_errs : p.resetting ≡ true → Err (answer (write l p))
  resetting_errs e k x = no_number (rw e at x)

module _ (n : ℕ) (p : Pipe) where
  read_none : (c : ℕ) → Inv p → ReadCheck n p (negsuc c) p
  read_none c i =
      record {
        inv = i;
        sized = refl;
        resetting = λ r k e. no_number e;
        some = λ k e. absurd (no_number e);
        few = λ k e. absurd (no_number e);
        fewer = λ k e. absurd (no_number e);
        kept = λ e. refl;
      }

  took : (v : Verdict) → Within n (used p) v → (p.resetting ≡ true → Err (answer (comes_out p v))) → Inv (left (comes_out p v) p)
      → ReadCheck n p (answer (comes_out p v)) (left (comes_out p v) p)
  took (never (pos c)) w r i = absurd w
  took (never (negsuc c)) w r i = read_none c i
  took later w r i = read_none 10 i
  took (move m) w r i =
      let d = length-drop m p.ring.held in
      record {
        inv = i;
        sized = refl;
        resetting = r;
        some = λ k e. let y : m ≡ k = cc in omega (arith, w.0);
        few = λ k e. let y : m ≡ k = cc in omega (arith, w.1.0);
        fewer = λ k e. let y : m ≡ k = cc in omega (arith, d, w.1.1);
        kept = λ e. absurd (e m refl);
      }

  read_errs : p.resetting ≡ true → Err (answer (read n p))
  read_errs e k x = no_number (rw e at x)

-- ---- what upstream demands, its invariant, is tested

module _ (h b : List ℕ) (f : formed h b ≡ true) where
  -- the pipe after a call of ours, and the answer
  module _ (k : Call) {r : ℤ} {h' b' : List ℕ} (d : Did layout (does k) h b r h' b') where
    -- what holds of the definition's pipe and answer holds of the memory
    meets : (P : ℤ → Pipe → Type 0)
        → (Inv (left (does k (object h b)) (object h b)) → P (answer (does k (object h b))) (left (does k (object h b)) (object h b))) → P r (object h' b')
    meets P x =
        let s = after layout (does k) h b f d in
        let i = subst Inv s.1 (inv h' b' s.0) in
        subst (λ (z : ℤ). P z (object h' b')) (sym (answers layout (does k) h b d f)) (subst (P (answer (does k (object h b)))) (sym s.1) (x i))

  pub write_check : (l : List ℕ) {r : ℤ} {h' b' : List ℕ} → Writes l h b r h' b' → WriteCheck (length l) (object h b) r (object h' b')
  write_check l d =
      let p = object h b in
      meets (writesCall l) d (WriteCheck (length l) p)
      (wrote l p (to_write (length l) p) (write-within (used p) (size p) p.opened p.resetting (length l)) (closed_errs l p) (resetting_errs l p))

  pub read_check : (o : List ℕ) {r : ℤ} {h' o' : List ℕ} → Reads h b o r h' o' → ReadCheck (length o) (object h b) r (object h' b)
  read_check o (d, _) =
      let p = object h b in
      let n = length o in
      meets (readsCall n) d (ReadCheck n p) (took n p (to_read n p) (read-within (used p) p.opened p.resetting n) (read_errs n p))

  pub pipe-reset : {r : ℤ} {h' : List ℕ} → Resets h b r h' → Reset (object h b) (object h' b)
  pipe-reset d = meets resets d (λ z. Reset (object h b)) (λ i. record { inv = i; sized = refl; empty = refl; opened = refl; resetting = refl })

  pub pipe-close : {r : ℤ} {h' : List ℕ} → Closes h b r h' → Close (object h b) (object h' b)
  pipe-close d = meets closes d (λ z. Close (object h b)) (λ i. record { inv = i; sized = refl; kept = refl; flagged = refl })

  pub pipe-clear : {r : ℤ} {h' : List ℕ} → ClearsReset h b r h' → ClearReset (object h b) (object h' b)
  pipe-clear d = meets clears d (λ z. ClearReset (object h b)) (λ i. record { inv = i; sized = refl; kept = refl; opened = refl; resetting = refl })

  -- ---- what is told

  good : Formed h b
  good = from-formed h b f

  pub pipe-space : {r : ℤ} → GetsSpace h b r → SpaceGet (object h b) r
  pipe-space d = d ∙ looks-is layout h b space f ∙ ap pos (spare-is h b good.ring ∙ ap (λ (n : ℕ). get_or h 0 0 - n) (sym (held_is h b good.ring)))

  pub pipe_data : {r : ℤ} → GetsData h b r → DataGet (object h b) r
  pipe_data d = d ∙ looks-is layout h b data_held f

  pub pipe-size : {r : ℤ} → GetsSize h b r → SizeGet (object h b) r
  pipe-size d = d ∙ looks-is layout h b size_of f

  pub pipe-empty : {r : ℤ} → SaysEmpty h b r → IsEmpty (object h b) r
  pipe-empty d = d ∙ looks-is layout h b is_empty f ∙ go (object h b).ring.held
    where
      go : (l : List ℕ) → cond (any l) (pos 0) (pos 1) ≡ flag (eqb (length l) 0)
      go [] = refl
      go (x ∷ l) = rw (ne_eqb (suc (length l)) 0 (λ e. omega arith))

  pub pipe-full : {r : ℤ} → SaysFull h b r → IsFull (object h b) r
  pipe-full d = d ∙ looks-is layout h b is_full f ∙ go (object h b).ring.spare (spare-is h b good.ring) (held_is h b good.ring)
    where
      go : (l : List ℕ) → length l ≡ get_or h 0 0 - get_or h 2 0 → used (object h b) ≡ get_or h 2 0
          → cond (any l) (pos 0) (pos 1) ≡ flag (eqb (used (object h b)) (size (object h b)))
      go [] e u = rw (eq-eqb (used (object h b)) (get_or h 0 0) (omega (arith, good.ring.size)))
      go (x ∷ l) e u = rw (ne_eqb (used (object h b)) (get_or h 0 0) (λ z. omega arith))

  pub pipe_open : {r : ℤ} → SaysOpen h b r → IsOpen (object h b) r
  pipe_open d = d ∙ looks-is layout h b (λ p. flag p.opened) f

  pub pipe-resetting : {r : ℤ} → SaysResetting h b r → IsResetting (object h b) r
  pipe-resetting d = d ∙ looks-is layout h b (λ p. flag p.resetting) f

  pub conservation : Conservation (object h b)
  conservation =
      let s = spare-is h b good.ring in
      let u = held_is h b good.ring in
      record { numbers = omega (arith, good.ring.size); bytes = omega (arith, good.ring.size) }

-- what is told of a malformed pipe
pub told-refuses : (g : Pipe → ℤ) (h b : List ℕ) {r : ℤ} → formed h b ≡ false → r ≡ looks layout g h b → r ≡ einval
told-refuses g h b e d = d ∙ looks_bad layout h b g e

-- ---- the decide functions

module _ (u s f n : ℕ) (w : Bool) {a c : ℕ} {r : ℤ} {a' c' : ℕ} where
  pub write_decide_lem : proper u s f ≡ true → WriteDecided u s f n w a c r a' c' → WriteDecide f r
  write_decide_lem p d = record { resetting = λ e. d.code ∙ rw (p, e); closed = λ e o. d.code ∙ rw (p, e, o) }

  pub read_decide_lem : proper u s f ≡ true → ReadDecided u s f n w a c r a' c' → ReadDecide f r
  read_decide_lem p d = λ e. d.code ∙ rw (p, e)

  -- numbers that no pipe has are refused, and the words stay
  pub write-decide-refuses : proper u s f ≡ false → WriteDecided u s f n w a c r a' c' → (r ≡ einval) × ((a' ≡ a) × (c' ≡ c))
  write-decide-refuses p d = (d.code ∙ rw p, (d.actual ∙ rw p, d.used ∙ rw p))

  pub read-decide-refuses : proper u s f ≡ false → ReadDecided u s f n w a c r a' c' → (r ≡ einval) × ((a' ≡ a) × (c' ≡ c))
  read-decide-refuses p d = (d.code ∙ rw p, (d.actual ∙ rw p, d.used ∙ rw p))

-- ---- lemmas

-- lemma_invariant_inductive ends in `ensures true`: the invariant holds after any sequence of calls of a new pipe
pub invariant_inductive : (n : ℕ) {h b h₀ : List ℕ} → Starts n h b ok h₀ → {ss : List (Step Call)} {h' b' : List ℕ} → Made layout does h₀ b ss h' b'
    → Inv (object h' b')
invariant_inductive n s {h' = h'} {b' = b'} x = inv h' b' (from-init n s x).0

pub write-read_roundtrip : (u s n : ℕ) → 0 < s → 0 < n → u + n ≤ s → Roundtrip u s n
write-read_roundtrip u s n some k fit =
    let x : min n (s - u) ≡ n = omega arith in
    let y : min n (u + n) ≡ n = omega arith in
    let z : u + n - n ≡ u = omega arith in
    record {
      back = z;
      write = write-is u s 1 n false (is-proper u s 1 some (omega arith) (omega arith)) (write_moves u s 1 n refl k (omega arith) ∙ ap move x);
      read = read_is (u + n) s 1 n false (is-proper (u + n) s 1 some fit (omega arith))
          (read-moves (u + n) s 1 n (omega arith) k (omega arith) ∙ ap move y) ∙ ap (λ (j : ℕ). accept (record { actual = n; used = j }) goes []) z;
    }

pub reset_empties : (p : Pipe) → ResetEmpties p
reset_empties p = record { under = omega arith; after = left (reset p) p; done = refl; empty = refl }

pub close-clears-flags : (p : Pipe) → CloseClears p
close-clears-flags p = record { after = left (close p) p; done = refl; cleared = refl }
