-- What a function does to an object's memory is the step of the system: of any operation whose outcome is that of the call. Assumes nothing.
use mathlib.Core.Path.{◌≡◌, refl, sym, ap, subst, ◌∙◌}
use mathlib.Core.Bool.{Bool, true, false, cond}
use mathlib.Core.List.{List, [], ◌∷◌, map}
use Prim.Native.Nat.{ℕ, ◌≤◌}
use native.Mathlib.Omega.{arith}
use lib.Dec.{leb}
use lib.IntN.{ℤ, pos, negsuc}
use lib.ListN.{length, get_or, take, drop, length-map}
use lib.Seq.{take_at}
use borrow.Author.Tests.{eq-eqb, ne_eqb, leb-true}
use Rattle.seq.proofs.Order.{clash}
use Rattle.store.specs.Store as store
use Rattle.store.specs.Store.{Reply, refuse, accept, answer, out, reply, Did, first, Signed}
use Rattle.store.proofs.Laws.{replies, carry-answer, carry-out, kept, became_so}
use Rattle.wait_queue.specs.Queue.{max_waiters, waiting, roomy}
use Rattle.kind.specs.Kind.{Kind, Lawful}
use Rattle.kind.specs.Object.{Object, thread, Layout, standing}
use Rattle.kind.proofs.Memory.{housed-formed, is-housed}
use Rattle.kind.proofs.Refusals.{signed}
use Rattle.system.specs.System.{number, Slot, vacant, object, Sys, Woken, unless, serve, thing, outcome, verdict, visited, called}
use Rattle.system.specs.Rules.{Fine}
use Rattle.system.specs.Link.{Is, word, Handed}
use Rattle.system.proofs.Parts.{recast, wrapped}
use Rattle.system.proofs.Woken.{Within, handed_out}

pub room-wide : (n : ℕ) (e : List ℕ) → roomy n e ≡ true → max_waiters ≤ length e
room-wide n e r = go (leb n max_waiters) r
  where
    go : (b : Bool) → cond b (leb max_waiters (length e)) false ≡ true → max_waiters ≤ length e
    go true z = leb-true max_waiters (length e) z
    go false z = clash (sym z)

module _ {K : Kind} (law : Lawful K) {N : Type 0} (L : Layout N) (num : N → K.Num) (s : Sys K) (g : Fine s) (i o : ℕ) (k : K.Call)
    (f : Object N → Reply (Object N)) (h e : List ℕ) (m : Is L num s o h e)
    (same : outcome s i o k (num (L.num h)) ≡ wrapped num (f (record { num = L.num h; queue = s.queue o }))) where
  abbrev ob : Object N
  ob = record { num = L.num h; queue = s.queue o }

  abbrev u : Reply (Object N)
  u = f ob

  housed : (standing L).formed h e ≡ true
  housed = housed-formed L h e (record { words = m.words; room = m.room })

  here : reply (standing L) f h e ≡ u
  here = rw m.queue (replies (standing L) f h e housed)

  answered : (called s i o k).1 ≡ answer u
  answered = rw m.slot (ap answer same ∙ carry-answer (recast num) u)

  -- its answer
  pub tells : (called s i o k).1 ≡ answer (reply (standing L) f h e)
  tells = answered ∙ sym (ap answer here)

  -- the words that it hands out
  pub gives : (x c : ℕ → ℕ) → Within x c (s.queue o) (verdict s i o k (num (L.num h))) → out (reply (standing L) f h e) ≡ map word (called s i o k).2
  gives x c w =
      ap out here ∙ sym (carry-out (recast num) u) ∙ sym (ap out same) ∙ handed_out s g i o k (num (L.num h)) m.slot x c w

  -- the memory that it leaves
  module _ (r : ℤ) (h' e' : List ℕ) (d : Did (standing L) f h e r h' e') where
    after : (y : Reply (Object N)) → reply (standing L) f h e ≡ y → outcome s i o k (num (L.num h)) ≡ wrapped num y → Signed (wrapped num y)
        → Is L num (called s i o k).0 o h' e'
    after (refuse (pos c)) y z x = absurd x
    after (refuse (negsuc c)) y z x = let p = kept (standing L) f h e d y in rw (m.slot, z, p.1, p.2) m
    after (accept t (negsuc c) l) y z x = absurd x
    after (accept t (pos c) l) y z x =
        let b = (became_so (standing L) f h e d y).1 in
        let v = is-housed L h' e' b.formed in
        let p : L.num h' ≡ t.num = ap (λ (x : Object N). x.num) b.object in
        let q : waiting e' (get_or h' L.len 0) ≡ t.queue = ap (λ (x : Object N). x.queue) b.object in
        record { words = v.words; room = v.room; slot = rw (m.slot, z, eq-eqb o o refl, p) refl; queue = rw (m.slot, z, eq-eqb o o refl, q) refl }

    pub leaves : Is L num (called s i o k).0 o h' e'
    leaves =
        after u here same
        (subst Signed same (signed K law s.wish (thing s o (num (L.num h))) (thread i (s.prio i) (number (s.state i))) k))

-- the words of l in a place of none, of one, and of any length
pub in_none : (l : List Woken) (out out' : List ℕ) → out ≡ [] → out' ≡ [] → length l ≤ 0 → Handed l out out'
in_none [] out out' a b z = rw (a, b) refl
in_none (w ∷ l) out out' a b z = absurd (omega (arith, z))

pub in_word : (l : List Woken) (w w' : ℕ) (out out' : List ℕ) → out ≡ w ∷ [] → out' ≡ w' ∷ [] → length l ≤ 1 → w' ≡ first w (map word l) → Handed l out out'
in_word [] w w' out out' a b z t = rw (a, b, t) refl
in_word (x ∷ []) w w' out out' a b z t = rw (a, b, t) refl
in_word (x ∷ y ∷ l) w w' out out' a b z t = absurd (omega (arith, z))

-- the words that are read, as many as l
pub read_all_lem : (l : List Woken) (n : ℕ) (out out' : List ℕ) → Handed l out out' → length l ≡ n → take n out' ≡ map word l
read_all_lem l n out out' h e =
    let z : length (map word l) ≡ n = length-map l word ∙ e in
    rw h (take_at (map word l) (drop (length (map word l)) out) n z)

-- another object, and the priorities, stay
module _ {K : Kind} (s : Sys K) (i o : ℕ) (k : K.Call) where
  pub prio-kept : (t : ℕ) → (called s i o k).0.prio t ≡ s.prio t
  prio-kept t = go (s.slot o)
    where
      go : (y : Slot K.Num) → (visited y s i o k).0.prio t ≡ s.prio t
      go vacant = refl
      go (object n) = by (store.answer (outcome s i o k n))
        where
          by : (z : ℤ) → (unless z s (serve s i o (verdict s i o k n) (store.left (outcome s i o k n) (thing s o n)))).prio t ≡ s.prio t
          by (pos c) = refl
          by (negsuc c) = refl

  module _ (x : ℕ) (off : o ≡ x → ⊥) where
    pub slot_kept : (called s i o k).0.slot x ≡ s.slot x
    slot_kept = go (s.slot o)
      where
        go : (y : Slot K.Num) → (visited y s i o k).0.slot x ≡ s.slot x
        go vacant = refl
        go (object n) = by (store.answer (outcome s i o k n))
          where
            by : (z : ℤ) → (unless z s (serve s i o (verdict s i o k n) (store.left (outcome s i o k n) (thing s o n)))).slot x ≡ s.slot x
            by (pos c) = rw (ne_eqb o x off)
            by (negsuc c) = refl

    pub queue-kept : (called s i o k).0.queue x ≡ s.queue x
    queue-kept = go (s.slot o)
      where
        go : (y : Slot K.Num) → (visited y s i o k).0.queue x ≡ s.queue x
        go vacant = refl
        go (object n) = by (store.answer (outcome s i o k n))
          where
            by : (z : ℤ) → (unless z s (serve s i o (verdict s i o k n) (store.left (outcome s i o k n) (thing s o n)))).queue x ≡ s.queue x
            by (pos c) = rw (ne_eqb o x off)
            by (negsuc c) = refl

-- an object whose slot and queue stay is in memory as it was
pub is-kept : {K : Kind} {N : Type 0} (L : Layout N) (num : N → K.Num) (s t : Sys K) (o : ℕ) (h e : List ℕ) → t.slot o ≡ s.slot o → t.queue o ≡ s.queue o
    → Is L num s o h e → Is L num t o h e
is-kept L num s t o h e a b m = record { words = m.words; room = m.room; slot = a ∙ m.slot; queue = b ∙ m.queue }
