-- A new object in memory, and a thread whose time is over: the steps of the system. Assumes nothing.
use mathlib.Core.Path.{◌≡◌, refl, sym, ap, ◌∙◌}
use mathlib.Core.Bool.{Bool, true, false}
use mathlib.Core.List.{List, [], ◌∷◌}
use Prim.Native.Nat.{ℕ, suc, ◌≤◌}
use native.Mathlib.Omega.{arith}
use lib.IntN.{ℤ}
use lib.ListN.{length, get_or, set, length-set}
use lib.Seq.{get_or-set_same}
use borrow.Author.Tests.{eq-eqb, le-leb}
use Rattle.thread.specs.Code.{ok, einval}
use Rattle.store.specs.Store.{accept}
use Rattle.store.proofs.Laws.{replies, became_so}
use Rattle.wait_queue.specs.Queue.{max_waiters, waiting, roomy, holds, without}
use Rattle.wait_queue.specs.Turn.{wait_queue, remove}
use Rattle.wait_queue.specs.Post.{Removes}
use Rattle.kind.specs.Kind.{Kind}
use Rattle.kind.specs.Object.{Object, Layout, Opened}
use Rattle.kind.proofs.Memory.{is-housed}
use Rattle.system.specs.Part.{Part}
use Rattle.system.specs.System as system
use Rattle.system.specs.System.{vacant, Sys, expire, create}
use Rattle.system.specs.Rules.{times, Fine}
use Rattle.system.specs.Link.{Is, Turns}
use Rattle.system.proofs.Times.{unheld}
use Rattle.system.proofs.Sheets.{Fits}

-- a new object, in a slot that is vacant and in memory that is long enough
pub makes : {A K : Kind} (P : Part A K) → Fits P → (L : Layout A.Num) (s : Sys K) → Fine s → (o : ℕ) (n : A.Num) (h e : List ℕ) (r : ℤ) (h' : List ℕ)
    → s.slot o ≡ vacant → suc L.len ≤ length h → max_waiters ≤ length e → A.new n ≡ A.formed n false → Opened A L n h r h'
    → Turns L P.num s o (create o (P.num n)) r h' e
makes {A} {K} P fits L s g o n h e r h' v w l same opened = go (A.formed n false) refl
  where
    room : roomy 0 e ≡ true
    room = let z : 0 ≤ max_waiters = omega arith in rw (le-leb 0 max_waiters z, le-leb max_waiters (length e) l)

    go : (b : Bool) → A.formed n false ≡ b → Turns L P.num s o (create o (P.num n)) r h' e
    go false f =
        let c : r ≡ einval = rw (le-leb (suc L.len) (length h) w, f) at (opened.with e room).code in
        record { code = rw (c, v, fits.new n, same, f) refl; is = rw c tt }
    go true f =
        let c : r ≡ ok = rw (le-leb (suc L.len) (length h) w, f) at (opened.with e room).code in
        let b = (opened.with e room).made c in
        let m = is-housed L h' e b.formed in
        let p : L.num h' ≡ n = ap (λ (x : Object A.Num). x.num) b.object in
        let q : waiting e (get_or h' L.len 0) ≡ [] = ap (λ (x : Object A.Num). x.queue) b.object in
        record {
          code = rw (c, v, fits.new n, same, f) refl;
          is = rw (c, v, fits.new n, same, f) (record { words = m.words; room = m.room; slot = rw (eq-eqb o o refl, p); queue = g.bare o v ∙ sym q });
        }

-- the time of the thread i, which waits on the object o, is over: it is removed from the queue in memory, whose length stands in the header
pub expires : {K : Kind} {N : Type 0} (L : Layout N) (num : N → K.Num) → ((h : List ℕ) (k : ℕ) → L.num (set h L.len k) ≡ L.num h)
    → (s : Sys K) → Fine s → (i o : ℕ) (h e : List ℕ) → Is L num s o h e → s.state i ≡ system.waiting o
    → (r : ℤ) (k : ℕ) (e' : List ℕ) → Removes i (get_or h L.len 0) e r k e' → Turns L num s o (expire i) r (set h L.len k) e'
expires {K} L num beside s g i o h e m w r k e' d =
    let one : times i (s.queue o) ≡ 1 = g.placed o i ∙ rw (w, eq-eqb o o refl) in
    let in_it : holds i (s.queue o) ≡ true = go (holds i (s.queue o)) refl one in
    let here : remove i (waiting e (get_or h L.len 0)) ≡ accept (without i (s.queue o)) ok [] = rw (sym m.queue, in_it) in
    let b = became_so wait_queue (remove i) (get_or h L.len 0 ∷ []) e d (replies wait_queue (remove i) (get_or h L.len 0 ∷ []) e m.room ∙ here) in
    let x : get_or (set h L.len k) L.len 0 ≡ k = get_or-set_same h L.len k 0 (omega (arith, m.words)) in
    record {
      code = rw (b.0, w) refl;
      is =
          rw (b.0, w)
          (record {
            words = omega (arith, m.words, length-set h L.len k);
            room = rw x b.1.formed;
            slot = rw (beside h k) m.slot;
            queue = rw (eq-eqb o o refl, x) (sym b.1.object);
          });
    }
  where
    go : (b : Bool) → holds i (s.queue o) ≡ b → times i (s.queue o) ≡ 1 → b ≡ true
    go true y z = refl
    go false y z = absurd (omega (arith, z, unheld i (s.queue o) y))
