-- Our contracts imply those of Gale's timeout.rs. Assumes nothing.
use mathlib.Core.Path.{◌≡◌, refl, sym, subst, ◌∙◌}
use mathlib.Core.Bool.{true, false}
use mathlib.Core.List.{List, []}
use mathlib.Core.Logic.{inl, inr, ⊎_elim}
use Prim.Native.Nat.{ℕ, ◌≤◌, ◌<◌}
use native.Mathlib.Omega.{arith}
use lib.Dec.{ltb, leb}
use lib.IntN.{ℤ}
use lib.ListN.{length, get_or}
use borrow.Author.Tests.{lt-ltb, le-ltb, le-leb}
use Rattle.seq.proofs.Order.{cond_same}
use Rattle.thread.specs.Code.{ok, ebusy, einval}
use Rattle.store.specs.Store.{Reply, accept, Did}
use Rattle.store.proofs.Laws.{less, replies, handed, kept_bad, kept_no}
use Rattle.store.proofs.Histories.{holds_after}
use Rattle.timeout.specs.Timeout.{Timeout, timeout, never, at_once, right, add_decide, absolute, arm, add, add_absolute, add_forever, add_no_wait, abort, announce}
use Rattle.timeout.specs.Post.{Starts, Adds, AddsAbsolute, AddsForever, AddsNoWait, Aborts, Announces, place}
use Rattle.timeout.specs.Upstream.{Inv, Init, Add, AddAbsolute, AddFixed, Abort, Announce}
use Rattle.timeout.proofs.Numbers.{right-idle, right-at-once, right-ahead}
use Rattle.timeout.proofs.Whole.{set-busy}
use Rattle.timeout.proofs.Memory.{right_is, sound}
use Rattle.timeout.proofs.Sets.{adds, adds-absolute, fixed}
use Rattle.timeout.proofs.Moves.{aborts, announces}

-- numbers are a timeout's exactly if upstream's invariant holds of it
pub inv_right : (d a c : ℕ) → Inv (timeout d a c) → right (ltb 0 a) d c ≡ true
inv_right d a c i =
    less 0 a (λ e. ⊎_elim (λ z. right-at-once d c i.tick (ltb 0 a) z) (λ z. right-ahead d c i.tick (ltb 0 a) z) (i.ahead e))
    (λ e. right-idle d c i.tick (ltb 0 a) (le-ltb 0 a e))

pub right-inv : (d a c : ℕ) → right (ltb 0 a) d c ≡ true → Inv (timeout d a c)
right-inv d a c e = let z = right_is (ltb 0 a) d c e in record { tick = z.0; ahead = λ k. z.1 (lt-ltb 0 a k) }

-- and so is memory, with a header of three words
pub inv-formed : (h : List ℕ) → 3 ≤ length h → Inv (place.object h []) → place.formed h [] ≡ true
inv-formed h k i = rw (le-leb 3 (length h) k) (inv_right (get_or h 0 0) (get_or h 1 0) (get_or h 2 0) i)

pub formed-inv : (h : List ℕ) → place.formed h [] ≡ true → (3 ≤ length h) × Inv (place.object h [])
formed-inv h e = let s = sound h e in (s.words, record { tick = s.below; ahead = s.ahead })

module _ (h h' : List ℕ) (c : ℕ) (r : ℤ) (s : Starts c h r h') where
  pub timeout-init : 3 ≤ length h → c < never → (r ≡ ok) × Init c (place.object h' [])
  timeout-init k b =
      let e : r ≡ ok = s.code ∙ rw (le-leb 3 (length h) k, lt-ltb c never b) in
      (e, subst (Init c) (sym (s.made e).object) (record { inv = right-inv 0 0 c (right-idle 0 c b false refl); inactive = refl; deadline = refl; clock = refl }))

  pub init-refuses : never ≤ c → (r ≡ einval) × (h' ≡ h)
  init-refuses b =
      let e : r ≡ einval = s.code ∙ rw (le-ltb c never b) (cond_same (leb 3 (length h)) einval) in
      (e, (s.kept 21 e).0)

module _ (h h' : List ℕ) (r : ℤ) where
  -- what upstream demands is refused here: a timeout that is as it should be, and one that is not active
  pub refuses : (f : Timeout → Reply Timeout) → place.formed h [] ≡ false → Did place f h [] r h' [] → (r ≡ einval) × (h' ≡ h)
  refuses f e d = let z = kept_bad place f h [] d e in (z.0, z.1)

  module _ (k : 3 ≤ length h) (i : Inv (place.object h [])) where
    e : place.formed h [] ≡ true
    e = inv-formed h k i

    busy : (y : Timeout → Reply ℕ) → 0 < get_or h 1 0 → Did place (λ t. arm (y t) t) h [] r h' [] → (r ≡ ebusy) × (h' ≡ h)
    busy y b d =
        let z = kept_no place (λ t. arm (y t) t) h [] d e (set-busy (place.object h []) (y (place.object h [])) b) in (z.0, z.1)

    module _ (b : 0 < get_or h 1 0) where
      pub add-refuses : (n m m' : ℕ) → Adds n h m r h' m' → (r ≡ ebusy) × (h' ≡ h)
      add-refuses n m m' (d, _) = busy (λ t. add_decide t.clock n) b d

      pub add-absolute-refuses : (x : ℕ) → AddsAbsolute x h r h' → (r ≡ ebusy) × (h' ≡ h)
      add-absolute-refuses x d = busy (λ t. absolute x t.clock) b d

      pub add-forever-refuses : AddsForever h r h' → (r ≡ ebusy) × (h' ≡ h)
      add-forever-refuses d = busy (λ t. accept never ok []) b d

      pub add_no_wait-refuses : AddsNoWait h r h' → (r ≡ ebusy) × (h' ≡ h)
      add_no_wait-refuses d = busy (λ t. accept at_once ok []) b d

    module _ (z : get_or h 1 0 ≡ 0) where
      pub timeout-add : (n m m' : ℕ) → Adds n h m r h' m' → Add n (place.object h []) r m' (place.object h' [])
      timeout-add n m m' d =
          let o = (handed place (add n) h [] m (replies place (add n) h [] e) d).1 in
          holds_after place (add n) h [] (λ y t. Add n (place.object h []) y m' t) e d.0 (rw o (adds (place.object h []) i.tick z n m))

      pub timeout-add-absolute : (x : ℕ) → AddsAbsolute x h r h' → AddAbsolute x (place.object h []) r (place.object h' [])
      timeout-add-absolute x d =
          holds_after place (add_absolute x) h [] (AddAbsolute x (place.object h [])) e d (adds-absolute (place.object h []) i.tick z x)

      pub timeout-add-forever : AddsForever h r h' → AddFixed never (place.object h []) (place.object h' [])
      timeout-add-forever d =
          holds_after place add_forever h [] (λ y t. AddFixed never (place.object h []) t) e d
          (fixed (place.object h []) i.tick z never (inr (omega (arith, i.tick))))

      pub timeout-add_no_wait : AddsNoWait h r h' → AddFixed 0 (place.object h []) (place.object h' [])
      timeout-add_no_wait d =
          holds_after place add_no_wait h [] (λ y t. AddFixed 0 (place.object h []) t) e d (fixed (place.object h []) i.tick z 0 (inl refl))

    pub timeout-abort : Aborts h r h' → Abort (place.object h []) r (place.object h' [])
    timeout-abort d = holds_after place abort h [] (Abort (place.object h [])) e d (aborts (place.object h []) i)

    pub timeout-announce : (n : ℕ) → Announces n h r h' → Announce n (place.object h []) r (place.object h' [])
    timeout-announce n d = holds_after place (announce n) h [] (Announce n (place.object h [])) e d (announces (place.object h []) n)
