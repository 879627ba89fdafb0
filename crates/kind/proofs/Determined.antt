-- What an object becomes tells each word of its header and each of its entries. So a contract leaves nothing open. Assumes nothing.
use mathlib.Core.Path.{◌≡◌, sym, ap, ◌∙◌}
use mathlib.Core.Bool.{Bool, true, false, cond}
use mathlib.Core.List.{List, [], ◌++◌}
use Prim.Native.Nat.{ℕ, suc}
use lib.Dec.{leb}
use lib.IntN.{ℤ}
use lib.ListN.{length, get_or, take, take-append-drop}
use Rattle.seq.specs.Only.{Only, Alike}
use Rattle.seq.proofs.Only.{said, exactly, alike_only}
use Rattle.thread.specs.Code.{ok, einval}
use Rattle.store.specs.Store.{Reply, refuse, accept, reply, Becomes, After, Did}
use Rattle.store.specs.Determined.{Faithful}
use Rattle.store.proofs.Determined.{Outcome}
use Rattle.wait_queue.specs.Queue.{roomy}
use Rattle.wait_queue.proofs.Determined.{same_length, same_entries}
use Rattle.wait_queue.proofs.Memory.{blank, blank_roomy}
use Rattle.kind.specs.Kind.{Kind}
use Rattle.kind.specs.Object.{Object, Layout, standing, Opened, Audited}
use Rattle.kind.specs.Determined.{Legible, Determined}
use Rattle.kind.proofs.Memory.{is-housed}

module _ {N : Type 0} (L : Layout N) where
  its_room : (h e : List ℕ) → (standing L).formed h e ≡ true → roomy (get_or h L.len 0) e ≡ true
  its_room h e f = (is-housed L h e f).room

  its_length : (h h' e e' : List ℕ) → (standing L).object h e ≡ (standing L).object h' e' → get_or h L.len 0 ≡ get_or h' L.len 0
  its_length h h' e e' q = same_length e e' (get_or h L.len 0) (get_or h' L.len 0) (ap (λ (x : Object N). x.queue) q)

  its_entries : (h e e' : List ℕ) → (standing L).formed h e ≡ true → (standing L).formed h e' ≡ true → (standing L).object h e ≡ (standing L).object h e'
      → take (get_or h L.len 0) e ≡ take (get_or h L.len 0) e'
  its_entries h e e' f g q = same_entries (get_or h L.len 0) e e' (its_room h e f) (its_room h e' g) (ap (λ (x : Object N). x.queue) q)

  pub faithful : Legible L → Faithful (standing L)
  faithful t =
      record {
        header = λ h e h' e' f g q. t h h' (ap (λ (x : Object N). x.num) q) (its_length h h' e e' q);
        buffer = its_entries;
      }

  -- if the numbers and the length tell the own words of these two headers
  module _ (h e : List ℕ) where
    same_memory : (s : Object N) (h₁ e₁ h₂ e₂ : List ℕ) → Becomes (standing L) s h e h₁ e₁ → Becomes (standing L) s h e h₂ e₂
        → (L.num h₁ ≡ L.num h₂ → get_or h₁ L.len 0 ≡ get_or h₂ L.len 0 → Alike (suc L.len) h₁ h₂)
        → (h₁ ≡ h₂) × (e₁ ≡ e₂)
    same_memory s h₁ e₁ h₂ e₂ u v a =
        let q = u.object ∙ sym v.object in
        let n = its_length h₁ h₂ e₁ e₂ q in
        let w : h₁ ≡ h₂ =
        alike_only (suc L.len) h₁ h₂ (u.long.0 ∙ sym v.long.0) (a (ap (λ (x : Object N). x.num) q) n) (u.beside ∙ sym v.beside) in
        (w, entries (rw w at u) v)
      where
        entries : Becomes (standing L) s h e h₂ e₁ → Becomes (standing L) s h e h₂ e₂ → e₁ ≡ e₂
        entries m k =
            let t = its_entries h₂ e₁ e₂ m.formed k.formed (m.object ∙ sym k.object) in
            let d = m.rest ∙ sym k.rest in
            sym (take-append-drop (get_or h₂ L.len 0) e₁) ∙ (λ i. t i ++ d i) ∙ take-append-drop (get_or h₂ L.len 0) e₂

    pub same_outcome : (f : Object N → Reply (Object N)) (x y : Outcome) → Did (standing L) f h e x.0 x.1 x.2 → Did (standing L) f h e y.0 y.1 y.2
        → (L.num x.1 ≡ L.num y.1 → get_or x.1 L.len 0 ≡ get_or y.1 L.len 0 → Alike (suc L.len) x.1 y.1)
        → x ≡ y
    same_outcome f x y m k a =
        let r : x.0 ≡ y.0 = m.code ∙ sym k.code in
        let w = go (reply (standing L) f h e) m.after k.after in
        λ i. (r i, w.0 i, w.1 i)
      where
        go : (z : Reply (Object N)) → After (standing L) z h e x.1 x.2 → After (standing L) z h e y.1 y.2 → (x.1 ≡ y.1) × (x.2 ≡ y.2)
        go (refuse c) u v = (u.0 ∙ sym v.0, u.1 ∙ sym v.1)
        go (accept s c o) u v = same_memory s x.1 x.2 y.1 y.2 u v a

-- a new object
module _ (K : Kind) (L : Layout K.Num) (n : K.Num) (h : List ℕ) where
  pub same_start : (x y : ℤ × List ℕ) → Opened K L n h x.0 x.1 → Opened K L n h y.0 y.1
      → (L.num x.1 ≡ L.num y.1 → get_or x.1 L.len 0 ≡ get_or y.1 L.len 0 → Alike (suc L.len) x.1 y.1)
      → x ≡ y
  same_start x y m k a =
      let p = m.with blank blank_roomy in
      let q = k.with blank blank_roomy in
      let r : x.0 ≡ y.0 = p.code ∙ sym q.code in
      let w = go (leb (suc L.len) (length h)) (K.formed n false) p.code q.code in
      λ i. (r i, w i)
    where
      made : x.0 ≡ ok → y.0 ≡ ok → x.1 ≡ y.1
      made u v =
          (same_memory L h blank (record { num = n; queue = [] }) x.1 blank y.1 blank ((m.with blank blank_roomy).made u) ((k.with blank blank_roomy).made v) a).0

      kept : x.0 ≡ einval → y.0 ≡ einval → x.1 ≡ y.1
      kept u v = ((m.with blank blank_roomy).kept 21 u).0 ∙ sym ((k.with blank blank_roomy).kept 21 v).0

      go : (b c : Bool) → x.0 ≡ cond b (cond c ok einval) einval → y.0 ≡ cond b (cond c ok einval) einval → x.1 ≡ y.1
      go true true = made
      go true false = kept
      go false c = kept

  pub opened-only : Legible L → Only (λ ((r, h') : ℤ × List ℕ). Opened K L n h r h')
  opened-only t x y m k = same_start x y m k (t x.1 y.1)

pub audited_only : (K : Kind) (L : Layout K.Num) (h e : List ℕ) → Only (λ (r : Bool). Audited K L h e r)
audited_only K L h e x y m k = exactly x y m.sound m.complete k.sound k.complete

pub determined : Determined
determined = record { housed = λ words h e. said _ }
