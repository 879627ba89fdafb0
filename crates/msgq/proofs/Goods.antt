-- What is left of a queue of the right numbers and sizes is one again. Assumes nothing.
use mathlib.Core.Path.{◌≡◌, sym, subst}
use mathlib.Core.List.{List, [], ◌∷◌, ◌++◌}
use Prim.Native.Nat.{ℕ, zero, suc, ◌+◌, ◌-◌, ◌≤◌, ◌<◌}
use native.Mathlib.Omega.{arith}
use lib.ListN.{length, get_or, length-append, length-take, length-drop}
use Rattle.seq.specs.List.{All}
use Rattle.seq.proofs.Sub.{sub_drop, sub_holds}
use Rattle.ring_buf.specs.Ring.{Ring, wrap, append, lead, leave}
use Rattle.ring_buf.proofs.Rings.{wrap-below}
use Rattle.msgq.specs.Msgq.{Msgq, having, used, read_idx}
use Rattle.msgq.specs.History.{Good}

pub all_append : {A : Type 0} (P : A → Type 0) (l k : List A) → All P l → All P k → All P (l ++ k)
all_append P [] k a b = b
all_append P (x ∷ l) k a b = (a.0, all_append P l k a.1 b)

pub all-at : {A : Type 0} (P : A → Type 0) (l : List A) (i : ℕ) (d : A) → All P l → i < length l → P (get_or l i d)
all-at P [] i d a f = absurd (omega arith)
all-at P (x ∷ l) zero d a f = a.0
all-at P (x ∷ l) (suc i) d a f = all-at P l i d a.1 (omega arith)

module _ (c z : ℕ) (q : Msgq) (g : Good c z q) where
  abbrev H : List (List ℕ)
  H = q.ring.held

  -- the numbers of a ring that is filled as it should be
  good : (r : Ring (List ℕ)) → r.capacity ≡ c → r.start < c → length r.held + length r.spare ≡ c → All (λ (m : List ℕ). length m ≡ z) r.held → Good c z (having r q)
  good r e f l a =
      record {
        max = e;
        size = g.size;
        read = f;
        write = subst (λ (x : ℕ). wrap (r.start + length r.held) x < c) (sym e) (wrap-below (r.start + length r.held) c (omega arith));
        slots = l;
        messages = a;
      }

  pub good-put : (m : List ℕ) → used q < c → length m ≡ z → Good c z (having (append (m ∷ []) q.ring) q)
  good-put m f e =
      good (append (m ∷ []) q.ring) g.max g.read (simp (length-append, length-drop) (omega (arith, g.slots)))
      (all_append (λ (x : List ℕ). length x ≡ z) H (m ∷ []) g.messages (e, tt))

  pub good-front : (m : List ℕ) → used q < c → length m ≡ z → Good c z (having (lead m q.ring) q)
  good-front m f e =
      good (lead m q.ring) g.max
      (subst (λ (x : ℕ). wrap (read_idx q + (x - 1)) x < c) (sym g.max) (wrap-below (read_idx q + (c - 1)) c (omega (arith, g.read))))
      (simp length-take (omega (arith, g.slots))) (e, g.messages)

  pub good-leave : (k : ℕ) → k ≤ used q → Good c z (having (leave k q.ring) q)
  good-leave k f =
      good (leave k q.ring) g.max
      (subst (λ (x : ℕ). wrap (read_idx q + k) x < c) (sym g.max) (wrap-below (read_idx q + k) c (omega (arith, g.read, g.slots))))
      (simp (length-append, length-take, length-drop) (omega (arith, g.slots)))
      (sub_holds (λ (x : List ℕ). length x ≡ z) (sub_drop k H) g.messages)
