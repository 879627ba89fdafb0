-- What a call does to a queue implies upstream's clauses. Assumes nothing.
use mathlib.Core.Path.{◌≡◌, refl, sym, subst, ◌∙◌}
use mathlib.Core.Bool.{false}
use mathlib.Core.Logic.{◌⊎◌, inl, inr}
use mathlib.Core.List.{List, [], ◌∷◌}
use Prim.Native.Nat.{ℕ, ◌+◌, ◌-◌, ◌<◌}
use native.Mathlib.Omega.{arith}
use native.Mathlib.Numerals.{add-one}
use borrow.Author.Tests.{lt-ltb, le-ltb, lt-leb, eq-eqb, ne_eqb}
use lib.Dec.{leb}
use lib.IntN.{ℤ}
use lib.ListN.{length, length-append, length-drop}
use Rattle.seq.proofs.Order.{cond_same}
use Rattle.thread.specs.Code.{ok, einval}
use Rattle.store.specs.Store.{Reply, answer, left}
use Rattle.ring_buf.specs.Ring.{wrap, append, lead, leave}
use Rattle.ring_buf.proofs.Rings.{by-lt, wrap-low, wrap-high}
use Rattle.msgq.specs.Msgq.{Msgq, having, max, used, read_idx, write_idx, put, put_front, get, peek, purge}
use Rattle.msgq.specs.Post.{Starts, may}
use Rattle.msgq.specs.History.{Good}
use Rattle.msgq.specs.Upstream.{next_idx, prev_idx, InvOf, PutDone, Put, FrontDone, PutFront, GetDone, Get, PeekAt, Purge}
use Rattle.msgq.proofs.Calls.{put_yes, put_no, front_yes, front_no, get_yes, get_no, write-next, write-led, write-left}
use Rattle.msgq.proofs.Goods.{good-put, good-front, good-leave}

pub next-is : (i c : ℕ) → i < c → wrap (i + 1) c ≡ next_idx i c
next-is i c f =
    by-lt (i + 1) c (λ x. wrap-low (i + 1) c x ∙ sym (rw (lt-ltb (i + 1) c x)))
    (λ x. let y : i + 1 - c ≡ 0 = omega arith in wrap-high (i + 1) c x ∙ y ∙ sym (rw (le-ltb (i + 1) c x)))

pub prev_is : (i c : ℕ) → i < c → wrap (i + (c - 1)) c ≡ prev_idx i c
prev_is i c f =
    by-lt i 1
    (λ x. let y : i + (c - 1) ≡ c - 1 = omega arith in wrap-low (i + (c - 1)) c (omega arith) ∙ y ∙ sym (rw (eq-eqb i 0 (omega arith))))
    (λ x. let y : i + (c - 1) - c ≡ i - 1 = omega arith in
    wrap-high (i + (c - 1)) c (omega arith) ∙ y ∙ sym (rw (ne_eqb i 0 (λ v. absurd (omega arith)))))

pub good-inv : (c z : ℕ) (q : Msgq) → 0 < z → Good c z q → InvOf q
good-inv c z q f g =
    record {
      some_bytes = omega (arith, g.size);
      some_room = omega (arith, g.read, g.max);
      read = omega (arith, g.read, g.max);
      write = omega (arith, g.write, g.max);
      within = omega (arith, g.slots, g.max);
      low = λ x. wrap-low (read_idx q + used q) (max q) x;
      high = λ x. wrap-high (read_idx q + used q) (max q) x;
    }

module _ (c z : ℕ) (q : Msgq) (some : 0 < z) (g : Good c z q) where
  pub put-does : (m : List ℕ) → length m ≡ z → Put q (answer (put m q)) (left (put m q) q)
  put-does m e =
      by-lt (used q) c
      (λ f. let d : PutDone q ok (having (append (m ∷ []) q.ring) q) =
      record {
        done = refl;
        counted = length-append q.ring.held (m ∷ []);
        moved = write-next c z q g m e f ∙ next-is (write_idx q) (max q) (omega (arith, g.write, g.max));
        first = refl;
      } in
      subst (λ (y : Reply Msgq). Put q (answer y) (left y q)) (sym (put_yes c z q g m e f))
      (record {
        inv = good-inv c z (having (append (m ∷ []) q.ring) q) some (good-put c z q g m f e);
        size = refl;
        room = refl;
        some_room = λ x. d;
        full = λ x. absurd (omega (arith, g.max));
      }))
      (λ f. subst (λ (y : Reply Msgq). Put q (answer y) (left y q)) (sym (put_no c z q g m e (omega (arith, g.slots))))
      (record { inv = good-inv c z q some g; size = refl; room = refl; some_room = λ x. absurd (omega (arith, g.max)); full = λ x. (refl, refl) }))

  pub front-does : (m : List ℕ) → length m ≡ z → PutFront q (answer (put_front m q)) (left (put_front m q) q)
  front-does m e =
      by-lt (used q) c
      (λ f. let d : FrontDone q ok (having (lead m q.ring) q) =
      record {
        done = refl;
        counted = sym (add-one (used q));
        moved = prev_is (read_idx q) (max q) (omega (arith, g.read, g.max));
        last = write-led c z q g m e f;
      } in
      subst (λ (y : Reply Msgq). PutFront q (answer y) (left y q)) (sym (front_yes c z q g m e f))
      (record {
        inv = good-inv c z (having (lead m q.ring) q) some (good-front c z q g m f e);
        size = refl;
        room = refl;
        some_room = λ x. d;
        full = λ x. absurd (omega (arith, g.max));
      }))
      (λ f. subst (λ (y : Reply Msgq). PutFront q (answer y) (left y q)) (sym (front_no c z q g m e (omega (arith, g.slots))))
      (record { inv = good-inv c z q some g; size = refl; room = refl; some_room = λ x. absurd (omega (arith, g.max)); full = λ x. (refl, refl) }))

  pub get-does : Get q (answer (get q.size q)) (left (get q.size q) q)
  get-does =
      by-lt 0 (used q)
      (λ f. let d : GetDone q ok (having (leave 1 q.ring) q) =
      record {
        done = refl;
        counted = length-drop 1 q.ring.held;
        moved = next-is (read_idx q) (max q) (omega (arith, g.read, g.max));
        last = write-left c z q g 1 f;
      } in
      subst (λ (y : Reply Msgq). Get q (answer y) (left y q)) (sym (get_yes c z q g f))
      (record {
        inv = good-inv c z (having (leave 1 q.ring) q) some (good-leave c z q g 1 f);
        size = refl;
        room = refl;
        some_message = λ x. d;
        empty = λ x. absurd (omega arith);
      }))
      (λ f. subst (λ (y : Reply Msgq). Get q (answer y) (left y q)) (sym (get_no c z q g (omega arith)))
      (record { inv = good-inv c z q some g; size = refl; room = refl; some_message = λ x. absurd (omega arith); empty = λ x. (refl, refl) }))

  pub peek-does : (i : ℕ) → PeekAt i q (answer (peek q.size i q))
  peek-does i =
      record {
        done = λ f. rw (eq-eqb q.size q.size refl, lt-ltb i (used q) f);
        past = λ f. rw (eq-eqb q.size q.size refl, le-ltb i (used q) f);
      }

  pub purge-does : Purge q (answer (purge q)) (left (purge q) q)
  purge-does =
      let x = write-left c z q g (used q) (omega arith) in
      let y : used q - used q ≡ 0 = omega arith in
      record {
        inv = good-inv c z (having (leave (used q) q.ring) q) some (good-leave c z q g (used q) (omega arith));
        size = refl;
        room = refl;
        empty = length-drop (used q) q.ring.held ∙ y;
        met = sym x;
        told = refl;
        last = x;
      }

-- a header of fewer than four words, or too little memory for the messages
pub init-refuses : (z c : ℕ) (h b : List ℕ) (r : ℤ) (h' : List ℕ) → (length h < 4) ⊎ (may z c b ≡ false) → Starts z c h b r h' → (r ≡ einval) × (h' ≡ h)
init-refuses z c h b r h' k s = let e = refused k in (e, (s.kept 21 e).0)
  where
    refused : (length h < 4) ⊎ (may z c b ≡ false) → r ≡ einval
    refused (inl f) = s.code ∙ rw (lt-leb 4 (length h) f)
    refused (inr e) = s.code ∙ rw e (cond_same (leb 4 (length h)) einval)
