-- One event keeps the line, with readers and writers that wait: all but a get. Assumes nothing.
use mathlib.Core.Path.{◌≡◌, refl, sym, ap, subst, ◌∙◌}
use mathlib.Core.Bool.{Bool, true, false, cond}
use mathlib.Core.List.{List, [], ◌∷◌, ◌++◌}
use Prim.Native.Nat.{ℕ, ◌+◌, ◌-◌, ◌<◌}
use native.Mathlib.Omega.{arith}
use borrow.Author.Tests.{ltb-true, ltb-false, eq-eqb, eqb-true}
use lib.Dec.{eqb, ltb}
use lib.IntN.{ℤ, pos, negsuc}
use lib.ListN.{length, length-append}
use lib.Seq.{drop-length}
use Rattle.store.specs.Store.{Reply, accept, refuse, answer, left}
use Rattle.ring_buf.specs.Ring.{wrap, lead}
use Rattle.msgq.specs.Msgq.{Msgq, Numbers, given, having, max, used, read_idx, write_idx}
use Rattle.msgq.specs.Post.{sane, put_decision, put_front_decision}
use Rattle.msgq.specs.History.{Call, putting, putting_front, peeking, purging, Good}
use Rattle.msgq.specs.HandOver.{Waited, decision, becomes, led, done, told, Fair}
use Rattle.msgq.proofs.Decisions.{put-refuses, put-pends, put-wakes, put-stores, lead-refuses, lead-stores}
use Rattle.msgq.proofs.Calls.{stores, front_yes}
use Rattle.msgq.proofs.Lines.{line-front, line_hand, line_store, line_offer, line_stays, line-ahead, line-drop}
use Rattle.msgq.proofs.Goods.{all_append, good-put, good-front, good-leave}
use Rattle.msgq.proofs.Agreements.{read-within, write-within}

module _ (c z : ℕ) (q : Msgq) (g : Good c z q) where
  -- the numbers are as they should be for a reader, and for a writer, that waits
  pub put-sane : (w : Bool) → (w ≡ true → used q ≡ 0) → sane (write_idx q) (used q) (max q) w 0 ≡ true
  put-sane true f = rw (write-within c z q g, eq-eqb (used q) 0 (f refl))
  put-sane false f = rw (write-within c z q g)

  pub get-sane : (w : Bool) → (w ≡ true → used q ≡ c) → sane (read_idx q) (used q) (max q) w (max q) ≡ true
  get-sane true f = rw (read-within c z q g, eq-eqb (used q) (max q) (f refl ∙ sym g.max))
  get-sane false f = rw (read-within c z q g)

module _ (c z : ℕ) (s : Waited) (p : Fair c z s) where
  abbrev q : Msgq
  q = s.queue

  -- what is asked
  abbrev asked : Bool → Bool → Reply Numbers
  asked r k = put_decision (write_idx q) (used q) (max q) r k

  abbrev asked-front : Bool → Reply Numbers
  asked-front r = cond r (asked true true) (put_front_decision (read_idx q) (used q) (max q))

  -- after the call k
  abbrev pub After : Call → Bool → Type 0
  After k b = Fair c z (told k (answer (decision k b s)) s)

  -- its decision is carried out
  pub carried : (k : Call) (b : Bool) {n : Numbers} {a : ℕ} → decision k b s ≡ accept n (pos a) [] → Fair c z (done k a s) → After k b
  carried k b d f = subst (λ (y : Reply Numbers). Fair c z (told k (answer y) s)) (sym d) f

  pub refused : (k : Call) (b : Bool) {a : ℕ} → decision k b s ≡ refuse (negsuc a) → After k b
  refused k b d = subst (λ (y : Reply Numbers). Fair c z (told k (answer y) s)) (sym d) p

  -- a message, or a place, of n bytes: refused, or of the queue's size
  pub by_size : (k : Call) (b : Bool) (n : ℕ) (y : Reply Numbers) → decision k b s ≡ given (eqb n q.size) y
      → (n ≡ z → decision k b s ≡ y → After k b) → After k b
  by_size k b n y d f = go (eqb n q.size) refl
    where
      go : (t : Bool) → eqb n q.size ≡ t → After k b
      go true e = f (eqb-true n q.size e ∙ p.good.size) (d ∙ ap (λ (t : Bool). given t y) e)
      go false e = refused k b (d ∙ ap (λ (t : Bool). given t y) e)

  nobody : used q < c → length s.writers ≡ 0
  nobody f = go (ltb 0 (length s.writers)) refl
    where
      go : (b : Bool) → ltb 0 (length s.writers) ≡ b → length s.writers ≡ 0
      go true e = absurd (omega (arith, p.no_room (ltb-true 0 (length s.writers) e)))
      go false e = omega (arith, ltb-false 0 (length s.writers) e)

  no_held : 0 < s.readers → used q ≡ 0
  no_held f = ap length (p.no_message f)

  -- no room
  filled : ltb (used q) (max q) ≡ false → used q ≡ max q
  filled y = omega (arith, ltb-false (used q) (max q) y, p.good.slots, p.good.max)

  -- a put behind the others
  pub put_fair : (m : List ℕ) (k : Bool) → length m ≡ z → decision (putting m) k s ≡ asked (ltb 0 s.readers) k → After (putting m) k
  put_fair m k e d = go (ltb 0 s.readers) (ltb (used q) (max q)) k refl refl refl
    where
      right : sane (write_idx q) (used q) (max q) (ltb 0 s.readers) 0 ≡ true
      right = put-sane c z q p.good (ltb 0 s.readers) (λ x. no_held (ltb-true 0 s.readers x))

      go : (r u b : Bool) → ltb 0 s.readers ≡ r → ltb (used q) (max q) ≡ u → k ≡ b → After (putting m) k
      go true u b x y w =
          let f = ltb-true 0 s.readers x in
          let n = no_held f in
          let l : length (q.ring.held ++ s.writers) ≡ 0 = length-append q.ring.held s.writers ∙ omega (arith, n, nobody (omega (arith, p.good.read))) in
          carried (putting m) k
          (d ∙ put-wakes (write_idx q) (used q) (max q) (ltb 0 s.readers) k right (λ v. absurd (omega (arith, p.good.read, p.good.max))) x)
          (record {
            good = p.good;
            sizes = p.sizes;
            no_message = λ v. p.no_message f;
            no_room = p.no_room;
            line = line_hand s.got (q.ring.held ++ s.writers) s.line m l p.line;
          })
      go false true b x y w =
          let f = ltb-true (used q) (max q) y in
          let h = ltb-false 0 s.readers x in
          let n = nobody (omega (arith, p.good.max)) in
          carried (putting m) k
          (d ∙ put-stores (write_idx q) (used q) (max q) (ltb 0 s.readers) k right (wrap (write_idx q + 1) (max q)) (λ v. absurd (omega arith)) x refl)
          (subst (λ (t : Msgq). Fair c z (becomes (putting m) s t s.readers s.writers []))
          (sym (stores c z q p.good m e (omega (arith, p.good.max))))
          (record {
            good = good-put c z q p.good m (omega (arith, p.good.max)) e;
            sizes = p.sizes;
            no_message = λ v. absurd (omega arith);
            no_room = λ v. absurd (omega arith);
            line = line_stays s.got _ _ (line_store s.got q.ring.held s.writers s.line m n p.line);
          }))
      go false false true x y w = refused (putting m) k (d ∙ put-refuses (write_idx q) (used q) (max q) (ltb 0 s.readers) k right (filled y) w)
      go false false false x y w =
          let h = ltb-false 0 s.readers x in
          carried (putting m) k (d ∙ put-pends (write_idx q) (used q) (max q) (ltb 0 s.readers) k right (filled y) w)
          (record {
            good = p.good;
            sizes = all_append (λ (y : List ℕ). length y ≡ z) s.writers (m ∷ []) p.sizes (e, tt);
            no_message = λ v. absurd (omega arith);
            no_room = λ v. filled y ∙ p.good.max;
            line = line_stays s.got _ _ (line_offer s.got q.ring.held s.writers s.line m p.line);
          })

  -- a put at the front
  pub front_fair : (m : List ℕ) (k : Bool) → length m ≡ z → decision (putting_front m) k s ≡ asked-front (ltb 0 s.readers) → After (putting_front m) k
  front_fair m k e d = go (ltb 0 s.readers) (ltb (used q) (max q)) refl refl
    where
      pick : {r : Bool} → ltb 0 s.readers ≡ r → decision (putting_front m) k s ≡ asked-front r
      pick x = d ∙ ap asked-front x

      go : (r u : Bool) → ltb 0 s.readers ≡ r → ltb (used q) (max q) ≡ u → After (putting_front m) k
      go true u x y =
          let f = ltb-true 0 s.readers x in
          let n = no_held f in
          carried (putting_front m) k
          (pick x
          ∙ put-wakes (write_idx q) (used q) (max q) true true (put-sane c z q p.good true (λ v. n)) (λ v. absurd (omega (arith, p.good.read, p.good.max))) refl)
          (record {
            good = p.good;
            sizes = p.sizes;
            no_message = λ v. p.no_message f;
            no_room = p.no_room;
            line = line-ahead s.got (q.ring.held ++ s.writers) s.line m p.line;
          })
      go false true x y =
          let f = ltb-true (used q) (max q) y in
          let h = ltb-false 0 s.readers x in
          let n = nobody (omega (arith, p.good.max)) in
          let l : led m q ≡ having (lead m q.ring) q = ap (λ (y : Reply Msgq). left y q) (front_yes c z q p.good m e (omega (arith, p.good.max))) in
          carried (putting_front m) k
          (pick x
          ∙ lead-stores (read_idx q) (used q) (max q) (wrap (read_idx q + (max q - 1)) (max q)) (read-within c z q p.good) (λ v. absurd (omega arith)) refl)
          (subst (λ (t : Msgq). Fair c z (becomes (putting_front m) s t s.readers s.writers [])) (sym l)
          (record {
            good = good-front c z q p.good m (omega (arith, p.good.max)) e;
            sizes = p.sizes;
            no_message = λ v. absurd (omega arith);
            no_room = λ v. absurd (omega arith);
            line = line_stays s.got _ _ (line-front s.got (q.ring.held ++ s.writers) s.line m p.line);
          }))
      go false false x y = refused (putting_front m) k (pick x ∙ lead-refuses (read_idx q) (used q) (max q) (read-within c z q p.good) (filled y))

  -- a look
  pub peek_fair : (n i : ℕ) (a : ℤ) → Fair c z (told (peeking n i) a s)
  peek_fair n i (pos a) =
      record { good = p.good; sizes = p.sizes; no_message = p.no_message; no_room = p.no_room; line = line_stays s.got _ _ p.line }
  peek_fair n i (negsuc a) = p

  pub purge_fair : (k : Bool) → After purging k
  purge_fair k =
      record {
        good = good-leave c z q p.good (used q) (omega arith);
        sizes = tt;
        no_message = λ v. drop-length q.ring.held;
        no_room = λ v. absurd (omega arith);
        line = line-drop s.got q.ring.held s.writers s.line p.line;
      }
