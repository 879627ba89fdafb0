-- With readers and writers that wait, any calls keep the line. Assumes nothing.
use mathlib.Core.Path.{◌≡◌, refl, sym, ap, ◌∙◌}
use mathlib.Core.Bool.{Bool, true}
use mathlib.Core.List.{List, [], ◌∷◌, ◌++◌, append_assoc}
use Prim.Native.Nat.{ℕ, suc, ◌+◌, ◌<◌}
use native.Mathlib.Omega.{arith}
use borrow.Author.Tests.{ne_eqb}
use lib.ListN.{length, take, drop, get_or, length-append, length-drop}
use lib.Seq.{append_snoc, take-append_seam, drop-append_seam, drop-length}
use Rattle.seq.specs.List.{All}
use Rattle.store.specs.Store.{Reply, accept, answer, left}
use Rattle.store.specs.History.{after}
use Rattle.ring_buf.specs.Ring.{wrap, append, lead, leave}
use Rattle.msgq.specs.Msgq.{Msgq, counts, having, max, used, read_idx, write_idx, wakes_writer}
use Rattle.msgq.specs.Post.{new}
use Rattle.msgq.specs.History.{Call, putting, putting_front, getting, peeking, purging, Good}
use Rattle.msgq.specs.HandOver.{Waited, Event, decision, stored, led, read, happens, Fair, Purged, HandsOver, Refills, Refused, OnlyEmpty}
use Rattle.msgq.proofs.Decisions.{put-wakes, get-wakes}
use Rattle.msgq.proofs.Calls.{stores, front_yes, reads}
use Rattle.msgq.proofs.Goods.{good-put, good-front, good-leave}
use Rattle.msgq.proofs.Histories.{new-good}
use Rattle.msgq.proofs.Agreements.{read-within, write-within}
use Rattle.msgq.proofs.Waiters.{put-sane, get-sane, After, by_size, put_fair, front_fair, peek_fair, purge_fair}
use Rattle.msgq.proofs.Getters.{waited, get_fair}

-- one call
keeps : (c z : ℕ) (s : Waited) (p : Fair c z s) (k : Call) (b : Bool) → After c z s p k b
keeps c z s p (putting m) b = by_size c z s p (putting m) b (length m) _ refl (put_fair c z s p m b)
keeps c z s p (putting_front m) b = by_size c z s p (putting_front m) b (length m) _ refl (front_fair c z s p m b)
keeps c z s p (getting n) b =
    by_size c z s p (getting n) b n _ refl (λ e. get_fair c z s.queue s.readers s.got s.line s.turned n b e s.writers p)
keeps c z s p (peeking n i) b = peek_fair c z s p n i (answer (decision (peeking n i) b s))
keeps c z s p purging b = purge_fair c z s p b

pub fair : (c z : ℕ) (s : Waited) (es : List Event) → Fair c z s → Fair c z (after happens s es)
fair c z s [] p = p
fair c z s (e ∷ es) p = keeps c z (after happens s es) (fair c z s es p) e.call e.no_wait

-- any calls on a new queue of c messages of z bytes, for which nobody waits
pub always_fair : (c z : ℕ) (b : List ℕ) (es : List Event) → 0 < c → Fair c z (after happens (waited (new z c b) 0 [] [] [] []) es)
always_fair c z b es f =
    fair c z (waited (new z c b) 0 [] [] [] []) es
    (record { good = new-good c z b f; sizes = tt; no_message = λ v. refl; no_room = λ v. absurd (omega arith); line = refl })

pub purges : (c z : ℕ) (s : Waited) (b : Bool) → Fair c z s → Purged s (happens s (record { call = purging; no_wait = b }))
purges c z s b p =
    record {
      none_held = drop-length s.queue.ring.held;
      no_writer = refl;
      woken = refl;
      readers = refl;
      cut = ap (take (length s.got)) (sym p.line) ∙ take-append_seam s.got (s.queue.ring.held ++ s.writers);
      out = refl;
    }

-- ---- what a hand-over is

module _ (c z : ℕ) (q : Msgq) (g : Good c z q) where
  pub hands_over : (m : List ℕ) → length m ≡ z → q.ring.held ≡ [] → HandsOver m q
  hands_over m e n =
      let f : used q ≡ 0 = ap length n in
      let h : used q < c = omega (arith, g.read) in
      let x = stores c z q g m e h in
      let a = having (append (m ∷ []) q.ring) q in
      let y = reads c z a (good-put c z q g m h e) (omega (arith, length-append q.ring.held (m ∷ []))) in
      let l : led m q ≡ having (lead m q.ring) q = ap (λ (t : Reply Msgq). left t q) (front_yes c z q g m e h) in
      let v = reads c z (having (lead m q.ring) q) (good-front c z q g m h e) (omega arith) in
      record {
        decided = λ k. put-wakes (write_idx q) (used q) (max q) true k (put-sane c z q g true (λ v. f)) (λ v. absurd (omega (arith, g.max))) refl;
        same = ap (λ (t : Msgq). (read t).ring.held) x ∙ ap (λ (t : Msgq). t.ring.held) y ∙ ap (λ (l : List (List ℕ)). drop 1 (l ++ m ∷ [])) n ∙ sym n;
        gets_it = ap (λ (t : Msgq). get_or t.ring.held 0 []) x ∙ ap (λ (l : List (List ℕ)). get_or (l ++ m ∷ []) 0 []) n;
        same_front = ap (λ (t : Msgq). (read t).ring.held) l ∙ ap (λ (t : Msgq). t.ring.held) v;
        gets_front = ap (λ (t : Msgq). get_or t.ring.held 0 []) l;
      }

  pub refills : (w : List ℕ) → length w ≡ z → used q ≡ c → Refills w q
  refills w e n =
      let f : 0 < used q = omega (arith, g.read) in
      let x = reads c z q g f in
      let l = good-leave c z q g 1 f in
      let d : used (having (leave 1 q.ring) q) < c = omega (arith, length-drop 1 q.ring.held) in
      let y : stored w (read q) ≡ having (append (w ∷ []) (leave 1 q.ring)) q = ap (stored w) x ∙ stores c z (having (leave 1 q.ring) q) l w e d in
      record {
        decided = λ k. get-wakes (read_idx q) (used q) (max q) true k (get-sane c z q g true (λ v. n)) (wrap (read_idx q + 1) (max q)) (λ v. absurd (omega arith)) refl refl
            ∙ (λ i. accept (counts (read_idx (sym x i)) ((sym (length-drop 1 q.ring.held) ∙ ap used (sym x)) i)) wakes_writer []);
        behind = ap (λ (t : Msgq). t.ring.held) y;
        full = ap used y ∙ length-append (drop 1 q.ring.held) (w ∷ []) ∙ omega (arith, length-drop 1 q.ring.held, g.max);
      }

  pub refuses : Refused q
  refuses =
      record {
        reader = λ f k. rw (write-within c z q g, ne_eqb (used q) 0 (λ v. absurd (omega arith)));
        writer = λ f k. rw (read-within c z q g, ne_eqb (used q) (max q) (λ v. absurd (omega arith)));
      }

-- ---- only past nothing

only_empty' : (z : ℕ) (l got : List (List ℕ)) → 0 < z → All (λ (m : List ℕ). length m ≡ z) l
    → ((m : List ℕ) → length m ≡ z → (got ++ m ∷ []) ++ l ≡ (got ++ l) ++ m ∷ []) → l ≡ []
only_empty' z [] got f a h = refl
only_empty' z ([] ∷ l) got f a h = absurd (omega (arith, a.0))
only_empty' z ((x ∷ r) ∷ l) got f a h =
    let e = h (suc x ∷ r) a.0 in
    let y : (suc x ∷ r) ∷ (x ∷ r) ∷ l ≡ (x ∷ r) ∷ (l ++ (suc x ∷ r) ∷ []) =
    sym (ap (drop (length got)) (append_snoc got (suc x ∷ r) ((x ∷ r) ∷ l)) ∙ drop-append_seam got ((suc x ∷ r) ∷ (x ∷ r) ∷ l)) ∙ ap (drop (length got)) e
    ∙ ap (drop (length got)) (append_assoc got ((x ∷ r) ∷ l) ((suc x ∷ r) ∷ [])) ∙ drop-append_seam got ((x ∷ r) ∷ (l ++ (suc x ∷ r) ∷ [])) in
    let v : suc x ≡ x = cc in
    absurd (omega arith)

pub only-empty : (c z : ℕ) (q : Msgq) (got : List (List ℕ)) → 0 < z → Good c z q → OnlyEmpty z q got
only-empty c z q got f g h = only_empty' z q.ring.held got f g.messages h
