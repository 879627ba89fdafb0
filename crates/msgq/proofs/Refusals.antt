-- What upstream demands of its callers is refused here, with -22, and nothing changes. Assumes nothing.
use mathlib.Core.Path.{◌≡◌, refl, ◌∙◌}
use mathlib.Core.Bool.{Bool, true, false, cond}
use mathlib.Core.Logic.{◌⊎◌, ⊎_elim}
use mathlib.Core.List.{List}
use Prim.Native.Nat.{ℕ, ◌≤◌, ◌<◌}
use native.Mathlib.Omega.{arith}
use borrow.Author.Tests.{le-ltb, lt-leb, ne_eqb}
use lib.Dec.{eqb, ltb}
use lib.IntN.{ℤ}
use lib.ListN.{length, get_or}
use Rattle.seq.proofs.Order.{cond_same}
use Rattle.thread.specs.Code.{einval}
use Rattle.store.specs.Store.{Reply, refuse, Did, looks}
use Rattle.store.proofs.Laws.{kept_bad, kept_no, looks_bad, declined}
use Rattle.ring_buf.specs.Bytes.{numbers}
use Rattle.msgq.specs.Msgq.{Msgq, puts, gets, given}
use Rattle.msgq.specs.Post.{PutDecided, GetDecided, PutFrontDecided, PeekAtDecided, PeeksAt, sound, messages}
use Rattle.msgq.specs.History.{Call, does}
use Rattle.msgq.proofs.Decisions.{peek_insane}
use Rattle.msgq.proofs.Deciding.{kept}

module _ (h b : List ℕ) {r : ℤ} {h' b' : List ℕ} where
  -- a malformed queue
  pub call-refuses : (k : Call) → sound h b ≡ false → Did messages (does k) h b r h' b' → (r ≡ einval) × (h' ≡ h) × (b' ≡ b)
  call-refuses k e d = kept_bad messages (does k) h b d e

  -- a message, or a place for one, of another size
  pub size-refuses : (n : ℕ) (f : Msgq → Reply Msgq) → sound h b ≡ true → (n ≡ get_or h 3 0 → ⊥)
      → Did messages (λ (q : Msgq). given (eqb n q.size) (f q)) h b r h' b' → (r ≡ einval) × (h' ≡ h) × (b' ≡ b)
  size-refuses n f e g d = kept_no messages (λ (q : Msgq). given (eqb n q.size) (f q)) h b d e (rw (ne_eqb n (get_or h 3 0) g))

-- a look with a place of another size: told -22, and the place stays
module _ (h b o : List ℕ) (i : ℕ) (r : ℤ) (o' : List ℕ) (f : sound h b ≡ true) (e : length o ≡ get_or h 3 0 → ⊥) (d : PeeksAt i h b o r o') where
  pub peek-refuses : r ≡ einval
  peek-refuses = d.0.code ∙ rw (f, ne_eqb (length o) (get_or h 3 0) e)

  pub place-stays : o' ≡ o
  place-stays = d.1 ∙ rw (f, ne_eqb (length o) (get_or h 3 0) e)

pub look_refuses : (h b : List ℕ) (r : ℤ) (f : Msgq → ℤ) → sound h b ≡ false → r ≡ looks messages f h b → r ≡ einval
look_refuses h b r f e d = d ∙ looks_bad messages h b f e

-- ---- on plain numbers

pub bad_numbers : (c i n : ℕ) → (c ≤ i) ⊎ (c < n) → numbers c i n ≡ false
bad_numbers c i n e = ⊎_elim (λ f. rw (le-ltb i c f)) (λ f. rw (lt-leb n c f) (cond_same (ltb i c) false)) e

-- told -22, and the two words stay
abbrev Stays : ℕ → ℕ → ℤ → ℕ → ℕ → Type 0
Stays i u r i' u' = (r ≡ einval) × ((i' ≡ i) × (u' ≡ u))

module _ (t n c i u : ℕ) (r : ℤ) (i' u' : ℕ) where
  module _ (e : numbers c t n ≡ false) where
    pub put-decide-refuses : (w k : Bool) → PutDecided t n c w k i u r i' u' → Stays i u r i' u'
    put-decide-refuses w k d = kept d (rw e)

    pub get-decide-refuses : (w k : Bool) → GetDecided t n c w k i u r i' u' → Stays i u r i' u'
    get-decide-refuses w k d = kept d (rw e)

    pub front-decide-refuses : PutFrontDecided t n c i u r i' u' → Stays i u r i' u'
    front-decide-refuses d = kept d (rw e)

  -- a reader that waits while there are messages, a writer that waits while there is room
  pub reader-refuses : (k : Bool) → 0 < n → PutDecided t n c true k i u r i' u' → Stays i u r i' u'
  reader-refuses k f d = kept d (go (numbers c t n))
    where
      go : (b : Bool) → given (cond b (eqb n 0) false) (puts t n c true k) ≡ refuse einval
      go true = rw (ne_eqb n 0 (λ v. absurd (omega arith)))
      go false = refl

  pub writer-refuses : (k : Bool) → n < c → GetDecided t n c true k i u r i' u' → Stays i u r i' u'
  writer-refuses k f d = kept d (go (numbers c t n))
    where
      go : (b : Bool) → given (cond b (eqb n c) false) (gets t n c true k) ≡ refuse einval
      go true = rw (ne_eqb n c (λ v. absurd (omega arith)))
      go false = refl

pub peek-decide-refuses : (t n c j i : ℕ) (r : ℤ) (i' : ℕ) → numbers c t n ≡ false → PeekAtDecided t n c j i r i' → (r ≡ einval) × (i' ≡ i)
peek-decide-refuses t n c j i r i' e d = declined (peek_insane t n c j e) d
