-- The words that a call hands out are those of the threads that the step wakes, as many as its answer says. Assumes nothing.
use mathlib.Core.Path.{◌≡◌, refl, sym, ap, subst, ◌∙◌}
use mathlib.Core.Bool.{Bool, true, false, cond}
use mathlib.Core.List.{List, [], ◌∷◌, map}
use Prim.Native.Nat.{ℕ, ◌≤◌}
use native.Mathlib.Omega.{arith}
use lib.Dec.{ltb}
use lib.IntN.{ℤ, pos, negsuc}
use lib.ListN.{length, length-map}
use Rattle.seq.specs.Word as half
use Rattle.thread.specs.Code.{enomem, ebusy}
use Rattle.thread.specs.Caller.{caller_code}
use Rattle.wait_queue.specs.Queue.{max_waiters, entry, ident, holds, joined}
use Rattle.wait_queue.specs.Queue as queue
use Rattle.wait_queue.specs.Turn.{waits, parked}
use Rattle.wait_queue.proofs.Answers.{ident-entry}
use Rattle.wait_queue.proofs.Insertion.{prio-entry}
use Rattle.kind.specs.Verdict.{gone, keep, park, wake, Verdict, deny, allow}
use Rattle.kind.specs.Kind.{Kind}
use Rattle.store.specs.Store as store
use Rattle.store.proofs.Laws.{carry-out, carry-answer}
use Rattle.kind.specs.Object.{Object, thread, carried}
use Rattle.system.specs.Sum.{mapped}
use Rattle.system.specs.System.{number, Slot, object, Sys, Woken, deed, woken, unless, thing, outcome, verdict, visited, called}
use Rattle.system.specs.Rules.{Fine}
use Rattle.system.specs.Functions.{heard}
use Rattle.system.specs.Link.{signed, read, word}
use Rattle.system.proofs.Calls.{barred, granted}

-- a verdict on an object at which q wait: it wakes m n at most where n wait, by an answer that is no refusal, as many as c says of the answer,
-- and each with a result that its word tells
abbrev pub Within : {N W : Type 0} → (ℕ → ℕ) → (ℕ → ℕ) → List ℕ → Verdict N W → Type 0
Within m c q (deny r) = heard c r ≡ 0
Within m c q (allow n keep r) = heard c r ≡ 0
Within m c q (allow n (park x) r) = c 1 ≡ 0
Within m c q (allow n (wake p f) (pos r)) =
    (length (gone ident p q) ≤ m (length q)) × (length (gone ident p q) ≡ c r) × ((t : ℕ) → signed (half.word (f t)) ≡ f t)
Within m c q (allow n (wake p f) (negsuc r)) = ⊥

module _ (m c : ℕ → ℕ) (q : List ℕ) where
  pub within : {N W : Type 0} (b : Bool) (d e : Verdict N W) → Within m c q d → Within m c q e → Within m c q (cond b d e)
  within true d e x y = x
  within false d e x y = y

  pub within-part : {M N X Y : Type 0} (f : M → N) (g : X → Y) (d : Verdict M X) → Within m c q d → Within m c q (mapped f g d)
  within-part f g (deny r) x = x
  within-part f g (allow n keep r) x = x
  within-part f g (allow n (park y) r) x = x
  within-part f g (allow n (wake p h) (pos r)) x = x
  within-part f g (allow n (wake p h) (negsuc r)) x = absurd x

-- who waits wakes nobody
pub parked-none : (w : ℕ) (q : List ℕ) → store.out (parked w q) ≡ []
parked-none w q = go (holds (ident w) q) (ltb (length q) max_waiters)
  where
    go : (a b : Bool) → store.out (cond a (store.refuse ebusy) (cond b (store.accept (joined w q) waits []) (store.refuse enomem))) ≡ []
    go true b = refl
    go false true = refl
    go false false = refl

parked-heard : (c : ℕ → ℕ) (w : ℕ) (q : List ℕ) → c 1 ≡ 0 → heard c (store.answer (parked w q)) ≡ 0
parked-heard c w q x = go (holds (ident w) q) (ltb (length q) max_waiters)
  where
    go : (a b : Bool) → heard c (store.answer (cond a (store.refuse ebusy) (cond b (store.accept (joined w q) waits []) (store.refuse enomem)))) ≡ 0
    go true b = refl
    go false true = x
    go false false = refl

words : (f : ℕ → ℤ) (l : List ℕ) → map (λ x. queue.woken (f (ident x)) x) l ≡ map word (map (λ x. record { thread = ident x; result = f (ident x) }) l)
words f [] = refl
words f (x ∷ l) =
    let e : ident (ident x) ≡ ident x = omega arith in
    rw (words f l, e)

reads-back : (f : ℕ → ℤ) → ((t : ℕ) → signed (half.word (f t)) ≡ f t) → (l : List ℕ)
    → map read (map word (map (λ x. record { thread = ident x; result = f (ident x) }) l)) ≡ map (λ x. record { thread = ident x; result = f (ident x) }) l
reads-back f h [] = refl
reads-back f h (x ∷ l) =
    let a : ident (entry (half.word (f (ident x))) (ident (ident x))) ≡ ident (ident x) = ident-entry (half.word (f (ident x))) (ident (ident x))
    (omega arith) in
    let b : half.high (entry (half.word (f (ident x))) (ident (ident x))) ≡ half.word (f (ident x)) = prio-entry (half.word (f (ident x))) (ident (ident x))
    (omega arith) in
    let c : ident (ident x) ≡ ident x = omega arith in
    rw (reads-back f h l, a, b, c, h (ident x)) refl

unless-none : (z : ℤ) → unless {A = List Woken} z [] [] ≡ []
unless-none (pos c) = refl
unless-none (negsuc c) = refl

module _ {K : Kind} (s : Sys K) (g : Fine s) (i o : ℕ) (k : K.Call) (n : K.Num) (h : s.slot o ≡ object n) where
  abbrev q : List ℕ
  q = s.queue o

  abbrev l : List Woken
  l = (called s i o k).2

  -- as it is carried out
  abbrev given : Verdict K.Num K.Wish → store.Reply (Object K.Num)
  given d = carried (thread i (s.prio i) 1) d (thing s o n)

  abbrev awake : ℤ → Verdict K.Num K.Wish → List Woken
  awake z d = unless z [] (woken (deed d) q)

  module _ (m c : ℕ → ℕ) where
    told : (d : Verdict K.Num K.Wish) → Within m c q d → store.out (given d) ≡ map word (awake (store.answer (given d)) d)
    told (deny r) x = rw (unless-none r) refl
    told (allow a keep r) x = rw (unless-none r) refl
    told (allow a (park y) r) x =
        carry-out _ (parked (entry (s.prio i) i) q) ∙ parked-none (entry (s.prio i) i) q ∙ rw (unless-none (store.answer (given (allow a (park y) r)))) refl
    told (allow a (wake p f) (pos r)) x = words f (gone ident p q)
    told (allow a (wake p f) (negsuc r)) x = absurd x

    few : (d : Verdict K.Num K.Wish) (z : ℤ) → Within m c q d → length (awake z d) ≤ m (length q)
    few d (negsuc r) x = omega arith
    few (deny r) (pos z) x = omega arith
    few (allow a keep r) (pos z) x = omega arith
    few (allow a (park y) r) (pos z) x = omega arith
    few (allow a (wake p f) (pos r)) (pos z) x =
        let e : length (woken {W = K.Wish} (wake p f) q) ≡ length (gone ident p q) = length-map (gone ident p q) _ in
        omega (arith, e, x.0)
    few (allow a (wake p f) (negsuc r)) (pos z) x = absurd x

    counted : (d : Verdict K.Num K.Wish) → Within m c q d → length (awake (store.answer (given d)) d) ≡ heard c (store.answer (given d))
    counted (deny r) x = rw (unless-none r) (sym x)
    counted (allow a keep r) x = rw (unless-none r) (sym x)
    counted (allow a (park y) r) x =
        rw (unless-none (store.answer (given (allow a (park y) r))))
        (sym (ap (heard c) (carry-answer _ (parked (entry (s.prio i) i) q)) ∙ parked-heard c (entry (s.prio i) i) q x))
    counted (allow a (wake p f) (pos r)) x = length-map (gone ident p q) _ ∙ x.1
    counted (allow a (wake p f) (negsuc r)) x = absurd x

    read_again : (d : Verdict K.Num K.Wish) (z : ℤ) → Within m c q d → map read (map word (awake z d)) ≡ awake z d
    read_again d (negsuc r) x = refl
    read_again (deny r) (pos z) x = refl
    read_again (allow a keep r) (pos z) x = refl
    read_again (allow a (park y) r) (pos z) x = refl
    read_again (allow a (wake p f) (pos r)) (pos z) x = reads-back f x.2 (gone ident p q)
    read_again (allow a (wake p f) (negsuc r)) (pos z) x = absurd x

    -- the words of the outcome are those of the step, not too many, and as many as the answer says
    module _ (x : Within m c q (verdict s i o k n)) where
      pub handed_out : store.out (outcome s i o k n) ≡ map word l
      handed_out =
          subst (λ (y : Slot K.Num). store.out (outcome s i o k n) ≡ map word (visited y s i o k).2) (sym h)
          (go (caller_code (s.prio i) (number (s.state i))) refl)
        where
          go : (z : ℤ) → caller_code (s.prio i) (number (s.state i)) ≡ z
              → store.out (outcome s i o k n) ≡ map word (awake (store.answer (outcome s i o k n)) (verdict s i o k n))
          go (negsuc r) z = rw (barred s i o k n (g.formed o n h) r z) refl
          go (pos r) z = rw (granted s i o k n (g.formed o n h) r z) (told (verdict s i o k n) x)

      pub handed-few : length l ≤ m (length q)
      handed-few =
          subst (λ (y : Slot K.Num). length (visited y s i o k).2 ≤ m (length q)) (sym h) (few (verdict s i o k n) (store.answer (outcome s i o k n)) x)

      pub handed-read : map read (map word l) ≡ l
      handed-read =
          subst (λ (y : Slot K.Num). map read (map word (visited y s i o k).2) ≡ (visited y s i o k).2) (sym h)
          (read_again (verdict s i o k n) (store.answer (outcome s i o k n)) x)

      pub handed-count : length l ≡ heard c (called s i o k).1
      handed-count =
          subst (λ (y : Slot K.Num). length (visited y s i o k).2 ≡ heard c (visited y s i o k).1) (sym h)
          (go (caller_code (s.prio i) (number (s.state i))) refl)
        where
          go : (z : ℤ) → caller_code (s.prio i) (number (s.state i)) ≡ z
              → length (awake (store.answer (outcome s i o k n)) (verdict s i o k n)) ≡ heard c (store.answer (outcome s i o k n))
          go (negsuc r) z = rw (barred s i o k n (g.formed o n h) r z) refl
          go (pos r) z = rw (granted s i o k n (g.formed o n h) r z) (counted (verdict s i o k n) x)
