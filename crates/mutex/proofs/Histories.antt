-- Any sequence of calls keeps what a mutex promises. Assumes nothing.
use mathlib.Core.Path.{◌≡◌, refl, sym, ap, ◌∙◌}
use mathlib.Core.Bool.{Bool, true, false, cond}
use mathlib.Core.List.{List, [], ◌∷◌}
use Prim.Native.Nat.{ℕ, ◌≤◌, ◌<◌}
use native.Mathlib.Omega.{arith}
use lib.Dec.{eqb}
use lib.IntN.{negsuc}
use borrow.Author.Tests.{eq-eqb, ne_eqb, ltb-true, eqb-false}
use Rattle.seq.specs.List.{any}
use Rattle.seq.proofs.Order.{clash, has-insert}
use Rattle.seq.proofs.Sub.{sub_has, others_sub}
use Rattle.store.specs.Store.{Reply, answer, left}
use Rattle.wait_queue.specs.Queue.{entry, prio, ident, of, holds, Single}
use Rattle.wait_queue.proofs.Answers.{ident-entry}
use Rattle.wait_queue.proofs.Well.{well_empty}
use Rattle.kind.specs.Kind.{plain}
use Rattle.kind.specs.Object as object
use Rattle.kind.specs.Object.{Object, Caller, named, name}
use Rattle.kind.specs.History.{Event, calls, asks, leaves, next, Good, Lasting}
use Rattle.kind.proofs.Picks.{none_any}
use Rattle.kind.proofs.Histories.{throughout, always}
use Rattle.mutex.specs.Mutex.{Owner, nobody, thread, Mutex, Call, lock, try_lock, unlock, release, owns, formed, max_count, free, mutex_kind}
use Rattle.mutex.specs.History.{fresh, after, same, counts, tally, begins, depth, Promise}
use Rattle.mutex.proofs.Law.{mk, free-empty, mutex_lawful}
use Rattle.mutex.proofs.Moves.{Move, refuses, takes, nests, joins, unnests, frees, hands, moves}

-- the owner is not in the queue
abbrev Apart : Object Mutex → Type 0
Apart s = (i : ℕ) → s.num.owner ≡ thread i → holds i s.queue ≡ false

pub thread-is : {i j : ℕ} → thread i ≡ thread j → i ≡ j
thread-is h = cc

pub never : {A : Type 0} {i : ℕ} → nobody ≡ thread i → A
never h = absurd (let x : ◌≡◌ {A = ℕ} 0 1 = cc in omega arith)

same_self : (o : Owner) → same o o ≡ true
same_self nobody = refl
same_self (thread i) = eq-eqb i i refl

-- a call
module _ (k : Call) (w : Caller) (s : Object Mutex) (g : Good mutex_kind plain s) (a : Apart s) where
  free-queue : s.num.owner ≡ nobody → s.queue ≡ []
  free-queue h = none_any s.queue (free-empty s.num.count (any s.queue) (rw h at g.numbers)).1

  pub apart_next : ((i p st : ℕ) → w ≡ object.thread i p st → i < 4294967296) → (y : Reply (Object Mutex)) → Move k w s y → Apart (left y s)
  apart_next small y (refuses r e) = rw e a
  apart_next small y (takes h e) = rw (e, free-queue h) (λ i z. refl)
  apart_next small y (nests h l c e) = rw e a
  apart_next small y (joins i p st j u h n e) =
      rw e
      (λ i' z.
      let t : j ≡ i' = thread-is (sym h ∙ z) in
      let x : ident (entry p i) ≡ i = ident-entry p i (small i p st u) in
      has-insert prio (of i') (entry p i) s.queue ∙ rw (x, ne_eqb i i' (λ v. n (t ∙ sym v))) (a i' z))
  apart_next small y (unnests h c e) = rw e a
  apart_next small y (frees h n e) = rw e (λ i z. never z)
  apart_next small y (hands x t h q e) =
      let v : Single (x ∷ t) = rw q at g.queue.single in
      rw e (λ i z. rw (sym (thread-is z)) v.0)

  -- the count after it, from the count before
  abbrev Counts : Reply (Object Mutex) → Type 0
  Counts y =
      (left y s).num.count
      ≡ cond (same s.num.owner (left y s).num.owner) (cond (owns (name w) s.num.owner) (counts k (answer y) s.num.count) s.num.count)
      (begins (left y s).num.owner)

  refused-count : (b : Bool) (r : ℕ) → s.num.count ≡ cond b (counts k (negsuc r) s.num.count) s.num.count
  refused-count true r = go k
    where
      go : (k : Call) → s.num.count ≡ counts k (negsuc r) s.num.count
      go lock = refl
      go try_lock = refl
      go unlock = refl
      go release = refl
  refused-count false r = refl

  pub count_next : (y : Reply (Object Mutex)) → Move k w s y → Counts y
  count_next y (refuses r e) = rw (e, same_self s.num.owner) (refused-count (owns (name w) s.num.owner) r)
  count_next y (takes h e) = rw (e, h) refl
  count_next y (nests h l c e) = rw (e, h, eq-eqb (name w) (name w) refl, c s.num.count) refl
  count_next y (joins i p st j u h n e) = rw (e, h, eq-eqb j j refl, u, ne_eqb j i n) refl
  count_next y (unnests h c e) = rw (e, h, eq-eqb (name w) (name w) refl, c s.num.count) refl
  count_next y (frees h n e) = rw (e, h) refl
  count_next y (hands x t h q e) =
      let v : holds (name w) (x ∷ t) ≡ false = rw q at (a (name w) h) in
      rw (e, h, other (eqb (ident x) (name w)) refl v) refl
    where
      other : (b : Bool) → eqb (ident x) (name w) ≡ b → cond b true (holds (name w) t) ≡ false → eqb (name w) (ident x) ≡ false
      other true u z = clash z
      other false u z = ne_eqb (name w) (ident x) (λ v. eqb-false (ident x) (name w) u (sym v))

  pub small-next : s.num.count ≤ max_count → (y : Reply (Object Mutex)) → Move k w s y → (left y s).num.count ≤ max_count
  small-next b y (refuses r e) = rw e b
  small-next b y (takes h e) = rw e (omega arith)
  small-next b y (nests h l c e) = rw e (omega (arith, l))
  small-next b y (joins i p st j u h n e) = rw e b
  small-next b y (unnests h c e) = rw e (omega (arith, b))
  small-next b y (frees h n e) = rw e (omega arith)
  small-next b y (hands x t h q e) = rw e (omega arith)

-- an event
unwaiting : (j : ℕ) (i p st : ℕ) → named j ≡ object.thread i p st → i < 4294967296
unwaiting j i p st h = absurd (let x : ◌≡◌ {A = ℕ} 0 1 = cc in omega arith)

waiting : (j r u : ℕ) → j < 4294967296 → (i p st : ℕ) → object.thread j r u ≡ object.thread i p st → i < 4294967296
waiting j r u b i p st h = let x : j ≡ i = cc in omega arith

module _ (s : Object Mutex) (g : Good mutex_kind plain s) (a : Apart s) where
  left-queue : (i j : ℕ) (b : Bool) → holds i s.queue ≡ b → holds j s.queue ≡ false → holds j (next mutex_kind plain s (leaves i)).queue ≡ false
  left-queue i j true h z = rw h (sub_has (of j) (others_sub (of i) s.queue) z)
  left-queue i j false h z = rw h z

  left-numbers : (i : ℕ) (b : Bool) → holds i s.queue ≡ b → (next mutex_kind plain s (leaves i)).num ≡ s.num
  left-numbers i true h = rw h
  left-numbers i false h = rw h

  apart-step : (x : Event Call) → Apart (next mutex_kind plain s x)
  apart-step (calls i k) = apart_next k (named i) s g a (unwaiting i) _ (moves (named i) k s g.numbers)
  apart-step (asks i p st h k) = apart_next k (object.thread i p st) s g a (waiting i p st h) _ (moves (object.thread i p st) k s g.numbers)
  apart-step (leaves i) = λ j z.
      left-queue i j (holds i s.queue) refl (a j (sym (ap (λ (m : Mutex). m.owner) (left-numbers i (holds i s.queue) refl)) ∙ z))

  count-step : (x : Event Call) → (next mutex_kind plain s x).num.count
      ≡ cond (same s.num.owner (next mutex_kind plain s x).num.owner) (tally s x s.num.count) (begins (next mutex_kind plain s x).num.owner)
  count-step (calls i k) = count_next k (named i) s g a _ (moves (named i) k s g.numbers)
  count-step (asks i p st h k) = count_next k (object.thread i p st) s g a _ (moves (object.thread i p st) k s g.numbers)
  count-step (leaves i) = rw (left-numbers i (holds i s.queue) refl, same_self s.num.owner) refl

  small-step : s.num.count ≤ max_count → (x : Event Call) → (next mutex_kind plain s x).num.count ≤ max_count
  small-step b (calls i k) = small-next k (named i) s g a b _ (moves (named i) k s g.numbers)
  small-step b (asks i p st h k) = small-next k (object.thread i p st) s g a b _ (moves (object.thread i p st) k s g.numbers)
  small-step b (leaves i) = rw (left-numbers i (holds i s.queue) refl) b

-- any events
abbrev Fit : Object Mutex → Type 0
Fit s = Apart s × (s.num.count ≤ max_count)

new : Good mutex_kind plain fresh
new = record { numbers = refl; queue = well_empty }

fits : (xs : List (Event Call)) → Fit (after xs)
fits xs =
    throughout mutex_kind mutex_lawful plain Fit (λ s x g p. (apart-step s g p.0 x, small-step s g p.0 p.1 x)) fresh xs new
    (λ i h. never h, omega arith)

counts-depth : (xs : List (Event Call)) → (after xs).num.count ≡ depth xs
counts-depth [] = refl
counts-depth (x ∷ past) =
    count-step (after past) (always mutex_kind mutex_lawful plain free past refl).good (fits past).0 x
    ∙ ap (λ (d : ℕ). cond (same (after past).num.owner (after (x ∷ past)).num.owner) (tally (after past) x d) (begins (after (x ∷ past)).num.owner))
    (counts-depth past)

module _ (o : Owner) (c : ℕ) (q : List ℕ) (f : formed (mk o c) (any q) ≡ true) where
  pub has-count : (i : ℕ) → o ≡ thread i → 0 < c
  has-count i h = ltb-true 0 c (rw h at f)

  pub has-none : o ≡ nobody → (c ≡ 0) × (q ≡ [])
  has-none h = let z = free-empty c (any q) (rw h at f) in (z.0, none_any q z.1)

pub mutex_history : (xs : List (Event Call)) → Promise xs
mutex_history xs =
    let t : Lasting mutex_kind plain fresh xs = always mutex_kind mutex_lawful plain free xs refl in
    let f : Fit (after xs) = fits xs in
    let n : formed (after xs).num (any (after xs).queue) ≡ true = t.good.numbers in
    let m : Mutex = (after xs).num in
    record {
      depth = counts-depth xs;
      locked = has-count m.owner m.count (after xs).queue n;
      small = f.1;
      empty = λ h. (has-none m.owner m.count (after xs).queue n h).0;
      idle = λ h. (has-none m.owner m.count (after xs).queue n h).1;
      apart = f.0;
      queue = t.queue;
    }
