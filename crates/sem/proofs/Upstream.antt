-- Our contracts imply those of Gale's sem.rs. Assumes nothing.
use mathlib.Core.Path.{◌≡◌, refl, sym, ap, ◌∙◌}
use mathlib.Core.Bool.{Bool, true, false, cond}
use mathlib.Core.Logic.{◌⊎◌, inl, inr}
use mathlib.Core.List.{List, [], ◌∷◌}
use Prim.Native.Nat.{ℕ, suc, ◌+◌, ◌-◌, ◌≤◌, ◌<◌}
use native.Mathlib.Numerals.{add-one}
use native.Mathlib.Omega.{arith}
use lib.Dec.{ltb, leb}
use lib.IntN.{ℤ, pos}
use lib.ListN.{length, get_or, length-map}
use borrow.Author.Tests.{lt-ltb, le-ltb, ltb-true, ltb-false, le-leb, leb-false}
use Rattle.seq.specs.List.{any}
use Rattle.seq.proofs.Order.{clash, length-insert}
use Rattle.thread.specs.Code.{ok, eagain, ebusy, einval}
use Rattle.thread.specs.Priority.{max_priority}
use Rattle.thread.specs.Thread.{running}
use Rattle.store.specs.Store.{Reply, accept, answer, left}
use Rattle.store.proofs.Laws.{kept, looks-is}
use Rattle.wait_queue.specs.Queue.{max_waiters, entry, prio, ident, woken, waiting, holds, joined, Well}
use Rattle.wait_queue.specs.Turn.{waits}
use Rattle.kind.specs.Kind.{plain}
use Rattle.kind.specs.Object.{Object, anyone, thread, call, reads, sane}
use Rattle.kind.specs.History.{Event, calls, asks, next, Good, Lasting}
use Rattle.kind.proofs.Memory.{Housed, housed-formed, malformed, shown}
use Rattle.kind.proofs.Histories.{always, step}
use Rattle.sem.specs.Sem.{Sem, Call, give, take, try_take, reset, formed, sem_kind}
use Rattle.sem.specs.Post.{layout, place, give_out, try_take_out, take_out, reset_out, Gets, Starts, Gives, TriesTake, Takes, Resets, GetsCount, GetsLimit, CountsWaiters, GiveDecided, TakeDecided}
use Rattle.sem.specs.Upstream.{Inv, Idle, GiveDecide, TakeDecide, Init, Give, TryTake, TakeBlocking, Reset, CountGet, LimitGet, NumWaiters}
use Rattle.sem.specs.History.{fresh, after}
use Rattle.sem.proofs.Law.{mk, Fine, is-fine, fine-is, idle, sem_lawful}
use Rattle.kind.proofs.Answers.{call_no, fitting_no, seated, unseen}
use Rattle.kind.proofs.Forward.{opened-code, opened-made}
use Rattle.sem.proofs.Histories.{limit-next, sem_history}

abbrev pub whole : ℕ → ℕ → List ℕ → Object Sem
whole c l q = record { num = mk c l; queue = q }

-- decide functions
pub give_decide_lem : (c l : ℕ) (w : Bool) (r : ℤ) → 0 < l → c ≤ l → (w ≡ true → c ≡ 0) → GiveDecided c l w r → GiveDecide c l w r
give_decide_lem c l true r a b z d =
    record {
      wakes = λ q. d (0 ∷ []) refl ∙ rw (fine-is c l true a b z);
      increments = λ q. clash q;
      saturates = λ q. clash q;
    }
give_decide_lem c l false r a b z d =
    record {
      wakes = λ q. clash (sym q);
      increments = λ q k. d [] refl ∙ rw (idle c l a b, lt-ltb c l k);
      saturates = λ q k. d [] refl ∙ rw (idle c l a b, le-ltb c l k);
    }

pub decide-refuses : (c l : ℕ) (w : Bool) (r : ℤ) → formed (mk c l) w ≡ false → GiveDecided c l w r → r ≡ einval
decide-refuses c l true r f d = d (0 ∷ []) refl ∙ rw f
decide-refuses c l false r f d = d [] refl ∙ rw f

pub take_decide_lem : (c : ℕ) (w : Bool) (r : ℤ) → TakeDecided c w r → TakeDecide c w r
take_decide_lem c w r d = record { acquires = takes w d; blocks = busy w d; pends = wait w d }
  where
    f : formed (mk c (suc c)) false ≡ true
    f = idle c (suc c) (omega arith) (omega arith)

    takes : (u : Bool) → TakeDecided c u r → 0 < c → r ≡ ok
    takes true t k = t (suc c) [] f ∙ rw (f, lt-ltb 0 c k)
    takes false t k = t (suc c) [] f ∙ rw (f, lt-ltb 0 c k)

    busy : (u : Bool) → TakeDecided c u r → c ≡ 0 → u ≡ true → r ≡ ebusy
    busy true t z q = let y : c ≤ 0 = omega arith in t (suc c) [] f ∙ rw (f, le-ltb 0 c y)
    busy false t z q = clash (sym q)

    wait : (u : Bool) → TakeDecided c u r → c ≡ 0 → u ≡ false → r ≡ waits
    wait true t z q = clash q
    wait false t z q = let y : c ≤ 0 = omega arith in t (suc c) [] f ∙ rw (f, le-ltb 0 c y)

-- init
well_none : Well []
well_none = record { short = omega arith; sorted = tt; valid = tt; single = tt }

pub sem_init : (c l : ℕ) (h : List ℕ) (r : ℤ) (h' e : List ℕ) → 3 ≤ length h → Starts c l h r h' → Init c l r (layout.num h') (waiting e (get_or h' 2 0))
sem_init c l h r h' e k s = go (formed (mk c l) false) refl
  where
    code : r ≡ cond (formed (mk c l) false) ok einval
    code = opened-code sem_kind layout (mk c l) h r h' s ∙ rw (le-leb 3 (length h) k)

    never : (r ≡ ok → ⊥) → formed (mk c l) false ≡ true → ⊥
    never n f = n (code ∙ rw f)

    why : formed (mk c l) false ≡ false → (l ≡ 0) ⊎ (l < c)
    why f = by (ltb 0 l) (leb c l) refl refl
      where
        by : (a b : Bool) → ltb 0 l ≡ a → leb c l ≡ b → (l ≡ 0) ⊎ (l < c)
        by false b x y = inl (let z : l ≤ 0 = ltb-false 0 l x in omega arith)
        by true false x y = inr (leb-false c l y)
        by true true x y = clash (rw (x, y) at f)

    go : (b : Bool) → formed (mk c l) false ≡ b → Init c l r (layout.num h') (waiting e (get_or h' 2 0))
    go true f =
        let n : Fine c l false = is-fine c l false f in
        let m = opened-made sem_kind layout (mk c l) h r h' s (code ∙ rw f) in
        rw (m.0, m.1)
        (record {
          inv = λ q. record { limited = n.limited; under = n.under; queue = well_none };
          counted = λ q. refl;
          limited = λ q. refl;
          empty = λ q. refl;
          code = λ q. absurd (never q f);
          reason = λ q. absurd (never q f);
        })
    go false f =
        let no : r ≡ ok → ⊥ = λ q. let z : einval ≡ ok = sym (code ∙ rw f) ∙ q in let y : ◌≡◌ {A = ℕ} 0 1 = cc in omega arith in
        record {
          inv = λ q. absurd (no q);
          counted = λ q. absurd (no q);
          limited = λ q. absurd (no q);
          empty = λ q. absurd (no q);
          code = λ q. code ∙ rw f;
          reason = λ q. why f;
        }

-- the invariant with what it leaves out is our own
module _ (c l : ℕ) (q : List ℕ) (i : Inv (mk c l) q) (z : Idle (mk c l) q) where
  filled : any q ≡ true → 0 < length q
  filled = go q
    where
      go : (m : List ℕ) → any m ≡ true → 0 < length m
      go [] h = clash (sym h)
      go (x ∷ m) h = omega arith

  form : formed (mk c l) (any q) ≡ true
  form = fine-is c l (any q) i.limited i.under (λ h. z (filled h))

  good : Good sem_kind plain (whole c l q)
  good = record { numbers = form; queue = i.queue }

  -- after an event, too
  inv-of : (n : Sem) (m : List ℕ) → formed n (any m) ≡ true → Well m → Inv n m
  inv-of n m f w = let k = is-fine n.count n.limit (any m) f in record { limited = k.limited; under = k.under; queue = w }

  inv-after : (x : Event Call) → Inv (next sem_kind plain (whole c l q) x).num (next sem_kind plain (whole c l q) x).queue
  inv-after x = let t = step sem_kind sem_lawful plain (whole c l q) x good in inv-of _ _ t.numbers t.queue

  gives : Give (mk c l) q (answer (give_out (whole c l q))) (left (give_out (whole c l q)) (whole c l q)).num (left (give_out (whole c l q)) (whole c l q)).queue
  gives =
      record {
        inv = inv-after (calls 0 give);
        limit = limit-next (whole c l q) (calls 0 give);
        increments = up q form;
        saturates = full q form;
        kept = same q form;
        fewer = less q form;
      }
    where
      up : (m : List ℕ) → formed (mk c l) (any m) ≡ true → length m ≡ 0 → c < l → (left (give_out (whole c l m)) (whole c l m)).num.count ≡ c + 1
      up [] f n k = rw (f, lt-ltb c l k) (sym (add-one c))
      up (x ∷ m) f n k = absurd (omega arith)

      full : (m : List ℕ) → formed (mk c l) (any m) ≡ true → length m ≡ 0 → c ≡ l → (left (give_out (whole c l m)) (whole c l m)).num.count ≡ c
      full [] f n k = let y : l ≤ c = omega arith in rw (f, le-ltb c l y)
      full (x ∷ m) f n k = absurd (omega arith)

      same : (m : List ℕ) → formed (mk c l) (any m) ≡ true → 0 < length m → (left (give_out (whole c l m)) (whole c l m)).num.count ≡ c
      same [] f n = absurd (omega arith)
      same (x ∷ m) f n = rw f

      less : (m : List ℕ) → formed (mk c l) (any m) ≡ true → 0 < length m → length (left (give_out (whole c l m)) (whole c l m)).queue ≡ length m - 1
      less [] f n = absurd (omega arith)
      less (x ∷ m) f n = rw f (omega arith)

  tries : TryTake (mk c l) q (answer (try_take_out (whole c l q))) (left (try_take_out (whole c l q)) (whole c l q)).num (left (try_take_out (whole c l q)) (whole c l q)).queue
  tries =
      record {
        inv = inv-after (calls 0 try_take);
        limit = limit-next (whole c l q) (calls 0 try_take);
        waiters = stay (ltb 0 c) refl;
        taken = λ k. rw (form, lt-ltb 0 c k);
        acquired = λ k. rw (form, lt-ltb 0 c k);
        kept = λ k. let y : c ≤ 0 = omega arith in rw (form, le-ltb 0 c y);
        blocked = λ k. let y : c ≤ 0 = omega arith in rw (form, le-ltb 0 c y);
      }
    where
      stay : (b : Bool) → ltb 0 c ≡ b → length (left (try_take_out (whole c l q)) (whole c l q)).queue ≡ length q
      stay true y = rw (form, y)
      stay false y = rw (form, y)

  module _ (j p : ℕ) (small : j < 4294967296) (v : p < max_priority) (n : c ≡ 0) (room : length q < max_waiters) (absent : holds j q ≡ false) where
    -- the thread joins
    pub waits-now : take_out j p running (whole c l q) ≡ accept (whole c l (joined (entry p j) q)) waits []
    waits-now =
        let y : c ≤ 0 = omega arith in
        seated sem_kind plain j p take (whole c l q) (mk c l) tt waits form (rw (le-ltb 0 c y)) small v absent room

    blocks : TakeBlocking (mk c l) q (answer (take_out j p running (whole c l q))) (left (take_out j p running (whole c l q)) (whole c l q)).num (left (take_out j p running (whole c l q)) (whole c l q)).queue
    blocks =
        let t = waits-now in
        record {
          inv = inv-after (asks j p running small take);
          limit = ap (λ (y : Reply (Object Sem)). (left y (whole c l q)).num.limit) t;
          count = ap (λ (y : Reply (Object Sem)). (left y (whole c l q)).num.count) t;
          joined = λ k. ap (λ (y : Reply (Object Sem)). length (left y (whole c l q)).queue) t ∙ length-insert prio (entry p j) q ∙ sym (add-one (length q));
          stayed = λ k. absurd (k (ap answer t));
        }

  all-handed : (room : ℕ) → length q ≤ room → reset_out room (whole c l q) ≡ call sem_kind plain anyone reset (whole c l q)
  all-handed room k = rw (form, length-map q (woken eagain), le-leb (length q) room k)

  resets : (room : ℕ) → length q ≤ room
      → Reset (mk c l) q (answer (reset_out room (whole c l q))) (left (reset_out room (whole c l q)) (whole c l q)).num (left (reset_out room (whole c l q)) (whole c l q)).queue
  resets room k =
      rw (all-handed room k)
      (record {
        inv = inv-after (calls 0 reset);
        count = rw form;
        limit = rw form;
        empty = rw form;
        woken = rw form (ap pos (length-map q ident));
      })

-- the functions on memory
module _ (h e : List ℕ) (r : ℤ) (h' : List ℕ) (m : Housed layout h e) (i : Inv (layout.num h) (waiting e (get_or h 2 0))) (z : Idle (layout.num h) (waiting e (get_or h 2 0))) where
  pub sem_give : (w w' : ℕ) → Gives h e w r h' w' → Give (layout.num h) (waiting e (get_or h 2 0)) r (layout.num h') (waiting e (get_or h' 2 0))
  sem_give w w' d = shown layout give_out (Give (layout.num h) (waiting e (get_or h 2 0))) h e r h' e d.0 m (gives (get_or h 0 0) (get_or h 1 0) (waiting e (get_or h 2 0)) i z)

  pub sem_try_take : TriesTake h e r h' → TryTake (layout.num h) (waiting e (get_or h 2 0)) r (layout.num h') (waiting e (get_or h' 2 0))
  sem_try_take d = shown layout try_take_out (TryTake (layout.num h) (waiting e (get_or h 2 0))) h e r h' e d m (tries (get_or h 0 0) (get_or h 1 0) (waiting e (get_or h 2 0)) i z)

  pub sem_take-blocking : (j p : ℕ) (e' : List ℕ) → j < 4294967296 → p < max_priority → get_or h 0 0 ≡ 0 → length (waiting e (get_or h 2 0)) < max_waiters → holds j (waiting e (get_or h 2 0)) ≡ false
      → Takes j p running h e r h' e' → TakeBlocking (layout.num h) (waiting e (get_or h 2 0)) r (layout.num h') (waiting e' (get_or h' 2 0))
  sem_take-blocking j p e' s v n w a d =
      shown layout (take_out j p running) (TakeBlocking (layout.num h) (waiting e (get_or h 2 0))) h e r h' e' d m
      (blocks (get_or h 0 0) (get_or h 1 0) (waiting e (get_or h 2 0)) i z j p s v n w a)

  pub sem_reset : (out out' : List ℕ) → length (waiting e (get_or h 2 0)) ≤ length out → Resets h e out r h' out'
      → Reset (layout.num h) (waiting e (get_or h 2 0)) r (layout.num h') (waiting e (get_or h' 2 0))
  sem_reset out out' k d =
      shown layout (reset_out (length out)) (Reset (layout.num h) (waiting e (get_or h 2 0))) h e r h' e d.0 m
      (resets (get_or h 0 0) (get_or h 1 0) (waiting e (get_or h 2 0)) i z (length out) k)

  gets : (g : Object Sem → ℕ) → Gets g h e r → r ≡ pos (g (place.object h e))
  gets g d = d ∙ looks-is place h e (reads sem_kind (λ s. pos (g s))) (housed-formed layout h e m) ∙ rw (form (get_or h 0 0) (get_or h 1 0) (waiting e (get_or h 2 0)) i z)

  pub count_get_lem : GetsCount h e r → CountGet (layout.num h) r
  count_get_lem d = record { result = get_or h 0 0; is = gets (λ s. s.num.count) d; counted = refl; under = i.under }

  pub limit_get_lem : GetsLimit h e r → LimitGet (layout.num h) r
  limit_get_lem d = record { result = get_or h 1 0; is = gets (λ s. s.num.limit) d; limited = refl; above = i.limited }

  pub num_waiters_lem : CountsWaiters h e r → NumWaiters (waiting e (get_or h 2 0)) r
  num_waiters_lem d = gets (λ s. length s.queue) d

-- what upstream demands is refused here: a header that is not as it should be
module _ (h e : List ℕ) (r : ℤ) (h' : List ℕ) (s : sane sem_kind layout h e ≡ false) where
  abbrev Stays : Type 0
  Stays = (r ≡ einval) × (h' ≡ h)

  read : (r ≡ einval) × (h' ≡ h) × (e ≡ e) → Stays
  read k = (k.0, k.1)

  pub give-refuses : (w w' : ℕ) → Gives h e w r h' w' → Stays
  give-refuses w w' d = read (kept place give_out h e d.0 (call_no sem_kind layout plain anyone give h e s))

  pub try_take-refuses : TriesTake h e r h' → Stays
  try_take-refuses d = read (kept place try_take_out h e d (call_no sem_kind layout plain anyone try_take h e s))

  pub take-refuses : (j p st : ℕ) (e' : List ℕ) → Takes j p st h e r h' e' → Stays × (e' ≡ e)
  take-refuses j p st e' d = let k = kept place (take_out j p st) h e d (call_no sem_kind layout plain (thread j p st) take h e s) in ((k.0, k.1), k.2)

  pub reset-refuses : (out out' : List ℕ) → Resets h e out r h' out' → Stays
  reset-refuses out out' d =
      read (kept place (reset_out (length out)) h e d.0 (malformed sem_kind layout h e (reset_out (length out)) (fitting_no sem_kind plain anyone reset (length out)) s))

  pub get-refuses : (g : Object Sem → ℕ) → Gets g h e r → r ≡ einval
  get-refuses g d = d ∙ sym (unseen sem_kind layout (λ s. pos (g s)) h e s)

-- upstream's lemmas
-- lemma_invariant_inductive claims this in its comment: init makes the invariant, and every operation keeps it
pub invariant_inductive : (c l : ℕ) (xs : List (Event Call)) → c ≤ l → 0 < l → Inv (after c l xs).num (after c l xs).queue × Idle (after c l xs).num (after c l xs).queue
invariant_inductive c l xs h k =
    let t : Lasting sem_kind plain (fresh c l) xs = always sem_kind sem_lawful plain (mk c l) xs (idle c l k h) in
    let f = is-fine (after c l xs).num.count (after c l xs).num.limit (any (after c l xs).queue) t.good.numbers in
    (record { limited = f.limited; under = f.under; queue = t.good.queue }, (sem_history c l xs h k).idle)

-- lemma_give_take_roundtrip, on the semaphore and not on a number: a give, then a take, is the semaphore as it was
pub give-take_roundtrip : (c l : ℕ) → c < l → ((left (give_out (whole c l [])) (whole c l [])).num ≡ mk (suc c) l) × ((left (try_take_out (whole (suc c) l [])) (whole (suc c) l [])).num ≡ mk c l) × (answer (try_take_out (whole (suc c) l [])) ≡ ok)
give-take_roundtrip c l h =
    let f : formed (mk c l) false ≡ true = idle c l (omega arith) (omega arith) in
    let g : formed (mk (suc c) l) false ≡ true = idle (suc c) l (omega arith) h in (
      rw (f, lt-ltb c l h),
      rw (g, lt-ltb 0 (suc c) (omega arith)) (ap (λ (x : ℕ). mk x l) (omega arith)),
      rw (g, lt-ltb 0 (suc c) (omega arith)),
    )

-- lemma_give_saturation: a give never brings the count above the limit, whoever waits
pub give_saturation : (c l : ℕ) (q : List ℕ) → c ≤ l → (left (give_out (whole c l q)) (whole c l q)).num.count ≤ l
give_saturation c l q h = go (formed (mk c l) (any q)) q refl
  where
    up : (b : Bool) → ltb c l ≡ b → formed (mk c l) false ≡ true → (left (give_out (whole c l [])) (whole c l [])).num.count ≤ l
    up true y f = rw (f, y) (ltb-true c l y)
    up false y f = rw (f, y) h

    go : (b : Bool) (m : List ℕ) → formed (mk c l) (any m) ≡ b → (left (give_out (whole c l m)) (whole c l m)).num.count ≤ l
    go false m f = rw f h
    go true [] f = up (ltb c l) refl f
    go true (x ∷ m) f = rw f h

-- lemma_reset_returns_to_clean_state claims this in its comment: a reset semaphore is a new one with count 0
pub reset_clean : (c l room : ℕ) (q : List ℕ) → Inv (mk c l) q → Idle (mk c l) q → length q ≤ room
    → ((left (reset_out room (whole c l q)) (whole c l q)).num ≡ (fresh 0 l).num) × ((left (reset_out room (whole c l q)) (whole c l q)).queue ≡ (fresh 0 l).queue)
reset_clean c l room q i z k = rw (all-handed c l q i z room k, form c l q i z) (refl, refl)
