-- Any sequence of events leaves an object of a lawful kind as it should be, and its queue in the order of arrival. Assumes nothing.
use mathlib.Core.Path.{sym, ◌≡◌, refl, ◌∙◌, subst, ap}
use mathlib.Core.Bool.{Bool, true, false, cond}
use mathlib.Core.List.{List, [], ◌∷◌, ◌++◌, append_assoc, append-nil, map}
use Prim.Native.Nat.{ℕ, ◌<◌}
use native.Mathlib.Omega.{arith}
use lib.Dec.{ltb}
use lib.IntN.{ℤ, pos, negsuc}
use lib.ListN.{length}
use borrow.Author.Tests.{ltb-true, eq-eqb}
use Rattle.seq.specs.List.{any, chosen, Sub}
use Rattle.seq.proofs.Order.{has-insert}
use Rattle.seq.proofs.Sub.{sub_has, sub_all, sub_trans, sub_append, sub_front, others_sub, chosen-append, chosen_sub, chosen-insert}
use Rattle.thread.specs.Priority.{max_priority, valid}
use Rattle.thread.specs.Caller.{caller_code}
use Rattle.store.specs.Store.{left, asked}
use Rattle.wait_queue.specs.Queue.{max_waiters, entry, prio, ident, of, holds, joined, without, Well}
use Rattle.wait_queue.specs.Turn.{remove}
use Rattle.wait_queue.proofs.Insertion.{prio-entry}
use Rattle.wait_queue.proofs.Answers.{ident-entry}
use Rattle.wait_queue.proofs.Well.{well_empty, well_sub, well_joined}
use Rattle.kind.specs.Verdict.{Verdict, deny, allow, keep, park, wake, spared}
use Rattle.kind.specs.Kind.{Kind, Lawful, Sound}
use Rattle.kind.specs.Object.{Object, queued, named, thread, joins, carried, fine}
use Rattle.kind.specs.History.{Event, calls, asks, leaves, of_priority, stays, line, next, run, came, arrivals, Good, Lasting}
use Rattle.kind.proofs.Lines.{chosen_swap, stay_sub, stay_joined}
use Rattle.kind.proofs.Picks.{any-joined, any-map, spared_sub, spared-map}

pub caller-valid : (p st c : ℕ) → caller_code p st ≡ pos c → p < max_priority
caller-valid p st c h = go (valid p) refl
  where
    go : (b : Bool) → valid p ≡ b → p < max_priority
    go true z = ltb-true p max_priority z
    go false z = let y : negsuc 21 ≡ pos c = rw z at h in absurd (let x : ◌≡◌ {A = ℕ} 0 1 = cc in omega arith)

-- where nobody joins, nobody came
none_came : (i w : ℕ) {q m : List ℕ} → Sub m q → cond (holds i q) [] (cond (holds i m) (w ∷ []) []) ≡ []
none_came i w {q} {m} t = go (holds i q) refl
  where
    go : (b : Bool) → holds i q ≡ b → cond b [] (cond (holds i m) (w ∷ []) []) ≡ []
    go true h = refl
    go false h = rw (sub_has (of i) t h)

module _ (K : Kind) (law : Lawful K) (v : ℕ → K.Wish) where
  -- what an event leaves: the object as it should be, and of each priority those that were there, then those of `new`
  pub record Steady (q : List ℕ) (o : Object K.Num) (new : List ℕ) : Type 0 where
    pub numbers : fine K o ≡ true
    pub queue : Well o.queue
    pub stable : (p : ℕ) → Sub (chosen (of_priority p) o.queue) (chosen (of_priority p) (q ++ new))
    pub order : (p : ℕ) → chosen (of_priority p) o.queue ≡ chosen (of_priority p) (chosen (stays o.queue) q ++ new)

  module _ (s : Object K.Num) (f : fine K s ≡ true) (g : Well s.queue) where
    fewer : (o : Object K.Num) (new : List ℕ) → new ≡ [] → Sub o.queue s.queue → fine K o ≡ true → Steady s.queue o new
    fewer o new z t h =
        record {
          numbers = h;
          queue = well_sub t g;
          stable = λ p. chosen_sub (of_priority p) (sub_front new t);
          order = λ p. rw (z, append-nil, stay_sub t g.single) refl;
        }

    refusal : (new : List ℕ) → new ≡ [] → Steady s.queue s new
    refusal new z = fewer s new z (sub_all s.queue) f

    -- the caller joins, or is refused
    module _ (i p st c : ℕ) (small : i < 4294967296) (ok : caller_code p st ≡ pos c) (m : K.Num) (h : K.formed m true ≡ true) where
      parks : (a b : Bool) → holds (ident (entry p i)) s.queue ≡ a → ltb (length s.queue) max_waiters ≡ b
          → Steady s.queue (left (joins (thread i p st) m s) s)
          (cond (holds i s.queue) [] (cond (holds i (left (joins (thread i p st) m s) s).queue) (entry p i ∷ []) []))
      parks true b x y = rw x (refusal _ (none_came i (entry p i) (sub_all s.queue)))
      parks false false x y = rw (x, y) (refusal _ (none_came i (entry p i) (sub_all s.queue)))
      parks false true x y =
          let e : ident (entry p i) ≡ i = ident-entry p i small in
          let z : holds i s.queue ≡ false = rw e at x in
          let u : holds i (joined (entry p i) s.queue) ≡ true = has-insert prio (of i) (entry p i) s.queue ∙ rw (eq-eqb (ident (entry p i)) i e) in
          rw (x, y, z, u)
          (record {
            numbers = rw (fine, any-joined (entry p i) s.queue) h;
            queue = well_joined (entry p i) s.queue g x (ltb-true (length s.queue) max_waiters y) (rw (prio-entry p i small) (caller-valid p st c ok));
            stable =
                λ k.
                rw (chosen-append (of_priority k) s.queue (entry p i ∷ []), chosen-insert prio k (entry p i) s.queue g.sorted)
                (sub_all (chosen (of_priority k) s.queue ++ chosen (of_priority k) (entry p i ∷ [])));
            order =
                λ k.
                rw (stay_joined (entry p i) s.queue, chosen-append (of_priority k) s.queue (entry p i ∷ []), chosen-insert prio k (entry p i) s.queue g.sorted) refl;
          })

    threads : K.formed s.num (any (map ident s.queue)) ≡ true
    threads = rw (any-map ident s.queue) f

    -- a call by a thread, by its verdict
    by-thread : (i p st : ℕ) → i < 4294967296 → (z : ℤ) → caller_code p st ≡ z → (d : Verdict K.Num K.Wish) → Sound K (map ident s.queue) d
        → Steady s.queue (left (asked z (carried (thread i p st) d s)) s)
        (cond (holds i s.queue) [] (cond (holds i (left (asked z (carried (thread i p st) d s)) s).queue) (entry p i ∷ []) []))
    by-thread i p st b (negsuc c) z d t = refusal _ (none_came i (entry p i) (sub_all s.queue))
    by-thread i p st b (pos c) z (deny r) t = refusal _ (none_came i (entry p i) (sub_all s.queue))
    by-thread i p st b (pos c) z (allow m keep r) t = fewer _ _ (none_came i (entry p i) (sub_all s.queue)) (sub_all s.queue) (rw (any-map ident s.queue) at t)
    by-thread i p st b (pos c) z (allow m (park x) r) t =
        parks i p st c b z m t (holds (ident (entry p i)) s.queue) (ltb (length s.queue) max_waiters) refl refl
    by-thread i p st b (pos c) z (allow m (wake k u) r) t =
        fewer _ _ (none_came i (entry p i) (spared_sub ident k s.queue)) (spared_sub ident k s.queue)
        (rw (spared-map ident k s.queue, any-map ident (spared ident k s.queue)) at t)

    -- a call by a thread that cannot wait
    by_name : (i : ℕ) (d : Verdict K.Num K.Wish) → Sound K (map ident s.queue) d → Steady s.queue (left (carried (named i) d s) s) []
    by_name i (deny r) t = refusal [] refl
    by_name i (allow m keep r) t = fewer _ [] refl (sub_all s.queue) (rw (any-map ident s.queue) at t)
    by_name i (allow m (park x) r) t = refusal [] refl
    by_name i (allow m (wake k u) r) t =
        fewer _ [] refl (spared_sub ident k s.queue) (rw (spared-map ident k s.queue, any-map ident (spared ident k s.queue)) at t)

    -- one leaves
    still : (l : List ℕ) → Sub l s.queue → K.formed s.num (any l) ≡ true
    still [] t = go (any s.queue) f
      where
        go : (b : Bool) → K.formed s.num b ≡ true → K.formed s.num false ≡ true
        go true h = law.fewer s.num h
        go false h = h
    still (x ∷ l) t = there s.queue t f
      where
        there : (m : List ℕ) → Sub (x ∷ l) m → K.formed s.num (any m) ≡ true → K.formed s.num true ≡ true
        there [] u h = elim u [ ]
        there (y ∷ m) u h = h

    by_leaving : (i : ℕ) (b : Bool) → holds i s.queue ≡ b → Steady s.queue (left (queued s.num (remove i s.queue)) s) []
    by_leaving i true h = rw h (fewer _ [] refl (others_sub (of i) s.queue) (still (without i s.queue) (others_sub (of i) s.queue)))
    by_leaving i false h = rw h (refusal [] refl)

  pub step : (s : Object K.Num) (x : Event K.Call) → Good K v s → Steady s.queue (next K v s x) (came K v s x)
  step s (calls i k) g =
      let f = g.numbers in
      rw f (by_name s f g.queue i (K.decide s.num v (map ident s.queue) i k) (law.sound s.num v (map ident s.queue) i k (threads s f g.queue)))
  step s (asks i p st h k) g =
      let f = g.numbers in
      let whole : left (asked (caller_code p st) (carried (thread i p st) (K.decide s.num v (map ident s.queue) i k) s)) s ≡ next K v s (asks i p st h k) = rw f in
      subst (λ (o : Object K.Num). Steady s.queue o (cond (holds i s.queue) [] (cond (holds i o.queue) (entry p i ∷ []) []))) whole
      (by-thread s f g.queue i p st h (caller_code p st) refl (K.decide s.num v (map ident s.queue) i k)
      (law.sound s.num v (map ident s.queue) i k (threads s f g.queue)))
  step s (leaves i) g = by_leaving s g.numbers g.queue i (holds i s.queue) refl

  always_good : (s : Object K.Num) (xs : List (Event K.Call)) → Good K v s → Good K v (run K v s xs)
  always_good s [] g = g
  always_good s (x ∷ past) g = let a = step (run K v s past) x (always_good s past g) in record { numbers = a.numbers; queue = a.queue }

  -- what a step keeps, of an object that is as it should be, any events keep
  pub throughout : (P : Object K.Num → Type 0) → ((s : Object K.Num) (x : Event K.Call) → Good K v s → P s → P (next K v s x))
      → (s : Object K.Num) (xs : List (Event K.Call)) → Good K v s → P s → P (run K v s xs)
  throughout P h s [] g p = p
  throughout P h s (x ∷ past) g p = h (run K v s past) x (always_good s past g) (throughout P h s past g p)

  -- the queue is the line, priority by priority
  in_line : (s : Object K.Num) (xs : List (Event K.Call)) → Good K v s
      → (p : ℕ) → chosen (of_priority p) (run K v s xs).queue ≡ chosen (of_priority p) (line K v s xs)
  in_line s [] g p = refl
  in_line s (x ∷ past) g p =
      let a = step (run K v s past) x (always_good s past g) in
      let q : List ℕ = (run K v s (x ∷ past)).queue in
      let c : List ℕ = came K v (run K v s past) x in
      a.order p ∙ chosen-append (of_priority p) (chosen (stays q) (run K v s past).queue) c
      ∙ ap (λ (m : List ℕ). m ++ chosen (of_priority p) c)
      (chosen_swap (of_priority p) (stays q) (run K v s past).queue ∙ ap (chosen (stays q)) (in_line s past g p) ∙ chosen_swap (stays q) (of_priority p) (line K v s past))
      ∙ sym (chosen-append (of_priority p) (chosen (stays q) (line K v s past)) c)

  -- of each priority a part of those that were there and of all arrivals
  in_part : (s : Object K.Num) (xs : List (Event K.Call)) → Good K v s
      → (p : ℕ) → Sub (chosen (of_priority p) (run K v s xs).queue) (chosen (of_priority p) (s.queue ++ arrivals K v s xs))
  in_part s [] g p = rw append-nil (sub_all (chosen (of_priority p) s.queue))
  in_part s (x ∷ past) g p =
      let a = step (run K v s past) x (always_good s past g) in
      let c : List ℕ = came K v (run K v s past) x in
      let t : List ℕ = arrivals K v s past in
      sub_trans (a.stable p)
      (rw (← append_assoc s.queue t c, chosen-append (of_priority p) (run K v s past).queue c, chosen-append (of_priority p) (s.queue ++ t) c)
      (sub_append (chosen (of_priority p) c) (in_part s past g p)))

  -- for any events
  pub lasting : (s : Object K.Num) (xs : List (Event K.Call)) → Good K v s → Lasting K v s xs
  lasting s xs g =
      let r : Good K v (run K v s xs) = always_good s xs g in
      record {
        good = r;
        queue =
            record {
              short = r.queue.short;
              sorted = r.queue.sorted;
              single = r.queue.single;
              stable = in_part s xs g;
              order = in_line s xs g;
            };
      }

  -- from an object on which nobody waits
  pub always : (n : K.Num) (xs : List (Event K.Call)) → K.formed n false ≡ true → Lasting K v (record { num = n; queue = [] }) xs
  always n xs f = lasting (record { num = n; queue = [] }) xs (record { numbers = f; queue = well_empty })
