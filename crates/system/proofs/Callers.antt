-- A function that is told its caller's numbers, a name, or nothing, in any system that has such objects. Assumes nothing.
use mathlib.Core.Path.{◌≡◌, refl, sym, ap, subst, ◌∙◌}
use mathlib.Core.Bool.{Bool, true, false}
use mathlib.Core.List.{List, [], ◌∷◌, map}
use Prim.Native.Nat.{ℕ, ◌≤◌}
use native.Mathlib.Omega.{arith}
use lib.IntN.{ℤ}
use lib.ListN.{length, length-map}
use borrow.Author.Tests.{lt-ltb, le-leb}
use Rattle.thread.specs.Priority.{max_priority, valid}
use Rattle.wait_queue.specs.Queue.{ident}
use Rattle.store.specs.Store.{Reply, out, fitting, reply, Did, Filled, first, Fills, Hands}
use Rattle.store.proofs.Laws.{carry-out}
use Rattle.kind.specs.Verdict.{keep, park, wake, Verdict, deny, allow}
use Rattle.kind.specs.Kind.{Kind, Lawful}
use Rattle.kind.specs.Object as object
use Rattle.kind.specs.Object.{Object, named, thread, carried, call, Layout, standing}
use Rattle.system.specs.Part.{Part}
use Rattle.system.specs.System.{absent, running, number, Sys, outcome, verdict, called}
use Rattle.system.specs.Rules.{Fine}
use Rattle.system.specs.Functions.{Use, heard}
use Rattle.system.specs.Link.{Is, read, word, fate, Truthful, Steps}
use Rattle.system.proofs.Sheets.{Fits}
use Rattle.system.proofs.Parts.{wrapped, call-part}
use Rattle.system.proofs.Woken.{Within, within-part, handed_out, handed-few, handed-read, handed-count}
use Rattle.system.proofs.Readied.{call-readies, woken-waited}
use Rattle.system.proofs.Fates.{Unparked, Fated, stays_fated, fated_part, caller-fate}
use Rattle.system.proofs.Link.{tells, gives, leaves, in_none, in_word, read_all_lem}

carried-named : {N W : Type 0} (i p st j : ℕ) (d : Verdict N W) (s : Object N) → Unparked d → carried (thread i p st) d s ≡ carried (named j) d s
carried-named i p st j (deny r) s x = refl
carried-named i p st j (allow m keep r) s x = refl
carried-named i p st j (allow m (park y) r) s x = absurd x
carried-named i p st j (allow m (wake y f) r) s x = refl

-- then a call by a name is that of the thread which runs
call-named : (A : Kind) (v : ℕ → A.Wish) (i p j : ℕ) (k : A.Call) (s : Object A.Num) → valid p ≡ true
    → A.decide s.num v (map ident s.queue) i k ≡ A.decide s.num v (map ident s.queue) j k → Unparked (A.decide s.num v (map ident s.queue) j k)
    → call A v (thread i p 1) k s ≡ call A v (named j) k s
call-named A v i p j k s z x y = rw (z, x, carried-named i p 1 j (A.decide s.num v (map ident s.queue) j k) s y)

-- a thread that runs has a priority that there is
runs-valid : {K : Kind} (s : Sys K) → Fine s → (i : ℕ) → s.state i ≡ running → valid (s.prio i) ≡ true
runs-valid s g i run =
    lt-ltb (s.prio i) max_priority
    (g.known i (λ a. let v : running ≡ absent = sym run ∙ a in absurd (let y : ◌≡◌ {A = ℕ} 0 1 = cc in omega arith))).1

-- the memory is the object o of s, of which the function is the call k; m: how many words it is lent; c: how many it
-- wrote, by its answer
module _ {A K : Kind} (law : Lawful K) (P : Part A K) (fits : Fits P) (L : Layout A.Num) (k : A.Call) (m c : ℕ → ℕ) (s : Sys K) (g : Fine s) (i o : ℕ)
    (u : Use)
    (is : Is L P.num s o u.before.header u.before.entries) where
  abbrev n : A.Num
  n = L.num u.before.header

  abbrev q : List ℕ
  q = s.queue o

  abbrev ob : Object A.Num
  ob = record { num = n; queue = q }

  abbrev v : ℕ → A.Wish
  v t = P.seen (s.wish t)

  abbrev Same : (Object A.Num → Reply (Object A.Num)) → Type 0
  Same f = outcome s i o (P.call k) (P.num n) ≡ wrapped P.num (f (record { num = n; queue = q }))

  -- what f does to the memory, and whom it hands out; the entries may be only read
  abbrev Done : (Object A.Num → Reply (Object A.Num)) → Type 0
  Done f = Did (standing L) f u.before.header u.before.entries u.answer u.after.header u.after.entries

  abbrev given : (Object A.Num → Reply (Object A.Num)) → List ℕ
  given f = out (reply (standing L) f u.before.header u.before.entries)

  reads : (f : Object A.Num → Reply (Object A.Num)) → Did (standing L) f u.before.header u.before.entries u.answer u.after.header u.before.entries
      → u.after.entries ≡ u.before.entries → Done f
  reads f d z = subst (λ (x : List ℕ). Did (standing L) f u.before.header u.before.entries u.answer u.after.header x) (sym z) d

  module _ (few : Within m c q (A.decide n v (map ident q) i k)) where
    whole : Within m c q (verdict s i o (P.call k) (P.num n))
    whole = rw (fits.decides n s.wish (map ident q) i k) (within-part m c q P.num P.wish (A.decide n v (map ident q) i k) few)

    at_most : length (called s i o (P.call k)).2 ≤ m (length q)
    at_most = handed-few s g i o (P.call k) (P.num n) is.slot m c whole

    module _ (a : Bool) (fates : Fated a (A.decide n v (map ident q) i k)) (f : Object A.Num → Reply (Object A.Num)) (same : Same f) (d : Done f) where
      abbrev h : List ℕ
      h = u.before.header

      abbrev e : List ℕ
      e = u.before.entries

      words : given f ≡ map word (called s i o (P.call k)).2
      words = gives law L P.num s g i o (P.call k) f h e is same m c whole

      stepped : Filled (map word (called s i o (P.call k)).2) u.lent u.filled → Steps L P.num s i o (P.call k) a c u
      stepped x =
          let code : u.answer ≡ (called s i o (P.call k)).1 = d.code ∙ sym (tells law L P.num s g i o (P.call k) f h e is same) in
          record {
            code = code;
            is = leaves law L P.num s g i o (P.call k) f h e is same u.answer u.after.header u.after.entries d;
            handed = x;
            reads =
                ap (map read)
                (read_all_lem (called s i o (P.call k)).2 (heard c u.answer) u.lent u.filled x
                (handed-count s g i o (P.call k) (P.num n) is.slot m c whole ∙ ap (heard c) (sym code)))
                ∙ handed-read s g i o (P.call k) (P.num n) is.slot m c whole;
            caller =
                caller-fate s g i o (P.call k) (P.num n) is.slot a
                (subst (λ (d : Verdict K.Num K.Wish). Fated a d) (sym (fits.decides n s.wish (map ident q) i k))
                (fated_part P.num P.wish a (A.decide n v (map ident q) i k) fates))
                ∙ ap (λ (z : ℤ). fate a o z (s.state i)) (sym code);
            waited = woken-waited s g i o (P.call k);
            readies = call-readies s i o (P.call k) (P.num n) is.slot;
          }

      pub silent : m (length q) ≤ 0 → u.lent ≡ [] → u.filled ≡ [] → Steps L P.num s i o (P.call k) a c u
      silent z a b = stepped (in_none (called s i o (P.call k)).2 u.lent u.filled a b (omega (arith, at_most, z)))

      pub in_a_word : m (length q) ≤ 1 → (w w' : ℕ) → u.lent ≡ w ∷ [] → u.filled ≡ w' ∷ [] → w' ≡ first w (given f)
          → Steps L P.num s i o (P.call k) a c u
      in_a_word z w w' a b t =
          stepped (in_word (called s i o (P.call k)).2 w w' u.lent u.filled a b (omega (arith, at_most, z))
          (subst (λ (y : List ℕ). w' ≡ first w y) words t))

      pub in_a_slice : Filled (given f) u.lent u.filled → Steps L P.num s i o (P.call k) a c u
      in_a_slice x = stepped (subst (λ (y : List ℕ). Filled y u.lent u.filled) words x)

    -- the function is told the thread's numbers
    as_thread : Truthful s i u → Same (call A v (thread u.id u.priority u.state) k)
    as_thread t =
        call-part P fits s.wish (thread i (s.prio i) (number (s.state i))) k ob
        ∙ ap (λ (w : object.Caller). wrapped P.num (call A v w k ob))
        (let x : thread i (s.prio i) (number (s.state i)) ≡ thread u.id u.priority u.state =
        cc in x)

    pub by-thread : Fated true (A.decide n v (map ident q) i k) → Truthful s i u → m (length q) ≤ 0
        → Done (call A v (thread u.id u.priority u.state) k) → u.lent ≡ [] → u.filled ≡ [] → Steps L P.num s i o (P.call k) true c u
    by-thread y t z d = silent true y _ (as_thread t) d z

    -- it is told a name at most, and a thread that runs calls it
    module _ (j : ℕ) (run : s.state i ≡ running) (same : A.decide n v (map ident q) i k ≡ A.decide n v (map ident q) j k)
        (stays : Unparked (A.decide n v (map ident q) j k)) where
      fates : Fated false (A.decide n v (map ident q) i k)
      fates = subst (λ (d : Verdict A.Num A.Wish). Fated false d) (sym same) (stays_fated (A.decide n v (map ident q) j k) stays)

      as_named : Same (call A v (named j) k)
      as_named =
          rw run
          (call-part P fits s.wish (thread i (s.prio i) 1) k ob ∙ ap (wrapped P.num)
          (call-named A v i (s.prio i) j k ob (runs-valid s g i run) same stays))

      pub by_name : m (length q) ≤ 0 → Did (standing L) (call A v (named j) k) u.before.header u.before.entries u.answer u.after.header u.before.entries
          → u.after.entries ≡ u.before.entries → u.lent ≡ [] → u.filled ≡ [] → Steps L P.num s i o (P.call k) false c u
      by_name z d e = silent false fates _ as_named (reads _ d e) z

      pub by_word : m (length q) ≤ 1 → (w w' : ℕ)
          → Hands (standing L) (call A v (named j) k) u.before.header u.before.entries w u.answer u.after.header w'
          → u.after.entries ≡ u.before.entries → u.lent ≡ w ∷ [] → u.filled ≡ w' ∷ [] → Steps L P.num s i o (P.call k) false c u
      by_word z w w' d e a b = in_a_word false fates _ as_named (reads _ d.0 e) z w w' a b d.1

      -- there is room for all that are woken
      as_handed : m (length q) ≤ length u.lent → Same (fitting (length u.lent) (call A v (named j) k))
      as_handed l =
          let e : out (outcome s i o (P.call k) (P.num n)) ≡ out (call A v (named j) k ob) = ap out as_named ∙ carry-out _ (call A v (named j) k ob) in
          let w = handed_out s g i o (P.call k) (P.num n) is.slot m c whole in
          let c : length (out (call A v (named j) k ob)) ≤ length u.lent =
          omega (arith, l, at_most, ap length (sym e ∙ w), length-map (called s i o (P.call k)).2 word) in
          let z : call A v (named j) k ob ≡ fitting (length u.lent) (call A v (named j) k) ob = rw (le-leb (length (out (call A v (named j) k ob))) (length u.lent) c) refl in
          as_named ∙ ap (wrapped P.num) z

      pub by_slice : m (length q) ≤ length u.lent
          → Fills (standing L) (fitting (length u.lent) (call A v (named j) k)) u.before.header u.before.entries u.lent u.answer u.after.header u.filled
          → u.after.entries ≡ u.before.entries → Steps L P.num s i o (P.call k) false c u
      by_slice l d e = in_a_slice false fates _ (as_handed l) (reads _ d.0 e) d.1
