-- The laws leave no choice: a kernel that keeps them does what ours does. Assumes nothing.
use mathlib.Core.Path.{◌≡◌, refl, sym, ap, subst, ◌∙◌}
use mathlib.Core.Bool.{Bool, true, false}
use mathlib.Core.Logic.{⊎_elim}
use mathlib.Core.List.{List, [], ◌∷◌, ◌++◌}
use Prim.Native.Nat.{ℕ}
use lib.IntN.{ℤ}
use Rattle.seq.proofs.Order.{clash}
use Rattle.kind.specs.Kind.{Kind}
use Rattle.system.specs.System.{State, absent, running, ready, waiting, Slot, vacant, object, Sys, Op, invoke, both, dispatch, yield, expire, spawn, create, Answer, done, denied, Reply, Kernel, reached, step, after}
use Rattle.system.specs.Part.{whole}
use Rattle.system.specs.Sum.{Member}
use Rattle.system.specs.Rules.{Fine, Start}
use Rattle.system.specs.Laws.{LawsAt, Laws}
use Rattle.system.specs.Determined.{Determined}
use Rattle.system.proofs.Steps.{always}
use Rattle.system.proofs.Same.{alike}
use Rattle.system.proofs.SameThreads.{one-dispatch, one-yield, one-expire, one-spawn}
use Rattle.system.proofs.Sheets.{Sheet}
use Rattle.system.proofs.Laws.{laws_at, laws}

module _ {M : Member} (h : Sheet M) where
  abbrev K : Kind
  K = M.kind

  module _ (f g : Kernel K) (s : Sys K) (a : LawsAt M f s) (b : LawsAt M g s) (fine : Fine s) where
    one-call : (i o : ℕ) (k : K.Call) → f s (invoke i o k) ≡ g s (invoke i o k)
    one-call i o k = at (s.slot o) refl
      where
        by : (n : K.Num) → s.slot o ≡ object n → (x : State) → s.state i ≡ x → f s (invoke i o k) ≡ g s (invoke i o k)
        by n e absent r = a.callers.gone i o k n e r ∙ sym (b.callers.gone i o k n e r)
        by n e running r =
            h.fixes (whole K) f g s i o n k (fine.formed o n e) (a.rules i o n e r) (b.rules i o n e r)
            (λ z. a.objects.other i o k n e r z ∙ sym (b.objects.other i o k n e r z))
        by n e (ready v) r = a.callers.idle i o k n v e r ∙ sym (b.callers.idle i o k n v e r)
        by n e (waiting c) r = a.callers.blocked i o c k n e r ∙ sym (b.callers.blocked i o c k n e r)

        at : (x : Slot K.Num) → s.slot o ≡ x → f s (invoke i o k) ≡ g s (invoke i o k)
        at vacant e = a.callers.nothing i o k e ∙ sym (b.callers.nothing i o k e)
        at (object n) e = by n e (s.state i) refl

    one-create : (o : ℕ) (n : K.Num) → f s (create o n) ≡ g s (create o n)
    one-create o n = go (s.slot o) refl (K.new n) refl
      where
        go : (x : Slot K.Num) → s.slot o ≡ x → (c : Bool) → K.new n ≡ c → f s (create o n) ≡ g s (create o n)
        go (object m) e c z = a.objects.there o m n e ∙ sym (b.objects.there o m n e)
        go vacant e true z = a.objects.made o n e (h.made n z) ∙ sym (b.objects.made o n e (h.made n z))
        go vacant e false z = let w : M.Makes n → ⊥ = λ y. clash (sym (h.makes n y) ∙ z) in a.objects.made_not o n w ∙ sym (b.objects.made_not o n w)

  module _ (f g : Kernel K) (s : Sys K) (a : LawsAt M f s) (b : LawsAt M g s) (fine : Fine s) where
    -- two calls: the second in the state that the first leaves
    one-pair : (i x : ℕ) (j : K.Call) (y : ℕ) (k : K.Call) → LawsAt M f (g s (invoke i x j)).0 → LawsAt M g (g s (invoke i x j)).0
        → Fine (g s (invoke i x j)).0
        → f s (both i x j y k) ≡ g s (both i x j y k)
    one-pair i x j y k c d good =
        ⊎_elim (λ e. subst (λ (z : ℕ). f s (both i x j z k) ≡ g s (both i x j z k)) e (a.pairs.same i x j k ∙ sym (b.pairs.same i x j k)))
        (λ n. go n (g s (invoke i x j)).1 refl)
        (alike x y)
      where
        u : f s (invoke i x j) ≡ g s (invoke i x j)
        u = one-call f g s a b fine i x j

        v : f (f s (invoke i x j)).0 (invoke i y k) ≡ g (g s (invoke i x j)).0 (invoke i y k)
        v = ap (λ (z : Reply K). f z.0 (invoke i y k)) u ∙ one-call f g (g s (invoke i x j)).0 c d good i y k

        then : (x ≡ y → ⊥) → (m : ℤ) → (g s (invoke i x j)).1 ≡ done m → (z : Answer) → (g (g s (invoke i x j)).0 (invoke i y k)).1 ≡ z
            → f s (both i x j y k) ≡ g s (both i x j y k)
        then n m e (done l) w =
            a.pairs.two i x y j k m l n (ap (λ (z : Reply K). z.1) u ∙ e) (ap (λ (z : Reply K). z.1) v ∙ w)
            ∙ (λ t. ((v t).0, done m, (u t).2 ++ (v t).2))
            ∙ sym (b.pairs.two i x y j k m l n e w)
        then n m e (denied l) w =
            a.pairs.second i x y j k m l n (ap (λ (z : Reply K). z.1) u ∙ e) (ap (λ (z : Reply K). z.1) v ∙ w) ∙ sym (b.pairs.second i x y j k m l n e w)

        go : (x ≡ y → ⊥) → (z : Answer) → (g s (invoke i x j)).1 ≡ z → f s (both i x j y k) ≡ g s (both i x j y k)
        go n (done m) e = then n m e (g (g s (invoke i x j)).0 (invoke i y k)).1 refl
        go n (denied m) e = a.pairs.first i x y j k m n (ap (λ (z : Reply K). z.1) u ∙ e) ∙ sym (b.pairs.first i x y j k m n e)

  module _ (f : Kernel K) (a : Laws M f) (s : Sys K) (start : Start s) where
    fine : (past : List (Op K)) → Fine (after s past)
    fine past = always h.lawful s start past

    -- as long as the two have been in the same state, the next operation does the same
    next : (past : List (Op K)) → reached f s past ≡ after s past → (x : Op K) → f (after s past) x ≡ step (after s past) x
    next past e x = go x
      where
        here : LawsAt M f (after s past)
        here = subst (LawsAt M f) e (a s start past)

        ours : LawsAt M step (after s past)
        ours = laws_at h (after s past) (fine past)

        call : (i o : ℕ) (k : K.Call) → f (after s past) (invoke i o k) ≡ step (after s past) (invoke i o k)
        call i o k = one-call f step (after s past) here ours (fine past) i o k

        there : (i o : ℕ) (k : K.Call) → LawsAt M f (step (after s past) (invoke i o k)).0
        there i o k = subst (LawsAt M f) (ap (λ (u : Sys K). (f u (invoke i o k)).0) e ∙ ap (λ (z : Reply K). z.0) (call i o k))
            (a s start (invoke i o k ∷ past))

        go : (x : Op K) → f (after s past) x ≡ step (after s past) x
        go (invoke i o k) = call i o k
        go (both i o j p k) =
            one-pair f step (after s past) here ours (fine past) i o j p k (there i o j)
            (laws_at h (after s (invoke i o j ∷ past)) (fine (invoke i o j ∷ past)))
            (fine (invoke i o j ∷ past))
        go (dispatch i) = one-dispatch f step (after s past) here.threads ours.threads (fine past) i
        go (yield i) = one-yield f step (after s past) here.threads ours.threads (fine past) i
        go (expire i) = one-expire f step (after s past) here.threads ours.threads (fine past) i
        go (spawn i p) = one-spawn f step (after s past) here.threads ours.threads (fine past) i p
        go (create o n) = one-create f step (after s past) here ours (fine past) o n

    -- after every history a kernel that keeps the laws is in the state in which ours is
    pub same-state : (past : List (Op K)) → reached f s past ≡ after s past
    same-state [] = refl
    same-state (x ∷ past) = ap (λ (u : Sys K). (f u x).0) (same-state past) ∙ ap (λ (z : Reply K). z.0) (next past (same-state past) x)

    -- and does with the next operation what ours does
    pub same_next : (past : List (Op K)) (x : Op K) → f (reached f s past) x ≡ step (after s past) x
    same_next past x = ap (λ (u : Sys K). f u x) (same-state past) ∙ next past (same-state past) x

  pub determined : Determined M
  determined = record { laws = laws h; state = same-state; next = same_next }
