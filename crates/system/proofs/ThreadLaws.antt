-- What our step does with threads, for any kind of object. Assumes nothing.
use mathlib.Core.Path.{◌≡◌, refl, sym, ap, ◌∙◌}
use mathlib.Core.Bool.{Bool, true, false}
use mathlib.Core.List.{[], ◌∷◌}
use Prim.Native.Nat.{ℕ, ◌<◌}
use lib.Dec.{ltb}
use lib.IntN.{ℤ}
use borrow.Author.Tests.{eq-eqb, lt-ltb, ltb-true}
use Rattle.thread.specs.Code.{ok, eagain, einval}
use Rattle.thread.specs.Priority.{max_priority}
use Rattle.wait_queue.specs.Queue.{without}
use Rattle.kind.specs.Kind.{Kind}
use Rattle.system.specs.System.{State, absent, running, ready, waiting, Sys, done, refuse, dispatched, yielded, expired, spawned, step}
use Rattle.system.specs.Rules.{times, Fine}
use Rattle.system.specs.Effect.{is_now, has_queue, puts}
use Rattle.system.specs.Laws.{OfThreads}
use Rattle.system.proofs.Places.{leaves}

module _ {K : Kind} (s : Sys K) (g : Fine s) where
  pub threads : OfThreads step s
  threads =
      record {
        runs = λ i r h. rw h;
        runs_not = λ i e. at-run i e (s.state i) refl;
        back = λ i h. rw h;
        back_not = λ i e. at_back i e (s.state i) refl;
        late =
            λ i o w a b h e z.
            rw h
            (λ j. (
              puts s (is_now i (ready eagain) ∷ has_queue o
                  ((ap (without i) e ∙ leaves i w a b z (sym (ap (times i) e) ∙ g.placed o i ∙ rw (h, eq-eqb o o refl))) j) ∷ []),
              done ok,
              [],
            ));
        late_not = λ i e. at-late i e (s.state i) refl;
        born = λ i p h a b. rw (h, lt-ltb i 4294967296 a, lt-ltb p max_priority b);
        born_not = λ i p e. at-born i p e (s.state i) (ltb i 4294967296) (ltb p max_priority) refl refl refl;
      }
    where
      at-run : (i : ℕ) → ((r : ℤ) → s.state i ≡ ready r → ⊥) → (x : State) → s.state i ≡ x → dispatched x s i ≡ refuse s einval
      at-run i e absent h = refl
      at-run i e running h = refl
      at-run i e (ready r) h = absurd (e r h)
      at-run i e (waiting o) h = refl

      at_back : (i : ℕ) → (s.state i ≡ running → ⊥) → (x : State) → s.state i ≡ x → yielded x s i ≡ refuse s einval
      at_back i e absent h = refl
      at_back i e running h = absurd (e h)
      at_back i e (ready r) h = refl
      at_back i e (waiting o) h = refl

      at-late : (i : ℕ) → ((o : ℕ) → s.state i ≡ waiting o → ⊥) → (x : State) → s.state i ≡ x → expired x s i ≡ refuse s einval
      at-late i e absent h = refl
      at-late i e running h = refl
      at-late i e (ready r) h = refl
      at-late i e (waiting o) h = absurd (e o h)

      at-born : (i p : ℕ) → ((s.state i ≡ absent) × (i < 4294967296) × (p < max_priority) → ⊥) → (x : State) (a b : Bool) → s.state i ≡ x
          → ltb i 4294967296 ≡ a → ltb p max_priority ≡ b
          → spawned s i p ≡ refuse s einval
      at-born i p e absent true true h u v = absurd (e (h, ltb-true i 4294967296 u, ltb-true p max_priority v))
      at-born i p e absent true false h u v = rw (h, u, v)
      at-born i p e absent false b h u v = rw (h, u)
      at-born i p e running a b h u v = rw h
      at-born i p e (ready r) a b h u v = rw h
      at-born i p e (waiting o) a b h u v = rw h
