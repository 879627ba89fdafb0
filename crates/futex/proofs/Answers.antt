-- How each answer of a function meets the futex's definition. Assumes nothing.
use mathlib.Core.Path.{◌≡◌, refl, sym, ap, ◌∙◌}
use mathlib.Core.Bool.{Bool, true, false}
use mathlib.Core.List.{List, [], ◌∷◌}
use Prim.Native.Nat.{ℕ, zero, suc, ◌-◌, ◌≤◌, ◌<◌}
use native.Mathlib.Omega.{arith}
use lib.Dec.{ltb, leb}
use lib.IntN.{ℤ, pos}
use lib.ListN.{length, get_or, length-map}
use lib.ListN as list
use lib.Seq.{set-get_or}
use borrow.Author.Tests.{lt-ltb, le-leb, lt-leb, ltb-true, ltb-false}
use Rattle.seq.proofs.Back.{back-length}
use Rattle.seq.proofs.Words.{spell}
use Rattle.thread.specs.Code.{ok, einval}
use Rattle.store.specs.Store as store
use Rattle.store.specs.Store.{accept, answer}
use Rattle.store.proofs.Laws.{less, handed-is, became, answers}
use Rattle.wait_queue.specs.Queue.{max_waiters, ident, waiting, roomy}
use Rattle.wait_queue.specs.Turn.{wait_queue, unpend_first}
use Rattle.wait_queue.specs.Post.{UnpendsFirst}
use Rattle.kind.specs.Verdict.{up_to, wake, allow}
use Rattle.kind.specs.Kind.{plain}
use Rattle.kind.specs.Object.{Object, anyone, sane}
use Rattle.kind.proofs.Memory.{Header, same-header, is-sane}
use Rattle.kind.proofs.Answers.{any-line, verdict, keeps_unlisted, wakes-one, unseen, seen}
use Rattle.futex.specs.Futex.{Futex, wake_one, futex_kind}
use Rattle.futex.specs.Post.{layout, place, Wakes, Gets, WakeDecided}

-- on plain numbers
module _ (n m : ℕ) where
  pub decide-over : (b : Bool) → ltb max_waiters n ≡ true → WakeDecided n b m einval m
  decide-over b h s q z = rw (lt-leb n max_waiters (ltb-true max_waiters n h)) (record { code = refl; number = refl })

  module _ (h : ltb max_waiters n ≡ false) where
    right : leb n max_waiters ≡ true
    right = le-leb n max_waiters (ltb-false max_waiters n h)

    pub decide-all : WakeDecided n true m (pos n) 0
    decide-all s q z = rw (right, length-map q ident, z) (record { code = refl; number = refl })

    pub decide-none : n ≡ 0 → WakeDecided n false m (pos 0) 0
    decide-none k s [] z = rw right (record { code = refl; number = refl })
    decide-none k s (x ∷ q) z = absurd (omega arith)

    pub decide-one : 0 < n → WakeDecided n false m (pos 1) (n - 1)
    decide-one k s [] z = absurd (omega arith)
    decide-one k s (x ∷ q) z = rw right (record { code = refl; number = omega arith })

module _ (h : List ℕ) (k : 2 ≤ length h) where
  left : (n : ℕ) → Header layout h (layout.num h) n (list.set h 1 n)
  left n = rw (spell 2 h k) (record { num = refl; len = refl; beside = refl; long = refl })

module _ (h e : List ℕ) where
  pub got_no : (g : Object Futex → ℕ) → sane futex_kind layout h e ≡ false → Gets g h e einval
  got_no g s = unseen futex_kind layout (λ o. pos (g o)) h e s

  module _ (s : sane futex_kind layout h e ≡ true) where
    pub words : 2 ≤ length h
    words = (is-sane futex_kind layout h e s).housed.words

    -- a wake of one
    module _ (out : List ℕ) where
      first : 0 < get_or h 1 0 → verdict futex_kind layout plain anyone wake_one h e ≡ allow (layout.num h) (wake (up_to 1) (λ t. ok)) (pos 1)
      first b = rw (any-line e (get_or h 1 0), lt-ltb 0 (get_or h 1 0) b)

      wake-nobody : get_or h 1 0 ≡ 0 → Wakes false h e out (pos 0) h out
      wake-nobody z =
          keeps_unlisted futex_kind layout plain anyone wake_one h e s 0 refl (layout.num h) (pos 0) h out
          (rw (any-line e (get_or h 1 0), z)) (same-header layout h)

      -- the queue's answer is the futex's
      module _ (r : ℤ) (k x' : ℕ) (d : UnpendsFirst ok (get_or h 1 0) e (get_or out 0 0) r k x') where
        room : roomy (get_or h 1 0) e ≡ true
        room = (is-sane futex_kind layout h e s).housed.room

        nobody : get_or h 1 0 ≡ 0 → unpend_first ok (waiting e (get_or h 1 0)) ≡ accept [] (pos 0) []
        nobody z = rw z refl

        answer-none : get_or h 1 0 ≡ 0 → r ≡ pos 0
        answer-none z = answers wait_queue (unpend_first ok) (get_or h 1 0 ∷ []) e d.0 room ∙ ap answer (nobody z)

        answer-one : 0 < get_or h 1 0 → r ≡ pos 1
        answer-one b = answers wait_queue (unpend_first ok) (get_or h 1 0 ∷ []) e d.0 room ∙ one (get_or h 1 0) b
          where
            one : (n : ℕ) → 0 < n → answer (unpend_first ok (waiting e n)) ≡ pos 1
            one zero f = absurd (omega arith)
            one (suc n) f = refl

        pub wake-first : 1 ≤ length out → Wakes false h e out r (list.set h 1 k) (list.set out 0 x')
        wake-first c = less 0 (get_or h 1 0) some none
          where
            some : 0 < get_or h 1 0 → Wakes false h e out r (list.set h 1 k) (list.set out 0 x')
            some b =
                rw (answer-one b)
                (wakes-one futex_kind layout plain anyone wake_one h e s 0 refl (layout.num h) ok (pos 1) (first b) b out (list.set h 1 k) r k x' c d (left h words k))

            none : get_or h 1 0 ≤ 0 → Wakes false h e out r (list.set h 1 k) (list.set out 0 x')
            none b =
                let z : get_or h 1 0 ≡ 0 = omega arith in
                let y : k ≡ get_or h 1 0 = sym (back-length e k) ∙ ap length (became wait_queue (unpend_first ok) (get_or h 1 0 ∷ []) e d.0 room (nobody z)).object ∙ sym z in
                let x : x' ≡ get_or out 0 0 = d.1 ∙ ap (store.first (get_or out 0 0)) (handed-is wait_queue (unpend_first ok) (get_or h 1 0 ∷ []) e room ∙ ap store.out (nobody z)) in
                rw (answer-none z, y, x, set-get_or h 1 0, set-get_or out 0 0) (wake-nobody z)

    pub got : (g : Object Futex → ℕ) → Gets g h e (pos (g (place.object h e)))
    got g = seen futex_kind layout (λ o. pos (g o)) h e s
