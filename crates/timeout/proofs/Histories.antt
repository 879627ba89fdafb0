-- The clock and the plan, through any calls. Assumes nothing.
use mathlib.Core.Path.{◌≡◌, refl, sym, ap, subst}
use mathlib.Core.Bool.{true, cond}
use mathlib.Core.List.{List, [], ◌∷◌}
use Prim.Native.Nat.{ℕ, ◌+◌, ◌<◌}
use native.Mathlib.Omega.{arith}
use lib.IntN.{pos}
use borrow.Author.Tests.{lt-ltb, le-ltb}
use Rattle.thread.specs.Code.{ok, ebusy, einval}
use Rattle.store.specs.Store.{Reply, refuse, answer}
use Rattle.store.specs.History.{Step}
use Rattle.timeout.specs.Timeout.{Timeout, timeout, never, fires, arm, abort, announce}
use Rattle.timeout.specs.Post.{place}
use Rattle.timeout.specs.History.{Call, ticked, Plan, idle, due, plan, Shows, fires_at, Promise, Always}
use Rattle.timeout.proofs.Whole.{set-busy, abort_no, announce-late}
use Rattle.timeout.proofs.Memory.{sound}
use Rattle.timeout.proofs.Calls.{Addition, relative, absolutely, forever, no-wait, refuses, sets, aborts, moves-on, rings, Keeps, always_keeps}

-- with the clock at c before the steps es
pub record Kept (c : ℕ) (es : List (Step Call)) (t : Timeout) : Type 0 where
  pub clock : t.clock ≡ c + ticked es
  pub shows : Shows (plan c es) t

-- only a deadline and whether it is active are planned
shows_same : (p : Plan) (t : Timeout) (c : ℕ) → Shows p t → Shows p (timeout t.deadline t.active c)
shows_same idle t c s = s
shows_same (due x) t c s = s

-- a deadline is added, with the clock at b
adds : (c : ℕ) (es : List (Step Call)) (o : List ℕ) (b : ℕ) {k : Call} {x : ℕ} → b ≡ c + ticked es → Addition b k x
    → Kept c (record { call = k; answer = ok; out = o } ∷ es) (timeout x 1 b)
adds c es o b e relative = record { clock = omega arith; shows = (omega arith, omega arith) }
adds c es o b e (absolutely f) = record { clock = omega arith; shows = (omega arith, refl) }
adds c es o b e forever = record { clock = omega arith; shows = (omega arith, refl) }
adds c es o b e no-wait = record { clock = omega arith; shows = (omega arith, refl) }

keeps : (c : ℕ) → Keeps (Kept c)
keeps c es t o i k y (refuses m) = record { clock = i.clock; shows = i.shows }
keeps c es t o i k y (sets e f) = adds c es o t.clock i.clock f
keeps c es t o i k y (aborts e) = record { clock = omega (arith, i.clock); shows = refl }
keeps c es t o i k y (moves-on {n} f e) = record { clock = omega (arith, i.clock); shows = shows_same (plan c es) t (t.clock + n) i.shows }
keeps c es t o i k y (rings f e) = record { clock = omega (arith, i.clock); shows = refl }

-- what such a plan says of the next call
module _ (t : Timeout) where
  answers-plan : (p : Plan) → Shows p t → (n : ℕ) → t.clock + n < never → answer (announce n t) ≡ cond (fires_at p (t.clock + n)) (pos 1) ok
  answers-plan idle s n k = rw (lt-ltb (t.clock + n) never k, le-ltb 0 t.active (omega arith))
  answers-plan (due x) s n k =
      rw (lt-ltb (t.clock + n) never k, lt-ltb 0 t.active s.0) (ap (λ m. cond (fires true m (t.clock + n)) (pos 1) ok) s.1)

  busy : (p : Plan) → Shows p t → (x : ℕ) → p ≡ due x → (y : Reply ℕ) → arm y t ≡ refuse ebusy
  busy idle s x e y = absurd (let z : ◌≡◌ {A = ℕ} 0 1 = cc in omega arith)
  busy (due z) s x e y = set-busy t y s.0

  nothing : (p : Plan) → Shows p t → p ≡ idle → abort t ≡ refuse einval
  nothing idle s e = abort_no t s
  nothing (due z) s e = absurd (let z : ◌≡◌ {A = ℕ} 0 1 = cc in omega arith)

promised : (c : ℕ) (es : List (Step Call)) (t : Timeout) → t.clock < never → Kept c es t → Promise c es t
promised c es t k i =
    record {
      clock = i.clock;
      below = k;
      shows = i.shows;
      refused = λ n f. announce-late t n f;
      fires = answers-plan t (plan c es) i.shows;
      busy = busy t (plan c es) i.shows;
      nothing = nothing t (plan c es) i.shows;
    }

pub always : Always
always c h h₀ h' es s m =
    let b = s.made refl in
    let z = always_keeps (Kept c) (keeps c) b.formed (subst (Kept c []) (sym b.object) (record { clock = omega arith; shows = refl })) m in
    (z.0, promised c es (place.object h' []) (sound h' z.0).below z.1)
