-- What our step does with callers that may not call, and with two calls together, for any kind of object. Assumes nothing.
use mathlib.Core.Path.{◌≡◌, refl, sym}
use mathlib.Core.List.{List, [], ◌++◌}
use Prim.Native.Nat.{ℕ}
use native.Mathlib.Omega.{arith}
use lib.IntN.{ℤ, pos, negsuc}
use borrow.Author.Tests.{eq-eqb, ne_eqb, lt-ltb}
use Rattle.seq.proofs.Order.{cond_same}
use Rattle.thread.specs.Code.{ebusy, einval}
use Rattle.thread.specs.Priority.{max_priority, valid}
use Rattle.thread.specs.Caller.{caller_code}
use Rattle.kind.specs.Kind.{Kind}
use Rattle.condvar.specs.Post.{agreed}
use Rattle.system.specs.System.{State, absent, waiting, number, Sys, done, denied, reply, Woken, Reply, refuse, unless, called, step}
use Rattle.system.specs.Rules.{Fine}
use Rattle.system.specs.Laws.{OfCallers, OfPairs}
use Rattle.system.proofs.Calls.{barred}
use Rattle.system.proofs.Effects.{no_object, refuses, barring}

module _ {K : Kind} (s : Sys K) (g : Fine s) where
  pub callers : OfCallers step s
  callers =
      record {
        nothing = λ i o k h. refuses s i o k 21 (no_object s i o k h);
        blocked =
            λ i o a k n h r.
            let e : caller_code (s.prio i) (number (s.state i)) ≡ ebusy = rw (r, lt-ltb (s.prio i) max_priority (g.known i (λ z. two r z)).1) in
            barring s i o k n h 15 (barred s i o k n (g.formed o n h) 15 e);
        idle =
            λ i o k n v h r.
            let e : caller_code (s.prio i) (number (s.state i)) ≡ einval = rw r (cond_same (valid (s.prio i)) einval) in
            barring s i o k n h 21 (barred s i o k n (g.formed o n h) 21 e);
        gone =
            λ i o k n h r.
            let e : caller_code (s.prio i) (number (s.state i)) ≡ einval = rw r (cond_same (valid (s.prio i)) einval) in
            barring s i o k n h 21 (barred s i o k n (g.formed o n h) 21 e);
      }
    where
      two : {a : ℕ} {x : State} → x ≡ waiting a → x ≡ absent → ⊥
      two {a} p q = let z : ◌≡◌ {A = ℕ} 0 1 = cc in omega arith

  pub pairs : OfPairs step s
  pairs =
      record {
        same = λ i a j k. rw (eq-eqb a a refl);
        first = λ i a b j k c n p. rw (ne_eqb a b n) (one (first i a j).1 (second i a j b k).1 (second i a j b k).0 (whom i a j b k) c p);
        second = λ i a b j k c d n p q. rw (ne_eqb a b n) (other (first i a j).1 (second i a j b k).1 (second i a j b k).0 (whom i a j b k) c d p q);
        two = λ i a b j k c d n p q. rw (ne_eqb a b n) (done-both (first i a j).1 (second i a j b k).1 (second i a j b k).0 (whom i a j b k) c d p q);
      }
    where
      first : ℕ → ℕ → K.Call → Sys K × ℤ × List Woken
      first i a j = called s i a j

      second : ℕ → ℕ → K.Call → ℕ → K.Call → Sys K × ℤ × List Woken
      second i a j b k = called (called s i a j).0 i b k

      whom : ℕ → ℕ → K.Call → ℕ → K.Call → List Woken
      whom i a j b k = (called s i a j).2 ++ (called (called s i a j).0 i b k).2

      never : {A : Type 0} {x y : ℤ} → done x ≡ denied y → A
      never h = absurd (let z : ◌≡◌ {A = ℕ} 0 1 = cc in omega arith)

      one : (x y : ℤ) (u : Sys K) (w : List Woken) (c : ℤ) → reply x ≡ denied c
          → ◌≡◌ {A = Reply K} (unless (agreed x y) s u, reply (agreed x y), unless (agreed x y) [] w) (refuse s c)
      one (pos a) y u w c p = never p
      one (negsuc a) y u w c p = λ j. (s, p j, [])

      other : (x y : ℤ) (u : Sys K) (w : List Woken) (c d : ℤ) → reply x ≡ done c → reply y ≡ denied d
          → ◌≡◌ {A = Reply K} (unless (agreed x y) s u, reply (agreed x y), unless (agreed x y) [] w) (refuse s d)
      other (negsuc a) y u w c d p q = never (sym p)
      other (pos a) (pos b) u w c d p q = never q
      other (pos a) (negsuc b) u w c d p q = λ j. (s, q j, [])

      done-both : (x y : ℤ) (u : Sys K) (w : List Woken) (c d : ℤ) → reply x ≡ done c → reply y ≡ done d
          → ◌≡◌ {A = Reply K} (unless (agreed x y) s u, reply (agreed x y), unless (agreed x y) [] w) (u, done c, w)
      done-both (negsuc a) y u w c d p q = never (sym p)
      done-both (pos a) (pos b) u w c d p q = λ j. (u, p j, w)
      done-both (pos a) (negsuc b) u w c d p q = never (sym q)
