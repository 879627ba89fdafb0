-- Who is woken by a call waited there and is made ready, and no other thread changes but the caller; and by one call after another. Assumes nothing.
use mathlib.Core.Path.{◌≡◌, refl, sym, subst, ◌∙◌, ap}
use mathlib.Core.Bool.{false}
use mathlib.Core.List.{List, [], ◌∷◌, map, map-map, ◌++◌, append-nil}
use Prim.Native.Nat.{ℕ, ◌≤◌}
use native.Mathlib.Omega.{arith}
use lib.IntN.{ℤ, pos, negsuc}
use lib.ListN.{length}
use borrow.Author.Tests.{ne_eqb}
use Rattle.seq.specs.List.{All}
use Rattle.wait_queue.specs.Queue.{ident, holds}
use Rattle.wait_queue.proofs.Well.{none-holds, all_in}
use Rattle.store.specs.Store as store
use Rattle.kind.specs.Verdict.{Pick, gone, keep, park, wake, Verdict, deny, allow}
use Rattle.kind.specs.Kind.{Kind, Distinct}
use Rattle.system.specs.System.{ready, waiting, Slot, vacant, object, Sys, Woken, deed, states, woken, unless, serve, thing, outcome, verdict, visited, called, running}
use Rattle.system.specs.Link.{read, word, Readies, Waited}
use Rattle.system.specs.Rules.{Fine}
use Rattle.system.proofs.Times.{times_pick, on_one, picked, all_list, list_all, distinct, single}
use Rattle.store.specs.Store.{first}

module _ {K : Kind} (s : Sys K) (i o : ℕ) (k : K.Call) (n : K.Num) (h : s.slot o ≡ object n) where
  abbrev q : List ℕ
  q = s.queue o

  off : (t : ℕ) (f : ℕ → ℤ) (y : List ℕ) → All (λ (w : Woken). w.thread ≡ t → ⊥) (map (λ x. record { thread = ident x; result = f (ident x) }) y)
      → holds t y ≡ false
  off t f y a = none-holds t y (all_list (λ (w : Woken). w.thread ≡ t → ⊥) (λ x. record { thread = ident x; result = f (ident x) }) y a)

  -- who is woken is made ready, and no other changes but the caller
  pub call-readies : Readies s i (called s i o k).2 (called s i o k).0
  call-readies =
      subst (λ (y : Slot K.Num). Readies s i (visited y s i o k).2 (visited y s i o k).0) (sym h) (go (store.answer (outcome s i o k n)) (verdict s i o k n))
    where
      roused : (p : Pick) (f : ℕ → ℤ)
          → All (λ (w : Woken). states {W = K.Wish} (wake p f) i o q s.state w.thread ≡ ready w.result) (woken {W = K.Wish} (wake p f) q)
      roused p f =
          list_all (λ (w : Woken). states {W = K.Wish} (wake p f) i o q s.state w.thread ≡ ready w.result)
          (λ x. record { thread = ident x; result = f (ident x) }) (gone ident p q)
          (all_in (λ t. states {W = K.Wish} (wake p f) i o q s.state t ≡ ready (f t)) (gone ident p q) (λ t z. rw z))

      go : (z : ℤ) (d : Verdict K.Num K.Wish) → Readies s i (unless z [] (woken (deed d) q)) (unless z s (serve s i o d (store.left (outcome s i o k n) (thing s o n))))
      go (negsuc c) d = record { ready = tt; others = λ t a x. refl }
      go (pos c) (deny r) = record { ready = tt; others = λ t a x. refl }
      go (pos c) (allow m keep r) = record { ready = tt; others = λ t a x. refl }
      go (pos c) (allow m (park y) r) = record { ready = tt; others = λ t a x. rw (ne_eqb i t x) }
      go (pos c) (allow m (wake p f) r) =
          record { ready = roused p f; others = λ t a x. rw (off t f (gone ident p q) a) }

-- who is woken waited on this object, each once
pub woken-waited : {K : Kind} (s : Sys K) → Fine s → (i o : ℕ) (k : K.Call) → Waited s o (called s i o k).2
woken-waited {K} s g i o k = go (s.slot o)
  where
    none : Waited s o []
    none = record { there = tt; once = tt }

    by : (z : ℤ) (d : Verdict K.Num K.Wish) → Waited s o (unless z [] (woken (deed d) (s.queue o)))
    by (negsuc c) d = none
    by (pos c) (deny r) = none
    by (pos c) (allow m keep r) = none
    by (pos c) (allow m (park x) r) = none
    by (pos c) (allow m (wake p f) r) =
        let l = gone ident p (s.queue o) in
        record {
          there =
              list_all (λ (w : Woken). s.state w.thread ≡ waiting o) (λ x. record { thread = ident x; result = f (ident x) }) l
              (all_in (λ t. s.state t ≡ waiting o) l (λ t z. picked s g.placed o t p z));
          once =
              subst Distinct (sym (map-map (λ (w : Woken). w.thread) (λ x. record { thread = ident x; result = f (ident x) }) l))
              (distinct l (single l (λ t. omega (arith, times_pick t p (s.queue o), g.placed o t, on_one o (s.state t)))));
        }

    go : (x : Slot K.Num) → Waited s o (visited x s i o k).2
    go vacant = none
    go (object n) = by (store.answer (outcome s i o k n)) (verdict s i o k n)

-- one call after another, of which the second wakes nobody, by a thread that still runs between them
pub readies-on : {K : Kind} (s t u : Sys K) (i : ℕ) (l m : List Woken) → t.state i ≡ running → length m ≤ 0 → Readies s i l t → Readies t i m u
    → Readies s i (l ++ m) u
readies-on s t u i l (y ∷ m) run z a b = absurd (omega (arith, z))
readies-on s t u i l [] run z a b = record { ready = all l a.ready; others = λ x c n. b.others x tt n ∙ a.others x (cut l x c) n }
  where
    off : (x : ℕ) (r : ℤ) → t.state x ≡ ready r → i ≡ x → ⊥
    off x r y e =
        let v : running ≡ ready r = sym run ∙ ap (λ (l : ℕ). t.state l) e ∙ y in
        absurd (let l : ◌≡◌ {A = ℕ} 0 1 = cc in omega arith)

    all : (l : List Woken) → All (λ (w : Woken). t.state w.thread ≡ ready w.result) l
        → All (λ (w : Woken). u.state w.thread ≡ ready w.result) (l ++ [])
    all [] y = tt
    all (x ∷ l) y = (b.others x.thread tt (off x.thread x.result y.0) ∙ y.0, all l y.1)

    cut : (l : List Woken) (x : ℕ) → All (λ (w : Woken). w.thread ≡ x → ⊥) (l ++ []) → All (λ (w : Woken). w.thread ≡ x → ⊥) l
    cut [] x y = tt
    cut (w ∷ l) x y = (y.0, cut l x y.1)

pub waited-on : {K : Kind} (s : Sys K) (o : ℕ) (l m : List Woken) → length m ≤ 0 → Waited s o l → Waited s o (l ++ m)
waited-on s o l (y ∷ m) z t = absurd (omega (arith, z))
waited-on s o l [] z t = rw (append-nil l) t

-- the words of both
pub told-on : (l m : List Woken) (w w' : ℕ) → length m ≤ 0 → w' ≡ first w (map word l) → w' ≡ first w (map word (l ++ m))
told-on l (y ∷ m) w w' z t = absurd (omega (arith, z))
told-on [] [] w w' z t = t
told-on (x ∷ l) [] w w' z t = t

pub read-on : (l m : List Woken) → length m ≤ 0 → map read (map word l) ≡ l → map read (map word (l ++ m)) ≡ l ++ m
read-on l (y ∷ m) z t = absurd (omega (arith, z))
read-on l [] z t = rw (append-nil l) t

pub length-same : (l m : List Woken) → length m ≤ 0 → length (l ++ m) ≡ length l
length-same l (y ∷ m) z = absurd (omega (arith, z))
length-same l [] z = ap length (append-nil l)

pub length-on : (l m : List Woken) → length m ≤ 0 → length l ≤ 1 → length (l ++ m) ≤ 1
length-on l m z t = omega (arith, length-same l m z)
