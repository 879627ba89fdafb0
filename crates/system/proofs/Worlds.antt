-- A history of calls of the code on objects in memory is a history of the system. Assumes nothing.
use mathlib.Core.Path.{◌≡◌, refl, sym, subst, ap, ◌∙◌}
use mathlib.Core.Bool.{false}
use mathlib.Core.List.{List, [], ◌∷◌}
use Prim.Native.Nat.{ℕ}
use native.Mathlib.Omega.{arith}
use lib.IntN.{ℤ, pos, negsuc}
use lib.ListN.{set}
use borrow.Author.Tests.{eq-eqb, ne_eqb}
use Rattle.thread.specs.Code.{ok, eagain}
use Rattle.kind.specs.Kind.{Kind, Lawful}
use Rattle.store.specs.Store.{Allowed}
use Rattle.system.specs.System.{State, ready, Sys, expired, both, expire, create, left, created, done, reply, step, after, called}
use Rattle.system.specs.Rules.{Fine}
use Rattle.system.specs.Functions.{Memory}
use Rattle.system.specs.Link.{Is, Readies, Links, LinksBoth, Turns}
use Rattle.system.specs.World.{Library, World, Event, quiet, actor, Noted, opened, noted, ops, Agrees, Elsewhere}
use Rattle.system.specs.History.{Holds, Shows, Happens, calls, pairs, inits, removes, moves, begun, then, Histories}
use Rattle.system.proofs.Steps.{step-fine}
use Rattle.system.proofs.Sheets.{Fits}
use Rattle.system.proofs.Inits.{makes, expires}
use Rattle.system.proofs.Elsewhere.{call_kept, both-kept, left-kept, create-kept, create-silent, create-denied, create-states}
use Rattle.system.proofs.Elsewhere.{moves-kept, moves-others}
use Rattle.system.proofs.Touched.{There, stays, one_touched, two_touched, silent, unroused}
use Rattle.system.proofs.Tables.{table}

-- what is proved of each function, and of where each object stands in its header
pub record Linked {K : Kind} (C : Library K) : Type 0 where
  pub lawful : Lawful K
  pub fits : (x : C.Sort) → Fits (C.class x).part
  pub links : (x : C.Sort) (f : (C.class x).code.Fn) → Links (C.class x).part (C.class x).code.layout ((C.class x).code.function f)
  pub double : (t : C.Two)
      → LinksBoth (C.class (C.first t)).part (C.class (C.first t)).code.layout (C.class (C.second t)).part
      (C.class (C.second t)).code.layout (C.double t)
  pub told : (x : C.Sort) (n : (C.class x).kind.Num) → (C.class x).code.Told n → (C.class x).kind.new n ≡ (C.class x).kind.formed n false
  pub beside : (x : C.Sort) (h : List ℕ) (k : ℕ) → (C.class x).code.layout.num (set h (C.class x).code.layout.len k) ≡ (C.class x).code.layout.num h

module _ {K : Kind} (C : Library K) (linked : Linked C) (sort : ℕ → C.Sort) where
  -- one event
  module _ (s : Sys K) (g : Fine s) (w w' : World) (shows : Shows C sort s w) where
    -- what becomes of the threads
    abbrev Settles : Event K → Type 0
    Settles e = Readies s e.by (step s e.op).2 (step s e.op).0 × ((step s e.op).0.state e.by ≡ e.becomes (s.state e.by))

    abbrev Stepped : Event K → Type 0
    Stepped e = Shows C sort (step s e.op).0 w' × Agrees e (step s e.op) × Settles e

    happened : (e : Event K) → Happens C sort s w w' e → Elsewhere e.on w w' → Stepped e
    happened e (calls i o n f u there before after c d) off =
        let F = (C.class (sort o)).code.function f in
        let k = (C.class (sort o)).part.call F.call in
        let x = linked.links (sort o) f s g i o u (subst (λ (m : Memory). Holds C sort s o m) (sym before) (shows o n there)) c d in (
          one_touched C sort s w w' shows (called s i o k).0 o (λ m z. subst (λ (y : Memory). Holds C sort (called s i o k).0 o y) (sym after) x.is)
              (λ y z. call_kept s y i o k z) off,
          record { answer = ap reply x.code; handed = x.handed; reads = x.reads },
          (x.readies, x.caller),
        )
    happened e (pairs i a b m n t u sa sb apart ta tb before after c d) off =
        let j = (C.class (C.first t)).part.call (C.double t).first in
        let k = (C.class (C.second t)).part.call (C.double t).second in
        let x =
        linked.double t s g i a b apart u (w b) (w' b)
        (subst (λ (y : C.Sort). Is (C.class y).code.layout (C.class y).part.num s a u.before.header u.before.entries) sa
        (subst (λ (l : Memory). Holds C sort s a l) (sym before) (shows a m ta)))
        (subst (λ (y : C.Sort). Is (C.class y).code.layout (C.class y).part.num s b (w b).header (w b).entries) sb (shows b n tb)) c d in (
          two_touched C sort s w w' shows (step s (both i a j b k)).0 a b
              (λ l z.
              subst (λ (y : Memory). Holds C sort (step s (both i a j b k)).0 a y) (sym after)
              (subst (λ (y : C.Sort). Is (C.class y).code.layout (C.class y).part.num (step s (both i a j b k)).0 a u.after.header
              u.after.entries) (sym sa) x.first))
              (λ l z. subst (λ (y : C.Sort). Is (C.class y).code.layout (C.class y).part.num (step s (both i a j b k)).0 b (w' b).header
              (w' b).entries) (sym sb) x.second)
              (λ y p q. both-kept s y i a j b k apart p q) off,
          record { answer = x.code; handed = x.handed; reads = x.reads },
          (x.readies, x.caller),
        )
    happened e (inits o n r v told words room d entries) off =
        let P = (C.class (sort o)).part in
        let x =
        makes P (linked.fits (sort o)) (C.class (sort o)).code.layout s g o n (w o).header (w o).entries r (w' o).header v words room
        (linked.told (sort o) n told) d in (
          one_touched C sort s w w' shows (created s o (P.num n)).0 o (here r x) (λ y z. create-kept s y o (P.num n) v z) off,
          silent (quiet (create o (P.num n)) (reply r) (o ∷ []) 0 (λ x. x)) (step s (create o (P.num n))) x.code
              (create-silent s o o (P.num n) v) refl refl,
          (unroused s (created s o (P.num n)).0 0 (create-silent s o o (P.num n) v) (λ t z. create-states s t o (P.num n)), create-states s 0 o (P.num n)),
        )
      where
        here : (r : ℤ)
            → Turns (C.class (sort o)).code.layout (C.class (sort o)).part.num s o (create o ((C.class (sort o)).part.num n)) r (w' o).header
            (w o).entries
            → There C sort s w w' shows (created s o ((C.class (sort o)).part.num n)).0 o
        here (pos c) x m z =
            subst
            (λ (y : List ℕ). Is (C.class (sort o)).code.layout (C.class (sort o)).part.num (created s o ((C.class (sort o)).part.num n)).0 o
            (w' o).header y)
            (sym entries) x.is
        here (negsuc c) x m z = absurd (create-denied s o o ((C.class (sort o)).part.num n) v (negsuc c) m x.code z)
    happened e (removes i o n r k state there d header) off =
        let L = (C.class (sort o)).code.layout in
        let num = (C.class (sort o)).part.num in
        let x = expires L num (linked.beside (sort o)) s g i o (w o).header (w o).entries (shows o n there) state r k
        (w' o).entries d in
        let c : reply r ≡ done ok = subst (λ (y : State). reply r ≡ (expired y s i).1) state x.code in
        let m : Allowed r (Is L num (left s i o) o (set (w o).header L.len k) (w' o).entries) =
        subst (λ (y : State). Allowed r (Is L num (expired y s i).0 o (set (w o).header L.len k) (w' o).entries)) state x.is in (
          subst (λ (y : State). Shows C sort (expired y s i).0 w') (sym state)
              (one_touched C sort s w w' shows (left s i o) o (here r c m) (λ y z. left-kept s y i o z) off),
          silent (quiet (expire i) (reply r) (o ∷ []) i (λ x. ready eagain)) (step s (expire i)) x.code (rw state refl) refl refl,
          subst
              (λ (y : State). Readies s i (expired y s i).2 (expired y s i).0 × ((expired y s i).0.state i ≡ ready eagain)) (sym state)
              (record { ready = tt; others = λ t a n. rw (ne_eqb i t n) }, rw (eq-eqb i i refl)),
        )
      where
        here : (r : ℤ) → reply r ≡ done ok
            → Allowed r (Is (C.class (sort o)).code.layout (C.class (sort o)).part.num (left s i o) o
            (set (w o).header (C.class (sort o)).code.layout.len k) (w' o).entries)
            → There C sort s w w' shows (left s i o) o
        here (pos c) e y m z =
            subst (λ (l : List ℕ). Is (C.class (sort o)).code.layout (C.class (sort o)).part.num (left s i o) o l (w' o).entries) (sym header) y
        here (negsuc c) e y m z = absurd (let l : ◌≡◌ {A = ℕ} 0 1 = cc in omega arith)
    happened e (moves x z) off = (
      λ y. stays C sort s w w' shows (step s x).0 y (moves-kept s y x z).0 (off y tt),
      silent (quiet x (step s x).1 [] (actor x) (λ y. (step s x).0.state (actor x))) (step s x) refl (moves-kept s 0 x z).1 refl refl,
      (unroused s (step s x).0 (actor x) (moves-kept s 0 x z).1 (λ t n. moves-others s t x z n), refl),
    )

  -- any number of them
  after-fine : (s : Sys K) → Fine s → (es : List (Event K)) → Fine (after s (ops es))
  after-fine s g [] = g
  after-fine s g (e ∷ es) = step-fine linked.lawful (after s (ops es)) e.op (after-fine s g es)

  empty_table : (s : Sys K) (T T' : ℕ → State) → ((t : ℕ) → T t ≡ s.state t) → Noted {K = K} T [] T' → (t : ℕ) → T' t ≡ s.state t
  empty_table s T T' same opened = same

  more : (s : Sys K) (e : Event K) (es : List (Event K)) → Agrees e (step s e.op)
      → Readies s e.by (step s e.op).2 (step s e.op).0 × ((step s e.op).0.state e.by ≡ e.becomes (s.state e.by))
      → (T T' : ℕ → State) → ((U : ℕ → State) → Noted T es U → (t : ℕ) → U t ≡ s.state t) → Noted T (e ∷ es) T' → (t : ℕ) → T' t ≡ (step s e.op).0.state t
  more s e es a b T T' past (noted {U = U} k n) = table s (step s e.op).0 e (step s e.op).2 a.reads b.0 b.1 U T' (past U k) n

  pub histories : Histories C sort
  histories s g w shows [] w' begun = record { shows = shows; agree = tt; tables = λ T T' same n. empty_table s T T' same n; untouched = λ o a. refl }
  histories s g w shows (e ∷ es) w' (then {w' = v} ran h off) =
      let past = histories s g w shows es v ran in
      let now = happened (after s (ops es)) (after-fine s g es) v w' past.shows e h off in
      record {
        shows = now.0;
        agree = (now.1, past.agree);
        tables = λ T T' same n. more (after s (ops es)) e es now.1 now.2 T T' (λ U k. past.tables T U same k) n;
        untouched = λ o a. off o a.0 ∙ past.untouched o a.1;
      }
