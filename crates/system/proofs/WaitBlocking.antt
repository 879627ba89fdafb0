-- wait_blocking: by its contract, what it does to the memory of its two objects is the step of the system. Assumes nothing.
use mathlib.Core.Path.{◌≡◌, refl, sym, ap, subst, ◌∙◌}
use mathlib.Core.List.{List, [], ◌∷◌, ◌++◌, map}
use Prim.Native.Nat.{ℕ}
use native.Mathlib.Omega.{arith}
use lib.IntN.{ℤ, pos, negsuc}
use lib.ListN.{take}
use borrow.Author.Tests.{ne_eqb}
use Rattle.wait_queue.specs.Turn.{waits}
use Rattle.store.specs.Store.{answer, reply as replied, Did, Hands, Refused, Allowed}
use Rattle.kind.specs.Kind.{Kind, Lawful}
use Rattle.kind.specs.Object.{Layout}
use Rattle.mutex.specs.Mutex as mutex
use Rattle.mutex.specs.Mutex.{mutex_kind}
use Rattle.mutex.specs.Post as lock
use Rattle.mutex.specs.Post.{release_out}
use Rattle.condvar.specs.Condvar as condvar
use Rattle.condvar.specs.Condvar.{condvar_kind}
use Rattle.condvar.specs.Post as condition
use Rattle.condvar.specs.Post.{agreed, Waits}
use Rattle.system.specs.Part.{Part}
use Rattle.system.specs.System.{number, Sys, reply, called, answers}
use Rattle.system.specs.Rules.{Fine}
use Rattle.system.specs.Functions.{Memory, Use, heard, only_at, WaitedWith, wait_blocking}
use Rattle.system.specs.Link.{Is, read, Handed, settle, Truthful, Pairs, LinksBoth}
use Rattle.system.proofs.Sheets.{Fits}
use Rattle.system.proofs.Link.{read_all_lem}
use Rattle.system.proofs.Waiting.{both_tell, first-is, second_is, hands, count, reads_both, ready-both, waited-both, last}

module _ {K : Kind} (law : Lawful K) (P : Part mutex_kind K) (fits : Fits P) (C : Part condvar_kind K) (fitting : Fits C)
    (s : Sys K) (g : Fine s) (i a b : ℕ) (off : a ≡ b → ⊥) (u : Use) (c c' : Memory) (x : Is lock.layout P.num s a u.before.header u.before.entries)
    (y : Is condition.layout C.num s b c.header c.entries) (t : Truthful s i u) (d : WaitedWith u c c') where
  abbrev j : K.Call
  j = P.call mutex.release

  abbrev k : K.Call
  k = C.call condvar.wait

  abbrev Goal : Type 0
  Goal = Pairs lock.layout P.num condition.layout C.num s i a j b k (only_at 2) u c'

  abbrev h : List ℕ
  h = u.before.header

  abbrev e : List ℕ
  e = u.before.entries

  honest : (l q v : ℕ) → l ≡ i → q ≡ s.prio i → v ≡ number (s.state i)
      → Waits l q v c.header c.entries h e d.who u.answer c'.header c'.entries u.after.header d.who'
      → Waits i (s.prio i) (number (s.state i)) c.header c.entries h e d.who u.answer c'.header c'.entries u.after.header d.who'
  honest l q v el eq ev w = rw (el, eq, ev) at w

  waited : Waits i (s.prio i) (number (s.state i)) c.header c.entries h e d.who u.answer c'.header c'.entries u.after.header d.who'
  waited = honest u.id u.priority u.state t.id t.priority t.state d.waited

  said : u.answer ≡ answers s i a j b k
  said = waited.code ∙ sym (both_tell law P fits C fitting s g i a b off h e c.header c.entries x y)

  kept : (n : ℕ) → u.answer ≡ negsuc n → (c'.header ≡ c.header) × (c'.entries ≡ c.entries) × (u.after.header ≡ h) × (d.who' ≡ d.who)
  kept n z =
      subst (λ (r : ℤ). Refused r ((c'.header ≡ c.header) × (c'.entries ≡ c.entries) × (u.after.header ≡ h) × (d.who' ≡ d.who))) z waited.neither

  by_answer : (z : ℤ) → u.answer ≡ z → Goal
  by_answer (negsuc n) z =
      let l : answers s i a j b k ≡ negsuc n = sym said ∙ z in
      record {
        code = rw (ne_eqb a b off) (ap reply said);
        first = rw (ne_eqb a b off, l) (moved x (kept n z).2 d.entries);
        second = rw (ne_eqb a b off, l) (moved y (kept n z).0 (kept n z).1);
        handed = rw (ne_eqb a b off, l) (d.filled ∙ ap (λ (v : ℕ). v ∷ []) (kept n z).3 ∙ sym d.lent);
        reads = rw (ne_eqb a b off, l) (ap (λ (r : ℤ). map read (take (heard (only_at 2) r) u.filled)) z);
        waited = rw (ne_eqb a b off, l) (record { there = tt; once = tt });
        readies = rw (ne_eqb a b off, l) (record { ready = tt; others = λ v w o. refl });
        caller = rw (ne_eqb a b off, l) (ap (λ (r : ℤ). settle b r (s.state i)) (sym z));
      }
    where
      moved : {N : Type 0} {L : Layout N} {num : N → K.Num} {o : ℕ} {m d m' d' : List ℕ} → Is L num s o m d → m' ≡ m → d' ≡ d → Is L num s o m' d'
      moved i v w = rw (v, w) i
  by_answer (pos n) z = by (answer (replied lock.place (release_out i (s.prio i) (number (s.state i))) h e)) refl
    where
      told : answers s i a j b k ≡ pos n
      told = sym said ∙ z

      does : Did condition.place (condition.wait_out i (s.prio i) (number (s.state i))) c.header c.entries waits c'.header c'.entries
          × Hands lock.place (release_out i (s.prio i) (number (s.state i))) h e d.who u.answer u.after.header d.who'
      does =
          subst
          (λ (r : ℤ).
          Allowed r
          (Did condition.place (condition.wait_out i (s.prio i) (number (s.state i))) c.header c.entries waits c'.header c'.entries
          × Hands lock.place (release_out i (s.prio i) (number (s.state i))) h e d.who u.answer u.after.header d.who'))
          z waited.both

      by : (v : ℤ) → answer (replied lock.place (release_out i (s.prio i) (number (s.state i))) h e) ≡ v → Goal
      by (negsuc v) f =
          let l : agreed (negsuc v) (answer (replied condition.place (condition.wait_out i (s.prio i) (number (s.state i))) c.header c.entries)) ≡ pos n =
          rw f at (sym waited.code ∙ z) in
          absurd (let o : ◌≡◌ {A = ℕ} 0 1 = cc in omega arith)
      by (pos v) f =
          let m = u.after.header in
          let q = c.header in
          let l = c.entries in
          let q' = c'.header in
          let l' = c'.entries in
          let hand : Handed ((called s i a j).2 ++ (called (called s i a j).0 i b k).2) u.lent u.filled =
          hands law P fits C fitting s g i a b off h e q l x y n told v f u.answer q' l' m does.1.0 does.0 d.who d.who' u.lent u.filled
          d.lent d.filled does.1.1 in
          record {
            code = rw (ne_eqb a b off) (ap reply said);
            first =
                rw (ne_eqb a b off, told)
                (subst (λ (z : List ℕ). Is lock.layout P.num (called (called s i a j).0 i b k).0 a u.after.header z) (sym d.entries)
                (first-is law P fits C fitting s g i a b off h e q l x y n told v f u.answer q' l' m does.1.0 does.0));
            second = rw (ne_eqb a b off, told) (second_is law P fits C fitting s g i a b off h e q l x y n told v f u.answer q' l' m does.1.0 does.0);
            handed = rw (ne_eqb a b off, told) hand;
            reads =
                rw (ne_eqb a b off, told)
                (ap (map read)
                (read_all_lem ((called s i a j).2 ++ (called (called s i a j).0 i b k).2) (heard (only_at 2) u.answer) u.lent u.filled hand
                (count law P fits C fitting s g i a b off h e q l x y n told v f u.answer q' l' m does.1.0 does.0 ∙ ap (heard (only_at 2))
                (sym does.1.0.code)))
                ∙ reads_both law P fits C fitting s g i a b off h e q l x y n told v f u.answer q' l' m does.1.0 does.0);
            caller =
                rw (ne_eqb a b off, told)
                (last law P fits C fitting s g i a b off h e q l x y n told v f u.answer q' l' m does.1.0 does.0 ∙ ap
                (λ (r : ℤ). settle b r (s.state i)) (sym z));
            waited =
                rw (ne_eqb a b off, told)
                (waited-both law P fits C fitting s g i a b off h e q l x y n told v f u.answer q' l' m does.1.0 does.0);
            readies = rw (ne_eqb a b off, told) (ready-both law P fits C fitting s g i a b off h e q l x y n told v f u.answer q' l' m does.1.0 does.0);
          }

pub wait-links : {K : Kind} → Lawful K → (P : Part mutex_kind K) → Fits P → (C : Part condvar_kind K) → Fits C
    → LinksBoth P lock.layout C condition.layout wait_blocking
wait-links law P fits C fitting s g i a b off u c c' x y t d = by_answer law P fits C fitting s g i a b off u c c' x y t d u.answer refl
