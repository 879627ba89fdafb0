-- A field for each sentence of README.md and docs/THEOREMS.md.
use Rattle.std.specs.Prelude.{◌≡◌, List, [], ◌∷◌, ℕ, ◌+◌, ◌≤◌, ℤ, length, drop}
use Rattle.seq.specs.Part.{part, At}
use Rattle.store.specs.Store.{Reply, refuse, out, Refused, Signed, Place, reply, Did}
use Rattle.kind.specs.Kind.{Kind, Lawful}
use Rattle.kind.specs.Object.{Object, Caller, call}
use Rattle.sem.specs.Border as sem
use Rattle.mutex.specs.Border as mutex
use Rattle.mutex.specs.Mutex.{Mutex, max_count}
use Rattle.system.specs.System.{object, Sys, Op, Kernel, reached, step, after}
use Rattle.system.specs.Rules.{Placed, Known, Own, Formed, Bare, Kept, Start}
use Rattle.system.specs.Run.{Run, run}
use Rattle.system.specs.Order.{Ordered, Best}
use Rattle.system.specs.Life.{Life, Refuses}
use Rattle.system.specs.Ledger.{Ledgers}
use Rattle.system.specs.Laws.{Laws}
use Rattle.system.specs.Rtos.{rtos, members, sem_part, mutex_part}
use Rattle.system.specs.Theorems.{Semaphores, Mutexes}
use Rattle.system.specs.History.{Histories}
use Rattle.system.specs.Library.{stock, library}
use Rattle.claims.specs.Covered.{Contracts}
use Rattle.claims.specs.Objects.{Objects}
use Rattle.claims.specs.Parts.{Apart, returned}

-- of every kernel that keeps the laws, from every start, after every history
abbrev pub Always : (Run rtos → List (Op rtos) → Type 0) → Type 0
Always P = (f : Kernel rtos) → Laws members f → (s : Sys rtos) → Start s → (past : List (Op rtos)) → P (run f s) past

pub record Claims : Type 1 where
  -- ---- README.md
  -- 1, 8, 10, 11: a contract fixes the answer and every word
  pub contracts : Contracts
  -- 2, 11: a refusal changes no word and hands nothing out
  pub refused : {S : Type 0} (P : Place S) (f : S → Reply S) (h b : List ℕ) (c : ℤ) (r : ℤ) (h' b' : List ℕ) → reply P f h b ≡ refuse c
      → Did P f h b r h' b' → (r ≡ c) × (h' ≡ h) × (b' ≡ b) × (out (reply P f h b) ≡ [])
  -- where an answer below 0 is a refusal, and nothing else is, so does any such answer; and so it is of every call of an object with a queue
  pub below_zero : {S : Type 0} (P : Place S) (f : S → Reply S) → ((s : S) → Signed (f s)) → (h b : List ℕ) (r : ℤ) (h' b' : List ℕ) → Did P f h b r h' b'
      → Refused r ((h' ≡ h) × (b' ≡ b))
  pub signed : (K : Kind) → Lawful K → (v : ℕ → K.Wish) (s : Object K.Num) (w : Caller) (k : K.Call) → Signed (call K v w k s)
  -- no call changes a word outside the object, whatever it answers
  pub outside : {S : Type 0} (P : Place S) (f : S → Reply S) (h b : List ℕ) (r : ℤ) (h' b' : List ℕ) → Did P f h b r h' b'
      → (drop P.words h' ≡ drop P.words h) × (drop (P.size h') b' ≡ drop (P.size h') b)
  -- 20: what give, take, lock and unlock on plain numbers refuse
  pub border : sem.Border × mutex.Border
  -- 21: a function was lent parts of a larger header and a larger memory, and kept its contract there. So it is kept on the parts of the whole, and
  -- every other part stays
  pub in_part : (C : List ℕ → List ℕ → ℤ → List ℕ → List ℕ → Type 0) (a n c m : ℕ) (h b v w : List ℕ) (r : ℤ) → a + n ≤ length h → c + m ≤ length b
      → length v ≡ n → length w ≡ m → C (part a n h) (part c m b) r v w
      → At C a n c m h b r (returned a n h v) (returned c m b w) × (Apart a n h (returned a n h v) × Apart c m b (returned c m b w))
  -- 4 to 6, 9, 12 to 18: objects alone, after any calls
  pub objects : Objects
  -- ---- docs/THEOREMS.md, and 3 and 7 of README.md
  -- 1, 2: our step keeps the laws, and nothing else does
  pub laws : Laws members step
  pub nothing_else : (f : Kernel rtos) → Laws members f → (s : Sys rtos) → Start s → (past : List (Op rtos)) (x : Op rtos)
      → f (reached f s past) x ≡ step (after s past) x
  -- 3: every thread is running, ready, or in exactly one queue, once
  pub one_place : Always (λ R past. Placed (R.state past) × Known (R.state past) × Own (R.state past) × Bare (R.state past))
  -- 4: no thread waits while what it waits for is there
  pub rightly : Always (λ R past. Kept (R.state past) × Formed (R.state past))
  -- 5: the woken thread is of the highest priority, and of those the one that has waited longest
  pub right_thread : Always (λ R past. Ordered R past × ((x : Op rtos) → Best R past x))
  -- 6: it is woken once, by a call that may wake, with the result that it is owed
  pub once : Always
      (λ R past. (x : Op rtos) (t : ℕ) → Life rtos (R.state past).wish x (R.answer past x) t ((R.state past).state t) ((R.state (x ∷ past)).state t))
  -- 7: a refusal changes nothing and wakes nobody
  pub refusals : Always (λ R past. (x : Op rtos) → Refuses R past x)
  -- 8: each object is what its ledger says
  pub ledgers : Always Ledgers
  -- 9, 10: semaphores and mutexes
  pub semaphores : Always (Semaphores sem_part)
  pub mutexes : Always (λ R past. Mutexes mutex_part R past × ((o : ℕ) (m : Mutex) → (R.state past).slot o ≡ object (mutex_part.num m) → m.count ≤ max_count))
  -- 11: a history of code calls on objects in memory is one of the system
  pub code : (sort : ℕ → stock.Sort) → Histories library sort
