-- An object of the system in memory, and when what a function does to this memory is the step of the system.
use Rattle.std.specs.Prelude.{◌≡◌, Bool, true, false, cond, List, map, ℕ, suc, ◌-◌, ◌≤◌, eqb, ltb, ℤ, pos, negsuc, length, get_or}
use Rattle.seq.specs.Word.{high}
use Rattle.seq.specs.List.{All}
use Rattle.wait_queue.specs.Queue.{ident, woken, roomy}
use Rattle.wait_queue.specs.Queue as queue
use Rattle.store.specs.Store.{Filled, Allowed}
use Rattle.kind.specs.Kind.{Kind, Distinct}
use Rattle.kind.specs.Object.{Layout}
use Rattle.system.specs.System.{State, running, ready, waiting, number, object, Sys, Op, both, reply, Woken, called, step}
use Rattle.system.specs.Part.{Part}
use Rattle.system.specs.Rules.{Fine}
use Rattle.system.specs.Functions.{Memory, Use, Function, Double, told}

-- the header h and the entries e are the object o of s
pub record Is {K : Kind} {N : Type 0} (L : Layout N) (num : N → K.Num) (s : Sys K) (o : ℕ) (h e : List ℕ) : Type 0 where
  pub words : suc L.len ≤ length h
  pub room : roomy (get_or h L.len 0) e ≡ true
  pub slot : s.slot o ≡ object (num (L.num h))
  pub queue : s.queue o ≡ queue.waiting e (get_or h L.len 0)

-- the word of a woken thread, as the functions write it: its result and its id
abbrev pub word : Woken → ℕ
word w = woken w.result w.thread

-- and the thread that a word tells: -1 is 2^32 - 1
abbrev pub signed : ℕ → ℤ
signed x = cond (ltb x 2147483648) (pos x) (negsuc (4294967295 - x))

abbrev pub read : ℕ → Woken
read y = record { thread = ident y; result = signed (high y) }

-- the place out, lent for woken threads, became out': in front the words of l, one for each and in this order; what is behind stays
abbrev pub Handed : List Woken → List ℕ → List ℕ → Type 0
Handed l out out' = Filled (map word l) out out'

-- from s to u the threads of l were made ready, each with its result, and no other thread but i changed
pub record Readies {K : Kind} (s : Sys K) (i : ℕ) (l : List Woken) (u : Sys K) : Type 0 where
  pub ready : All (λ w. u.state w.thread ≡ ready w.result) l
  pub others : (t : ℕ) → All (λ w. w.thread ≡ t → ⊥) l → (i ≡ t → ⊥) → u.state t ≡ s.state t

-- the threads of l waited on o, each once
pub record Waited {K : Kind} (s : Sys K) (o : ℕ) (l : List Woken) : Type 0 where
  pub there : All (λ w. s.state w.thread ≡ waiting o) l
  pub once : Distinct (map (λ w. w.thread) l)

-- the caller's state x, after a function answered r: where it asks (a) and the answer is 1, the caller waits on o
abbrev pub fate : Bool → ℕ → ℤ → State → State
fate a o (pos r) x = cond a (cond (eqb r 1) (waiting o) x) x
fate a o (negsuc r) x = x

-- after a function on two objects that was not refused it waits on the second
abbrev pub settle : ℕ → ℤ → State → State
settle b (pos r) x = waiting b
settle b (negsuc r) x = x

-- What only a kernel can see to. A function is told the truth of its caller, the thread i:
pub record Truthful {K : Kind} (s : Sys K) (i : ℕ) (u : Use) : Type 0 where
  pub id : u.id ≡ i
  pub priority : u.priority ≡ s.prio i
  pub state : u.state ≡ number (s.state i)

-- and who calls the function F on the object o runs, if F does not ask, and lends words enough for those that it wakes
pub record Caller {A K : Kind} (F : Function A) (s : Sys K) (i o : ℕ) (u : Use) : Type 0 where
  pub told : Truthful s i u
  pub runs : F.asks ≡ false → s.state i ≡ running
  pub room : F.room (length (s.queue o)) ≤ length u.lent

-- the use u of a function on the object o is the call k of the thread i in s; a: it asks; c: how many words it wrote, by its answer
pub record Steps {K : Kind} {N : Type 0} (L : Layout N) (num : N → K.Num) (s : Sys K) (i o : ℕ) (k : K.Call) (a : Bool) (c : ℕ → ℕ) (u : Use) : Type 0 where
  pub code : u.answer ≡ (called s i o k).1
  pub is : Is L num (called s i o k).0 o u.after.header u.after.entries
  pub handed : Handed (called s i o k).2 u.lent u.filled
  pub reads : map read (told c u) ≡ (called s i o k).2
  pub waited : Waited s o (called s i o k).2
  pub readies : Readies s i (called s i o k).2 (called s i o k).0
  pub caller : (called s i o k).0.state i ≡ fate a o u.answer (s.state i)

-- so it is wherever the function F meets its contract, in any system that has such objects
abbrev pub Links : {A K : Kind} → Part A K → Layout A.Num → Function A → Type 0
Links {A} {K} P L F =
    (s : Sys K) → Fine s → (i o : ℕ) (u : Use) → Is L P.num s o u.before.header u.before.entries → Caller F s i o u → F.Contract u
    → Steps L P.num s i o (P.call F.call) F.asks F.wrote u

-- the use u of a function on the object a, and on the object b, of which the memory c is left, is that the thread i calls j of a and k of b in s,
-- both or neither
pub record Pairs {K : Kind} {M N : Type 0} (A : Layout M) (f : M → K.Num) (B : Layout N) (g : N → K.Num) (s : Sys K)
    (i a : ℕ) (j : K.Call) (b : ℕ) (k : K.Call) (n : ℕ → ℕ) (u : Use) (c : Memory) : Type 0 where
  pub code : reply u.answer ≡ (step s (both i a j b k)).1
  pub first : Is A f (step s (both i a j b k)).0 a u.after.header u.after.entries
  pub second : Is B g (step s (both i a j b k)).0 b c.header c.entries
  pub handed : Handed (step s (both i a j b k)).2 u.lent u.filled
  pub reads : map read (told n u) ≡ (step s (both i a j b k)).2
  pub waited : Waited s a (step s (both i a j b k)).2
  pub readies : Readies s i (step s (both i a j b k)).2 (step s (both i a j b k)).0
  pub caller : (step s (both i a j b k)).0.state i ≡ settle b u.answer (s.state i)

-- so it is of a function on two objects
abbrev pub LinksBoth : {A B K : Kind} → Part A K → Layout A.Num → Part B K → Layout B.Num → Double A B → Type 0
LinksBoth {A} {B} {K} P L Q M F =
    (s : Sys K) → Fine s → (i a b : ℕ) → (a ≡ b → ⊥) → (u : Use) (c c' : Memory) → Is L P.num s a u.before.header u.before.entries
    → Is M Q.num s b c.header c.entries → Truthful s i u → F.Contract u c c'
    → Pairs L P.num M Q.num s i a (P.call F.first) b (Q.call F.second) F.wrote u c'

-- an operation on the memory of the object o, of which h', e' are left, with the answer r, is the operation x in s
pub record Turns {K : Kind} {N : Type 0} (L : Layout N) (num : N → K.Num) (s : Sys K) (o : ℕ) (x : Op K) (r : ℤ) (h' e' : List ℕ) : Type 0 where
  pub code : reply r ≡ (step s x).1
  pub is : Allowed r (Is L num (step s x).0 o h' e')
