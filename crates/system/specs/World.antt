-- Objects in memory, the code on them, and what is seen of a call.
use Rattle.std.specs.Prelude.{◌≡◌, List, [], ◌∷◌, map, ℕ}
use Rattle.seq.specs.List.{All}
use Rattle.kind.specs.Kind.{Kind}
use Rattle.kind.specs.Object.{Layout}
use Rattle.system.specs.System.{State, ready, Woken, Op, invoke, both, dispatch, yield, expire, spawn, create}
use Rattle.system.specs.System.{Answer, reply, Reply}
use Rattle.system.specs.Part.{Part}
use Rattle.system.specs.Functions.{Memory, Use, Function, Double, told}
use Rattle.system.specs.Link.{read, Handed, fate}

-- the code of a kind of object: where an object stands in a header, its functions, and which numbers its init can be told: they have 32 bits
pub record Code (A : Kind) : Type 1 where
  pub layout : Layout A.Num
  pub Fn : Type 0
  pub function : Fn → Function A
  pub Told : A.Num → Type 0

-- a class of objects of a system: of which part they are, and their code
pub record Class (K : Kind) : Type 1 where
  pub kind : Kind
  pub part : Part kind K
  pub code : Code kind

-- all the code: its classes, and its functions on two objects
pub record Library (K : Kind) : Type 1 where
  pub Sort : Type 0
  pub class : Sort → Class K
  pub Two : Type 0
  pub first : Two → Sort
  pub second : Two → Sort
  pub double : (t : Two) → Double (class (first t)).kind (class (second t)).kind

-- the memory of each object, by its number
abbrev pub World : Type 0
World = ℕ → Memory

-- what is seen of an operation: what it is, its answer, the place that was lent for woken threads before and after, the objects whose memory was lent, and
-- what becomes of the thread that called
pub record Event (K : Kind) : Type 0 where
  pub op : Op K
  pub answer : Answer
  pub lent : List ℕ
  pub filled : List ℕ
  -- the words in it that are read, as many as the answer says
  pub told : List ℕ
  pub on : List ℕ
  pub by : ℕ
  pub becomes : State → State

-- a function's use, on the objects l; and what nobody lends a place for
abbrev pub seen : {K : Kind} → Op K → (ℕ → ℕ) → Use → List ℕ → ℕ → (State → State) → Event K
seen x c u l i f = record { op = x; answer = reply u.answer; lent = u.lent; filled = u.filled; told = told c u; on = l; by = i; becomes = f }

abbrev pub used : {A K : Kind} → ℕ → ℕ → K.Call → Function A → Use → Event K
used i o k F u = seen (invoke i o k) F.wrote u (o ∷ []) i (fate F.asks o u.answer)

abbrev pub quiet : {K : Kind} → Op K → Answer → List ℕ → ℕ → (State → State) → Event K
quiet x a l i f = record { op = x; answer = a; lent = []; filled = []; told = []; on = l; by = i; becomes = f }

abbrev pub ops : {K : Kind} → List (Event K) → List (Op K)
ops es = map (λ e. e.op) es

-- the answer of the event is that of the reply y of the system; in the place that was lent stand the words of the threads that it wakes, and nothing else
-- changed there; and these threads are read, each with its result
pub record Agrees {K : Kind} (e : Event K) (y : Reply K) : Type 0 where
  pub answer : e.answer ≡ y.1
  pub handed : Handed y.2 e.lent e.filled
  pub reads : map read e.told ≡ y.2

-- no memory but that of the objects l changed: a function writes only what it is lent, and no two objects share memory
abbrev pub Elsewhere : List ℕ → World → World → Type 0
Elsewhere l w w' = (x : ℕ) → All (λ o. o ≡ x → ⊥) l → w' x ≡ w x

-- an operation of the kernel alone, on no object
abbrev pub OfThreads : {K : Kind} → Op K → Type 0
OfThreads (invoke i o k) = ⊥
OfThreads (both i a j b k) = ⊥
OfThreads (dispatch i) = Unit {0}
OfThreads (yield i) = Unit {0}
OfThreads (expire i) = ⊥
OfThreads (spawn i p) = Unit {0}
OfThreads (create o n) = ⊥

abbrev pub actor : {K : Kind} → Op K → ℕ
actor (invoke i o k) = i
actor (both i a j b k) = i
actor (dispatch i) = i
actor (yield i) = i
actor (expire i) = i
actor (spawn i p) = i
actor (create o n) = 0

-- a kernel's table of states, from T to T', at the event e: who is read is ready, with its result; who called is in the state that the answer tells; no
-- other changes
pub record Notes {K : Kind} (e : Event K) (T T' : ℕ → State) : Type 0 where
  pub ready : All (λ (w : Woken). T' w.thread ≡ ready w.result) (map read e.told)
  pub caller : T' e.by ≡ e.becomes (T e.by)
  pub others : (t : ℕ) → All (λ (w : Woken). w.thread ≡ t → ⊥) (map read e.told) → (e.by ≡ t → ⊥) → T' t ≡ T t

-- and through these events, the newest in front
pub data Noted {K : Kind} (T : ℕ → State) : List (Event K) → (ℕ → State) → Type 0 where
  opened : Noted T [] T
  noted : {es : List (Event K)} {e : Event K} {U T' : ℕ → State} → Noted T es U → Notes e U T' → Noted T (e ∷ es) T'
