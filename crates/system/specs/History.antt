-- A history of calls of the code on objects in memory: what a kernel has to see to, and what then holds.
use Rattle.std.specs.Prelude.{◌≡◌, List, [], ◌∷◌, ℕ, suc, ◌≤◌, ℤ, length, get_or, set}
use Rattle.seq.specs.List.{All}
use Rattle.thread.specs.Code.{eagain}
use Rattle.wait_queue.specs.Queue.{max_waiters}
use Rattle.wait_queue.specs.Post.{Removes}
use Rattle.kind.specs.Kind.{Kind}
use Rattle.kind.specs.Object.{Opened}
use Rattle.system.specs.System.{State, ready, vacant, object, waiting, Sys, Op, both, expire, create}
use Rattle.system.specs.System.{reply, step, after}
use Rattle.system.specs.Rules.{Fine}
use Rattle.system.specs.Functions.{Memory, Use}
use Rattle.system.specs.Link.{Is, settle, Truthful, Caller}
use Rattle.system.specs.World.{Class, Library, World, Event, seen, used, quiet, ops, Agrees, Elsewhere, OfThreads, actor, Noted}

-- each object has its sort, which no call changes
module _ {K : Kind} (C : Library K) (sort : ℕ → C.Sort) where
  abbrev pub class : ℕ → Class K
  class o = C.class (sort o)

  -- the calls of a function on two objects
  abbrev pub first_call : C.Two → K.Call
  first_call t = (C.class (C.first t)).part.call (C.double t).first

  abbrev pub second_call : C.Two → K.Call
  second_call t = (C.class (C.second t)).part.call (C.double t).second

  -- the memory m is the object o of s
  abbrev pub Holds : Sys K → ℕ → Memory → Type 0
  Holds s o m = Is (class o).code.layout (class o).part.num s o m.header m.entries

  -- so is the memory of every object that is there
  abbrev pub Shows : Sys K → World → Type 0
  Shows s w = (o : ℕ) (n : K.Num) → s.slot o ≡ object n → Holds s o (w o)

  -- in the state s and the memory w, of which w' is left, this happened
  pub data Happens (s : Sys K) (w w' : World) : Event K → Type 0 where
    -- the function f was called, by the thread i, on the object o, which is there
    calls : (i o : ℕ) (n : K.Num) (f : (class o).code.Fn) (u : Use) → s.slot o ≡ object n → u.before ≡ w o → w' o ≡ u.after
        → Caller ((class o).code.function f) s i o u → ((class o).code.function f).Contract u
        → Happens s w w' (used i o ((class o).part.call ((class o).code.function f).call) ((class o).code.function f) u)
    -- the function t on two objects, which are there and are two
    pairs : (i a b : ℕ) (m n : K.Num) (t : C.Two) (u : Use) → sort a ≡ C.first t → sort b ≡ C.second t → (a ≡ b → ⊥)
        → s.slot a ≡ object m → s.slot b ≡ object n → u.before ≡ w a → w' a ≡ u.after → Truthful s i u
        → (C.double t).Contract u (w b) (w' b)
        → Happens s w w' (seen (both i a (first_call t) b (second_call t)) (C.double t).wrote u (a ∷ b ∷ []) i (settle b u.answer))
    -- init, in a slot that is vacant and in memory that is long enough
    inits : (o : ℕ) (n : (class o).kind.Num) (r : ℤ) → s.slot o ≡ vacant → (class o).code.Told n
        → suc (class o).code.layout.len ≤ length (w o).header → max_waiters ≤ length (w o).entries
        → Opened (class o).kind (class o).code.layout n (w o).header r (w' o).header → (w' o).entries ≡ (w o).entries
        → Happens s w w' (quiet (create o ((class o).part.num n)) (reply r) (o ∷ []) 0 (λ x. x))
    -- remove, of a thread that waits on the object o: it is lent the word of the header that has the queue's length
    removes : (i o : ℕ) (n : K.Num) (r : ℤ) (k : ℕ) → s.state i ≡ waiting o → s.slot o ≡ object n
        → Removes i (get_or (w o).header (class o).code.layout.len 0) (w o).entries r k (w' o).entries
        → (w' o).header ≡ set (w o).header (class o).code.layout.len k
        → Happens s w w' (quiet (expire i) (reply r) (o ∷ []) i (λ x. ready eagain))
    -- the kernel's own doing
    moves : (x : Op K) → OfThreads x → Happens s w w' (quiet x (step s x).1 [] (actor x) (λ y. (step s x).0.state (actor x)))

  -- these events, the newest in front, from the state s and the memory w; now the memory is w'
  pub data Ran (s : Sys K) (w : World) : List (Event K) → World → Type 0 where
    begun : Ran s w [] w
    then : {es : List (Event K)} {e : Event K} {w' w'' : World} → Ran s w es w' → Happens (after s (ops es)) w' w'' e → Elsewhere e.on w' w''
        → Ran s w (e ∷ es) w''

  -- so is each event
  abbrev pub Agree : Sys K → List (Event K) → Type 0
  Agree s [] = Unit {0}
  Agree s (e ∷ es) = Agrees e (step (after s (ops es)) e.op) × Agree s es

  pub record Follows (s : Sys K) (w : World) (es : List (Event K)) (w' : World) : Type 0 where
    pub shows : Shows (after s (ops es)) w'
    pub agree : Agree s es
    -- a kernel that keeps its table so has the states of the system
    pub tables : (T T' : ℕ → State) → ((t : ℕ) → T t ≡ s.state t) → Noted T es T' → (t : ℕ) → T' t ≡ (after s (ops es)).state t
    -- the memory of an object that was not called is untouched
    pub untouched : (o : ℕ) → All (λ (e : Event K). All (λ x. x ≡ o → ⊥) e.on) es → w' o ≡ w o

  -- the theorem: a history of the code is one of the system
  abbrev pub Histories : Type 0
  Histories = (s : Sys K) → Fine s → (w : World) → Shows s w → (es : List (Event K)) (w' : World) → Ran s w es w' → Follows s w es w'
