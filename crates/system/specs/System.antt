-- Threads and objects of one kind, which may be a sum: one step for every operation, with its answer.
use Rattle.std.specs.Prelude.{Bool, true, false, cond, List, [], ◌++◌, map, ℕ, eqb, ltb, ℤ, pos, negsuc}
use Rattle.thread.specs.Code.{ok, eagain, einval}
use Rattle.thread.specs.Priority.{valid}
use Rattle.wait_queue.specs.Queue.{ident, holds, without}
use Rattle.kind.specs.Verdict.{gone, Act, keep, park, wake, Verdict, deny, allow}
use Rattle.kind.specs.Kind.{Kind}
use Rattle.store.specs.Store as store
use Rattle.store.specs.History as history
use Rattle.kind.specs.Object.{Object, thread, call}
use Rattle.condvar.specs.Post.{agreed}

-- a thread is not there; runs; is ready, with the result of its last call; waits in the queue of an object
pub data State : Type 0 where
  absent running : State
  ready : (result : ℤ) → State
  waiting : (on : ℕ) → State

-- the state as the code sees it
abbrev pub number : State → ℕ
number absent = 3
number running = 1
number (ready r) = 0
number (waiting o) = 2

pub data Slot (N : Type 0) : Type 0 where
  vacant : Slot N
  object : N → Slot N

pub record Sys (K : Kind) : Type 0 where
  -- of each thread: its priority, its state, and the wish that it waits with
  pub prio : ℕ → ℕ
  pub state : ℕ → State
  pub wish : ℕ → K.Wish
  -- of each object: its numbers, and the entries of those that wait, the first to be woken in front
  pub slot : ℕ → Slot K.Num
  pub queue : ℕ → List ℕ

pub data Op (K : Kind) : Type 0 where
  -- the thread i calls k of the object o
  invoke : (i o : ℕ) (k : K.Call) → Op K
  -- it calls j of the object a and k of another object b, both or neither
  both : (i a : ℕ) (j : K.Call) (b : ℕ) (k : K.Call) → Op K
  -- a ready thread runs; a running one is put back; the time of a waiting one is over
  dispatch yield expire : (i : ℕ) → Op K
  -- a thread is made; an object is made
  spawn : (i p : ℕ) → Op K
  create : (o : ℕ) (n : K.Num) → Op K

-- the answer: it was done; or it was refused, with a code
pub data Answer : Type 0 where
  done denied : ℤ → Answer

abbrev pub reply : ℤ → Answer
reply (pos c) = done (pos c)
reply (negsuc c) = denied (negsuc c)

-- a thread that is made ready, and the result of the call in which it waited
pub record Woken : Type 0 where
  pub thread : ℕ
  pub result : ℤ

-- what an operation gives: the state after it, its answer, and the threads that it wakes, in the order in which they are handed out
abbrev pub Reply : Kind → Type 0
Reply K = Sys K × Answer × List Woken

-- any kernel: a reply to each operation in each state
abbrev pub Kernel : Kind → Type 0
Kernel K = Sys K → Op K → Reply K

-- the state after a history of a kernel, the newest operation in front
abbrev pub reached : {K : Kind} → Kernel K → Sys K → List (Op K) → Sys K
reached f s past = history.after (λ s x. (f s x).0) s past

-- done, and nobody is woken; refused, and nothing changes
abbrev pub accept : {K : Kind} → Sys K → ℤ → Reply K
accept s c = (s, done c, [])

abbrev pub refuse : {K : Kind} → Sys K → ℤ → Reply K
refuse s c = (s, denied c, [])

-- the table f with x at the place i
abbrev pub upd : {A : Type 0} → (ℕ → A) → ℕ → A → ℕ → A
upd f i x t = cond (eqb i t) x (f t)

abbrev pub deed : {N W : Type 0} → Verdict N W → Act W
deed (deny r) = keep
deed (allow n a r) = a

-- the states after an act of the thread i on the object o, whose queue was q
abbrev pub states : {W : Type 0} → Act W → ℕ → ℕ → List ℕ → (ℕ → State) → ℕ → State
states keep i o q f t = f t
states (park x) i o q f t = upd f i (waiting o) t
states (wake p g) i o q f t = cond (holds t (gone ident p q)) (ready (g t)) (f t)

abbrev pub wishes : {W : Type 0} → Act W → ℕ → (ℕ → W) → ℕ → W
wishes keep i v t = v t
wishes (park x) i v t = upd v i x t
wishes (wake p g) i v t = v t

-- who is woken by an act on the queue q
abbrev pub woken : {W : Type 0} → Act W → List ℕ → List Woken
woken keep q = []
woken (park x) q = []
woken (wake p g) q = map (λ x. record { thread = ident x; result = g (ident x) }) (gone ident p q)

-- u, unless the answer is a refusal
abbrev pub unless : {A : Type 0} → ℤ → A → A → A
unless (pos c) s u = u
unless (negsuc c) s u = s

-- a new object of these numbers may be made, in a slot that is vacant
abbrev pub free : {N : Type 0} → Slot N → Bool
free vacant = true
free (object n) = false

abbrev pub gone_by : State → Bool
gone_by absent = true
gone_by running = false
gone_by (ready r) = false
gone_by (waiting o) = false

module _ {K : Kind} where
  -- the object o, with the numbers n
  abbrev pub thing : Sys K → ℕ → K.Num → Object K.Num
  thing s o n = record { num = n; queue = s.queue o }

  -- what it replies: the definition that the code's contract cites
  abbrev pub outcome : Sys K → ℕ → ℕ → K.Call → K.Num → store.Reply (Object K.Num)
  outcome s i o k n = call K s.wish (thread i (s.prio i) (number (s.state i))) k (thing s o n)

  abbrev pub verdict : Sys K → ℕ → ℕ → K.Call → K.Num → Verdict K.Num K.Wish
  verdict s i o k n = K.decide n s.wish (map ident (s.queue o)) i k

  -- the verdict d of the object o on a call of the thread i is done: u is what it leaves of the object
  abbrev pub serve : Sys K → ℕ → ℕ → Verdict K.Num K.Wish → Object K.Num → Sys K
  serve s i o d u =
      record {
        prio = s.prio;
        state = states (deed d) i o (s.queue o) s.state;
        wish = wishes (deed d) i s.wish;
        slot = upd s.slot o (object u.num);
        queue = upd s.queue o u.queue;
      }

  abbrev pub visited : Slot K.Num → Sys K → ℕ → ℕ → K.Call → Sys K × ℤ × List Woken
  visited vacant s i o k = (s, einval, [])
  visited (object n) s i o k = (
    unless (store.answer (outcome s i o k n)) s (serve s i o (verdict s i o k n) (store.left (outcome s i o k n) (thing s o n))),
    store.answer (outcome s i o k n),
    unless (store.answer (outcome s i o k n)) [] (woken (deed (verdict s i o k n)) (s.queue o)),
  )

  abbrev pub called : Sys K → ℕ → ℕ → K.Call → Sys K × ℤ × List Woken
  called s i o k = visited (s.slot o) s i o k

  abbrev pub set_state : Sys K → ℕ → State → Sys K
  set_state s i x = record { prio = s.prio; state = upd s.state i x; wish = s.wish; slot = s.slot; queue = s.queue }

  -- a thread that was woken gets the result of the call in which it waited
  abbrev pub dispatched : State → Sys K → ℕ → Reply K
  dispatched absent s i = refuse s einval
  dispatched running s i = refuse s einval
  dispatched (ready r) s i = accept (set_state s i running) r
  dispatched (waiting o) s i = refuse s einval

  abbrev pub yielded : State → Sys K → ℕ → Reply K
  yielded absent s i = refuse s einval
  yielded running s i = accept (set_state s i (ready ok)) ok
  yielded (ready r) s i = refuse s einval
  yielded (waiting o) s i = refuse s einval

  abbrev pub left : Sys K → ℕ → ℕ → Sys K
  left s i o =
      record {
        prio = s.prio;
        state = upd s.state i (ready eagain);
        wish = s.wish;
        slot = s.slot;
        queue = upd s.queue o (without i (s.queue o));
      }

  abbrev pub expired : State → Sys K → ℕ → Reply K
  expired absent s i = refuse s einval
  expired running s i = refuse s einval
  expired (ready r) s i = refuse s einval
  expired (waiting o) s i = accept (left s i o) ok

  abbrev pub born : Sys K → ℕ → ℕ → Sys K
  born s i p = record { prio = upd s.prio i p; state = upd s.state i (ready ok); wish = s.wish; slot = s.slot; queue = s.queue }

  -- ids are 32-bit numbers, and priorities 0 to 31
  abbrev pub spawned : Sys K → ℕ → ℕ → Reply K
  spawned s i p = cond (gone_by (s.state i)) (cond (ltb i 4294967296) (cond (valid p) (accept (born s i p) ok) (refuse s einval)) (refuse s einval))
      (refuse s einval)

  abbrev pub placed : Sys K → ℕ → K.Num → Sys K
  placed s o n = record { prio = s.prio; state = s.state; wish = s.wish; slot = upd s.slot o (object n); queue = s.queue }

  abbrev pub created : Sys K → ℕ → K.Num → Reply K
  created s o n = cond (free (s.slot o)) (cond (K.new n) (accept (placed s o n) ok) (refuse s einval)) (refuse s einval)

  -- both calls, the second in the state that the first leaves
  abbrev pub answers : Sys K → ℕ → ℕ → K.Call → ℕ → K.Call → ℤ
  answers s i a j b k = agreed (called s i a j).1 (called (called s i a j).0 i b k).1

  abbrev pub paired : Sys K → ℕ → ℕ → K.Call → ℕ → K.Call → Reply K
  paired s i a j b k = (
    unless (answers s i a j b k) s (called (called s i a j).0 i b k).0,
    reply (answers s i a j b k),
    unless (answers s i a j b k) [] ((called s i a j).2 ++ (called (called s i a j).0 i b k).2),
  )

  abbrev pub step : Kernel K
  step s (invoke i o k) = ((called s i o k).0, reply (called s i o k).1, (called s i o k).2)
  step s (both i a j b k) = cond (eqb a b) (refuse s einval) (paired s i a j b k)
  step s (dispatch i) = dispatched (s.state i) s i
  step s (yield i) = yielded (s.state i) s i
  step s (expire i) = expired (s.state i) s i
  step s (spawn i p) = spawned s i p
  step s (create o n) = created s o n

  -- the state after a history of our step
  abbrev pub after : Sys K → List (Op K) → Sys K
  after s past = reached step s past
