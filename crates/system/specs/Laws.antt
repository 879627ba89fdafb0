-- The laws of a kernel: what it does, situation by situation, stated of any function f from a state and an operation to a reply. Which thread, which
-- answer, which result, whose state, which numbers; and nothing else.
use Rattle.std.specs.Prelude.{◌≡◌, List, [], ◌∷◌, ◌++◌, ℕ, ◌<◌, ℤ}
use Rattle.thread.specs.Code.{ok, eagain, ebusy, einval}
use Rattle.thread.specs.Priority.{max_priority}
use Rattle.wait_queue.specs.Queue.{ident}
use Rattle.kind.specs.Kind.{Kind}
use Rattle.system.specs.System.{absent, running, ready, waiting, vacant, object, Sys, Op, invoke, both, dispatch, yield, expire, spawn, create, done, denied, Kernel, reached}
use Rattle.system.specs.Part.{whole}
use Rattle.system.specs.Effect.{is_now, has_priority, has_numbers, has_queue, Does, Denies}
use Rattle.system.specs.Sum.{Member}
use Rattle.system.specs.Rules.{Start}

module _ {K : Kind} (f : Kernel K) (s : Sys K) where
  -- threads
  pub record OfThreads : Type 0 where
    -- who is ready runs, and is answered the result that it was left
    pub runs : (i : ℕ) (r : ℤ) → s.state i ≡ ready r → Does f s (dispatch i) (done r) (is_now i running ∷ []) []
    pub runs_not : (i : ℕ) → ((r : ℤ) → s.state i ≡ ready r → ⊥) → Denies f s (dispatch i) einval
    -- who runs is put back
    pub back : (i : ℕ) → s.state i ≡ running → Does f s (yield i) (done ok) (is_now i (ready ok) ∷ []) []
    pub back_not : (i : ℕ) → (s.state i ≡ running → ⊥) → Denies f s (yield i) einval
    -- the time of who waits is over: it is ready with -11, and out of the queue, in which the others stand as they stood
    pub late : (i o w : ℕ) (a b : List ℕ) → s.state i ≡ waiting o → s.queue o ≡ a ++ (w ∷ b) → ident w ≡ i
        → Does f s (expire i) (done ok) (is_now i (ready eagain) ∷ has_queue o (a ++ b) ∷ []) []
    pub late_not : (i : ℕ) → ((o : ℕ) → s.state i ≡ waiting o → ⊥) → Denies f s (expire i) einval
    -- who is not there is made: ids have 32 bits, and priorities are 0 to 31
    pub born : (i p : ℕ) → s.state i ≡ absent → i < 4294967296 → p < max_priority
        → Does f s (spawn i p) (done ok) (has_priority i p ∷ is_now i (ready ok) ∷ []) []
    pub born_not : (i p : ℕ) → ((s.state i ≡ absent) × (i < 4294967296) × (p < max_priority) → ⊥) → Denies f s (spawn i p) einval

  -- calls: on no object; by a caller that waits, or does not run
  pub record OfCallers : Type 0 where
    pub nothing : (i o : ℕ) (k : K.Call) → s.slot o ≡ vacant → Denies f s (invoke i o k) einval
    pub blocked : (i o a : ℕ) (k : K.Call) (n : K.Num) → s.slot o ≡ object n → s.state i ≡ waiting a → Denies f s (invoke i o k) ebusy
    pub idle : (i o : ℕ) (k : K.Call) (n : K.Num) (r : ℤ) → s.slot o ≡ object n → s.state i ≡ ready r → Denies f s (invoke i o k) einval
    pub gone : (i o : ℕ) (k : K.Call) (n : K.Num) → s.slot o ≡ object n → s.state i ≡ absent → Denies f s (invoke i o k) einval

  -- two calls, one after the other: both or neither, with the first's answer or the first refusal
  pub record OfPairs : Type 0 where
    pub same : (i a : ℕ) (j k : K.Call) → Denies f s (both i a j a k) einval
    pub first : (i a b : ℕ) (j k : K.Call) (c : ℤ) → (a ≡ b → ⊥) → (f s (invoke i a j)).1 ≡ denied c → Denies f s (both i a j b k) c
    pub second : (i a b : ℕ) (j k : K.Call) (c d : ℤ) → (a ≡ b → ⊥) → (f s (invoke i a j)).1 ≡ done c → (f (f s (invoke i a j)).0 (invoke i b k)).1 ≡ denied d
        → Denies f s (both i a j b k) d
    pub two : (i a b : ℕ) (j k : K.Call) (c d : ℤ) → (a ≡ b → ⊥) → (f s (invoke i a j)).1 ≡ done c → (f (f s (invoke i a j)).0 (invoke i b k)).1 ≡ done d
        → f s (both i a j b k) ≡ ((f (f s (invoke i a j)).0 (invoke i b k)).0, done c, (f s (invoke i a j)).2 ++ (f (f s (invoke i a j)).0 (invoke i b k)).2)

module _ (M : Member) (f : Kernel M.kind) (s : Sys M.kind) where
  -- an object is made where there is none; a call for another kind is refused
  pub record OfObjects : Type 0 where
    pub made : (o : ℕ) (n : M.kind.Num) → s.slot o ≡ vacant → M.Makes n → Does f s (create o n) (done ok) (has_numbers o n ∷ []) []
    pub made_not : (o : ℕ) (n : M.kind.Num) → (M.Makes n → ⊥) → Denies f s (create o n) einval
    pub there : (o : ℕ) (m n : M.kind.Num) → s.slot o ≡ object m → Denies f s (create o n) einval
    pub other : (i o : ℕ) (k : M.kind.Call) (n : M.kind.Num) → s.slot o ≡ object n → s.state i ≡ running → M.Foreign n k
        → Denies f s (invoke i o k) einval

  pub record LawsAt : Type 0 where
    pub threads : OfThreads f s
    pub callers : OfCallers f s
    pub pairs : OfPairs f s
    pub objects : OfObjects
    -- the data sheet of each object
    pub rules : (i o : ℕ) (n : M.kind.Num) → s.slot o ≡ object n → s.state i ≡ running → M.Rules (whole M.kind) f s i o n

-- after every history from a start at which there is no object and nobody waits
abbrev pub Laws : (M : Member) → Kernel M.kind → Type 0
Laws M f = (s : Sys M.kind) → Start s → (past : List (Op M.kind)) → LawsAt M f (reached f s past)
