-- What one step can do to a thread, and what a refusal does.
use Rattle.std.specs.Prelude.{◌≡◌, List, [], ◌∷◌, ℕ, ℤ}
use Rattle.thread.specs.Code.{ok, eagain}
use Rattle.kind.specs.Kind.{Kind}
use Rattle.system.specs.System.{State, absent, running, ready, waiting, Op, invoke, both, dispatch, yield, expire, spawn, Answer, done, denied}
use Rattle.system.specs.Run.{Run}

-- the calls of an operation: by the thread w, of the object o
pub data Calls (K : Kind) : Op K → ℕ → ℕ → K.Call → Type 0 where
  direct : {w o : ℕ} {k : K.Call} → Calls K (invoke w o k) w o k
  former : {w a b : ℕ} {j k : K.Call} → Calls K (both w a j b k) w a j
  latter : {w a b : ℕ} {j k : K.Call} → Calls K (both w a j b k) w b k

-- all that one step, with its answer, can do to the thread t, from its state before to its state after; v: the wishes before
pub data Life (K : Kind) (v : ℕ → K.Wish) : Op K → Answer → ℕ → State → State → Type 0 where
  -- nothing
  stays : {x : Op K} {a : Answer} {t : ℕ} {y : State} → Life K v x a t y y
  -- it runs and begins to wait, by its own call
  began : {x : Op K} {a : Answer} {t o : ℕ} {k : K.Call} → Calls K x t o k → Life K v x a t running (waiting o)
  -- it waits and is woken, by a call on the object on which it waits, with a result that this call owes it
  woken : {x : Op K} {a : Answer} {t w o : ℕ} {k : K.Call} {r : ℤ} → Calls K x w o k → K.Owes k (v t) r → Life K v x a t (waiting o) (ready r)
  -- its time is over
  late : {a : Answer} {t o : ℕ} → Life K v (expire t) a t (waiting o) (ready eagain)
  -- it is ready and runs, and the answer is the result that it kept
  back : {t : ℕ} {r : ℤ} → Life K v (dispatch t) (done r) t (ready r) running
  -- it is put back
  aside : {a : Answer} {t : ℕ} → Life K v (yield t) a t running (ready ok)
  -- it is made
  born : {a : Answer} {t p : ℕ} → Life K v (spawn t p) a t absent (ready ok)

-- a refusal changes nothing and wakes nobody
abbrev pub Refuses : {K : Kind} → Run K → List (Op K) → Op K → Type 0
Refuses R past x = (c : ℤ) → R.answer past x ≡ denied c → (R.state (x ∷ past) ≡ R.state past) × (R.woken past x ≡ [])
