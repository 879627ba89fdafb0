-- The futex in memory: h = its value, how many wait; e = the entries of those. What each function does.
use Rattle.std.specs.Prelude.{◌≡◌, Bool, true, false, cond, List, ℕ, leb, ℤ, pos, length, get_or}
use Rattle.thread.specs.Code.{einval}
use Rattle.wait_queue.specs.Queue.{max_waiters}
use Rattle.store.specs.Store.{Reply, refuse, carry, fitting, Decided, Place, Did, looks, Fills}
use Rattle.kind.specs.Verdict.{ruling}
use Rattle.kind.specs.Kind.{judge, plain}
use Rattle.kind.specs.Object.{Object, anyone, thread, call, reads, Layout, standing, Opened, Audited}
use Rattle.futex.specs.Futex.{Futex, Call, wait, wake_one, wake_all, set, futex_kind}

abbrev pub layout : Layout Futex
layout = record { len = 1; num = λ h. record { val = get_or h 0 0 } }

abbrev pub place : Place (Object Futex)
place = standing layout

-- by the thread i of priority p in the state st
abbrev pub wait_out : ℕ → ℕ → ℕ → ℕ → Object Futex → Reply (Object Futex)
wait_out expected i p st = call futex_kind plain (thread i p st) (wait expected)

abbrev pub wake_call : Bool → Call
wake_call true = wake_all
wake_call false = wake_one

-- if there is room to hand out all that are woken
abbrev pub wake_out : Bool → ℕ → Object Futex → Reply (Object Futex)
wake_out all room = fitting room (call futex_kind plain anyone (wake_call all))

abbrev pub set_out : ℕ → Object Futex → Reply (Object Futex)
set_out x = call futex_kind plain anyone (set x)

-- The contract of each public function: its numbers, what it is lent, its answer, and what it leaves.

-- a new futex
abbrev pub Starts : ℕ → List ℕ → ℤ → List ℕ → Type 0
Starts val h r h' = Opened futex_kind layout (record { val = val }) h r h'

-- the thread i of priority p, in the state st, waits, if the value is the expected one
abbrev pub Waits : ℕ → ℕ → ℕ → ℕ → List ℕ → List ℕ → ℤ → List ℕ → List ℕ → Type 0
Waits expected i p st h e r h' e' = Did place (wait_out expected i p st) h e r h' e'

-- all that wait are woken, or the first, and listed
abbrev pub Wakes : Bool → List ℕ → List ℕ → List ℕ → ℤ → List ℕ → List ℕ → Type 0
Wakes all h e out r h' out' = Fills place (wake_out all (length out)) h e out r h' out'

-- another value; nobody is woken
abbrev pub SetsVal : ℕ → List ℕ → List ℕ → ℤ → List ℕ → Type 0
SetsVal val h e r h' = Did place (set_out val) h e r h' e

-- a number of a futex
abbrev pub Gets : (Object Futex → ℕ) → List ℕ → List ℕ → ℤ → Type 0
Gets f h e r = r ≡ looks place (reads futex_kind (λ s. pos (f s))) h e

abbrev pub GetsVal : List ℕ → List ℕ → ℤ → Type 0
GetsVal = Gets (λ s. s.num.val)

abbrev pub CountsWaiters : List ℕ → List ℕ → ℤ → Type 0
CountsWaiters = Gets (λ s. length s.queue)

-- whether the whole futex is as it should be
abbrev pub Audits : List ℕ → List ℕ → Bool → Type 0
Audits h e r = Audited futex_kind layout h e r

-- on plain numbers: what the futex's own definition answers for every queue
abbrev pub WaitDecided : ℕ → ℕ → ℤ → Type 0
WaitDecided val expected r = (q : List ℕ) → r ≡ ruling (judge futex_kind (record { val = val }) plain q 0 (wait expected))

-- of n that wait: how many are woken, and how many stay, for every value and every queue of n. More than can wait are malformed, and the
-- word m stays
abbrev pub WakeDecided : ℕ → Bool → ℕ → ℤ → ℕ → Type 0
WakeDecided n all m r m' =
    (s : Futex) (q : List ℕ) → length q ≡ n
    → Decided
    (cond (leb n max_waiters) (carry (λ t. length t.queue) (call futex_kind plain anyone (wake_call all) (record { num = s; queue = q }))) (refuse einval))
    m r m'
