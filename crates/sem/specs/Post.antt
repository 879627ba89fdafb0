-- The semaphore in memory: h = count, limit, how many wait; e = the entries of those. What each function does.
use Rattle.std.specs.Prelude.{◌≡◌, Bool, true, false, List, ℕ, ℤ, pos, length, get_or}
use Rattle.seq.specs.List.{any}
use Rattle.store.specs.Store.{Reply, fitting, Place, Did, looks, Fills, Hands}
use Rattle.kind.specs.Verdict.{ruling}
use Rattle.kind.specs.Kind.{judge, plain}
use Rattle.kind.specs.Object.{Object, anyone, thread, call, reads, Layout, standing, Opened, Audited}
use Rattle.sem.specs.Sem.{Sem, Call, give, take, try_take, reset, formed, sem_kind}

abbrev pub layout : Layout Sem
layout = record { len = 2; num = λ h. record { count = get_or h 0 0; limit = get_or h 1 0 } }

abbrev pub place : Place (Object Sem)
place = standing layout

abbrev pub give_out : Object Sem → Reply (Object Sem)
give_out = call sem_kind plain anyone give

abbrev pub try_take_out : Object Sem → Reply (Object Sem)
try_take_out = call sem_kind plain anyone try_take

-- by the thread i of priority p in the state st
abbrev pub take_out : ℕ → ℕ → ℕ → Object Sem → Reply (Object Sem)
take_out i p st = call sem_kind plain (thread i p st) take

-- if there is room to hand out all that wait
abbrev pub reset_out : ℕ → Object Sem → Reply (Object Sem)
reset_out room = fitting room (call sem_kind plain anyone reset)

-- The contract of each public function: its numbers, what it is lent, its answer, and what it leaves.

-- a new semaphore
abbrev pub Starts : ℕ → ℕ → List ℕ → ℤ → List ℕ → Type 0
Starts count limit h r h' = Opened sem_kind layout (record { count = count; limit = limit }) h r h'

-- the first that waits is woken, and told in a word; or the count goes up; or it is at the limit
abbrev pub Gives : List ℕ → List ℕ → ℕ → ℤ → List ℕ → ℕ → Type 0
Gives h e w r h' w' = Hands place give_out h e w r h' w'

-- one is taken, if there is one
abbrev pub TriesTake : List ℕ → List ℕ → ℤ → List ℕ → Type 0
TriesTake h e r h' = Did place try_take_out h e r h' e

-- one is taken, or the thread i of priority p, in the state st, waits
abbrev pub Takes : ℕ → ℕ → ℕ → List ℕ → List ℕ → ℤ → List ℕ → List ℕ → Type 0
Takes i p st h e r h' e' = Did place (take_out i p st) h e r h' e'

-- the count is 0, and all that waited are woken, and listed
abbrev pub Resets : List ℕ → List ℕ → List ℕ → ℤ → List ℕ → List ℕ → Type 0
Resets h e out r h' out' = Fills place (reset_out (length out)) h e out r h' out'

-- a number of a semaphore that is as it should be
abbrev pub Gets : (Object Sem → ℕ) → List ℕ → List ℕ → ℤ → Type 0
Gets f h e r = r ≡ looks place (reads sem_kind (λ s. pos (f s))) h e

abbrev pub GetsCount : List ℕ → List ℕ → ℤ → Type 0
GetsCount = Gets (λ s. s.num.count)

abbrev pub GetsLimit : List ℕ → List ℕ → ℤ → Type 0
GetsLimit = Gets (λ s. s.num.limit)

abbrev pub CountsWaiters : List ℕ → List ℕ → ℤ → Type 0
CountsWaiters = Gets (λ s. length s.queue)

-- whether the whole semaphore is as it should be
abbrev pub Audits : List ℕ → List ℕ → Bool → Type 0
Audits h e r = Audited sem_kind layout h e r

-- on plain numbers: what the semaphore's own definition answers for every queue that is not empty exactly if somebody waits
abbrev pub GiveDecided : ℕ → ℕ → Bool → ℤ → Type 0
GiveDecided count limit waits r =
    (q : List ℕ) → any q ≡ waits → r ≡ ruling (judge sem_kind (record { count = count; limit = limit }) plain q 0 give)

abbrev pub take_call : Bool → Call
take_call true = try_take
take_call false = take

-- what it answers for every limit and every queue with which the count is as it should be
abbrev pub TakeDecided : ℕ → Bool → ℤ → Type 0
TakeDecided count no_wait r =
    (limit : ℕ) (q : List ℕ) → formed (record { count = count; limit = limit }) (any q) ≡ true
    → r ≡ ruling (judge sem_kind (record { count = count; limit = limit }) plain q 0 (take_call no_wait))
