-- An object: its numbers and its queue; in memory, a header and entries. What a call does to it.
use Rattle.std.specs.Prelude.{◌≡◌, Bool, true, false, cond, List, [], map, ℕ, suc, ltb, leb, ℤ, length, get_or}
use Rattle.seq.specs.List.{any}
use Rattle.thread.specs.Code.{ok, einval}
use Rattle.thread.specs.Caller.{caller_code}
use Rattle.store.specs.Store.{Reply, refuse, accept, carry, asked, Place, Started}
use Rattle.store.specs.Product.{◌⊗◌, behind, numbers, shaped}
use Rattle.wait_queue.specs.Queue.{entry, ident, woken, waiting, roomy, Well}
use Rattle.wait_queue.specs.Turn.{wait_queue, parked}
use Rattle.kind.specs.Verdict.{gone, spared, keep, park, wake, Verdict, deny, allow}
use Rattle.kind.specs.Kind.{Kind}

pub record Object (N : Type 0) : Type 0 where
  pub num : N
  -- the entries of those that wait, the first to be woken in front
  pub queue : List ℕ

-- who calls: the thread i, which cannot wait in this call; or the thread i of priority p in the state st
pub data Caller : Type 0 where
  named : (i : ℕ) → Caller
  thread : (i p st : ℕ) → Caller

-- of a call that is the same for all threads
abbrev pub anyone : Caller
anyone = named 0

abbrev pub name : Caller → ℕ
name (named i) = i
name (thread i p st) = i

-- what is done to the queue, done to an object, whose numbers are m then
abbrev pub queued : {N : Type 0} → N → Reply (List ℕ) → Reply (Object N)
queued {N} m y = carry {S = Object N} (λ q. record { num = m; queue = q }) y

-- the caller joins the queue
abbrev pub joins : {N : Type 0} → Caller → N → Object N → Reply (Object N)
joins (named i) m s = refuse einval
joins (thread i p st) m s = queued m (parked (entry p i) s.queue)

-- a verdict is carried out
abbrev pub carried : {N W : Type 0} → Caller → Verdict N W → Object N → Reply (Object N)
carried w (deny r) s = refuse r
carried w (allow m keep r) s = accept (record { num = m; queue = s.queue }) r []
carried w (allow m (park x) r) s = joins w m s
carried w (allow m (wake p f) r) s =
    accept (record { num = m; queue = spared ident p s.queue }) r (map (λ x. woken (f (ident x)) x) (gone ident p s.queue))

-- what the caller's numbers are answered
abbrev pub code : Caller → ℤ
code (named i) = ok
code (thread i p st) = caller_code p st

-- somebody waits, or nobody; and with that the numbers are as they should be
abbrev pub fine : (K : Kind) → Object K.Num → Bool
fine K s = K.formed s.num (any s.queue)

-- the call k: malformed numbers are refused first, then the caller's numbers, then what the operation refuses
abbrev pub call : (K : Kind) → (ℕ → K.Wish) → Caller → K.Call → Object K.Num → Reply (Object K.Num)
call K v w k s = cond (fine K s) (asked (code w) (carried w (K.decide s.num v (map ident s.queue) (name w) k) s)) (refuse einval)

-- a number of an object whose numbers are as they should be
abbrev pub reads : (K : Kind) → (Object K.Num → ℤ) → Object K.Num → ℤ
reads K f s = cond (fine K s) (f s) einval

-- where an object stands in a header: how many words its numbers take, behind which stands how many wait; and what they are
pub record Layout (N : Type 0) : Type 0 where
  pub len : ℕ
  pub num : List ℕ → N

-- its numbers and its queue, side by side: the queue's entries are all of the buffer that is its own
abbrev pub standing : {N : Type 0} → Layout N → Place (Object N)
standing {N} L = shaped (λ (x : N × List ℕ). record { num = x.0; queue = x.1 }) (numbers L.len L.num ⊗ behind L.len wait_queue)

-- a new object with the numbers n, on which nobody waits, whatever entries it is to have
pub record Opened (K : Kind) (L : Layout K.Num) (n : K.Num) (h : List ℕ) (r : ℤ) (h' : List ℕ) : Type 0 where
  pub with : (e : List ℕ) → roomy 0 e ≡ true → Started (standing L) (K.formed n false) (record { num = n; queue = [] }) h e r h' e

-- a header of some words and the entries have their room, whatever they hold
abbrev pub sized : ℕ → List ℕ → List ℕ → Bool
sized words h e = cond (leb words (length h)) (roomy 0 e) false

-- the memory and the numbers are as they should be
abbrev pub sane : (K : Kind) → Layout K.Num → List ℕ → List ℕ → Bool
sane K L h e =
    cond (leb (suc L.len) (length h))
    (cond (roomy (get_or h L.len 0) e) (K.formed (L.num h) (ltb 0 (get_or h L.len 0))) false)
    false

-- the answer is true exactly if the whole object is as it should be
pub record Audited (K : Kind) (L : Layout K.Num) (h e : List ℕ) (r : Bool) : Type 0 where
  pub sound : r ≡ true → (sane K L h e ≡ true) × Well (waiting e (get_or h L.len 0))
  pub complete : (sane K L h e ≡ true) × Well (waiting e (get_or h L.len 0)) → r ≡ true
