-- The message queue: a ring whose elements are messages of one size.
use Rattle.std.specs.Prelude.{Bool, true, false, cond, List, [], ◌∷◌, ℕ, ◌+◌, ◌-◌, eqb, ltb, ℤ, pos, length, get_or}
use Rattle.seq.specs.List.{any}
use Rattle.thread.specs.Code.{ok, einval, enomsg}
use Rattle.store.specs.Store.{Reply, refuse, accept, carry, handing}
use Rattle.ring_buf.specs.Ring.{Ring, wrap, tail, append, lead, leave}

pub record Msgq : Type 0 where
  -- how many bytes a message has
  pub size : ℕ
  pub ring : Ring (List ℕ)

abbrev pub having : Ring (List ℕ) → Msgq → Msgq
having r q = record { size = q.size; ring = r }

-- how many messages it can hold, and how many it holds
abbrev pub max : Msgq → ℕ
max q = q.ring.capacity

abbrev pub used : Msgq → ℕ
used q = length q.ring.held

-- the slot of the first message, and the slot to which the next one goes
abbrev pub read_idx : Msgq → ℕ
read_idx q = q.ring.start

abbrev pub write_idx : Msgq → ℕ
write_idx q = tail q.ring

-- ---- what is decided, on numbers alone

-- the index that moves, and how many messages there are
pub record Numbers : Type 0 where
  pub idx : ℕ
  pub used : ℕ

abbrev pub counts : ℕ → ℕ → Numbers
counts i n = record { idx = i; used = n }

-- a put: the message is stored; it goes to the first reader that waits; the caller is to wait
abbrev pub stored : ℤ
stored = pos 0

abbrev pub wakes_reader : ℤ
wakes_reader = pos 1

-- a get: the first message is read; it is read, and then the first writer that waits puts its own; the caller is to wait
abbrev pub is_read : ℤ
is_read = pos 0

abbrev pub wakes_writer : ℤ
wakes_writer = pos 1

abbrev pub pends : ℤ
pends = pos 2

-- with n messages of c, the next going to the slot w
abbrev pub puts : ℕ → ℕ → ℕ → (reader no_wait : Bool) → Reply Numbers
puts w n c reader no_wait =
    cond (ltb n c)
    (cond reader (accept (counts w n) wakes_reader []) (accept (counts (wrap (w + 1) c) (n + 1)) stored []))
    (cond no_wait (refuse enomsg) (accept (counts w n) pends []))

-- with n messages of c, the first in the slot t
abbrev pub gets : ℕ → ℕ → ℕ → (writer no_wait : Bool) → Reply Numbers
gets t n c writer no_wait =
    cond (ltb 0 n)
    (accept (counts (wrap (t + 1) c) (n - 1)) (cond writer wakes_writer is_read) [])
    (cond no_wait (refuse enomsg) (accept (counts t n) pends []))

abbrev pub leads : ℕ → ℕ → ℕ → Reply Numbers
leads t n c = cond (ltb n c) (accept (counts (wrap (t + (c - 1)) c) (n + 1)) ok []) (refuse enomsg)

-- the slot of the message i
abbrev pub peeks : ℕ → ℕ → ℕ → ℕ → Reply ℕ
peeks t n c i = cond (ltb i n) (accept (wrap (t + i) c) ok []) (refuse enomsg)

-- ---- what is done

-- only if it may be
abbrev pub given : {S : Type 0} → Bool → Reply S → Reply S
given b y = cond b y (refuse einval)

-- m goes behind the messages, or before them; one of another size: -22; a full queue: -35
abbrev pub put : List ℕ → Msgq → Reply Msgq
put m q =
    given (eqb (length m) q.size)
    (carry (λ (x : Numbers). having (append (m ∷ []) q.ring) q) (puts (write_idx q) (used q) (max q) false true))

abbrev pub put_front : List ℕ → Msgq → Reply Msgq
put_front m q =
    given (eqb (length m) q.size)
    (carry (λ (x : Numbers). having (lead m q.ring) q) (leads (read_idx q) (used q) (max q)))

-- the first message leaves, and is handed out to a place of n bytes; a place of another size: -22; an empty queue: -35
abbrev pub get : ℕ → Msgq → Reply Msgq
get n q =
    given (eqb n q.size)
    (handing (get_or q.ring.held 0 []) (carry (λ (x : Numbers). having (leave 1 q.ring) q) (gets (read_idx q) (used q) (max q) false true)))

-- the message behind i others is handed out, and nothing changes
abbrev pub peek : ℕ → ℕ → Msgq → Reply Msgq
peek n i q =
    given (eqb n q.size) (handing (get_or q.ring.held i []) (carry (λ (x : ℕ). q) (peeks (read_idx q) (used q) (max q) i)))

-- all messages leave; the answer is their number
abbrev pub purge : Msgq → Reply Msgq
purge q = accept (having (leave (used q) q.ring) q) (pos (used q)) []

-- ---- what is asked

abbrev pub num_free : Msgq → ℤ
num_free q = pos (length q.ring.spare)

abbrev pub num_used : Msgq → ℤ
num_used q = pos (used q)

abbrev pub msg_size : Msgq → ℤ
msg_size q = pos q.size

abbrev pub max_msgs : Msgq → ℤ
max_msgs q = pos (max q)

abbrev pub read_at : Msgq → ℤ
read_at q = pos (read_idx q)

abbrev pub write_at : Msgq → ℤ
write_at q = pos (write_idx q)

-- 1 or 0
abbrev pub full : Msgq → ℤ
full q = cond (any q.ring.spare) (pos 0) (pos 1)

abbrev pub empty : Msgq → ℤ
empty q = cond (any q.ring.held) (pos 0) (pos 1)
