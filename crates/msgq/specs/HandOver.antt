-- Readers wait for a message, writers for room. What the decide functions tell the callers to do then, for all calls, and that messages still come
-- out in their order.
use Rattle.std.specs.Prelude.{◌≡◌, Bool, true, cond, List, [], ◌∷◌, ◌++◌, ℕ, zero, suc, ◌-◌, ◌<◌, eqb, ltb, ℤ, pos, negsuc, length, drop, get_or}
use Rattle.seq.specs.List.{any, All}
use Rattle.thread.specs.Code.{einval}
use Rattle.store.specs.Store.{Reply, accept, refuse, answer, left, out, carry}
use Rattle.msgq.specs.Msgq.{Msgq, Numbers, counts, given, wakes_reader, wakes_writer, max, used, read_idx, write_idx, put, put_front, get, purge}
use Rattle.msgq.specs.Post.{put_decision, get_decision, put_front_decision, peek_decision}
use Rattle.msgq.specs.History.{Call, putting, putting_front, getting, peeking, purging, lined, Good}

pub record Waited : Type 0 where
  pub queue : Msgq
  -- how many readers wait
  pub readers : ℕ
  -- the messages of the writers that wait, the first to be woken first: all are of one priority
  pub writers : List (List ℕ)
  -- all messages that came out, the first first
  pub got : List (List ℕ)
  -- these, and then those that are to come: told from the calls that were not refused, as of a queue for which nobody waits (`lined`)
  pub line : List (List ℕ)
  -- the messages of the writers that a purge woke, with -35: they were not put
  pub turned : List (List ℕ)

-- a call, and that its caller would not wait; only a put behind the others and a get ask for it
pub record Event : Type 0 where
  pub call : Call
  pub no_wait : Bool

-- what the caller is told: by the decide functions, which are told the numbers of the queue and whether somebody waits on the other side. A message, or
-- a place for one, of another size is refused before
abbrev pub decision : Call → Bool → Waited → Reply Numbers
decision (putting m) k s =
    given (eqb (length m) s.queue.size) (put_decision (write_idx s.queue) (used s.queue) (max s.queue) (ltb 0 s.readers) k)
-- put_front_decide is not told whether a reader waits. Where one does, nothing is held, and the front is the back: put_decide is asked
decision (putting_front m) k s =
    given (eqb (length m) s.queue.size)
    (cond (ltb 0 s.readers) (put_decision (write_idx s.queue) (used s.queue) (max s.queue) true true)
    (put_front_decision (read_idx s.queue) (used s.queue) (max s.queue)))
decision (getting n) k s = given (eqb n s.queue.size) (get_decision (read_idx s.queue) (used s.queue) (max s.queue) (any s.writers) k)
decision (peeking n i) k s =
    given (eqb n s.queue.size) (carry (λ (x : ℕ). counts x (used s.queue)) (peek_decision (read_idx s.queue) (used s.queue) (max s.queue) i))
-- a purge is not asked for: the queue tells how many it held
decision purging k s = carry (λ (q : Msgq). counts (read_idx q) (used q)) (purge s.queue)

abbrev pub stored : List ℕ → Msgq → Msgq
stored m q = left (put m q) q

abbrev pub led : List ℕ → Msgq → Msgq
led m q = left (put_front m q) q

abbrev pub read : Msgq → Msgq
read q = left (get q.size q) q

abbrev pub emptied : Msgq → Msgq
emptied q = left (purge q) q

-- the message of the first writer is put
abbrev pub refilled : List (List ℕ) → Msgq → Msgq
refilled [] q = q
refilled (w ∷ ws) q = stored w q

-- the queue is q now, r readers wait, and the writers with w; g came out now
abbrev pub becomes : Call → Waited → Msgq → ℕ → List (List ℕ) → List (List ℕ) → Waited
becomes k s q r w g =
    record { queue = q; readers = r; writers = w; got = s.got ++ g; line = lined k s.got s.line; turned = s.turned }

-- what the answer c tells the caller to do
abbrev pub done : Call → ℕ → Waited → Waited
-- store the message behind the others
done (putting m) zero s = becomes (putting m) s (stored m s.queue) s.readers s.writers []
-- hand it to a reader: the queue is not touched
done (putting m) (suc zero) s = becomes (putting m) s s.queue (s.readers - 1) s.writers (m ∷ [])
-- wait, behind the writers that wait already
done (putting m) (suc (suc c)) s = becomes (putting m) s s.queue s.readers (s.writers ++ m ∷ []) []
-- store it before the others, or hand it to a reader; nobody waits to put at the front
done (putting_front m) zero s = becomes (putting_front m) s (led m s.queue) s.readers s.writers []
done (putting_front m) (suc c) s = becomes (putting_front m) s s.queue (s.readers - 1) s.writers (m ∷ [])
-- read the first message
done (getting n) zero s = becomes (getting n) s (read s.queue) s.readers s.writers (out (get n s.queue) ∷ [])
-- read it, and then let the first writer put its own
done (getting n) (suc zero) s =
    becomes (getting n) s (refilled s.writers (read s.queue)) s.readers (drop 1 s.writers) (out (get n s.queue) ∷ [])
-- wait
done (getting n) (suc (suc c)) s = becomes (getting n) s s.queue (suc s.readers) s.writers []
-- look
done (peeking n i) c s = becomes (peeking n i) s s.queue s.readers s.writers []
-- drop what is held, and wake all writers with -35, for there is room now; readers wait on
done purging c s =
    record {
      queue = emptied s.queue;
      readers = s.readers;
      writers = [];
      got = s.got;
      line = lined purging s.got s.line;
      turned = s.turned ++ s.writers;
    }

-- a refusal: nothing
abbrev pub told : Call → ℤ → Waited → Waited
told k (pos c) s = done k c s
told k (negsuc c) s = s

abbrev pub happens : Waited → Event → Waited
happens s e = told e.call (answer (decision e.call e.no_wait s)) s

-- after any events: `after happens`
pub record Fair (c z : ℕ) (s : Waited) : Type 0 where
  pub good : Good c z s.queue
  pub sizes : All (λ (m : List ℕ). length m ≡ z) s.writers
  -- a reader waits only if there is no message, a writer only if there is no room
  pub no_message : 0 < s.readers → s.queue.ring.held ≡ []
  pub no_room : 0 < length s.writers → used s.queue ≡ c
  -- what came out, what is held, what the writers offer: the line, each message once. A put adds to its end, one at the front comes right behind what came
  -- out, a purge cuts it to what came out
  pub line : s.got ++ (s.queue.ring.held ++ s.writers) ≡ s.line

-- a purge: nothing is held and nobody waits to put; the writers that waited are told, in their order; to the readers nothing happens
pub record Purged (s s' : Waited) : Type 0 where
  pub none_held : s'.queue.ring.held ≡ []
  pub no_writer : s'.writers ≡ []
  pub woken : s'.turned ≡ s.turned ++ s.writers
  pub readers : s'.readers ≡ s.readers
  pub cut : s'.line ≡ s.got
  pub out : s'.got ≡ s.got

-- ---- a hand-over is a put and a get

-- of an empty queue: the message m goes to a reader, and no number moves; m put, and then got by the reader, leaves it empty as well
pub record HandsOver (m : List ℕ) (q : Msgq) : Type 0 where
  pub decided : (k : Bool) → put_decision (write_idx q) (used q) (max q) true k ≡ accept (counts (write_idx q) (used q)) wakes_reader []
  pub same : (read (stored m q)).ring.held ≡ q.ring.held
  pub gets_it : get_or (stored m q).ring.held 0 [] ≡ m
  -- and so does m put at the front
  pub same_front : (read (led m q)).ring.held ≡ q.ring.held
  pub gets_front : get_or (led m q).ring.held 0 [] ≡ m

-- of a full queue, where a writer waits with w: the numbers are those of the get alone; then w is put, and it is full again
pub record Refills (w : List ℕ) (q : Msgq) : Type 0 where
  pub decided : (k : Bool) → get_decision (read_idx q) (used q) (max q) true k ≡ accept (counts (read_idx (read q)) (used (read q))) wakes_writer []
  pub behind : (stored w (read q)).ring.held ≡ drop 1 q.ring.held ++ w ∷ []
  pub full : used (stored w (read q)) ≡ max q

-- ---- why a reader that waits while there are messages is refused, and a writer that waits while there is room

pub record Refused (q : Msgq) : Type 0 where
  pub reader : 0 < used q → (k : Bool) → put_decision (write_idx q) (used q) (max q) true k ≡ refuse einval
  pub writer : used q < max q → (k : Bool) → get_decision (read_idx q) (used q) (max q) true k ≡ refuse einval

-- if every message of z bytes could be handed over, past those that are held, and still be first in first out, then none is held
abbrev pub OnlyEmpty : ℕ → Msgq → List (List ℕ) → Type 0
OnlyEmpty z q got =
    ((m : List ℕ) → length m ≡ z → (got ++ m ∷ []) ++ q.ring.held ≡ (got ++ q.ring.held) ++ m ∷ []) → q.ring.held ≡ []
