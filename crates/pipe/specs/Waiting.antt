-- Readers wait for bytes, writers for room, any number of each. What write_decide and read_decide tell the caller to do then.
use Rattle.std.specs.Prelude.{Bool, true, false, cond, List, [], ◌∷◌, ◌++◌, ℕ, zero, suc, min, pos, negsuc, length, take, drop, get_or}
use Rattle.seq.specs.List.{any}
use Rattle.store.specs.Store.{Reply, refuse, accept, left, out}
use Rattle.pipe.specs.Pipe.{Pipe, write, read, reset, close, clear_reset}
use Rattle.pipe.specs.Post.{Moves, write_decision, read_decision}
use Rattle.pipe.specs.HandOver.{used, flags}

-- since the last reset
pub record Books : Type 0 where
  -- all writes that were not refused, whole, the first first; and what went in by each of them that waits no more
  pub called : List (List ℕ)
  pub went : List (List ℕ)
  -- all bytes that came out
  pub got : List ℕ
  -- how much each read asked for that came to wait, the first first; and how many bytes each of them was handed that waits no more
  pub begged : List ℕ
  pub fed : List ℕ

pub record Waited : Type 0 where
  pub pipe : Pipe
  -- how many bytes each reader asks for that waits, and the bytes of each writer that waits: the first to be served first
  pub readers : List ℕ
  pub writers : List (List ℕ)
  -- a read was answered 1, and the writers that wait are being let in
  pub letting : Bool
  pub books : Books

abbrev pub waited : Pipe → List ℕ → List (List ℕ) → Bool → Books → Waited
waited p r w x b = record { pipe = p; readers = r; writers = w; letting = x; books = b }

-- what is decided: a write and a read, whose caller waits if need be, or does not; and the first writer that waits tries again
pub data Try : Type 0 where
  writing : (l : List ℕ) (no_wait : Bool) → Try
  reading : (n : ℕ) (no_wait : Bool) → Try
  entering : Try

pub data Event : Type 0 where
  tries : Try → Event
  resets closes clears : Event

-- a write asks for no more than the first reader that waits does
abbrev pub wanted : List ℕ → List ℕ → ℕ
wanted [] l = length l
wanted (n ∷ ns) l = min n (length l)

-- told the numbers of the pipe, and whether somebody waits on the other side
abbrev pub decides_write : Pipe → ℕ → Bool → Reply Moves
decides_write p n w = write_decision (used p) p.ring.capacity (flags p) n w

abbrev pub decides_read : Pipe → ℕ → Bool → Reply Moves
decides_read p n w = read_decision (used p) p.ring.capacity (flags p) n w

abbrev pub deciding : List ℕ → Waited → Reply Moves
deciding l s = decides_write s.pipe (wanted s.readers l) (any s.readers)

abbrev pub decision : Try → Waited → Reply Moves
decision (writing l k) s = deciding l s
decision (reading n k) s = decides_read s.pipe n (any s.writers)
decision entering s = deciding (get_or s.writers 0 []) s

-- ---- what the caller does

-- n bytes of l are written to the pipe
abbrev pub filled : List ℕ → ℕ → Pipe → Pipe
filled l n p = left (write (take n l) p) p

abbrev pub drained : ℕ → Pipe → Pipe
drained n p = left (read n p) p

-- a write is called; by the first that is not over x goes in; x comes out; a read comes to wait; the first that waits is handed x
abbrev pub calls : List ℕ → Books → Books
calls l b = record { called = b.called ++ l ∷ []; went = b.went; got = b.got; begged = b.begged; fed = b.fed }

abbrev pub enters : List ℕ → Books → Books
enters x b = record { called = b.called; went = b.went ++ x ∷ []; got = b.got; begged = b.begged; fed = b.fed }

abbrev pub leaves : List ℕ → Books → Books
leaves x b = record { called = b.called; went = b.went; got = b.got ++ x; begged = b.begged; fed = b.fed }

abbrev pub begs : ℕ → Books → Books
begs n b = record { called = b.called; went = b.went; got = b.got; begged = b.begged ++ n ∷ []; fed = b.fed }

abbrev pub feeds : List ℕ → Books → Books
feeds x b = record { called = b.called; went = b.went; got = b.got ++ x; begged = b.begged; fed = b.fed ++ length x ∷ [] }

-- the first reader that waits reads
abbrev pub fed_first : List ℕ → Pipe → List (List ℕ) → Bool → Books → Waited
fed_first readers p w x b = waited (drained (get_or readers 0 0) p) (drop 1 readers) w x (feeds (out (read (get_or readers 0 0) p)) b)

-- the writer of l is told n. Answer 0: its bytes go into the pipe. 1: so they do, and then the first reader that waits reads: if nothing was held, it is
-- handed these bytes, and nothing is held then. w: who waits then
abbrev pub wrote : ℕ → List ℕ → ℕ → List (List ℕ) → Books → Waited → Waited
wrote zero l n w b s = waited (filled l n s.pipe) s.readers w s.letting (enters (take n l) b)
wrote (suc c) l n w b s = fed_first s.readers (filled l n s.pipe) w s.letting (enters (take n l) b)

-- the writer waits behind those that wait, unless it does not wait
abbrev pub queued : Bool → List ℕ → Waited → Waited
queued true l s = s
queued false l s = waited s.pipe s.readers (s.writers ++ l ∷ []) s.letting (calls l s.books)

abbrev pub put : Bool → ℕ → List ℕ → ℕ → Waited → Waited
put k zero l n s = wrote 0 l n s.writers (calls l s.books) s
put k (suc zero) l n s = wrote 1 l n s.writers (calls l s.books) s
put k (suc (suc c)) l n s = queued k l s

-- the reader is told n; whether writers are to be let in
abbrev pub took : ℕ → Bool → Waited → Waited
took n x s = waited (drained n s.pipe) s.readers s.writers x (leaves (out (read n s.pipe)) s.books)

-- the reader waits behind those that wait, unless it does not wait
abbrev pub asked : Bool → ℕ → Waited → Waited
asked true n s = s
asked false n s = waited s.pipe (s.readers ++ n ∷ []) s.writers s.letting (begs n s.books)

-- no writer is let in any more
abbrev pub settled : Waited → Waited
settled s = waited s.pipe s.readers s.writers false s.books

-- what the answer c with n bytes tells the caller to do
abbrev pub done : Try → ℕ → ℕ → Waited → Waited
-- a write goes past no writer that waits
done (writing l k) c n s = cond (any s.writers) (queued k l s) (put k c l n s)
done (reading m k) zero n s = took m s.letting s
done (reading m k) (suc zero) n s = took m true s
done (reading m k) (suc (suc c)) n s = asked k m s
done entering zero n s = wrote 0 (get_or s.writers 0 []) n (drop 1 s.writers) s.books s
done entering (suc zero) n s = wrote 1 (get_or s.writers 0 []) n (drop 1 s.writers) s.books s
done entering (suc (suc c)) n s = settled s

-- a refusal: nothing; no writer waits any more
abbrev pub declined : Try → Waited → Waited
declined (writing l k) s = s
declined (reading n k) s = s
declined entering s = settled s

abbrev pub told : Try → Reply Moves → Waited → Waited
told e (refuse c) s = declined e s
told e (accept m (pos c) o) s = done e c m.actual s
told e (accept m (negsuc c) o) s = declined e s

abbrev pub fresh : Books
fresh = record { called = []; went = []; got = []; begged = []; fed = [] }

-- whoever waited was refused, and does not count
abbrev pub closed : Books → Books
closed b = record { called = take (length b.went) b.called; went = b.went; got = b.got; begged = take (length b.fed) b.begged; fed = b.fed }

abbrev pub happens : Waited → Event → Waited
happens s (tries e) = told e (decision e s) s
-- nobody waits any more; the books begin anew
happens s resets = waited (left (reset s.pipe) s.pipe) [] [] false fresh
-- nobody waits any more
happens s closes = waited (left (close s.pipe) s.pipe) [] [] false (closed s.books)
happens s clears = waited (left (clear_reset s.pipe) s.pipe) s.readers s.writers s.letting s.books
