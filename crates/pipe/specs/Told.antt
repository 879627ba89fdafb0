-- What the types of src stand for: a condition for its flags, an answer for a verdict, a decision for its number.
use Rattle.std.specs.Prelude.{◌≡◌, Bool, true, false, cond, List, ℕ, ◌<◌, ◌≤◌, min, eqb, ltb, ℤ, pos, length, get_or, Option, Some, None, Result, Ok, Err}
use Rattle.thread.specs.Code.{code, einval}
use Rattle.thread.specs.declared.Errno.{Errno}
use Rattle.thread.specs.declared.Errno.TheVariants.{EINVAL}
use Rattle.store.specs.Store.{Reply}
use Rattle.pipe.specs.declared.Condition.{Condition}
use Rattle.pipe.specs.declared.Condition.TheVariants.{Closed, Open, Resetting, OpenAndResetting}
use Rattle.pipe.specs.declared.Numbers.{Numbers}
use Rattle.pipe.specs.declared.WriteDecision.{WriteDecision}
use Rattle.pipe.specs.declared.WriteDecision.TheVariants.{WriteOk, WakeReader, WritePend}
use Rattle.pipe.specs.declared.ReadDecision.{ReadDecision}
use Rattle.pipe.specs.declared.ReadDecision.TheVariants.{ReadOk, WakeWriter, ReadPend}
use Rattle.pipe.specs.declared.DecideResult.{DecideResult}
use Rattle.pipe.specs.Pipe.{Pipe, Verdict, never, later, move, wholly, once, writes, writes_all, reads, reads_all, write, write_all, read, read_all}
use Rattle.pipe.specs.Post.{formed, goes, wakes, pends, proper, is_open, is_resetting, Moves, write_decision, write_all_decision, read_decision, read_all_decision}

-- how many bytes a ring took or gave; -22, if it is malformed
abbrev pub how_many : Option ℕ → ℤ
how_many (Some k) = pos k
how_many None = einval

abbrev pub flags_of : Condition → ℕ
flags_of Closed = 0
flags_of Open = 1
flags_of Resetting = 2
flags_of OpenAndResetting = 3

abbrev pub Flagged : ℕ → Result Condition Errno → Type 0
Flagged f (Ok c) = flags_of c ≡ f
Flagged f (Err e) = (3 < f) × (e ≡ EINVAL)

-- numbers that a pipe can have
pub record Proper (u s f : ℕ) (p : Numbers) : Type 0 where
  pub proper : proper u s f ≡ true
  pub under : p.used ≤ p.size
  pub used : p.used ≡ u
  pub size : p.size ≡ s
  pub flags : flags_of p.condition ≡ f

abbrev pub Checked : ℕ → ℕ → ℕ → Result Numbers Errno → Type 0
Checked used size f (Ok p) = Proper used size f p
Checked used size f (Err e) = (proper used size f ≡ false) × (e ≡ EINVAL)

-- those of the pipe in memory
pub record Seen (h b : List ℕ) (p : Numbers) : Type 0 where
  pub formed : formed h b ≡ true
  pub words : 4 ≤ length h
  pub under : p.used ≤ p.size
  pub used : p.used ≡ get_or h 2 0
  pub size : p.size ≡ get_or h 0 0
  pub flags : flags_of p.condition ≡ get_or h 3 0

abbrev pub Looked : List ℕ → List ℕ → Result Numbers Errno → Type 0
Looked h b (Ok p) = Seen h b p
Looked h b (Err e) = (formed h b ≡ false) × (e ≡ EINVAL)

-- so many move; none can now; a refusal
abbrev pub verdict : Result (Option ℕ) Errno → Verdict
verdict (Ok (Some n)) = move n
verdict (Ok None) = later
verdict (Err e) = never (code e)

-- most of n bytes can move: too few, where all are to or some are
abbrev pub short : Bool → ℕ → ℕ → Bool
short all n most = cond (eqb most 0) true (cond all (ltb most n) false)

abbrev pub some_move : ℕ → ℕ → Verdict
some_move most n = cond (ltb 0 most) (move (min n most)) later

abbrev pub moves_by : Bool → ℕ → ℕ → ℕ → Verdict
moves_by true size most n = wholly n (once size n) (some_move most n)
moves_by false size most n = some_move most n

-- all bytes or none, or as many as can
abbrev pub writes_by : Bool → Numbers → ℕ → Verdict
writes_by true p n = writes_all p.used p.size (is_open (flags_of p.condition)) (is_resetting (flags_of p.condition)) n
writes_by false p n = writes p.used p.size (is_open (flags_of p.condition)) (is_resetting (flags_of p.condition)) n

abbrev pub reads_by : Bool → Numbers → ℕ → Verdict
reads_by true p n = reads_all p.used p.size (is_open (flags_of p.condition)) (is_resetting (flags_of p.condition)) n
reads_by false p n = reads p.used (is_open (flags_of p.condition)) (is_resetting (flags_of p.condition)) n

abbrev pub write_by : Bool → List ℕ → Pipe → Reply Pipe
write_by true = write_all
write_by false = write

abbrev pub read_by : Bool → ℕ → Pipe → Reply Pipe
read_by true = read_all
read_by false = read

abbrev pub write_decision_by : Bool → ℕ → ℕ → ℕ → ℕ → Bool → Reply Moves
write_decision_by true = write_all_decision
write_decision_by false = write_decision

abbrev pub read_decision_by : Bool → ℕ → ℕ → ℕ → ℕ → Bool → Reply Moves
read_decision_by true = read_all_decision
read_decision_by false = read_decision

-- the numbers that C is told
abbrev pub write_number : WriteDecision → ℤ
write_number WriteOk = goes
write_number WakeReader = wakes
write_number WritePend = pends

abbrev pub read_number : ReadDecision → ℤ
read_number ReadOk = goes
read_number WakeWriter = wakes
read_number ReadPend = pends

abbrev pub write_told : DecideResult WriteDecision → ℤ
write_told d = write_number d.decision

abbrev pub read_told : DecideResult ReadDecision → ℤ
read_told d = read_number d.decision

abbrev pub actual_told : {D : Type 0} → DecideResult D → ℕ → ℕ
actual_told d n = d.actual_bytes

abbrev pub used_told : {D : Type 0} → DecideResult D → ℕ → ℕ
used_told d n = d.new_used
