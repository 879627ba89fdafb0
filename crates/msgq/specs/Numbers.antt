-- What C is told of a decision; and what the numbers of a queue are, once they were tested.
use Rattle.std.specs.Prelude.{◌≡◌, true, false, List, ℕ, ◌≤◌, Result, Ok, Err, length, get_or}
use Rattle.thread.specs.declared.Errno.{Errno}
use Rattle.thread.specs.declared.Errno.TheVariants as errno
use Rattle.ring_buf.specs.Bytes.{numbers}
use Rattle.msgq.specs.Post.{sound, takes}
use Rattle.msgq.specs.declared.slots.Slots.{Slots}

-- an index is a slot's, and no more are used than there are
abbrev pub Counts : ℕ → ℕ → ℕ → Result Slots Errno → Type 0
Counts i n c (Ok s) = (s.max ≡ c) × (s.idx ≡ i) × (s.used ≡ n)
Counts i n c (Err e) = (numbers c i n ≡ false) × (e ≡ errno.EINVAL)

-- header and buffer are as they should be, and s is what the header says
pub record Header (h b : List ℕ) (s : Slots) : Type 0 where
  pub sound : sound h b ≡ true
  pub words : 4 ≤ length h
  pub max : s.max ≡ get_or h 0 0
  pub idx : s.idx ≡ get_or h 1 0
  pub used : s.used ≡ get_or h 2 0

abbrev pub Formed : List ℕ → List ℕ → Result Slots Errno → Type 0
Formed h b (Ok s) = Header h b s
Formed h b (Err e) = (sound h b ≡ false) × (e ≡ errno.EINVAL)

-- and a message has k bytes
abbrev pub Sized : ℕ → List ℕ → List ℕ → Result Slots Errno → Type 0
Sized k h b (Ok s) = Header h b s × (k ≡ get_or h 3 0)
Sized k h b (Err e) = (takes k h b ≡ false) × (e ≡ errno.EINVAL)
