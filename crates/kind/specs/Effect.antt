-- What the caller of a call reads off memory: the answer r, the numbers n' and the queue q' after it. Who is woken is said of the queue
-- (FirstIsWoken, AllAreWoken).
use Rattle.std.specs.Prelude.{◌≡◌, true, false, List, ℕ, ◌≤◌, ◌<◌, ℤ, length}
use Rattle.thread.specs.Code.{enomem, ebusy}
use Rattle.wait_queue.specs.Queue.{max_waiters, entry, holds, joined}
use Rattle.wait_queue.specs.Turn.{waits}

-- refused with the code c: no word of the header or of the entries changes
pub record Barred (c : ℤ) (h e : List ℕ) (r : ℤ) (h' e' : List ℕ) : Type 0 where
  pub code : r ≡ c
  pub header : h' ≡ h
  pub entries : e' ≡ e

-- the answer is c, the numbers are n and the queue is q
pub record Leaves {N : Type 0} (c : ℤ) (n : N) (q : List ℕ) (r : ℤ) (n' : N) (q' : List ℕ) : Type 0 where
  pub code : r ≡ c
  pub numbers : n' ≡ n
  pub queue : q' ≡ q

-- the thread i of priority p, which runs, wants to wait
pub record Waits {N : Type 0} (i p : ℕ) (n : N) (q h e : List ℕ) (r : ℤ) (n' : N) (q' h' e' : List ℕ) : Type 0 where
  -- it stands behind all of equal or higher priority, and no number changes
  pub joins : holds i q ≡ false → length q < max_waiters → Leaves waits n (joined (entry p i) q) r n' q'
  -- it is in this queue already
  pub twice : holds i q ≡ true → Barred ebusy h e r h' e'
  -- there is no place
  pub full : holds i q ≡ false → max_waiters ≤ length q → Barred enomem h e r h' e'
