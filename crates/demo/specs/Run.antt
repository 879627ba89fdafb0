-- The run that the program does.
use Rattle.std.specs.Prelude.{◌≡◌, List, [], ◌∷◌, ℕ, ◌≤◌, length, get_or}
use Rattle.wait_queue.specs.Queue.{max_waiters, entry, waiting}
use Rattle.kind.specs.Object.{Object}
use Rattle.sem.specs.Sem.{Sem}
use Rattle.sem.specs.Post.{layout}

-- the header h and the entries e are the semaphore s
pub record Is (s : Object Sem) (h e : List ℕ) : Type 0 where
  pub words : 3 ≤ length h
  pub room : max_waiters ≤ length e
  pub num : layout.num h ≡ s.num
  pub queue : waiting e (get_or h 2 0) ≡ s.queue

-- the semaphore after the worked run and four takes more: the threads 6 and 8 wait
abbrev pub two : Object Sem
two = record { num = record { count = 0; limit = 2 }; queue = entry 1 6 ∷ entry 6 8 ∷ [] }
