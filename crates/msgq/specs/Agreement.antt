-- The decide functions agree with the queue: told its numbers, with nobody waiting on the other side and a caller that does not wait, they answer
-- as it does, and their numbers are those that it then has.
use Rattle.std.specs.Prelude.{◌≡◌, true, false, List, ℕ, length}
use Rattle.store.specs.Store.{Reply, answer, left}
use Rattle.msgq.specs.Msgq.{Msgq, Numbers, max, used, read_idx, write_idx, put, put_front, get, peek}
use Rattle.msgq.specs.Post.{put_decision, get_decision, put_front_decision, peek_decision, Settled}

-- the reply y is the decision d of a queue q, whose index is i
abbrev pub By : Reply Msgq → Msgq → (Msgq → ℕ) → Reply Numbers → Type 0
By y q i d = Settled d (i q) (used q) (answer y) (i (left y q)) (used (left y q))

pub record Agrees (q : Msgq) : Type 0 where
  pub put : (m : List ℕ) → length m ≡ q.size → By (put m q) q write_idx (put_decision (write_idx q) (used q) (max q) false true)
  pub put_front : (m : List ℕ) → length m ≡ q.size → By (put_front m q) q read_idx (put_front_decision (read_idx q) (used q) (max q))
  pub get : By (get q.size q) q read_idx (get_decision (read_idx q) (used q) (max q) false true)
  pub peek : (i : ℕ) → answer (peek q.size i q) ≡ answer (peek_decision (read_idx q) (used q) (max q) i)
