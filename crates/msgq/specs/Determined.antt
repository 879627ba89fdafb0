-- No contract of a public function leaves anything open: of two outcomes from the same memory and the same numbers that both meet it, the answers
-- are the same, and so is every word and every byte.
use Rattle.std.specs.Prelude.{Bool, List, ℕ, ℤ, ⊤}
use Rattle.seq.specs.Only.{Only}
use Rattle.thread.specs.Answer.{TellsByTwo, done}
use Rattle.msgq.specs.Post.{PutDecided, GetDecided, PutFrontDecided, PeekAtDecided, Starts, Puts, PutsFront, Gets, PeeksAt, Purges, CountsFree, CountsUsed, GetsMsgSize, GetsMaxMsgs, SaysFull, SaysEmpty, GetsReadIdx, GetsWriteIdx}
use Rattle.msgq.specs.Decision.{put_code, get_code}
use Rattle.msgq.specs.declared.PutDecision.{PutDecision}
use Rattle.msgq.specs.declared.GetDecision.{GetDecision}
use Rattle.msgq.specs.declared.DecideResult.{DecideResult}

pub record Determined : Type 0 where
  pub put_decide : (w n c : ℕ) (reader no_wait : Bool) (i u : ℕ) → Only (λ ((r, i', u') : ℤ × ℕ × ℕ). PutDecided w n c reader no_wait i u r i' u')
  pub get_decide : (t n c : ℕ) (writer no_wait : Bool) (i u : ℕ) → Only (λ ((r, i', u') : ℤ × ℕ × ℕ). GetDecided t n c writer no_wait i u r i' u')
  pub put_front_decide : (t n c i u : ℕ) → Only (λ ((r, i', u') : ℤ × ℕ × ℕ). PutFrontDecided t n c i u r i' u')
  pub peek_at_decide : (t n c i s : ℕ) → Only (λ ((r, s') : ℤ × ℕ). PeekAtDecided t n c i s r s')
  pub init : (size n : ℕ) (h b : List ℕ) → Only (λ ((r, h') : ℤ × List ℕ). Starts size n h b r h')
  pub put : (m h b : List ℕ) → Only (λ ((r, h', b') : ℤ × List ℕ × List ℕ). Puts m h b r h' b')
  pub put_front : (m h b : List ℕ) → Only (λ ((r, h', b') : ℤ × List ℕ × List ℕ). PutsFront m h b r h' b')
  pub get : (h b out : List ℕ) → Only (λ ((r, h', out') : ℤ × List ℕ × List ℕ). Gets h b out r h' out')
  pub peek_at : (i : ℕ) (h b out : List ℕ) → Only (λ ((r, out') : ℤ × List ℕ). PeeksAt i h b out r out')
  pub purge : (h b : List ℕ) → Only (λ ((r, h') : ℤ × List ℕ). Purges h b r h')
  pub num_free_get : (h b : List ℕ) → Only (λ (r : ℤ). CountsFree h b r)
  pub num_used_get : (h b : List ℕ) → Only (λ (r : ℤ). CountsUsed h b r)
  pub msg_size_get : (h b : List ℕ) → Only (λ (r : ℤ). GetsMsgSize h b r)
  pub max_msgs_get : (h b : List ℕ) → Only (λ (r : ℤ). GetsMaxMsgs h b r)
  pub is_full : (h b : List ℕ) → Only (λ (r : ℤ). SaysFull h b r)
  pub is_empty : (h b : List ℕ) → Only (λ (r : ℤ). SaysEmpty h b r)
  pub read_idx_get : (h b : List ℕ) → Only (λ (r : ℤ). GetsReadIdx h b r)
  pub write_idx_get : (h b : List ℕ) → Only (λ (r : ℤ). GetsWriteIdx h b r)
  -- the number and the words tell which answer it is
  pub put_answer : TellsByTwo {T = DecideResult PutDecision} (λ d. put_code d.decision) (λ d _. d.new_idx) (λ d _. d.new_used)
  pub get_answer : TellsByTwo {T = DecideResult GetDecision} (λ d. get_code d.decision) (λ d _. d.new_idx) (λ d _. d.new_used)
  pub put_front_answer : TellsByTwo {T = DecideResult ⊤} done (λ d _. d.new_idx) (λ d _. d.new_used)
