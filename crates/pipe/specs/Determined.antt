-- No contract of a public function leaves anything open: of two outcomes from the same memory and the same numbers that both meet it, the answers
-- are the same, and so is every word and every byte.
use Rattle.std.specs.Prelude.{Bool, List, ℕ, ℤ}
use Rattle.seq.specs.Only.{Only}
use Rattle.thread.specs.Answer.{TellsByTwo}
use Rattle.pipe.specs.declared.WriteDecision.{WriteDecision}
use Rattle.pipe.specs.declared.ReadDecision.{ReadDecision}
use Rattle.pipe.specs.declared.DecideResult.{DecideResult}
use Rattle.pipe.specs.Post.{Starts, Writes, WritesAll, Reads, ReadsAll, Resets, Closes, ClearsReset, GetsSpace, GetsData, GetsSize, SaysEmpty, SaysFull, SaysOpen, SaysResetting, WriteDecided, WriteAllDecided, ReadDecided, ReadAllDecided}
use Rattle.pipe.specs.Told.{write_told, read_told, actual_told, used_told}

pub record Determined : Type 0 where
  pub init : (n : ℕ) (h b : List ℕ) → Only (λ ((r, h') : ℤ × List ℕ). Starts n h b r h')
  pub write : (src h b : List ℕ) → Only (λ ((r, h', b') : ℤ × List ℕ × List ℕ). Writes src h b r h' b')
  pub write_all : (src h b : List ℕ) → Only (λ ((r, h', b') : ℤ × List ℕ × List ℕ). WritesAll src h b r h' b')
  pub read : (h b out : List ℕ) → Only (λ ((r, h', out') : ℤ × List ℕ × List ℕ). Reads h b out r h' out')
  pub read_all : (h b out : List ℕ) → Only (λ ((r, h', out') : ℤ × List ℕ × List ℕ). ReadsAll h b out r h' out')
  pub reset : (h b : List ℕ) → Only (λ ((r, h') : ℤ × List ℕ). Resets h b r h')
  pub close : (h b : List ℕ) → Only (λ ((r, h') : ℤ × List ℕ). Closes h b r h')
  pub clear_reset : (h b : List ℕ) → Only (λ ((r, h') : ℤ × List ℕ). ClearsReset h b r h')
  pub space_get : (h b : List ℕ) → Only (λ (r : ℤ). GetsSpace h b r)
  pub data_get : (h b : List ℕ) → Only (λ (r : ℤ). GetsData h b r)
  pub size : (h b : List ℕ) → Only (λ (r : ℤ). GetsSize h b r)
  pub is_empty : (h b : List ℕ) → Only (λ (r : ℤ). SaysEmpty h b r)
  pub is_full : (h b : List ℕ) → Only (λ (r : ℤ). SaysFull h b r)
  pub is_open : (h b : List ℕ) → Only (λ (r : ℤ). SaysOpen h b r)
  pub is_resetting : (h b : List ℕ) → Only (λ (r : ℤ). SaysResetting h b r)
  pub write_decide : (used n flags len : ℕ) (reader : Bool) (a u : ℕ) → Only (λ ((r, a', u') : ℤ × ℕ × ℕ). WriteDecided used n flags len reader a u r a' u')
  pub write_all_decide : (used n flags len : ℕ) (reader : Bool) (a u : ℕ)
      → Only (λ ((r, a', u') : ℤ × ℕ × ℕ). WriteAllDecided used n flags len reader a u r a' u')
  pub read_decide : (used n flags len : ℕ) (writer : Bool) (a u : ℕ) → Only (λ ((r, a', u') : ℤ × ℕ × ℕ). ReadDecided used n flags len writer a u r a' u')
  pub read_all_decide : (used n flags len : ℕ) (writer : Bool) (a u : ℕ)
      → Only (λ ((r, a', u') : ℤ × ℕ × ℕ). ReadAllDecided used n flags len writer a u r a' u')
  pub write_decide_answer : TellsByTwo {T = DecideResult WriteDecision} write_told actual_told used_told
  pub read_decide_answer : TellsByTwo {T = DecideResult ReadDecision} read_told actual_told used_told
