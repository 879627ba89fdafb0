-- No contract of a public function leaves anything open: of two outcomes from the same memory and the same numbers that both meet it, the answers
-- are the same, and so is every word and every byte.
use Rattle.std.specs.Prelude.{◌≡◌, Bool, List, ℕ, ℤ}
use Rattle.seq.specs.Only.{Only}
use Rattle.ring_buf.specs.Post.{Places, Copies, SaysFormed, Starts, Puts, Gets, PutsN, GetsN, PeeksAt, Resets, GetsSize, GetsSpace, GetsCapacity, SaysEmpty, SaysFull, GetsHead, GetsTail, ClaimDecided, FinishDecided, SpaceGetDecided, SizeGetDecided}
use Rattle.ring_buf.specs.declared.ClaimDecision.{ClaimDecision}

pub record Determined : Type 0 where
  pub place : (x n : ℕ) → Only (λ (r : ℕ). Places x n r)
  pub copy : (dst src : List ℕ) → Only (λ (dst' : List ℕ). Copies dst src dst')
  pub formed : (h b : List ℕ) → Only (λ (r : Bool). SaysFormed h b r)
  pub init : (c : ℕ) (h b : List ℕ) → Only (λ ((r, h') : ℤ × List ℕ). Starts c h b r h')
  pub put : (x : ℕ) (h b : List ℕ) → Only (λ ((r, h', b') : ℤ × List ℕ × List ℕ). Puts x h b r h' b')
  pub get : (h b : List ℕ) (x : ℕ) → Only (λ ((r, h', x') : ℤ × List ℕ × ℕ). Gets h b x r h' x')
  pub put_n : (src h b : List ℕ) → Only (λ ((r, h', b') : ℤ × List ℕ × List ℕ). PutsN src h b r h' b')
  pub get_n : (h b out : List ℕ) → Only (λ ((r, h', out') : ℤ × List ℕ × List ℕ). GetsN h b out r h' out')
  pub peek_at : (i : ℕ) (h b : List ℕ) (x : ℕ) → Only (λ ((r, x') : ℤ × ℕ). PeeksAt i h b x r x')
  pub reset : (h b : List ℕ) → Only (λ ((r, h') : ℤ × List ℕ). Resets h b r h')
  pub size_get : (h b : List ℕ) → Only (λ (r : ℤ). GetsSize h b r)
  pub space_get : (h b : List ℕ) → Only (λ (r : ℤ). GetsSpace h b r)
  pub capacity_get : (h b : List ℕ) → Only (λ (r : ℤ). GetsCapacity h b r)
  pub is_empty : (h b : List ℕ) → Only (λ (r : ℤ). SaysEmpty h b r)
  pub is_full : (h b : List ℕ) → Only (λ (r : ℤ). SaysFull h b r)
  pub head_get : (h b : List ℕ) → Only (λ (r : ℤ). GetsHead h b r)
  pub tail_get : (h b : List ℕ) → Only (λ (r : ℤ). GetsTail h b r)
  pub claim_decide : (head base size asked : ℕ) → Only (λ ((r, o') : ℕ × ℕ). ClaimDecided head base size asked r o')
  pub finish_decide : (head tail size : ℕ) → Only (λ (r : Bool). FinishDecided head tail size r)
  pub space_get_decide : (putHead getTail size : ℕ) → Only (λ (r : ℕ). SpaceGetDecided putHead getTail size r)
  pub size_get_decide : (putTail getHead : ℕ) → Only (λ (r : ℕ). SizeGetDecided putTail getHead r)
  -- the two words tell which answer it is
  pub claim_answer : (x y : ClaimDecision) → x.claim_size ≡ y.claim_size → x.buffer_offset ≡ y.buffer_offset → x ≡ y
