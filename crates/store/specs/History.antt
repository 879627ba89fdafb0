-- A sequence of calls on an object: on the object itself, and in memory. Each call does and hands out what it should.
use Rattle.std.specs.Prelude.{Bool, true, false, List, [], ◌∷◌, ℕ, ℤ, pos, negsuc}
use Rattle.store.specs.Store.{Reply, answer, left, out, Place, reply, Did, Filled}

-- what a caller sees of a call: its answer, and what then stands in the place that it lent for what is handed out
pub record Step (K : Type 0) : Type 0 where
  pub call : K
  pub answer : ℤ
  pub out : List ℕ

-- an answer below 0
abbrev pub refusal : ℤ → Bool
refusal (pos n) = false
refusal (negsuc n) = true

-- what is left of s after these, of which the last stands first
abbrev pub after : {S K : Type 0} → (S → K → S) → S → List K → S
after next s [] = s
after next s (k ∷ ks) = next (after next s ks) k

-- these steps, of which the last stands first, took s₀ to s
pub data Ran {S K : Type 0} (does : K → S → Reply S) (s₀ : S) : List (Step K) → S → Type 0 where
  fresh : Ran does s₀ [] s₀
  ran : {ss : List (Step K)} {s : S} {k : K} (o o' : List ℕ) → Ran does s₀ ss s → Filled (out (does k s)) o o'
      → Ran does s₀ (record { call = k; answer = answer (does k s); out = o' } ∷ ss) (left (does k s) s)

-- these steps were made in memory that was h₀ and b₀; now it is h and b
pub data Made {S K : Type 0} (P : Place S) (does : K → S → Reply S) (h₀ b₀ : List ℕ) : List (Step K) → List ℕ → List ℕ → Type 0 where
  begun : Made P does h₀ b₀ [] h₀ b₀
  made : {ss : List (Step K)} {k : K} {r : ℤ} {h b h' b' : List ℕ} (o o' : List ℕ) → Made P does h₀ b₀ ss h b → Did P (does k) h b r h' b'
      → Filled (out (reply P (does k) h b)) o o' → Made P does h₀ b₀ (record { call = k; answer = r; out = o' } ∷ ss) h' b'
