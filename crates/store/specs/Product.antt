-- Two objects in one memory: their words stand side by side in one header, and so do their elements in one buffer.
use Rattle.std.specs.Prelude.{Bool, true, false, cond, List, [], ◌∷◌, ℕ, zero, suc, leb, length, get_or, drop}
use Rattle.store.specs.Store.{Place}

-- n more than m: their sum, which computes where m is 0
abbrev pub past : ℕ → ℕ → ℕ
past zero n = n
past (suc m) n = suc (past m n)

-- the words of Q are behind those of P, and are counted with them; its elements are behind those of P
infixr 40 ◌⊗◌
abbrev pub ◌⊗◌ : {S T : Type 0} → Place S → Place T → Place (S × T)
P ⊗ Q =
    record {
      words = Q.words;
      size = λ h. past (P.size h) (Q.size h);
      object = λ h b. (P.object h b, Q.object h (drop (P.size h) b));
      formed = λ h b. cond (P.formed h b) (Q.formed h (drop (P.size h) b)) false;
    }

-- Q, whose header is one word, behind k words of others
abbrev pub behind : {T : Type 0} → ℕ → Place T → Place T
behind k Q =
    record {
      words = suc k;
      size = λ h. Q.size (get_or h k 0 ∷ []);
      object = λ h b. Q.object (get_or h k 0 ∷ []) b;
      formed = λ h b. cond (leb (suc k) (length h)) (Q.formed (get_or h k 0 ∷ []) b) false;
    }

-- k words that mean `num`, whatever they are
abbrev pub numbers : {N : Type 0} → ℕ → (List ℕ → N) → Place N
numbers k num = record { words = k; size = λ h. 0; object = λ h b. num h; formed = λ h b. true }

-- one word, if it may be
abbrev pub word : (ℕ → Bool) → Place ℕ
word may = record { words = 1; size = λ h. 0; object = λ h b. get_or h 0 0; formed = λ h b. may (get_or h 0 0) }

-- the same place, and what stands there in other words
abbrev pub shaped : {S T : Type 0} → (S → T) → Place S → Place T
shaped f P = record { words = P.words; size = P.size; object = λ h b. f (P.object h b); formed = P.formed }
