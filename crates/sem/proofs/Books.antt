-- The books of a semaphore are right: what a call leaves is what its answer tells. Assumes nothing.
use mathlib.Core.Path.{◌≡◌, refl}
use mathlib.Core.Bool.{Bool, true, false}
use mathlib.Core.List.{List, [], ◌∷◌}
use Prim.Native.Nat.{ℕ}
use lib.Dec.{ltb}
use Rattle.kind.specs.Kind.{Booked}
use Rattle.sem.specs.Sem.{Sem, Call, give, take, try_take, reset, decide, sem_kind}

pub books-right : (s : Sem) (v : ℕ → Unit {0}) (q : List ℕ) (w : ℕ) (k : Call) → Booked sem_kind s q w k (decide s v q w k)
books-right s v [] w give = go (ltb s.count s.limit) refl
  where
    go : (b : Bool) → ltb s.count s.limit ≡ b → Booked sem_kind s [] w give (decide s v [] w give)
    go true z = rw (z, z) refl
    go false z = rw (z, z) refl
books-right s v (t ∷ q) w give = refl
books-right s v q w take = go (ltb 0 s.count) refl
  where
    go : (b : Bool) → ltb 0 s.count ≡ b → Booked sem_kind s q w take (decide s v q w take)
    go true z = rw (z, z) refl
    go false z = rw (z, z) refl
books-right s v q w try_take = go (ltb 0 s.count) refl
  where
    go : (b : Bool) → ltb 0 s.count ≡ b → Booked sem_kind s q w try_take (decide s v q w try_take)
    go true z = rw (z, z) refl
    go false z = rw z tt
books-right s v q w reset = refl
