-- Every claim holds. Assumes nothing.
use mathlib.Core.Path.{◌≡◌, ap}
use mathlib.Core.List.{List}
use Prim.Native.Nat.{ℕ, ◌+◌, ◌≤◌}
use lib.IntN.{ℤ}
use lib.ListN.{length, drop}
use Rattle.seq.specs.Part.{part, Within, At}
use Rattle.seq.proofs.Part.{part-put, within-put, part-below, part-above, whole-stays}
use Rattle.store.specs.Store.{Reply, refuse, accept, out, Place, reply, After, Did}
use Rattle.store.proofs.Laws.{kept, below_zero}
use Rattle.kind.proofs.Refusals.{signed}
use Rattle.sem.proofs.Border as sem
use Rattle.mutex.proofs.Border as mutex
use Rattle.system.proofs.Theorems.{all}
use Rattle.system.proofs.Library.{code_histories}
use Rattle.claims.specs.Claims.{Claims}
use Rattle.claims.specs.Parts.{Apart, returned}
use Rattle.claims.proofs.Contracts.{contracts}
use Rattle.claims.proofs.Objects.{objects}

-- what is not the object's stays
outside : {S : Type 0} (P : Place S) (f : S → Reply S) (h b : List ℕ) (r : ℤ) (h' b' : List ℕ) → Did P f h b r h' b'
    → (drop P.words h' ≡ drop P.words h) × (drop (P.size h') b' ≡ drop (P.size h') b)
outside {S} P f h b r h' b' d = go (reply P f h b) d.after
  where
    go : (x : Reply S) → After P x h b h' b' → (drop P.words h' ≡ drop P.words h) × (drop (P.size h') b' ≡ drop (P.size h') b)
    go (refuse c) a = (ap (drop P.words) a.0, ap (drop (P.size h')) a.1)
    go (accept s c o) a = (a.beside, a.rest)

-- parts beside one that was lent
apart : (a n : ℕ) (l l' : List ℕ) → Within a n l l' → Apart a n l l'
apart a n l l' w =
    record { below = λ i k h. part-below a n l l' w i k h; above = λ i k h. part-above a n l l' w i k h; whole = λ h. whole-stays a n l l' w h }

in_part : (C : List ℕ → List ℕ → ℤ → List ℕ → List ℕ → Type 0) (a n c m : ℕ) (h b v w : List ℕ) (r : ℤ) → a + n ≤ length h → c + m ≤ length b
    → length v ≡ n → length w ≡ m → C (part a n h) (part c m b) r v w
    → At C a n c m h b r (returned a n h v) (returned c m b w) × (Apart a n h (returned a n h v) × Apart c m b (returned c m b w))
in_part C a n c m h b v w r f g k l d =
    let x = within-put a n h f v k in
    let y = within-put c m b g w l in (
      record { does = rw (part-put a n h f v k, part-put c m b g w l) d; header = x; memory = y },
      (apart a n h (returned a n h v) x, apart c m b (returned c m b w) y),
    )

pub claims : Claims
claims =
    record {
      contracts = contracts;
      refused = λ P f h b c r h' b' e d. let k = kept P f h b d e in (k.0, k.1, k.2, ap out e);
      below_zero = below_zero;
      signed = signed;
      outside = outside;
      border = (sem.border, mutex.border);
      in_part = in_part;
      objects = objects;
      laws = all.determined.laws;
      nothing_else = all.determined.next;
      one_place = λ f a s b past. let t = all.theorems f a s b past in (t.placed, t.known, t.own, t.bare);
      rightly = λ f a s b past. let t = all.theorems f a s b past in (t.kept, t.formed);
      right_thread = λ f a s b past. let t = all.theorems f a s b past in (t.ordered, t.best);
      once = λ f a s b past. (all.theorems f a s b past).life;
      refusals = λ f a s b past. (all.theorems f a s b past).refuses;
      ledgers = λ f a s b past. (all.theorems f a s b past).ledgers;
      semaphores = λ f a s b past. (all.theorems f a s b past).semaphores;
      mutexes = λ f a s b past. let t = all.theorems f a s b past in (t.mutexes, t.limited);
      code = code_histories;
    }
