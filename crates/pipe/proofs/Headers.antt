-- A pipe's header: what is tested, and what a change of its ring or of its flags makes of it. Assumes nothing.
use mathlib.Core.Path.{◌≡◌, refl, ◌∙◌}
use mathlib.Core.Bool.{true}
use mathlib.Core.List.{List}
use Prim.Native.Nat.{ℕ, ◌≤◌}
use native.Mathlib.Omega.{arith}
use borrow.Author.Tests.{le-leb, leb-true}
use lib.Dec.{leb}
use lib.IntN.{ℤ}
use lib.ListN.{length, get_or, set}
use Rattle.seq.proofs.Words.{by-words}
use Rattle.store.specs.Store.{Reply, carry, Becomes, Did, Fills}
use Rattle.store.proofs.Laws.{both_true}
use Rattle.store.proofs.Product.{sees, good-word, new_word, first_acts, first_fills}
use Rattle.ring_buf.specs.Ring.{Ring}
use Rattle.ring_buf.specs.Bytes.{sound, held, bytes}
use Rattle.ring_buf.proofs.Headers.{Sound, from-sound, is-sound}
use Rattle.pipe.specs.Pipe.{Pipe}
use Rattle.pipe.specs.Post.{of_parts, formed, object, layout}

module _ (h b : List ℕ) where
  pub record Formed : Type 0 where
    pub words : 4 ≤ length h
    pub flags : get_or h 3 0 ≤ 3
    pub ring : Sound h b

  pub is-ring : 4 ≤ length h → get_or h 3 0 ≤ 3 → formed h b ≡ sound h b
  is-ring w f = good-word bytes (λ f. leb f 3) of_parts h b (omega arith) (le-leb (get_or h 3 0) 3 f)

  pub from-formed : formed h b ≡ true → Formed
  from-formed e =
      let x = both_true (sound h b) _ e in
      let y = both_true (leb 4 (length h)) _ x.1 in
      record { words = leb-true 4 (length h) y.0; flags = leb-true (get_or h 3 0) 3 y.1; ring = from-sound h b x.0 }

  pub is-formed : Formed → formed h b ≡ true
  is-formed s = is-ring s.words s.flags ∙ is-sound h b s.ring

-- the ring is r now
module _ (h b : List ℕ) {h' b' : List ℕ} {r : Ring ℕ} (w : 4 ≤ length h) (m : Becomes bytes r h b h' b') where
  -- the flags are f, too
  pub new-flags : (f : ℕ) → f ≤ 3 → Becomes layout (of_parts (r, f)) h b (set h' 3 f) b'
  new-flags f k =
      new_word bytes (λ f. leb f 3) of_parts h b (omega arith) f (le-leb f 3 k)
      (by-words 4 (λ h'. sees bytes (set h' 3 f) b' ≡ sees bytes h' b') (λ x y z q rest. refl) h' (omega (arith, m.long.0))) m

-- what the ring's function g did is what f is to do to the pipe
module _ (h b : List ℕ) (w : 4 ≤ length h) (k : get_or h 3 0 ≤ 3) (f : Pipe → Reply Pipe) (g : Ring ℕ → Reply (Ring ℕ))
    (e : Sound h b → f (object h b) ≡ carry (λ r. of_parts (r, get_or h 3 0)) (g (held h b))) where
  pub on-ring : {r : ℤ} {h' b' : List ℕ} → Did bytes g h b r h' b' → Did layout f h b r h' b'
  on-ring = first_acts bytes (λ f. leb f 3) of_parts h b (omega arith) g f (le-leb (get_or h 3 0) 3 k) (λ t. e (from-sound h b t))

  pub on-ring-place : (o : List ℕ) {r : ℤ} {h' o' : List ℕ} → Fills bytes g h b o r h' o' → Fills layout f h b o r h' o'
  on-ring-place = first_fills bytes (λ f. leb f 3) of_parts h b (omega arith) g f (le-leb (get_or h 3 0) 3 k) (λ t. e (from-sound h b t))
