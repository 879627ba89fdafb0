-- The decide functions agree with the pipe, whoever waits. Assumes nothing.
use mathlib.Core.Path.{◌≡◌, refl, sym, ap, subst, ◌∙◌}
use mathlib.Core.Bool.{Bool, true, false, cond}
use mathlib.Core.List.{List, []}
use Prim.Native.Nat.{ℕ, ◌+◌, ◌-◌, ◌≤◌, ◌<◌}
use native.Mathlib.Omega.{arith}
use lib.Dec.{eqb}
use lib.IntN.{ℤ, pos}
use lib.ListN.{length, take, length-append, length-take, length-drop}
use Rattle.thread.specs.Code.{einval}
use Rattle.store.specs.Store.{Reply, refuse, accept}
use Rattle.pipe.specs.Pipe.{Pipe, Verdict, never, later, move, writes, reads, more, less, front, done, to_write, to_read, write, read}
use Rattle.pipe.specs.Post.{is_open, is_resetting, Moves, goes, wakes, decided, proper, held_then}
use Rattle.pipe.specs.HandOver.{used, flags, Agree, refuses, waits, moves, write_of, read_of, Wakes, refused, delayed, woken, WhoWaits}
use Rattle.pipe.proofs.Verdicts.{Within, write-within, read-within, is-proper, from-proper, write-is, read_is}

pub flag_open : (o r : Bool) → is_open (cond o 1 0 + cond r 2 0) ≡ o
flag_open true true = refl
flag_open true false = refl
flag_open false true = refl
flag_open false false = refl

pub flag-resetting : (o r : Bool) → is_resetting (cond o 1 0 + cond r 2 0) ≡ r
flag-resetting true true = refl
flag-resetting true false = refl
flag-resetting false true = refl
flag-resetting false false = refl

pub flag-few : (o r : Bool) → cond o 1 0 + cond r 2 0 ≤ 3
flag-few true true = omega arith
flag-few true false = omega arith
flag-few false true = omega arith
flag-few false false = omega arith

-- of any verdict
agree : (p : Pipe) (n m : ℕ) (f : ℕ → ℕ) (q : ℕ → Pipe) (o : ℕ → List ℕ) → ((k : ℕ) → k ≤ n → f k ≡ used (q k)) → (v : Verdict) → Within n m v
    → Agree p (decided (used p) goes f v) (done q o v)
agree p n m f q o h (never c) w = refuses c
agree p n m f q o h later w = waits
agree p n m f q o h (move k) w =
    subst (λ (u : ℕ). Agree p (accept (record { actual = k; used = u }) goes []) (accept (q k) (pos k) (o k))) (sym (h k w.1.0)) (moves k (q k) (o k))

module _ (p : Pipe) (some : 0 < p.ring.capacity) (under : used p ≤ p.ring.capacity) where
  pub fits : proper (used p) p.ring.capacity (flags p) ≡ true
  fits = is-proper (used p) p.ring.capacity (flags p) some under (flag-few p.opened p.resetting)

  -- by the flags as a number, or by themselves
  pub write_same : (n : ℕ) → writes (used p) p.ring.capacity (is_open (flags p)) (is_resetting (flags p)) n ≡ to_write n p
  write_same n = λ i. writes (used p) p.ring.capacity (flag_open p.opened p.resetting i) (flag-resetting p.opened p.resetting i) n

  pub read_same : (n : ℕ) → reads (used p) (is_open (flags p)) (is_resetting (flags p)) n ≡ to_read n p
  read_same n = λ i. reads (used p) (flag_open p.opened p.resetting i) (flag-resetting p.opened p.resetting i) n

  pub write-agrees : (l : List ℕ) → Agree p (write_of (length l) p) (write l p)
  write-agrees l =
      let h : (k : ℕ) → k ≤ length l → used p + k ≡ used (more l p k) =
      λ k m. sym (length-append p.ring.held (take k l) ∙ omega (arith, length-take k l)) in
      subst (λ (d : Reply Moves). Agree p d (write l p)) (sym (write-is (used p) p.ring.capacity (flags p) (length l) false fits (write_same (length l))))
      (agree p (length l) (p.ring.capacity - used p) (λ k. used p + k) (more l p) (λ k. []) h (to_write (length l) p)
      (write-within (used p) p.ring.capacity p.opened p.resetting (length l)))

  pub read-agrees : (n : ℕ) → Agree p (read_of n p) (read n p)
  read-agrees n =
      subst (λ (d : Reply Moves). Agree p d (read n p)) (sym (read_is (used p) p.ring.capacity (flags p) n false fits (read_same n)))
      (agree p n (used p) (λ k. used p - k) (less p) (front p) (λ k m. sym (length-drop k p.ring.held)) (to_read n p)
      (read-within (used p) p.opened p.resetting n))

-- ---- who waits

wakes-one : (used : ℕ) (g f : ℕ → ℕ) (v : Verdict) → Wakes f (decided used goes g v) (decided used wakes f v)
wakes-one used g f (never c) = refused c
wakes-one used g f later = delayed (record { actual = 0; used = used })
wakes-one used g f (move k) = woken k (g k)

module _ (u s f n : ℕ) where
  by-proper : (t : Bool) (g h : ℕ → ℕ) (v : Verdict) → Wakes h (cond t (decided u goes g v) (refuse einval)) (cond t (decided u wakes h v) (refuse einval))
  by-proper true g h v = wakes-one u g h v
  by-proper false g h v = refused einval

  module _ (t : ℕ → ℕ) (a : ℤ) (m : Moves) (r : ℤ) (o : List ℕ) where
    fine : (x : Bool) (b : ℕ) (v : Verdict) → Within n b v → (u ≤ s → (k : ℕ) → k ≤ b → t k ≤ s) → proper u s f ≡ x
        → cond x (decided u a t v) (refuse einval) ≡ accept m r o → proper m.used s f ≡ true
    fine false b v w h p e = absurd (let z : ◌≡◌ {A = ℕ} 0 1 = cc in omega arith)
    fine true b (never c) w h p e = absurd (let z : ◌≡◌ {A = ℕ} 0 1 = cc in omega arith)
    fine true b later w h p e = let z : record { actual = 0; used = u } ≡ m = cc in ap (λ (x : Moves). proper x.used s f) (sym z) ∙ p
    fine true b (move k) w h p e =
        let z : record { actual = k; used = t k } ≡ m = cc in
        let y = from-proper u s f p in
        ap (λ (x : Moves). proper x.used s f) (sym z) ∙ is-proper (t k) s f y.some_size (h y.under k w.1.1) y.flags

  behind-fits : (w : Bool) → u ≤ s → (k : ℕ) → k ≤ s - u → held_then w u k ≤ s
  behind-fits false h k g = omega arith
  behind-fits true h k g = go (eqb u 0)
    where
      go : (t : Bool) → cond t 0 (u + k) ≤ s
      go true = omega arith
      go false = omega arith

  pub who-waits : WhoWaits u s f n
  who-waits =
      record {
        reader = by-proper (proper u s f) (λ k. u + k) (held_then true u) (writes u s (is_open f) (is_resetting f) n);
        writer = by-proper (proper u s f) (λ k. u - k) (λ k. u - k) (reads u (is_open f) (is_resetting f) n);
        after_write =
            λ w m r o e. fine (held_then w u) (cond w wakes goes) m r o (proper u s f) (s - u) (writes u s (is_open f) (is_resetting f) n)
            (write-within u s (is_open f) (is_resetting f) n) (behind-fits w) refl e;
        after_read =
            λ w m r o e. fine (λ k. u - k) (cond w wakes goes) m r o (proper u s f) u (reads u (is_open f) (is_resetting f) n)
            (read-within u (is_open f) (is_resetting f) n) (λ h k g. omega arith) refl e;
      }
