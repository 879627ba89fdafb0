-- What becomes of a write and a read, by the flags and the numbers. Assumes nothing.
use mathlib.Core.Path.{◌≡◌, refl, ap, ◌∙◌}
use mathlib.Core.Bool.{Bool, true, false, cond}
use Prim.Native.Nat.{ℕ, ◌-◌, ◌≤◌, ◌<◌, min}
use native.Mathlib.Omega.{arith}
use borrow.Author.Tests.{lt-ltb, le-ltb, le-leb, leb-true, ltb-true, ltb-false, eq-eqb, ne_eqb, eqb-false}
use lib.Dec.{eqb, ltb, leb}
use lib.IntN.{pos, negsuc}
use Rattle.thread.specs.Code.{einval, epipe, enomsg, ecanceled}
use Rattle.store.proofs.Laws.{both_true}
use Rattle.ring_buf.proofs.Rings.{by-lt}
use Rattle.pipe.specs.Pipe.{Verdict, never, later, move, wholly, once, writes, writes_all, reads, reads_all}
use Rattle.pipe.specs.Post.{is_open, is_resetting, goes, wakes, decided, proper, held_then, write_decision, read_decision}

pub resetting-on : (f : ℕ) → 2 ≤ f → f ≤ 3 → is_resetting f ≡ true
resetting-on f h k = by-lt f 3 (λ l. rw (eq-eqb f 2 (omega arith))) (λ l. rw (eq-eqb f 3 (omega arith), ne_eqb f 2 (λ e. omega arith)))

pub resetting_off : (f : ℕ) → f < 2 → is_resetting f ≡ false
resetting_off f h = rw (ne_eqb f 2 (λ e. omega arith), ne_eqb f 3 (λ e. omega arith))

-- a refusal is below 0; if bytes move, some do, and no more than n and than m
abbrev pub Within : ℕ → ℕ → Verdict → Type 0
Within n m (never (pos c)) = ⊥
Within n m (never (negsuc c)) = Unit {0}
Within n m later = Unit {0}
Within n m (move k) = (0 < k) × ((k ≤ n) × (k ≤ m))

pub write-within : (u s : ℕ) (o r : Bool) (n : ℕ) → Within n (s - u) (writes u s o r n)
write-within u s o true n = tt
write-within u s false false n = tt
write-within u s true false n = go (eqb n 0) (ltb u s) refl refl
  where
    go : (x y : Bool) → eqb n 0 ≡ x → ltb u s ≡ y → Within n (s - u) (cond x (never enomsg) (cond y (move (min n (s - u))) later))
    go true y e f = tt
    go false true e f = let a = eqb-false n 0 e in let b = ltb-true u s f in (omega arith, (omega arith, omega arith))
    go false false e f = tt

pub read-within : (u : ℕ) (o r : Bool) (n : ℕ) → Within n u (reads u o r n)
read-within u o true n = tt
read-within u o false n = go (eqb n 0) (ltb 0 u) o refl refl
  where
    go : (x y o : Bool) → eqb n 0 ≡ x → ltb 0 u ≡ y → Within n u (cond x (never enomsg) (cond y (move (min n u)) (cond o later (never epipe))))
    go true y o e f = tt
    go false true o e f = let a = eqb-false n 0 e in let b = ltb-true 0 u f in (omega arith, (omega arith, omega arith))
    go false false true e f = tt
    go false false false e f = tt

all-within : (n m : ℕ) (v : Verdict) → Within n m v → (u : Verdict) → Within n m u → Within n m (wholly n v u)
all-within n m v w (never c) x = x
all-within n m v w later x = w
all-within n m v w (move k) x = go (ltb k n)
  where
    go : (a : Bool) → Within n m (cond a v (move k))
    go true = w
    go false = x

-- if bytes move, n do
abbrev pub Every : ℕ → Verdict → Type 0
Every n (never (pos c)) = ⊥
Every n (never (negsuc c)) = Unit {0}
Every n later = Unit {0}
Every n (move k) = k ≡ n

every : (n m : ℕ) (v : Verdict) → Every n v → (u : Verdict) → Within n m u → Every n (wholly n v u)
every n m v e (never (pos c)) x = x
every n m v e (never (negsuc c)) x = tt
every n m v e later x = e
every n m v e (move k) x = go (ltb k n) refl
  where
    go : (a : Bool) → ltb k n ≡ a → Every n (cond a v (move k))
    go true f = e
    go false f = omega (arith, ltb-false k n f, x.1.0)

once_every : (s n : ℕ) → Every n (once s n)
once_every s n = go (ltb s n)
  where
    go : (b : Bool) → Every n (cond b (never einval) later)
    go true = tt
    go false = tt

pub write_every : (u s : ℕ) (o r : Bool) (n : ℕ) → Every n (writes_all u s o r n)
write_every u s o r n = every n (s - u) (once s n) (once_every s n) (writes u s o r n) (write-within u s o r n)

pub read_every : (u s : ℕ) (o r : Bool) (n : ℕ) → Every n (reads_all u s o r n)
read_every u s o r n = every n u (cond o (once s n) (never epipe)) (ends o) (reads u o r n) (read-within u o r n)
  where
    ends : (o : Bool) → Every n (cond o (once s n) (never epipe))
    ends true = once_every s n
    ends false = tt

once-within : (s n m : ℕ) → Within n m (once s n)
once-within s n m = go (ltb s n)
  where
    go : (b : Bool) → Within n m (cond b (never einval) later)
    go true = tt
    go false = tt

pub write-all-within : (u s : ℕ) (o r : Bool) (n : ℕ) → Within n (s - u) (writes_all u s o r n)
write-all-within u s o r n = all-within n (s - u) (once s n) (once-within s n (s - u)) (writes u s o r n) (write-within u s o r n)

pub read-all-within : (u s : ℕ) (o r : Bool) (n : ℕ) → Within n u (reads_all u s o r n)
read-all-within u s o r n = all-within n u (cond o (once s n) (never epipe)) (ends o) (reads u o r n) (read-within u o r n)
  where
    ends : (o : Bool) → Within n u (cond o (once s n) (never epipe))
    ends true = once-within s n u
    ends false = tt

module _ (used size f n : ℕ) where
  pub write_resetting : 2 ≤ f → f ≤ 3 → writes used size (is_open f) (is_resetting f) n ≡ never ecanceled
  write_resetting h k = rw (resetting-on f h k)

  pub write_closed : f ≡ 0 → writes used size (is_open f) (is_resetting f) n ≡ never epipe
  write_closed e = rw e

  pub write-none : f ≡ 1 → n ≡ 0 → writes used size (is_open f) (is_resetting f) n ≡ never enomsg
  write-none e z = rw (e, z)

  pub write-full : f ≡ 1 → 0 < n → size ≤ used → writes used size (is_open f) (is_resetting f) n ≡ later
  write-full e h k = rw (e, ne_eqb n 0 (λ z. omega arith), le-ltb used size k)

  pub write_moves : f ≡ 1 → 0 < n → used < size → writes used size (is_open f) (is_resetting f) n ≡ move (min n (size - used))
  write_moves e h k = rw (e, ne_eqb n 0 (λ z. omega arith), lt-ltb used size k)

  -- all or nothing
  pub write-all-fits : f ≡ 1 → 0 < n → used < size → n ≤ size - used → writes_all used size (is_open f) (is_resetting f) n ≡ writes used size (is_open f) (is_resetting f) n
  write-all-fits e h k l =
      let m : min n (size - used) ≡ n = omega arith in
      rw (write_moves e h k, m, le-ltb n n (omega arith))

  pub write-all-not : f ≡ 1 → 0 < n → size - used < n → writes_all used size (is_open f) (is_resetting f) n ≡ once size n
  write-all-not e h k =
      by-lt used size (λ l. rw (write_moves e h l, lt-ltb (min n (size - used)) n (omega arith))) (λ l. ap (wholly n (once size n)) (write-full e h l))

  pub read_resetting : 2 ≤ f → f ≤ 3 → reads used (is_open f) (is_resetting f) n ≡ never ecanceled
  read_resetting h k = rw (resetting-on f h k)

  pub read_none : f < 2 → n ≡ 0 → reads used (is_open f) (is_resetting f) n ≡ never enomsg
  read_none h z = rw (resetting_off f h, z)

  pub read_closed : f ≡ 0 → 0 < n → used ≡ 0 → reads used (is_open f) (is_resetting f) n ≡ never epipe
  read_closed e h z = rw (e, ne_eqb n 0 (λ y. omega arith), z)

  pub read-moves : f < 2 → 0 < n → 0 < used → reads used (is_open f) (is_resetting f) n ≡ move (min n used)
  read-moves g h k = rw (resetting_off f g, ne_eqb n 0 (λ z. omega arith), lt-ltb 0 used k)

  pub read-all-fits : f < 2 → 0 < n → n ≤ used → reads_all used size (is_open f) (is_resetting f) n ≡ reads used (is_open f) (is_resetting f) n
  read-all-fits g h k = let m : min n used ≡ n = omega arith in rw (read-moves g h (omega arith), m, le-ltb n n (omega arith))

  pub read-all-not : f < 2 → 0 < n → used < n → reads_all used size (is_open f) (is_resetting f) n ≡ cond (is_open f) (once size n) (never epipe)
  read-all-not g h k =
      by-lt 0 used (λ l. rw (read-moves g h l, lt-ltb (min n used) n (omega arith))) (λ l. none (is_open f) (omega arith))
    where
      none : (o : Bool) → used ≡ 0 → wholly n (cond o (once size n) (never epipe)) (reads used o (is_resetting f) n) ≡ cond o (once size n) (never epipe)
      none true z = rw (resetting_off f g, ne_eqb n 0 (λ y. omega arith), z)
      none false z = rw (resetting_off f g, ne_eqb n 0 (λ y. omega arith), z)

-- ---- on plain numbers

-- where all fit, or no byte moves whatever is asked, it is the ordinary write and read
module _ (used size n : ℕ) where
  pub whole-write : (o r : Bool) → (o ≡ true → r ≡ false → n ≤ size - used) → writes_all used size o r n ≡ writes used size o r n
  whole-write o true h = refl
  whole-write false false h = refl
  whole-write true false h = go (eqb n 0) refl
    where
      go : (x : Bool) → eqb n 0 ≡ x → writes_all used size true false n ≡ writes used size true false n
      go true e = rw e
      go false e =
          let k : 0 < n = omega (arith, eqb-false n 0 e) in
          let m : min n (size - used) ≡ n = omega (arith, h refl refl) in
          rw (e, lt-ltb used size (omega (arith, h refl refl)), m, le-ltb n n (omega arith))

  pub whole-read : (o r : Bool) → (r ≡ false → n ≤ used) → reads_all used size o r n ≡ reads used o r n
  whole-read o true h = refl
  whole-read o false h = go (eqb n 0) refl
    where
      go : (x : Bool) → eqb n 0 ≡ x → reads_all used size o false n ≡ reads used o false n
      go true e = rw e
      go false e =
          let k : 0 < n = omega (arith, eqb-false n 0 e) in
          let m : min n used ≡ n = omega (arith, h refl) in
          rw (e, lt-ltb 0 used (omega (arith, h refl)), m, le-ltb n n (omega arith))

pub record Proper (used size f : ℕ) : Type 0 where
  pub some_size : 0 < size
  pub under : used ≤ size
  pub flags : f ≤ 3

module _ (used size f : ℕ) where
  pub by_flags : 0 < size → used ≤ size → proper used size f ≡ leb f 3
  by_flags g h = rw (lt-ltb 0 size g, le-leb used size h)

  pub is-proper : 0 < size → used ≤ size → f ≤ 3 → proper used size f ≡ true
  is-proper g h k = by_flags g h ∙ le-leb f 3 k

  pub from-proper : proper used size f ≡ true → Proper used size f
  from-proper e =
      let x = both_true (ltb 0 size) _ e in
      let y = both_true (leb used size) _ x.1 in
      record { some_size = ltb-true 0 size x.0; under = leb-true used size y.0; flags = leb-true f 3 y.1 }

module _ (used size f n : ℕ) (w : Bool) where
  pub write-is : {v : Verdict} → proper used size f ≡ true → writes used size (is_open f) (is_resetting f) n ≡ v
      → write_decision used size f n w ≡ decided used (cond w wakes goes) (held_then w used) v
  write-is p e = rw p (ap (decided used (cond w wakes goes) (held_then w used)) e)

  pub read_is : {v : Verdict} → proper used size f ≡ true → reads used (is_open f) (is_resetting f) n ≡ v → read_decision used size f n w ≡ decided used (cond w wakes goes) (λ k. used - k) v
  read_is p e = rw p (ap (decided used (cond w wakes goes) (λ k. used - k)) e)
