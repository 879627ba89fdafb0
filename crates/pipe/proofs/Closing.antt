-- A pipe that is closed, and one that is being reset. Assumes nothing.
use mathlib.Core.Path.{◌≡◌, refl, sym, ap, ◌∙◌}
use mathlib.Core.Bool.{Bool, true, false}
use mathlib.Core.List.{List, []}
use Prim.Native.Nat.{ℕ, ◌<◌, min}
use native.Mathlib.Omega.{arith}
use borrow.Author.Tests.{ne_eqb, lt-ltb}
use lib.IntN.{pos}
use lib.ListN.{length}
use Rattle.seq.specs.List.{All}
use Rattle.thread.specs.Code.{ecanceled}
use Rattle.store.specs.Store.{Reply, refuse, accept, answer, left}
use Rattle.store.specs.History.{Step, Ran, fresh, ran, Made}
use Rattle.store.proofs.Histories.{runs, throughout}
use Rattle.pipe.specs.Pipe.{Pipe, Verdict, never, later, move, more, less, front, done, comes_out, to_write, to_write_all, to_read, to_read_all, write, write_all, read, read_all}
use Rattle.pipe.specs.Post.{formed, object, layout}
use Rattle.pipe.specs.History.{Call, writes, writes_all, reads, reads_all, resets, closes, clears, does, put_by, Closed, Readable, Ends, cancelled, Cancelled}
use Rattle.pipe.proofs.Answers.{take-least}

-- ---- closed

spared : (p : Pipe) (f : ℕ → Pipe) (o : ℕ → List ℕ) → ((k : ℕ) → (f k).opened ≡ p.opened) → (v : Verdict) → (left (done f o v) p).opened ≡ p.opened
spared p f o h (never c) = refl
spared p f o h later = refl
spared p f o h (move k) = h k

still : (k : Call) (p : Pipe) → p.opened ≡ false → (left (does k p) p).opened ≡ false
still (writes l) p e = spared p (more l p) (λ k. []) (λ k. refl) (to_write (length l) p) ∙ e
still (writes_all l) p e = spared p (more l p) (λ k. []) (λ k. refl) (to_write_all (length l) p) ∙ e
still (reads n) p e = spared p (less p) (front p) (λ k. refl) (to_read n p) ∙ e
still (reads_all n) p e = spared p (less p) (front p) (λ k. refl) (to_read_all n p) ∙ e
still resets p e = e
still closes p e = refl
still clears p e = e

nothing-sent : (k : Call) (p : Pipe) → p.opened ≡ false → put_by k (answer (does k p)) ≡ []
nothing-sent (writes l) p e = go p.resetting refl
  where
    go : (t : Bool) → p.resetting ≡ t → put_by (writes l) (answer (write l p)) ≡ []
    go true x = rw x
    go false x = rw (x, e)
nothing-sent (writes_all l) p e = go p.resetting refl
  where
    go : (t : Bool) → p.resetting ≡ t → put_by (writes_all l) (answer (write_all l p)) ≡ []
    go true x = rw x
    go false x = rw (x, e)
nothing-sent (reads n) p e = refl
nothing-sent (reads_all n) p e = refl
nothing-sent resets p e = refl
nothing-sent closes p e = refl
nothing-sent clears p e = refl

closed-ran : {p₀ : Pipe} → p₀.opened ≡ false → {ss : List (Step Call)} {p : Pipe} → Ran does p₀ ss p → Closed ss p
closed-ran e =
    throughout does Closed (λ k ss p o c. record { stays = still k p c.stays; unwritten = (nothing-sent k p c.stays, c.unwritten) })
    (record { stays = e; unwritten = tt })

pub closed : {h₀ b₀ : List ℕ} → formed h₀ b₀ ≡ true → (object h₀ b₀).opened ≡ false → {ss : List (Step Call)} {h b : List ℕ}
    → Made layout does h₀ b₀ ss h b → Closed ss (object h b)
closed f e m = closed-ran e (runs layout does f m).1

pub readable : (n : ℕ) (p : Pipe) → p.resetting ≡ false → 0 < n → 0 < length p.ring.held → Readable n p
readable n p e f g =
    let v : to_read n p ≡ move (min n (length p.ring.held)) = rw (e, ne_eqb n 0 (λ z. omega arith), lt-ltb 0 (length p.ring.held) g) in
    ap (comes_out p) v ∙ ap (accept (less p (min n (length p.ring.held))) (pos (min n (length p.ring.held)))) (sym (take-least n p.ring.held))

-- ---- resetting

module _ (p : Pipe) (e : p.resetting ≡ true) (z : p.ring.held ≡ []) where
  -- a call that is refused so
  none : (y : Reply Pipe) → y ≡ refuse ecanceled → ((left y p).resetting ≡ true) × (((left y p).ring.held ≡ []) × (answer y ≡ ecanceled))
  none y r =
      (ap (λ (y : Reply Pipe). (left y p).resetting) r ∙ e, (ap (λ (y : Reply Pipe). (left y p).ring.held) r ∙ z, ap answer r))

  void : (k : Call) → (Ends k → ⊥) → ((left (does k p) p).resetting ≡ true) × (((left (does k p) p).ring.held ≡ []) × cancelled k (answer (does k p)))
  void (writes l) f = none (write l p) (rw e)
  void (writes_all l) f = none (write_all l p) (rw e)
  void (reads n) f = none (read n p) (rw e)
  void (reads_all n) f = none (read_all n p) (rw e)
  void resets f = (refl, (refl, tt))
  void closes f = absurd (f tt)
  void clears f = absurd (f tt)

cancelled-ran : {p₀ : Pipe} → p₀.resetting ≡ true → p₀.ring.held ≡ [] → {ss : List (Step Call)} {p : Pipe} → Ran does p₀ ss p
    → All (λ (s : Step Call). Ends s.call → ⊥) ss → Cancelled ss p
cancelled-ran e z fresh n = record { stays = e; empty = z; cancelled = tt }
cancelled-ran e z (ran {s = p} {k} o o' x f) n =
    let c = cancelled-ran e z x n.1 in
    let v = void p c.stays c.empty k n.0 in
    record { stays = v.0; empty = v.1.0; cancelled = (v.1.1, c.cancelled) }

pub cancels : {h₀ b₀ : List ℕ} → formed h₀ b₀ ≡ true → (object h₀ b₀).resetting ≡ true → (object h₀ b₀).ring.held ≡ [] → {ss : List (Step Call)} {h b : List ℕ}
    → Made layout does h₀ b₀ ss h b
    → All (λ (s : Step Call). Ends s.call → ⊥) ss → Cancelled ss (object h b)
cancels f e z m n = cancelled-ran e z (runs layout does f m).1 n
