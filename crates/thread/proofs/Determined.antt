-- A number and the words beside it tell which answer it is. Assumes nothing.
use mathlib.Core.Path.{◌≡◌, refl, sym, ap, ◌∙◌}
use mathlib.Core.Bool.{Bool, true, false, cond}
use Prim.Native.Nat.{ℕ}
use native.Mathlib.Omega.{arith}
use lib.Dec.{eqb}
use lib.IntN.{ℤ, pos, negsuc}
use lib.Signed.{mag}
use Rattle.std.specs.Prelude.{Result, Ok, Err, Option, Some, None}
use Rattle.thread.specs.Code.{code}
use Rattle.thread.specs.Answer.{told, kept, Tells, TellsBy, TellsByTwo, itself, done, truth, whether, given}
use Rattle.thread.specs.Determined.{Determined}
use Rattle.thread.specs.declared.Errno.{Errno}
use Rattle.thread.specs.declared.Errno.TheVariants as errno

-- which refusal has a code
refusal : ℤ → Errno
refusal (pos n) = errno.EPERM
refusal (negsuc n) =
    cond (eqb n 0) errno.EPERM (
    cond (eqb n 1) errno.ENOENT (
    cond (eqb n 8) errno.EBADF (
    cond (eqb n 10) errno.EAGAIN (
    cond (eqb n 11) errno.ENOMEM (
    cond (eqb n 15) errno.EBUSY (
    cond (eqb n 21) errno.EINVAL (
    cond (eqb n 27) errno.ENOSPC (
    cond (eqb n 31) errno.EPIPE (
    cond (eqb n 34) errno.ENOMSG (
    cond (eqb n 44) errno.EDEADLK (
    cond (eqb n 111) errno.EADDRINUSE (
    cond (eqb n 113) errno.EALREADY (
    cond (eqb n 115) errno.ETIMEDOUT (
    cond (eqb n 138) errno.EOVERFLOW (
    errno.ECANCELED)))))))))))))))

refusal-code : (e : Errno) → refusal (code e) ≡ e
unfolding refusal
refusal-code errno.EPERM = refl
refusal-code errno.ENOENT = refl
refusal-code errno.EBADF = refl
refusal-code errno.EAGAIN = refl
refusal-code errno.ENOMEM = refl
refusal-code errno.EBUSY = refl
refusal-code errno.EINVAL = refl
refusal-code errno.ENOSPC = refl
refusal-code errno.EPIPE = refl
refusal-code errno.ENOMSG = refl
refusal-code errno.EDEADLK = refl
refusal-code errno.EADDRINUSE = refl
refusal-code errno.EALREADY = refl
refusal-code errno.ETIMEDOUT = refl
refusal-code errno.EOVERFLOW = refl
refusal-code errno.ECANCELED = refl

-- a code is no number of a value
clash : {m n : ℕ} → pos m ≡ negsuc n → ⊥
clash z = absurd (let y : ◌≡◌ {A = ℕ} 0 1 = cc in omega arith)

code-below : (e : Errno) (n : ℕ) → pos n ≡ code e → ⊥
code-below errno.EPERM n e = clash e
code-below errno.ENOENT n e = clash e
code-below errno.EBADF n e = clash e
code-below errno.EAGAIN n e = clash e
code-below errno.ENOMEM n e = clash e
code-below errno.EBUSY n e = clash e
code-below errno.EINVAL n e = clash e
code-below errno.ENOSPC n e = clash e
code-below errno.EPIPE n e = clash e
code-below errno.ENOMSG n e = clash e
code-below errno.EDEADLK n e = clash e
code-below errno.EADDRINUSE n e = clash e
code-below errno.EALREADY n e = clash e
code-below errno.ETIMEDOUT n e = clash e
code-below errno.EOVERFLOW n e = clash e
code-below errno.ECANCELED n e = clash e

-- two answers with one number, none of which is below 0 for a value: both are the same refusal, or both have a value
same : {T : Type 0} (f : T → ℤ) → ((x : T) → f x ≡ pos (mag (f x))) → (r s : Result T Errno) → told f r ≡ told f s
    → ((x y : T) → r ≡ Ok x → s ≡ Ok y → x ≡ y) → r ≡ s
same f p (Ok x) (Ok y) e k = ap Ok (k x y refl refl)
same f p (Ok x) (Err s) e k = absurd (code-below s (mag (f x)) (sym (p x) ∙ e))
same f p (Err r) (Ok y) e k = absurd (code-below r (mag (f y)) (sym (p y) ∙ sym e))
same f p (Err r) (Err s) e k = ap Err (sym (refusal-code r) ∙ ap refusal e ∙ refusal-code s)

module _ {T : Type 0} (f : T → ℤ) (p : (x : T) → f x ≡ pos (mag (f x))) where
  numbered : {r s : Result T Errno} {x y : T} → told f r ≡ told f s → r ≡ Ok x → s ≡ Ok y → f x ≡ f y
  numbered e a b = sym (ap (told f) a) ∙ e ∙ ap (told f) b

  left_alike : {U : Type 0} (g : T → U → U) {r s : Result T Errno} {x y : T}
      → ((n : U) → kept g r n ≡ kept g s n) → r ≡ Ok x → s ≡ Ok y → (n : U) → g x n ≡ g y n
  left_alike g {r} {s} k a b n = sym (ap (λ (r : Result T Errno). kept g r n) a) ∙ k n ∙ ap (λ (r : Result T Errno). kept g r n) b

  -- where each number is of one value
  pub tells : ((x y : T) → f x ≡ f y → x ≡ y) → Tells f
  tells q r s e = same f p r s e (λ x y a b. q x y (numbered e a b))

  -- where each number and each word are
  pub tells-by : {U : Type 0} (g : T → U → U) → ((x y : T) → f x ≡ f y → ((n : U) → g x n ≡ g y n) → x ≡ y) → TellsBy f g
  tells-by g q r s e k = same f p r s e (λ x y a b. q x y (numbered e a b) (left_alike g k a b))

  pub tells-by-two : {U V : Type 0} (g : T → U → U) (h : T → V → V)
      → ((x y : T) → f x ≡ f y → ((n : U) → g x n ≡ g y n) → ((n : V) → h x n ≡ h y n) → x ≡ y) → TellsByTwo f g h
  tells-by-two g h q r s e k l = same f p r s e (λ x y a b. q x y (numbered e a b) (left_alike g k a b) (left_alike h l a b))

truth-number : (b : Bool) → truth b ≡ pos (mag (truth b))
truth-number true = refl
truth-number false = refl

truth-once : (a b : Bool) → truth a ≡ truth b → a ≡ b
truth-once true true e = refl
truth-once true false e = absurd (let y : ◌≡◌ {A = ℕ} 1 0 = ap mag e in omega arith)
truth-once false true e = absurd (let y : ◌≡◌ {A = ℕ} 0 1 = ap mag e in omega arith)
truth-once false false e = refl

whether-number : {U : Type 0} (x : Option U) → whether x ≡ pos (mag (whether x))
whether-number (Some x) = refl
whether-number None = refl

given-once : (x y : Option ℕ) → whether x ≡ whether y → ((n : ℕ) → given x n ≡ given y n) → x ≡ y
given-once (Some x) (Some y) e k = ap Some (k 0)
given-once (Some x) None e k = absurd (let y : ◌≡◌ {A = ℕ} 1 0 = ap mag e in omega arith)
given-once None (Some y) e k = absurd (let y : ◌≡◌ {A = ℕ} 0 1 = ap mag e in omega arith)
given-once None None e k = refl

pub determined : Determined
determined =
    record {
      nothing = tells done (λ x. refl) (λ x y e. refl);
      test = tells truth truth-number truth-once;
      number = tells pos (λ x. refl) (λ x y e. ap mag e);
      word = tells-by done (λ x. refl) itself (λ x y e k. k 0);
      maybe_word = tells-by whether whether-number given given-once;
    }
