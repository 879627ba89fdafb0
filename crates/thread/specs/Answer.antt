-- An answer as document 01 numbers it: the number of its value, or the code of the refusal.
use Rattle.std.specs.Prelude.{◌≡◌, Bool, cond, ℤ, pos, Result, Ok, Err, Option, Some, None}
use Rattle.thread.specs.Code.{ok, code}
use Rattle.thread.specs.declared.Errno.{Errno}

-- f is the number of a value
abbrev pub told : {T : Type 0} → (T → ℤ) → Result T Errno → ℤ
told f (Ok x) = f x
told f (Err e) = code e

-- what a word holds then that held n: f of the value and n; n, if the call is refused
abbrev pub kept : {T U : Type 0} → (T → U → U) → Result T Errno → U → U
kept f (Ok x) n = f x n
kept f (Err e) n = n

-- the value goes to the word
abbrev pub itself : {U : Type 0} → U → U → U
itself x n = x

-- the numbers of a call that has no value, and of a test
abbrev pub done : {T : Type 0} → T → ℤ
done x = ok

abbrev pub truth : Bool → ℤ
truth b = cond b (pos 1) (pos 0)

-- of a value that there may be: whether there is one, and what a word holds then that held n
abbrev pub whether : {U : Type 0} → Option U → ℤ
whether (Some x) = pos 1
whether None = pos 0

abbrev pub given : {U : Type 0} → Option U → U → U
given (Some x) n = x
given None n = n

-- the numbers tell the answers: what is told alike is the same
abbrev pub Tells : {T : Type 0} → (T → ℤ) → Type 0
Tells {T} f = (r s : Result T Errno) → told f r ≡ told f s → r ≡ s

-- the numbers and what a word holds then, whatever it held, tell the answers
abbrev pub TellsBy : {T U : Type 0} → (T → ℤ) → (T → U → U) → Type 0
TellsBy {T} {U} f g = (r s : Result T Errno) → told f r ≡ told f s → ((n : U) → kept g r n ≡ kept g s n) → r ≡ s

-- the same with two words
abbrev pub TellsByTwo : {T U V : Type 0} → (T → ℤ) → (T → U → U) → (T → V → V) → Type 0
TellsByTwo {T} {U} {V} f g h =
    (r s : Result T Errno) → told f r ≡ told f s → ((n : U) → kept g r n ≡ kept g s n) → ((n : V) → kept h r n ≡ kept h s n) → r ≡ s
