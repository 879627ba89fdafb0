-- The code of the four objects is the system's: any history of its calls on objects in memory is one of the system. To add a kind is one line here.
-- Assumes nothing.
use mathlib.Core.Path.{◌≡◌, refl}
use mathlib.Core.Bool.{false}
use mathlib.Core.Logic.{◌⊎◌, inl, inr}
use mathlib.Core.List.{List}
use Prim.Native.Nat.{ℕ}
use native.Mathlib.Omega.{arith}
use lib.ListN.{get_or, set}
use lib.Seq.{get_or-set_other}
use borrow.Author.Tests.{lt-ltb}
use Rattle.kind.specs.Kind.{Kind, Lawful}
use Rattle.system.specs.Part.{Part, whole}
use Rattle.system.specs.Sum.{Member, ◌⊕◌, in_left, in_right, nones}
use Rattle.system.specs.Rtos.{rtos}
use Rattle.system.specs.Link.{Links}
use Rattle.system.specs.World.{Code}
use Rattle.system.specs.History.{Histories}
use Rattle.system.specs.Library.{Stock, only, ◌⊞◌, sem_code, mutex_code, condvar_code, futex_code, without, stock, a_lock, a_condition, library}
use Rattle.system.proofs.Sheets.{Fits, whole-fits, left-fits, right-fits}
use Rattle.system.proofs.Rtos.{rtos_lawful}
use Rattle.system.proofs.Functions.{sem_links, mutex-links, condvar_links, futex-links}
use Rattle.system.proofs.WaitBlocking.{wait-links}
use Rattle.system.proofs.Worlds as worlds
use Rattle.system.proofs.Worlds.{Linked}

-- what the code of a kind has to prove
pub record Right {A : Kind} (c : Code A) : Type 1 where
  pub links : {K : Kind} → Lawful K → (P : Part A K) → Fits P → (f : c.Fn) → Links P c.layout (c.function f)
  pub told : (n : A.Num) → c.Told n → A.new n ≡ A.formed n false
  pub beside : (h : List ℕ) (k : ℕ) → c.layout.num (set h c.layout.len k) ≡ c.layout.num h

pub record Stocked {M : Member} (a : Stock M) : Type 1 where
  pub fits : (x : a.Sort) {K : Kind} (P : Part M.kind K) → Fits P → Fits (a.part x P)
  pub right : (x : a.Sort) → Right (a.code x)

single : {M : Member} {c : Code M.kind} → Right c → Stocked (only {M = M} c)
single r = record { fits = λ x P h. h; right = λ x. r }

module _ {A B : Member} {a : Stock A} {b : Stock B} (x : Stocked a) (y : Stocked b) where
  fits_both : (z : a.Sort ⊎ b.Sort) {K : Kind} (P : Part (A ⊕ B).kind K) → Fits P → Fits ((a ⊞ b).part z P)
  fits_both (inl z) P h = x.fits z (in_left A B P) (left-fits A B P h)
  fits_both (inr z) P h = y.fits z (in_right A B P) (right-fits A B P h)

  right-both : (z : a.Sort ⊎ b.Sort) → Right ((a ⊞ b).code z)
  right-both (inl z) = x.right z
  right-both (inr z) = y.right z

  both_stocked : Stocked (a ⊞ b)
  both_stocked = record { fits = fits_both; right = right-both }

infixr 40 ◌beside◌
◌beside◌ : {A B : Member} {a : Stock A} {b : Stock B} → Stocked a → Stocked b → Stocked (a ⊞ b)
x beside y = both_stocked x y

-- another word of the header
other : (h : List ℕ) (i j k : ℕ) → (j ≡ i → ⊥) → get_or (set h i k) j 0 ≡ get_or h j 0
other h i j k n = get_or-set_other h i j k 0 n

sem_right : Stocked sem_code
sem_right =
    single
    (record {
      links = λ law P h f. sem_links law P h f;
      told = λ n l. rw (lt-ltb n.limit 4294967296 l) refl;
      beside = λ h k. rw (other h 2 0 k (λ e. omega (arith, e)), other h 2 1 k (λ e. omega (arith, e))) refl;
    })

mutex-right : Stocked mutex_code
mutex-right =
    single
    (record {
      links = λ law P h f. mutex-links law P h f;
      told = λ n e. rw e refl;
      beside = λ h k. rw (other h 3 0 k (λ e. omega (arith, e)), other h 3 1 k (λ e. omega (arith, e)), other h 3 2 k (λ e. omega (arith, e))) refl;
    })

condvar_right : Stocked condvar_code
condvar_right = single (record { links = λ law P h f. condvar_links law P h f; told = λ n e. refl; beside = λ h k. refl })

futex-right : Stocked futex_code
futex-right =
    single
    (record {
      links = λ law P h f. futex-links law P h f;
      told = λ n l. lt-ltb n.val 4294967296 l;
      beside = λ h k. rw (other h 1 0 k (λ e. omega (arith, e))) refl;
    })

no_code : (M : Member) → Stocked (without M)
no_code M = record { fits = λ x P h. absurd x; right = λ x. absurd x }

-- a further kind is one more line
stocked : Stocked stock
stocked =
    sem_right
    beside mutex-right
    beside condvar_right
    beside futex-right
    beside no_code nones

pub linked : Linked library
linked =
    record {
      lawful = rtos_lawful;
      fits = λ x. stocked.fits x (whole rtos) (whole-fits rtos);
      links = λ x f. (stocked.right x).links rtos_lawful (stock.part x (whole rtos)) (stocked.fits x (whole rtos) (whole-fits rtos)) f;
      double =
          λ t.
          wait-links rtos_lawful (stock.part a_lock (whole rtos)) (stocked.fits a_lock (whole rtos) (whole-fits rtos)) (stock.part a_condition (whole rtos))
          (stocked.fits a_condition (whole rtos) (whole-fits rtos));
      told = λ x n t. (stocked.right x).told n t;
      beside = λ x h k. (stocked.right x).beside h k;
    }

-- the theorem, of the code of the four objects, whatever objects there are
pub code_histories : (sort : ℕ → stock.Sort) → Histories library sort
code_histories sort = worlds.histories library linked sort
