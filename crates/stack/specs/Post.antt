-- The stack in memory: h = how many words it can hold, how many it holds; w = the words, the last in behind the others. What each
-- function does.
use Rattle.std.specs.Prelude.{◌≡◌, Bool, false, cond, List, ℕ, ◌-◌, ltb, leb, ℤ, length, get_or, take, drop, Result, Ok, Err}
use Rattle.seq.specs.List.{back}
use Rattle.thread.specs.declared.Errno.{Errno}
use Rattle.thread.specs.declared.Errno.TheVariants.{EINVAL}
use Rattle.store.specs.Store.{Decided, Place, Did, looks, Hands, Started}
use Rattle.stack.specs.Stack.{Stack, pops, push_decide, push, pop, used, free, size, full, empty, fresh, may}

-- with n of the words w held
abbrev pub stack_of : (capacity n : ℕ) → List ℕ → Stack
stack_of capacity n w = record { capacity = capacity; held = back w n; spare = take (capacity - n) (drop n w) }

-- it can hold a word, holds no more than it can, and there is memory for all
abbrev pub sound : (capacity n : ℕ) → List ℕ → Bool
sound capacity n w = cond (ltb 0 capacity) (cond (leb n capacity) (leb capacity (length w)) false) false

abbrev pub place : Place Stack
place =
    record {
      words = 2;
      size = λ h. get_or h 0 0;
      object = λ h w. stack_of (get_or h 0 0) (get_or h 1 0) w;
      formed = λ h w. cond (leb 2 (length h)) (sound (get_or h 0 0) (get_or h 1 0) w) false;
    }

-- how many words it can hold, and how many it holds
abbrev pub numbers : List ℕ → List ℕ → Result (ℕ × ℕ) Errno
numbers h w = cond (place.formed h w) (Ok (get_or h 0 0, get_or h 1 0)) (Err EINVAL)

-- ---- what each function does

-- a new stack of c words; it holds none
abbrev pub Starts : ℕ → List ℕ → List ℕ → ℤ → List ℕ → Type 0
Starts c h w r h' = Started place (may c w) (fresh c w) h w r h' w

-- the word x goes on top of those that are held
abbrev pub Pushes : ℕ → List ℕ → List ℕ → ℤ → List ℕ → List ℕ → Type 0
Pushes x h w r h' w' = Did place (push x) h w r h' w'

-- the word on top comes out, to the word x
abbrev pub Pops : List ℕ → List ℕ → ℕ → ℤ → List ℕ → ℕ → Type 0
Pops h w x r h' x' = Hands place pop h w x r h' x'

-- a number of a stack
abbrev pub CountsFree : List ℕ → List ℕ → ℤ → Type 0
CountsFree h w r = r ≡ looks place free h w

abbrev pub CountsUsed : List ℕ → List ℕ → ℤ → Type 0
CountsUsed h w r = r ≡ looks place used h w

abbrev pub GetsCapacity : List ℕ → List ℕ → ℤ → Type 0
GetsCapacity h w r = r ≡ looks place size h w

abbrev pub SaysFull : List ℕ → List ℕ → ℤ → Type 0
SaysFull h w r = r ≡ looks place full h w

abbrev pub SaysEmpty : List ℕ → List ℕ → ℤ → Type 0
SaysEmpty h w r = r ≡ looks place empty h w

-- on plain numbers: how many words are held then
abbrev pub PushDecided : ℕ → ℕ → Bool → ℕ → ℤ → ℕ → Type 0
PushDecided count capacity waiter n r n' = Decided (push_decide count capacity waiter) n r n'

abbrev pub PopDecided : ℕ → Bool → ℕ → ℤ → ℕ → Type 0
PopDecided count no_wait n r n' = Decided (pops count no_wait) n r n'
