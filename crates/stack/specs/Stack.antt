-- The stack: words, of which the last in is the first out.
use Rattle.std.specs.Prelude.{Bool, true, false, cond, List, [], ◌∷◌, ◌++◌, ℕ, suc, ◌-◌, eqb, ltb, leb, ℤ, pos, length, take, drop}
use Rattle.thread.specs.Code.{ok, enomem, ebusy, einval}
use Rattle.store.specs.Store.{Reply, refuse, accept, carry, handing}

pub record Stack : Type 0 where
  -- how many words it can hold
  pub capacity : ℕ
  -- those that it holds, the last in first
  pub held : List ℕ
  -- the other words of its memory, the next to be written first
  pub spare : List ℕ

-- a push answers: the word is for the first that waits
abbrev pub wakes_waiter : ℤ
wakes_waiter = pos 1

-- a pop answers: the caller is to wait
abbrev pub waits : ℤ
waits = pos 1

-- what a push makes of the count. If somebody waits, the word goes there, and as many are held as before
abbrev pub pushes : (count capacity : ℕ) → (waiting : Bool) → Reply ℕ
pushes count capacity waiting = cond waiting (accept count wakes_waiter []) (cond (ltb count capacity) (accept (suc count) ok []) (refuse enomem))

-- what a pop makes of the count. Where no word is held it is refused, unless the caller may wait
abbrev pub pops : (count : ℕ) → (no_wait : Bool) → Reply ℕ
pops count no_wait = cond (ltb 0 count) (accept (count - 1) ok []) (cond no_wait (refuse ebusy) (accept count waits []))

-- numbers that a stack can have: nobody waits while it holds a word
abbrev pub right : (count capacity : ℕ) → (waiting : Bool) → Bool
right count capacity waiting = cond (ltb 0 capacity) (cond waiting (eqb count 0) (leb count capacity)) false

abbrev pub push_decide : (count capacity : ℕ) → (waiting : Bool) → Reply ℕ
push_decide count capacity waiting = cond (right count capacity waiting) (pushes count capacity waiting) (refuse einval)

-- the same decides for a whole stack, on which nobody waits: x is written to the next word, and is first
abbrev pub push : ℕ → Stack → Reply Stack
push x s =
    carry (λ n. record { capacity = s.capacity; held = x ∷ s.held; spare = drop 1 s.spare })
    (pushes (length s.held) s.capacity false)

-- the first is handed out; its word of memory is the next to be written
abbrev pub pop : Stack → Reply Stack
pop s =
    handing (take 1 s.held)
    (carry (λ n. record { capacity = s.capacity; held = drop 1 s.held; spare = take 1 s.held ++ s.spare })
    (pops (length s.held) true))

abbrev pub used : Stack → ℤ
used s = pos (length s.held)

abbrev pub free : Stack → ℤ
free s = pos (s.capacity - length s.held)

abbrev pub size : Stack → ℤ
size s = pos s.capacity

abbrev pub full : Stack → ℤ
full s = cond (eqb (length s.held) s.capacity) (pos 1) (pos 0)

abbrev pub empty : Stack → ℤ
empty s = cond (eqb (length s.held) 0) (pos 1) (pos 0)

-- a new stack in the memory w
abbrev pub fresh : (capacity : ℕ) → List ℕ → Stack
fresh capacity w = record { capacity = capacity; held = []; spare = take capacity w }

-- whether there can be one
abbrev pub may : (capacity : ℕ) → List ℕ → Bool
may capacity w = cond (ltb 0 capacity) (leb capacity (length w)) false
