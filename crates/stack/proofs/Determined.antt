-- The stack's contracts leave nothing open. Assumes nothing.
use mathlib.Core.Path.{◌≡◌, sym, ap, ◌∙◌, refl}
use mathlib.Core.List.{List, [], ◌∷◌, ◌++◌}
use mathlib.Core.Bool.{cond}
use Prim.Native.Nat.{ℕ, ◌+◌, ◌-◌, ◌≤◌}
use native.Mathlib.Omega.{arith}
use lib.ListN.{length, get_or, take}
use lib.Seq.{take-add, get_or-take, ext_get_or, length-take-le}
use lib.Dec.{eqb}
use lib.IntN.{ℤ, pos}
use lib.Signed.{mag}
use Rattle.seq.specs.Only.{Alike}
use Rattle.seq.proofs.Back.{back-length}
use Rattle.seq.proofs.Only.{said, back_alike}
use Rattle.thread.proofs.Determined.{tells-by}
use Rattle.store.specs.Determined.{Faithful}
use Rattle.store.proofs.Determined.{did_only, hands_only, starts_only, decided-only}
use Rattle.stack.specs.Stack.{Stack, pops, push_decide, push, pop, fresh, may}
use Rattle.stack.specs.Post.{stack_of, place}
use Rattle.stack.specs.Determined.{Determined}
use Rattle.stack.specs.Answer.{push_number, push_count, pop_number, pop_count}
use Rattle.stack.specs.declared.PushDecision.{PushDecision}
use Rattle.stack.specs.declared.PushDecision.TheVariants as to_push
use Rattle.stack.specs.declared.PopDecision.{PopDecision}
use Rattle.stack.specs.declared.PopDecision.TheVariants as to_pop
use Rattle.stack.proofs.Memory.{is-sound}

first : (n : ℕ) (w w' : List ℕ) → n ≤ length w → n ≤ length w' → Alike n w w' → take n w ≡ take n w'
first n w w' l l' a =
    let k = length-take-le n w l in
    ext_get_or 0 (take n w) (take n w') (k ∙ sym (length-take-le n w' l'))
    (λ i b. get_or-take n w i 0 (omega arith) ∙ a i (omega arith) ∙ sym (get_or-take n w' i 0 (omega arith)))

-- the words that are held, and the others
words : (c n : ℕ) (w w' : List ℕ) → n ≤ c → c ≤ length w → c ≤ length w' → stack_of c n w ≡ stack_of c n w' → take c w ≡ take c w'
words c n w w' k l l' e =
    let a = first n w w' (omega arith) (omega arith) (back_alike n w w' (ap (λ (s : Stack). s.held) e)) in
    let z : n + (c - n) ≡ c = omega arith in
    let q : take (n + (c - n)) w ≡ take (n + (c - n)) w' = take-add n (c - n) w ∙ (λ i. a i ++ (e i).spare) ∙ sym (take-add n (c - n) w') in
    rw z at q

faithful : Faithful place
faithful =
    record {
      header = λ h w h' w' f f' e.
          let n = sym (back-length w (get_or h 1 0)) ∙ ap (λ (s : Stack). length s.held) e ∙ back-length w' (get_or h' 1 0) in
          back_alike 2 h h' (λ i. n i ∷ (e i).capacity ∷ []);
      buffer = λ h w w' f f' e.
          let s = is-sound h w f in words (get_or h 0 0) (get_or h 1 0) w w' s.within s.housed (is-sound h w' f').housed e;
    }

-- which decision has a number and a count
a_push : ℤ → ℕ → PushDecision
a_push z n = cond (eqb (mag z) 0) (to_push.Store n) to_push.WakeWaiter

a_push-told : (count : ℕ) (d : PushDecision) → a_push (push_number d) (push_count count d 0) ≡ d
unfolding a_push
a_push-told count (to_push.Store n) = refl
a_push-told count to_push.WakeWaiter = refl

push-number : (d : PushDecision) → push_number d ≡ pos (mag (push_number d))
push-number (to_push.Store n) = refl
push-number to_push.WakeWaiter = refl

a_pop : ℤ → ℕ → PopDecision
a_pop z n = cond (eqb (mag z) 0) (to_pop.Pop n) to_pop.Pend

a_pop-told : (count : ℕ) (d : PopDecision) → a_pop (pop_number d) (pop_count count d 0) ≡ d
unfolding a_pop
a_pop-told count (to_pop.Pop n) = refl
a_pop-told count to_pop.Pend = refl

pop-number : (d : PopDecision) → pop_number d ≡ pos (mag (pop_number d))
pop-number (to_pop.Pop n) = refl
pop-number to_pop.Pend = refl

pub determined : Determined
determined =
    record {
      push_decide = λ count limit waiter. decided-only (push_decide count limit waiter);
      pop_decide = λ count no_wait. decided-only (pops count no_wait);
      init = λ c h w. starts_only faithful h w (may c w) (fresh c w);
      push = λ x h w. did_only faithful h w (push x);
      pop = λ h w x. hands_only faithful h w pop x;
      num_free = λ h w. said _;
      num_used = λ h w. said _;
      capacity = λ h w. said _;
      is_full = λ h w. said _;
      is_empty = λ h w. said _;
      push_answer = λ count.
          tells-by push_number push-number (push_count count) (λ x y e k. sym (a_push-told count x) ∙ (λ i. a_push (e i) (k 0 i)) ∙ a_push-told count y);
      pop_answer = λ count.
          tells-by pop_number pop-number (pop_count count) (λ x y e k. sym (a_pop-told count x) ∙ (λ i. a_pop (e i) (k 0 i)) ∙ a_pop-told count y);
    }
