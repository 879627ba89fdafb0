-- What is seen of a kernel from a start on: after each history its state, and its reply to the next operation.
use Rattle.std.specs.Prelude.{List}
use Rattle.kind.specs.Kind.{Kind}
use Rattle.system.specs.System.{Sys, Op, Answer, Woken, Kernel, reached}

pub record Run (K : Kind) : Type 0 where
  pub state : List (Op K) → Sys K
  pub answer : List (Op K) → Op K → Answer
  pub woken : List (Op K) → Op K → List Woken

-- of the kernel f, from the state s
abbrev pub run : {K : Kind} → Kernel K → Sys K → Run K
run f s = record { state = reached f s; answer = λ past x. (f (reached f s past) x).1; woken = λ past x. (f (reached f s past) x).2 }
