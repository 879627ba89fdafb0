-- The laws hold of our step, and of no other: a kernel that keeps them does what it does.
use Rattle.std.specs.Prelude.{◌≡◌, List}
use Rattle.system.specs.System.{Sys, Op, Kernel, reached, step, after}
use Rattle.system.specs.Sum.{Member}
use Rattle.system.specs.Rules.{Start}
use Rattle.system.specs.Laws.{Laws}

pub record Determined (M : Member) : Type 0 where
  pub laws : Laws M step
  -- after every history such a kernel is in the same state, and does the same with the next operation
  pub state : (f : Kernel M.kind) → Laws M f → (s : Sys M.kind) → Start s → (past : List (Op M.kind)) → reached f s past ≡ after s past
  pub next : (f : Kernel M.kind) → Laws M f → (s : Sys M.kind) → Start s → (past : List (Op M.kind)) (x : Op M.kind)
      → f (reached f s past) x ≡ step (after s past) x
