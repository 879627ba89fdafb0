-- The entry goes where the loop stopped. Assumes nothing.
use native.Mathlib.Omega.{arith}
use Rattle.wait_queue.specs.Queue.{prio}
use Rattle.wait_queue.specs.Parts.{Shifted}
use Rattle.wait_queue.proofs.Insertion.{shift-end, shift_rest}
use Rattle.wait_queue.proofs.put.Goals as goal

pub returns : goal.returns
returns c =
    let a = c.args in
    let s = c.shift-k in
    let t : Shifted (prio a.new) a.n a.e.now s.result s.new.e = s.ensures.0 in
    record {
      n_after = shift-end a.n a.new a.e.now s.result s.new.e (omega arith) t s.ensures.1;
      e_unchanged = shift_rest a.n a.new a.e.now s.result s.new.e (omega arith) t;
    }
