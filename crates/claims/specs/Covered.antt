-- The contracts of the code: no contract of a public function leaves anything open.
use Rattle.thread.specs.Determined as thread
use Rattle.wait_queue.specs.Determined as wait_queue
use Rattle.sem.specs.Determined as sem
use Rattle.mutex.specs.Determined as mutex
use Rattle.condvar.specs.Determined as condvar
use Rattle.futex.specs.Determined as futex
use Rattle.ring_buf.specs.Determined as ring_buf
use Rattle.msgq.specs.Determined as msgq
use Rattle.pipe.specs.Determined as pipe
use Rattle.stack.specs.Determined as stack
use Rattle.mem_slab.specs.Determined as mem_slab
use Rattle.event.specs.Determined as event
use Rattle.timer.specs.Determined as timer
use Rattle.timeout.specs.Determined as timeout

-- of two outcomes from the same memory and the same numbers that both meet a contract, the answers are the same, and so is every word: a contract fixes
-- a number and words, and these tell which answer it is
pub record Contracts : Type 0 where
  pub answers : thread.Determined
  pub wait_queue : wait_queue.Determined
  pub semaphore : sem.Determined
  pub mutex : mutex.Determined
  pub condition_variable : condvar.Determined
  pub futex : futex.Determined
  pub ring_buffer : ring_buf.Determined
  pub message_queue : msgq.Determined
  pub pipe : pipe.Determined
  pub stack : stack.Determined
  pub memory_slab : mem_slab.Determined
  pub event_flags : event.Determined
  pub timer : timer.Determined
  pub timeout : timeout.Determined
