-- No contract leaves anything open. Assumes nothing.
use Rattle.thread.proofs.Determined as thread
use Rattle.wait_queue.proofs.Determined as wait_queue
use Rattle.sem.proofs.Determined as sem
use Rattle.mutex.proofs.Determined as mutex
use Rattle.condvar.proofs.Determined as condvar
use Rattle.futex.proofs.Determined as futex
use Rattle.ring_buf.proofs.Determined as ring_buf
use Rattle.msgq.proofs.Determined as msgq
use Rattle.pipe.proofs.Determined as pipe
use Rattle.stack.proofs.Determined as stack
use Rattle.mem_slab.proofs.Determined as mem_slab
use Rattle.event.proofs.Determined as event
use Rattle.timer.proofs.Determined as timer
use Rattle.timeout.proofs.Determined as timeout
use Rattle.claims.specs.Covered.{Contracts}

pub contracts : Contracts
contracts =
    record {
      answers = thread.determined;
      wait_queue = wait_queue.determined;
      semaphore = sem.determined;
      mutex = mutex.determined;
      condition_variable = condvar.determined;
      futex = futex.determined;
      ring_buffer = ring_buf.determined;
      message_queue = msgq.determined;
      pipe = pipe.determined;
      stack = stack.determined;
      memory_slab = mem_slab.determined;
      event_flags = event.determined;
      timer = timer.determined;
      timeout = timeout.determined;
    }
