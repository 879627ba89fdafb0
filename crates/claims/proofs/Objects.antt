-- What each crate has proved of its object. Assumes nothing.
use Rattle.kind.proofs.Histories as kind
use Rattle.sem.proofs.Histories as sem
use Rattle.mutex.proofs.Histories as mutex
use Rattle.futex.proofs.Histories as futex
use Rattle.ring_buf.proofs.Histories as ring_buf
use Rattle.msgq.proofs.Histories as msgq
use Rattle.msgq.proofs.HandOvers as waiting
use Rattle.pipe.proofs.Histories as pipe
use Rattle.pipe.proofs.Fairness as fair
use Rattle.pipe.proofs.Whole.{all_or_nothing}
use Rattle.stack.proofs.Traces as stack
use Rattle.stack.proofs.HandOvers as handed
use Rattle.mem_slab.proofs.Histories as mem_slab
use Rattle.mem_slab.proofs.Outs as outs
use Rattle.mem_slab.proofs.HandOver as given
use Rattle.event.proofs.Histories as event
use Rattle.event.proofs.Conditions as flags
use Rattle.timer.proofs.Histories as timer
use Rattle.timeout.proofs.Histories as timeout
use Rattle.timeout.proofs.Firings as firings
use Rattle.claims.specs.Objects.{Objects}

pub objects : Objects
objects =
    record {
      queued = λ K law v s xs g. kind.lasting K law v s xs g;
      semaphore = sem.sem_history;
      mutex = mutex.mutex_history;
      futex = futex.futex_history;
      ring_buffer = λ c h b h₀ s ss h' b' m. ring_buf.from-init c s m;
      message_queue = λ c z h b h₀ s ss h' b' m. msgq.from-init c z s m;
      pipe = λ n h b h₀ s ss h' b' m. pipe.from-init n s m;
      stack = λ c h w h₀ s ts h' w' m. stack.from-init c s m;
      memory_slab = mem_slab.slab_history;
      no_two = outs.no_two;
      event_flags = event.from-init;
      conditions = flags.conditions;
      timer = timer.always;
      none_lost = timer.none_lost;
      timeout = timeout.always;
      once = firings.once;
      message_queue_fair = waiting.always_fair;
      all_or_nothing = λ l n p. all_or_nothing l n p;
      pipe_fair = λ c f b es. fair.always_fair c f b es;
      stack_alike = handed.handed-over;
      slab_handed = given.hand_over;
    }
