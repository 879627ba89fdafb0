-- What holds of each object alone, after any sequence of calls, as its own crate states it.
use Rattle.std.specs.Prelude.{◌≡◌, true, false, List, [], ℕ, ◌≤◌, ◌<◌}
use Rattle.thread.specs.Code.{ok}
use Rattle.kind.specs.Kind as kind
use Rattle.kind.specs.Object as objects
use Rattle.kind.specs.History as histories
use Rattle.sem.specs.History as sem
use Rattle.sem.specs.Sem as semaphore
use Rattle.mutex.specs.History as mutex
use Rattle.mutex.specs.Mutex as lock
use Rattle.futex.specs.History as futex
use Rattle.futex.specs.Futex as value
use Rattle.store.specs.History as steps
use Rattle.ring_buf.specs.Bytes as bytes
use Rattle.ring_buf.specs.Post as rings
use Rattle.ring_buf.specs.History as ring_buf
use Rattle.msgq.specs.Msgq as messages
use Rattle.msgq.specs.Post as queues
use Rattle.msgq.specs.History as msgq
use Rattle.msgq.specs.HandOver as waiting
use Rattle.pipe.specs.Post as pipes
use Rattle.pipe.specs.History as pipe
use Rattle.pipe.specs.Pipe.{Pipe}
use Rattle.pipe.specs.Whole.{AllOrNothing}
use Rattle.pipe.specs.Waiting as waiters
use Rattle.pipe.specs.Fair as fair
use Rattle.stack.specs.Stack as stacks
use Rattle.stack.specs.Post as words
use Rattle.stack.specs.History as stack
use Rattle.stack.specs.HandOver as handed
use Rattle.mem_slab.specs.Blocks as blocks
use Rattle.mem_slab.specs.History as mem_slab
use Rattle.mem_slab.specs.HandOver as given
use Rattle.event.specs.History as event
use Rattle.event.specs.Waiting as flags
use Rattle.timer.specs.History as timers
use Rattle.timeout.specs.History as timeouts

-- a message queue at which nobody waits and of which nothing has come out
abbrev pub unwaited : messages.Msgq → waiting.Waited
unwaited q = record { queue = q; readers = 0; writers = []; got = []; line = []; turned = [] }

pub record Objects : Type 1 where
  -- the queue of any lawful kind: sorted, in the order of arrival, nobody twice; the numbers as they should be
  pub queued : (K : kind.Kind) → kind.Lawful K → (v : ℕ → K.Wish) (s : objects.Object K.Num) (xs : List (histories.Event K.Call))
      → histories.Good K v s → histories.Lasting K v s xs
  pub semaphore : (c l : ℕ) (xs : List (histories.Event semaphore.Call)) → c ≤ l → 0 < l → sem.Promise c l xs
  pub mutex : (xs : List (histories.Event lock.Call)) → mutex.Promise xs
  pub futex : (v : ℕ) (xs : List (histories.Event value.Call)) → futex.Promise v xs
  -- in memory, from an init on that is answered 0
  pub ring_buffer : (c : ℕ) (h b h₀ : List ℕ) → rings.Starts c h b ok h₀ → (ss : List (steps.Step ring_buf.Call)) (h' b' : List ℕ)
      → steps.Made bytes.bytes ring_buf.does h₀ b ss h' b'
      → ((bytes.bytes).formed h' b' ≡ true) × ring_buf.Promise c ss ((bytes.bytes).object h' b')
  pub message_queue : (c z : ℕ) (h b h₀ : List ℕ) → queues.Starts z c h b ok h₀ → (ss : List (steps.Step msgq.Call)) (h' b' : List ℕ)
      → steps.Made queues.messages msgq.does h₀ b ss h' b'
      → ((queues.messages).formed h' b' ≡ true) × msgq.Promise c z ss ((queues.messages).object h' b')
  pub pipe : (n : ℕ) (h b h₀ : List ℕ) → pipes.Starts n h b ok h₀ → (ss : List (steps.Step pipe.Call)) (h' b' : List ℕ)
      → steps.Made pipes.layout pipe.does h₀ b ss h' b' → ((pipes.layout).formed h' b' ≡ true) × pipe.Promise n ss ((pipes.layout).object h' b')
  pub stack : (c : ℕ) (h w h₀ : List ℕ) → words.Starts c h w ok h₀ → (ts : List (steps.Step stack.Call)) (h' w' : List ℕ)
      → steps.Made words.place stack.does h₀ w ts h' w' → stack.Kept c ts h' w'
  pub memory_slab : (z n : ℕ) → mem_slab.Always z n
  -- whatever the links of a slab hold
  pub no_two : (h l : List ℕ) → blocks.NoTwo h l
  pub event_flags : event.FromInit
  pub conditions : (desired e : ℕ) → flags.Conditions desired e
  pub timer : timers.Always
  pub none_lost : timers.NoneLost
  pub timeout : timeouts.Always
  pub once : timeouts.Once
  -- with those that wait
  pub message_queue_fair : (c z : ℕ) (b : List ℕ) (es : List waiting.Event) → 0 < c → waiting.Fair c z (steps.after waiting.happens (unwaited (queues.new z c b)) es)
  -- all or nothing, beside the ordinary write and read
  pub all_or_nothing : (l : List ℕ) (n : ℕ) (p : Pipe) → AllOrNothing l n p
  pub pipe_fair : (c : ℕ) → 0 < c → (b : List ℕ) (es : List waiters.Event)
      → fair.Fair c (steps.after waiters.happens (waiters.waited (pipes.new c b) [] [] false waiters.fresh) es)
  pub stack_alike : (c : ℕ) (w : List ℕ) → stacks.may c w ≡ true → (es : List handed.Event) → handed.Alike (record { stack = stacks.fresh c w; waiting = 0 }) es
  pub slab_handed : (b : ℕ) (h l : List ℕ) → given.HandOver b h l
