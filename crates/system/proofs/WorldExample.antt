-- A history of the code in memory, computed: a semaphore is made, thread 7 takes and waits, thread 1 gives and is told 7. Assumes nothing.
use mathlib.Core.Bool.{true, false}
use mathlib.Core.Path.{◌≡◌, refl}
use mathlib.Core.List.{List, [], ◌∷◌}
use Prim.Native.Nat.{ℕ, zero, suc}
use native.Mathlib.Omega.{arith}
use lib.IntN.{pos}
use borrow.Author.Tests.{ne_eqb}
use Rattle.thread.specs.Code.{ok}
use Rattle.store.proofs.Laws.{no_code}
use Rattle.wait_queue.specs.Queue.{max_waiters, entry}
use Rattle.sem.specs.Sem as sem
use Rattle.system.specs.System.{running, ready, invoke, dispatch, spawn, create, done, upd}
use Rattle.system.specs.Rtos.{members, rtos, bare, a_sem, sem_call}
use Rattle.system.specs.Functions.{Memory, Use, nobody, only_at, give, take_blocking}
use Rattle.system.specs.Link.{fate}
use Rattle.system.specs.World.{World, Event, seen, quiet, Elsewhere}
use Rattle.system.specs.History.{calls, inits, moves, Ran, begun, then, Follows}
use Rattle.system.specs.Library.{stock, a_semaphore, library}
use Rattle.system.proofs.Steps.{empty-start, always}
use Rattle.system.proofs.Rtos.{rtos_lawful}
use Rattle.system.proofs.Library.{code_histories}

-- every object is a semaphore
abbrev sort : ℕ → stock.Sort
sort o = a_semaphore

abbrev zeros : ℕ → List ℕ
zeros zero = []
zeros (suc n) = 0 ∷ zeros n

abbrev words : ℕ → ℕ → List ℕ → Memory
words limit n e = record { header = 0 ∷ limit ∷ n ∷ []; entries = e }

abbrev empty : World
empty o = words 0 0 (zeros 64)

abbrev made : World
made = upd empty 0 (words 2 0 (zeros 64))

abbrev taken : World
taken = upd made 0 (words 2 1 (entry 5 7 ∷ zeros 63))

abbrev given : World
given = upd taken 0 (words 2 0 (entry 5 7 ∷ zeros 63))

-- thread 7, of priority 5, takes; thread 1 gives, and lends a word
abbrev takes : Use
takes =
    record {
      id = 7;
      priority = 5;
      state = 1;
      before = words 2 0 (zeros 64);
      lent = [];
      answer = pos 1;
      after = words 2 1
          (entry 5 7 ∷ zeros 63);
      filled = [];
    }

abbrev gives : Use
gives =
    record {
      id = 1;
      priority = 0;
      state = 1;
      before = words 2 1 (entry 5 7 ∷ zeros 63);
      lent = 99 ∷ [];
      answer = pos 0;
      after = words 2 0
          (entry 5 7 ∷ zeros 63);
      filled = 7 ∷ [];
    }

elsewhere : (w : World) (m : Memory) → Elsewhere (0 ∷ []) w (upd w 0 m)
elsewhere w m x a = rw (ne_eqb 0 x a.0)

same : (w : World) → Elsewhere [] w w
same w x a = refl

-- the newest in front
abbrev events : List (Event rtos)
events =
    seen (invoke 1 0 (sem_call sem.give)) (only_at 0) gives (0 ∷ []) 1 (fate false 0 (pos 0))
    ∷ seen (invoke 7 0 (sem_call sem.take)) nobody takes (0 ∷ []) 7 (fate true 0 (pos 1))
    ∷ quiet (create 0 (a_sem (record { count = 0; limit = 2 }))) (done ok) (0 ∷ []) 0 (λ x. x)
    ∷ quiet (dispatch 7) (done ok) [] 7 (λ x. running)
    ∷ quiet (dispatch 1) (done ok) [] 1 (λ x. running)
    ∷ quiet (spawn 7 5) (done ok) [] 7 (λ x. ready ok)
    ∷ quiet (spawn 1 0) (done ok) [] 1 (λ x. ready ok)
    ∷ []

pub ran : Ran library sort bare empty events given
unfolding max_waiters
ran =
    then
    (then
    (then
    (then
    (then (then (then begun (moves (spawn 1 0) tt) (same empty)) (moves (spawn 7 5) tt) (same empty)) (moves (dispatch 1) tt) (same empty))
    (moves (dispatch 7) tt) (same empty))
    (inits 0 (record { count = 0; limit = 2 }) (pos 0) refl (omega arith) (omega arith) (omega arith)
    (record {
      with = λ e g. record {
        code = refl;
        made = λ z. record { formed = g; object = refl; beside = refl; rest = refl; long = (refl, refl) };
        kept = λ n z. no_code z;
      };
    }) refl)
    (elsewhere empty (words 2 0 (zeros 64))))
    (calls 7 0 (a_sem (record { count = 0; limit = 2 })) take_blocking takes refl refl refl
    (record {
      told = record { id = refl; priority = refl; state = refl };
      runs = λ e. absurd
          (let y : ◌≡◌ {A = ℕ} 0 1 = cc in omega arith);
      room = omega arith;
    })
    (record {
      does = record { code = refl; after = record { formed = refl; object = refl; beside = refl; rest = refl; long = (refl, refl) } };
      lent = refl;
      filled = refl;
    }))
    (elsewhere made (words 2 1 (entry 5 7 ∷ zeros 63))))
    (calls 1 0 (a_sem (record { count = 0; limit = 2 })) give gives refl refl refl
    (record { told = record { id = refl; priority = refl; state = refl }; runs = λ e. refl; room = omega arith })
    (record {
      who = 99;
      who' = 7;
      does = (record { code = refl; after = record { formed = refl; object = refl; beside = refl; rest = refl; long = (refl, refl) } }, refl);
      entries = refl;
      lent = refl;
      filled = refl;
    }))
    (elsewhere taken (words 2 0 (entry 5 7 ∷ zeros 63)))

-- so the system did the same: its answers and its words are these, and the memory is its state
pub followed : Follows library sort bare empty events given
followed =
    code_histories sort bare (always rtos_lawful bare (empty-start members.idle) []) empty
    (λ o n e. absurd (let y : ◌≡◌ {A = ℕ} 0 1 = cc in omega arith)) events given ran
