-- Any sequence of calls keeps what a semaphore promises. Assumes nothing.
use mathlib.Core.Path.{◌≡◌, refl, ◌∙◌}
use mathlib.Core.Bool.{Bool, true, false, cond}
use mathlib.Core.List.{List, [], ◌∷◌, map}
use Prim.Native.Nat.{ℕ, suc, ◌-◌, ◌≤◌, ◌<◌}
use native.Mathlib.Omega.{arith}
use lib.Dec.{ltb}
use lib.IntN.{ℤ, pos, negsuc}
use lib.ListN.{length}
use Rattle.seq.specs.List.{any}
use Rattle.thread.specs.Code.{einval}
use Rattle.store.specs.Store.{Reply, refuse, accept, left, asked}
use Rattle.wait_queue.specs.Queue.{ident, entry}
use Rattle.wait_queue.specs.Turn.{parked, remove}
use Rattle.wait_queue.proofs.Well.{well_empty}
use Rattle.kind.specs.Verdict.{up_to, Verdict, deny, allow, keep, park, wake}
use Rattle.kind.specs.Kind.{plain}
use Rattle.kind.specs.Object.{Object, queued, Caller, named, thread, name, code, carried, fine, call}
use Rattle.kind.specs.History.{Event, calls, asks, leaves, next, Lasting}
use Rattle.kind.proofs.Histories.{always, throughout}
use Rattle.sem.specs.Sem.{Sem, Call, give, take, try_take, reset, decide, sem_kind}
use Rattle.sem.specs.History.{fresh, after, Promise}
use Rattle.sem.proofs.Law.{mk, is-fine, idle, sem_lawful}

-- no call changes the limit
abbrev Limits : ℕ → Verdict Sem (Unit {0}) → Type 0
Limits l (deny r) = Unit {0}
Limits l (allow m a r) = m.limit ≡ l

decides : (c l : ℕ) (v : ℕ → Unit {0}) (q : List ℕ) (w : ℕ) (k : Call) → Limits l (decide (mk c l) v q w k)
decides c l v q w give = go (any q) (ltb c l)
  where
    go : (a b : Bool) → Limits l (cond a (allow (mk c l) (wake (up_to 1) (λ t. pos 0)) (pos 0)) (cond b (allow (mk (suc c) l) keep (pos 1)) (allow (mk c l) keep (pos 2))))
    go true b = refl
    go false true = refl
    go false false = refl
decides c l v q w take = go (ltb 0 c)
  where
    go : (b : Bool) → Limits l (cond b (allow (mk (c - 1) l) keep (pos 0)) (allow (mk c l) (park tt) (pos 1)))
    go true = refl
    go false = refl
decides c l v q w try_take = go (ltb 0 c)
  where
    go : (b : Bool) → Limits l (cond b (allow (mk (c - 1) l) keep (pos 0)) (deny (negsuc 15)))
    go true = refl
    go false = tt
decides c l v q w reset = refl

module _ (s : Object Sem) where
  does : (w : Caller) (d : Verdict Sem (Unit {0})) → Limits s.num.limit d → (left (carried w d s) s).num.limit ≡ s.num.limit
  does w (deny r) h = refl
  does w (allow m keep r) h = h
  does (named i) (allow m (park x) r) h = refl
  does (thread i p st) (allow m (park x) r) h = go (parked (entry p i) s.queue)
    where
      go : (y : Reply (List ℕ)) → (left (queued m y) s).num.limit ≡ s.num.limit
      go (refuse c) = refl
      go (accept q c o) = h
  does w (allow m (wake p f) r) h = h

  asks-limit : (z : ℤ) (y : Reply (Object Sem)) → (left y s).num.limit ≡ s.num.limit → (left (asked z y) s).num.limit ≡ s.num.limit
  asks-limit (pos n) y h = h
  asks-limit (negsuc n) y h = refl

  either : (b : Bool) (y : Reply (Object Sem)) → (left y s).num.limit ≡ s.num.limit → (left (cond b y (refuse einval)) s).num.limit ≡ s.num.limit
  either true y h = h
  either false y h = refl

  calls-limit : (w : Caller) (k : Call) → (left (call sem_kind plain w k s) s).num.limit ≡ s.num.limit
  calls-limit w k =
      let d = decide s.num plain (map ident s.queue) (name w) k in
      either (fine sem_kind s) (asked (code w) (carried w d s))
      (asks-limit (code w) (carried w d s) (does w d (decides s.num.count s.num.limit plain (map ident s.queue) (name w) k)))

pub limit-next : (s : Object Sem) (x : Event Call) → (next sem_kind plain s x).num.limit ≡ s.num.limit
limit-next s (calls i k) = calls-limit s (named i) k
limit-next s (asks i p st h k) = calls-limit s (thread i p st) k
limit-next s (leaves i) = go (remove i s.queue)
  where
    go : (y : Reply (List ℕ)) → (left (queued s.num y) s).num.limit ≡ s.num.limit
    go (refuse c) = refl
    go (accept q c o) = refl

somebody : (q : List ℕ) → 0 < length q → any q ≡ true
somebody [] h = absurd (omega arith)
somebody (x ∷ q) h = refl

pub sem_history : (c l : ℕ) (xs : List (Event Call)) → c ≤ l → 0 < l → Promise c l xs
sem_history c l xs h k =
    let t : Lasting sem_kind plain (fresh c l) xs = always sem_kind sem_lawful plain (mk c l) xs (idle c l k h) in
    let s : Object Sem = after c l xs in
    let f = is-fine s.num.count s.num.limit (any s.queue) t.good.numbers in
    record {
      under = f.under;
      limit =
          throughout sem_kind sem_lawful plain (λ s. s.num.limit ≡ l) (λ s x g p. limit-next s x ∙ p) (fresh c l) xs
          (record { numbers = idle c l k h; queue = well_empty }) refl;
      idle = λ z. f.empty (somebody s.queue z);
      queue = t.queue;
    }
