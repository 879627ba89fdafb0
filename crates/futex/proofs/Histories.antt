-- Any sequence of calls keeps what a futex promises. Assumes nothing.
use mathlib.Core.Path.{◌≡◌, refl, ap, ◌∙◌}
use mathlib.Core.Bool.{Bool, true, false, cond}
use mathlib.Core.List.{List, [], ◌∷◌, map}
use Prim.Native.Nat.{ℕ}
use lib.Dec.{eqb}
use lib.IntN.{ℤ, pos, negsuc}
use Rattle.thread.specs.Code.{ok, eagain}
use Rattle.thread.specs.Caller.{caller_code}
use Rattle.store.specs.Store.{Reply, refuse, accept, left, asked}
use Rattle.wait_queue.specs.Queue.{entry, ident}
use Rattle.wait_queue.specs.Turn.{waits, parked, remove}
use Rattle.kind.specs.Verdict.{park, deny, allow}
use Rattle.kind.specs.Kind.{plain}
use Rattle.kind.specs.Object.{Object, queued, Caller, named, thread, name, carried}
use Rattle.kind.specs.History.{Event, calls, asks, leaves, next, run}
use Rattle.kind.proofs.Histories.{always}
use Rattle.futex.specs.Futex.{Futex, Call, wait, wake_one, wake_all, set, decide, futex_kind}
use Rattle.futex.specs.History.{fresh, value, valued, last, Promise}
use Rattle.futex.proofs.Law.{mk, obj, futex_lawful}

module _ (x : ℕ) (q : List ℕ) where
  -- what is done to the queue leaves the value
  same-val : (y : Reply (List ℕ)) → (left (queued (mk x) y) (obj x q)).num.val ≡ x
  same-val (refuse r) = refl
  same-val (accept l r o) = refl

  -- what a call leaves
  leaves-val : (w : Caller) (k : Call) → (left (carried w (decide (mk x) plain (map ident q) (name w) k) (obj x q)) (obj x q)).num.val ≡ value k x
  leaves-val w (wait y) = go w (eqb x y)
    where
      go : (w : Caller) (b : Bool) → (left (carried {W = Unit {0}} w (cond b (allow (mk x) (park tt) waits) (deny eagain)) (obj x q)) (obj x q)).num.val ≡ x
      go (named i) true = refl
      go (thread i p st) true = same-val (parked (entry p i) q)
      go w false = refl
  leaves-val w wake_one = go q
    where
      go : (l : List ℕ) → (left (carried w (decide (mk x) plain (map ident l) (name w) wake_one) (obj x l)) (obj x l)).num.val ≡ x
      go [] = refl
      go (t ∷ l) = refl
  leaves-val w wake_all = refl
  leaves-val w (set y) = refl

val-next : (s : Object Futex) (x : Event Call) → (next futex_kind plain s x).num.val ≡ valued x s.num.val
val-next s (calls i k) = leaves-val s.num.val s.queue (named i) k
val-next s (asks i p st h k) = go (caller_code p st)
  where
    go : (z : ℤ)
        → (left (asked z (carried (thread i p st) (decide s.num plain (map ident s.queue) i k) s)) s).num.val
        ≡ left (asked z (accept (value k s.num.val) ok [])) s.num.val
    go (pos c) = leaves-val s.num.val s.queue (thread i p st) k
    go (negsuc c) = refl
val-next s (leaves i) = same-val s.num.val s.queue (remove i s.queue)

val-run : (s : Object Futex) (xs : List (Event Call)) → (run futex_kind plain s xs).num.val ≡ last xs s.num.val
val-run s [] = refl
val-run s (x ∷ past) = val-next (run futex_kind plain s past) x ∙ ap (valued x) (val-run s past)

pub futex_history : (v : ℕ) (xs : List (Event Call)) → Promise v xs
futex_history v xs = record { value = val-run (fresh v) xs; queue = (always futex_kind futex_lawful plain (mk v) xs refl).queue }
