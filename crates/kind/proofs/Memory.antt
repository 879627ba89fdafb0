-- The answers of an operation on an object in memory. Assumes nothing.
use mathlib.Core.Path.{◌≡◌, refl, sym, ap, ◌∙◌}
use mathlib.Core.Bool.{Bool, true, false, cond}
use mathlib.Core.List.{List, [], ◌∷◌}
use Prim.Native.Nat.{ℕ, zero, suc, ◌≤◌, ◌<◌}
use native.Mathlib.Omega.{arith}
use lib.Dec.{ltb, leb}
use lib.IntN.{ℤ}
use lib.ListN.{length, get_or, set, drop, length-set}
use lib.Seq.{drop-set-lt}
use borrow.Author.Tests.{lt-ltb, le-leb, leb-true}
use Rattle.seq.specs.List.{any}
use Rattle.seq.proofs.Order.{clash}
use Rattle.thread.specs.Code.{einval}
use Rattle.store.specs.Store.{Reply, refuse, accept, answer, left, carry, reply, Becomes, Did}
use Rattle.store.specs.Product.{◌⊗◌, behind, numbers}
use Rattle.store.proofs.Laws.{replies, did_yes, became, answers}
use Rattle.store.proofs.Product.{lent-word, reshaped, with_first, second_acts}
use Rattle.store.proofs.Histories.{done}
use Rattle.wait_queue.specs.Queue.{waiting, roomy}
use Rattle.wait_queue.specs.Turn.{wait_queue}
use Rattle.kind.specs.Kind.{Kind}
use Rattle.kind.specs.Object.{Object, queued, fine, Layout, standing, sane}

-- the memory of an object is there
pub record Housed {N : Type 0} (L : Layout N) (h e : List ℕ) : Type 0 where
  pub words : suc L.len ≤ length h
  pub room : roomy (get_or h L.len 0) e ≡ true

-- the header h became h', with the numbers n and the length m; no other word changed
pub record Header {N : Type 0} (L : Layout N) (h : List ℕ) (n : N) (m : ℕ) (h' : List ℕ) : Type 0 where
  pub num : L.num h' ≡ n
  pub len : get_or h' L.len 0 ≡ m
  pub beside : drop (suc L.len) h' ≡ drop (suc L.len) h
  pub long : length h' ≡ length h

module _ {N : Type 0} (L : Layout N) (h : List ℕ) where
  pub same-header : Header L h (L.num h) (get_or h L.len 0) h
  same-header = record { num = refl; len = refl; beside = refl; long = refl }

  -- one more of its own words was written
  pub written : {n n' : N} {m m' : ℕ} {h' : List ℕ} (i x : ℕ) → Header L h n m h' → i < suc L.len → L.num (set h' i x) ≡ n' → get_or (set h' i x) L.len 0 ≡ m'
      → Header L h n' m' (set h' i x)
  written {h' = h'} i x t b y z =
      record { num = y; len = z; beside = drop-set-lt (suc L.len) h' i x b ∙ t.beside; long = length-set h' i x ∙ t.long }

module _ {N : Type 0} (L : Layout N) (h e : List ℕ) where
  pub housed-formed : Housed L h e → (standing L).formed h e ≡ true
  housed-formed m = rw (le-leb (suc L.len) (length h) m.words) m.room

  pub is-housed : (standing L).formed h e ≡ true → Housed L h e
  is-housed f = go (leb (suc L.len) (length h)) refl f
    where
      go : (b : Bool) → leb (suc L.len) (length h) ≡ b → cond b (roomy (get_or h L.len 0) e) false ≡ true → Housed L h e
      go true x z = record { words = leb-true (suc L.len) (length h) x; room = z }
      go false x z = clash (sym z)

  -- the numbers n and the queue q are left
  pub left_so : (n : N) (m : ℕ) (q h' e' : List ℕ) → suc L.len ≤ length h → Header L h n m h' → roomy m e' ≡ true → waiting e' m ≡ q → drop m e' ≡ drop m e
      → length e' ≡ length e → Becomes (standing L) (record { num = n; queue = q }) h e h' e'
  left_so n m q h' e' b x r w d l =
      let k : suc L.len ≤ length h' = omega (arith, b, x.long) in
      let u : waiting e' (get_or h' L.len 0) ≡ q = rw x.len w in
      record {
        formed = rw (le-leb (suc L.len) (length h') k) (rw x.len r);
        object = λ i. record { num = x.num i; queue = u i };
        beside = x.beside;
        rest = rw x.len d;
        long = (x.long, l);
      }

  -- nobody waits
  pub opened_so : (n : N) (h' : List ℕ) → suc L.len ≤ length h → Header L h n 0 h' → roomy 0 e ≡ true
      → Becomes (standing L) (record { num = n; queue = [] }) h e h' e
  opened_so n h' b x r = left_so n 0 [] h' e b x r refl refl refl

module _ {N : Type 0} (L : Layout N) (f : Object N → Reply (Object N)) (h e : List ℕ) where
  pub is-on : Housed L h e → reply (standing L) f h e ≡ f ((standing L).object h e)
  is-on m = replies (standing L) f h e (housed-formed L h e m)

  -- only the header changes
  pub renumbered : (c : ℤ) (n : N) (o h' : List ℕ) → Housed L h e → f ((standing L).object h e) ≡ accept (record { num = n; queue = waiting e (get_or h L.len 0) }) c o
      → Header L h n (get_or h L.len 0) h' → Did (standing L) f h e c h' e
  renumbered c n o h' m t x = did_yes (standing L) f h e (housed-formed L h e m) t (left_so L h e n (get_or h L.len 0) (waiting e (get_or h L.len 0)) h' e m.words x m.room refl refl refl)

  -- the queue became q by its own operation g, and k wait; the numbers become n and the answer c
  pub turned : (g : List ℕ → Reply (List ℕ)) (n : N) (c : ℤ) (q o p : List ℕ) (a r : ℤ) (k : ℕ) (h' e' : List ℕ) → Housed L h e
      → f ((standing L).object h e) ≡ accept (record { num = n; queue = q }) c o → g (waiting e (get_or h L.len 0)) ≡ accept q a p
      → Did wait_queue g (get_or h L.len 0 ∷ []) e r (k ∷ []) e' → Header L h n k h' → Did (standing L) f h e c h' e'
  turned g n c q o p a r k h' e' m t y d x =
      let b = became wait_queue g (get_or h L.len 0 ∷ []) e d m.room y in
      did_yes (standing L) f h e (housed-formed L h e m) t (left_so L h e n k q h' e' m.words x b.formed b.object b.rest b.long.1)

  -- the queue's own operation g is all that happens
  pub followed : (g : List ℕ → Reply (List ℕ)) (r : ℤ) (k : ℕ) (e' : List ℕ) → suc L.len ≤ length h
      → (roomy (get_or h L.len 0) e ≡ true
      → f ((standing L).object h e) ≡ queued (L.num h) (g (waiting e (get_or h L.len 0))))
      → Did wait_queue g (get_or h L.len 0 ∷ []) e r (k ∷ []) e' → L.num (set h L.len k) ≡ L.num h
      → Did (standing L) f h e r (set h L.len k) e'
  followed g r k e' w t d x =
      reshaped (λ (y : N × List ℕ). record { num = y.0; queue = y.1 }) (numbers L.len L.num ⊗ behind L.len wait_queue)
      (λ y. with_first y.0 (g y.1)) f h e (λ z. t (rw (le-leb (suc L.len) (length h) w) at z) ∙ again (g (waiting e (get_or h L.len 0))))
      (second_acts (numbers L.len L.num) (behind L.len wait_queue) (λ y. with_first y.0 (g y.1)) h e refl g refl refl refl x (λ z. refl)
      (lent-word wait_queue L.len g h e (omega arith) d))
    where
      again : (y : Reply (List ℕ)) → queued (L.num h) y ≡ carry {S = Object N} (λ (z : N × List ℕ). record { num = z.0; queue = z.1 }) (with_first (L.num h) y)
      again (refuse c) = refl
      again (accept q c o) = refl

-- what an operation leaves, read off in memory
pub shown : {N : Type 0} (L : Layout N) (f : Object N → Reply (Object N)) (P : ℤ → N → List ℕ → Type 0) (h e : List ℕ) (r : ℤ) (h' e' : List ℕ)
    → Did (standing L) f h e r h' e' → Housed L h e
    → P (answer (f ((standing L).object h e))) (left (f ((standing L).object h e)) ((standing L).object h e)).num (left (f ((standing L).object h e)) ((standing L).object h e)).queue
    → P r (L.num h') (waiting e' (get_or h' L.len 0))
shown {N} L f P h e r h' e' d m p =
    let q = (done (standing L) f h e (housed-formed L h e m) d).1 in
    rw (answers (standing L) f h e d (housed-formed L h e m), ap (λ (x : Object N). x.num) q, ap (λ (x : Object N). x.queue) q) p

-- a queue in memory has somebody exactly if its length is not 0
pub any-waiting : (e : List ℕ) (n : ℕ) → any (waiting e n) ≡ ltb 0 n
any-waiting e zero = refl
any-waiting e (suc n) = sym (lt-ltb 0 (suc n) (omega arith))

-- an object whose memory and numbers are as they should be
pub record Sane (K : Kind) (L : Layout K.Num) (h e : List ℕ) : Type 0 where
  pub housed : Housed L h e
  pub numbers : K.formed (L.num h) (ltb 0 (get_or h L.len 0)) ≡ true

module _ (K : Kind) (L : Layout K.Num) (h e : List ℕ) where
  pub is-sane : sane K L h e ≡ true → Sane K L h e
  is-sane s = go (leb (suc L.len) (length h)) (roomy (get_or h L.len 0) e) refl refl s
    where
      go : (a b : Bool) → leb (suc L.len) (length h) ≡ a → roomy (get_or h L.len 0) e ≡ b
          → cond a (cond b (K.formed (L.num h) (ltb 0 (get_or h L.len 0))) false) false ≡ true → Sane K L h e
      go true true x y z = record { housed = record { words = leb-true (suc L.len) (length h) x; room = y }; numbers = z }
      go true false x y z = clash (sym z)
      go false b x y z = clash (sym z)

  pub formed-queue : Sane K L h e → K.formed (L.num h) (any (waiting e (get_or h L.len 0))) ≡ true
  formed-queue m = rw (any-waiting e (get_or h L.len 0)) m.numbers

  pub unfine : (standing L).formed h e ≡ true → sane K L h e ≡ false → fine K ((standing L).object h e) ≡ false
  unfine f s = go (leb (suc L.len) (length h)) (roomy (get_or h L.len 0) e) f s
    where
      go : (a b : Bool) → cond a b false ≡ true → cond a (cond b (K.formed (L.num h) (ltb 0 (get_or h L.len 0))) false) false ≡ false
          → K.formed (L.num h) (any (waiting e (get_or h L.len 0))) ≡ false
      go true true x z = rw (any-waiting e (get_or h L.len 0)) z
      go true false x z = clash (sym x)
      go false b x z = clash (sym x)

  -- any operation that tests the numbers refuses an object that is not
  pub malformed : (f : Object K.Num → Reply (Object K.Num)) → ((s : Object K.Num) → fine K s ≡ false → f s ≡ refuse einval)
      → sane K L h e ≡ false → reply (standing L) f h e ≡ refuse einval
  malformed f r s = go (leb (suc L.len) (length h)) (roomy (get_or h L.len 0) e) refl refl s
    where
      go : (a b : Bool) → leb (suc L.len) (length h) ≡ a → roomy (get_or h L.len 0) e ≡ b
          → cond a (cond b (K.formed (L.num h) (ltb 0 (get_or h L.len 0))) false) false ≡ false
          → cond (cond a b false) (f ((standing L).object h e)) (refuse einval) ≡ refuse einval
      go true true x y z = r ((standing L).object h e) (rw (fine, any-waiting e (get_or h L.len 0)) z)
      go true false x y z = refl
      go false b x y z = refl
