-- What each call keeps of the count, and so any sequence of calls. Assumes nothing.
use mathlib.Core.Path.{◌≡◌, refl, ap}
use mathlib.Core.Bool.{false}
use mathlib.Core.List.{List, [], ◌∷◌}
use Prim.Native.Nat.{ℕ, suc, ◌+◌, ◌≤◌}
use native.Mathlib.Omega.{arith}
use lib.Dec.{ltb}
use lib.IntN.{pos}
use lib.ListN.{length, get_or}
use borrow.Author.Tests.{le-leb}
use Rattle.seq.specs.List.{All}
use Rattle.seq.proofs.Order.{clash}
use Rattle.store.specs.Store.{Reply, answer, left}
use Rattle.store.specs.History.{Step}
use Rattle.store.proofs.Laws.{either}
use Rattle.store.proofs.Histories.{holds_after, Keeps, throughout_made}
use Rattle.timer.specs.Timer.{Timer, most, status_get}
use Rattle.timer.specs.Post.{place}
use Rattle.timer.specs.History.{Call, starting, stopping, expiring, reading, does, Promise, Always, Tally, expiries, reads, clears, NoneLost, CountOnly}
use Rattle.timer.proofs.Answers.{by_expiry}

abbrev expiry : List ℕ → Reply Timer → Step Call
expiry o y = record { call = expiring; answer = answer y; out = o }

kept : (u : Timer) (k : Call) → Keeps does (Promise u) k
kept u starting es t o i = record { status = refl; running = refl; period = i.period }
kept u stopping es t o i = record { status = refl; running = refl; period = i.period }
kept u reading es t o i = record { status = refl; running = i.running; period = i.period }
kept u expiring es t o i =
    by_expiry (λ y. Promise u (expiry o y ∷ es) (left y t)) t
    (λ b. record { status = ap suc i.status; running = i.running; period = i.period })
    (λ b. record { status = i.status; running = i.running; period = i.period })

pub always : Always
always h h' es k m =
    let t = place.object h [] in
    (throughout_made does (Promise t) (kept t) place (le-leb 3 (length h) k) (record { status = refl; running = refl; period = refl }) m).1

-- what is told, as long as there was no start and no stop
abbrev Lossless : ℕ → List (Step Call) → Timer → Type 0
Lossless n es t = All (λ e. clears e.call ≡ false) es → reads es + t.status ≡ n + expiries es

lossless : (n : ℕ) (k : Call) → Keeps does (Lossless n) k
lossless n starting es t o i z = clash z.0
lossless n stopping es t o i z = clash z.0
lossless n reading es t o i z = omega (arith, i z.1)
lossless n expiring es t o i z =
    by_expiry (λ y. Lossless n (expiry o y ∷ es) (left y t)) t (λ b z. omega (arith, i z.1)) (λ b z. omega (arith, i z.1)) z

pub none_lost : NoneLost
none_lost h h' es k m = (throughout_made does (Lossless (get_or h 0 0)) (lossless (get_or h 0 0)) place (le-leb 3 (length h) k) (λ z. omega arith) m).1

-- expiries alone
abbrev Counted : List (Step Call) → Timer → Type 0
Counted es t = All (λ e. e.call ≡ expiring) es → length es ≤ most → t.status ≡ length es

counted : (k : Call) → Keeps does Counted k
counted starting es t o i a = absurd (let e = a.0 in let y : ◌≡◌ {A = ℕ} 0 1 = cc in omega arith)
counted stopping es t o i a = absurd (let e = a.0 in let y : ◌≡◌ {A = ℕ} 0 1 = cc in omega arith)
counted reading es t o i a = absurd (let e = a.0 in let y : ◌≡◌ {A = ℕ} 0 1 = cc in omega arith)
counted expiring es t o i a =
    by_expiry (λ y. Counted (expiry o y ∷ es) (left y t)) t (λ f a b. ap suc (i a.1 (omega arith)))
    (λ f a b. absurd (omega (arith, i a.1 (omega arith)))) a

pub tally : Tally
tally h h' h'' es r k z m a b d =
    let c = throughout_made does Counted counted place (le-leb 3 (length h) k) (λ a b. z) m in
    holds_after place status_get h' [] (λ r t. (r ≡ pos (length es)) × (t.status ≡ 0)) c.0 d (ap pos (c.1 a b), refl)

pub count-only : CountOnly
count-only n p q x y = either (ltb n most) (λ e. rw e (refl, refl)) (λ e. rw e (refl, refl))
