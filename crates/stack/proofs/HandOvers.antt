-- With those that wait it is as if each word that is handed over were pushed and popped. Assumes nothing.
use mathlib.Core.Path.{◌≡◌, refl}
use mathlib.Core.Bool.{true}
use mathlib.Core.List.{List, [], ◌∷◌, ◌++◌, append_assoc}
use Prim.Native.Nat.{ℕ}
use native.Mathlib.Omega.{arith}
use Rattle.store.specs.History.{after}
use Rattle.store.proofs.Histories.{after-append}
use Rattle.stack.specs.Stack.{Stack, fresh, may}
use Rattle.stack.specs.History.{Call, does, next}
use Rattle.stack.specs.HandOver.{Waited, Event, happens, ends, calls, all_calls, words_out, Alike}
use Rattle.stack.proofs.Memory.{may-is}
use Rattle.stack.proofs.Events.{Same, same, goes, decides, alike}

out-append : (s : Stack) (ks js : List Call) → words_out does s (ks ++ js) ≡ words_out does (after next s js) ks ++ words_out does s js
out-append s [] js = refl
out-append s (k ∷ ks) js = rw (after-append next s ks js, out-append s ks js, append_assoc)

runs : (s : Waited) → Same s s.stack → (es : List Event)
    → Same (ends s es) (after next s.stack (all_calls s es)) × (words_out happens s es ≡ words_out does s.stack (all_calls s es))
runs s a [] = (a, refl)
runs s a (e ∷ es) =
    let b = runs s a es in
    let d = goes b.0 e in
    rw (after-append next s.stack (calls (ends s es) e) (all_calls s es), out-append s.stack (calls (ends s es) e) (all_calls s es)) (d.0, cc (d.1, b.1))

pub handed-over : (c : ℕ) (w : List ℕ) → may c w ≡ true → (es : List Event) → Alike (record { stack = fresh c w; waiting = 0 }) es
handed-over c w m es =
    let r = runs (record { stack = fresh c w; waiting = 0 }) (same (may-is c w m).0 (omega arith) (λ z. refl)) es in
    let a = alike r.0 in
    record { idle = a.0; held = a.1; went = r.1; decides = decides r.0 }
