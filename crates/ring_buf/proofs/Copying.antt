-- What a copy by blocks leaves. Assumes nothing.
use mathlib.Core.Path.{◌≡◌, sym, ap, ◌∙◌}
use mathlib.Core.List.{List, ◌++◌}
use Prim.Native.Nat.{ℕ, ◌+◌, ◌-◌, ◌≤◌}
use native.Mathlib.Omega.{arith}
use lib.ListN.{length, take, drop}
use lib.Seq.{take-append-le, drop-append-add, take-take, take-add, drop-drop, length-take-le, paste}

-- a block that starts within what is copied, or at its end, and ends at m: as many as m are copied
pub onward : (d s d₁ d₂ : List ℕ) (j i k m : ℕ) → i ≤ j → j ≤ m → m ≤ length s → i + k ≡ m
    → d₁ ≡ take j s ++ drop j d → d₂ ≡ paste d₁ i (drop i s) k → d₂ ≡ take m s ++ drop m d
onward d s d₁ d₂ j i k m h g f e e₁ e₂ =
    let l : length (take j s) ≡ j = length-take-le j s (omega arith) in
    let x : take i (take j s ++ drop j d) ≡ take i s = take-append-le i (take j s) (drop j d) (omega arith) ∙ take-take i j s h in
    let u : i + k ≡ length (take j s) + (m - j) = omega arith in
    let v : j + (m - j) ≡ m = omega arith in
    let y : drop (i + k) (take j s ++ drop j d) ≡ drop m d =
    ap (λ (n : ℕ). drop n (take j s ++ drop j d)) u ∙ drop-append-add (take j s) (drop j d) (m - j) ∙ drop-drop (m - j) j d
    ∙ ap (λ (n : ℕ). drop n d) v in
    e₂ ∙ ap (λ (l : List ℕ). paste l i (drop i s) k) e₁ ∙ (λ z. (x z ++ take k (drop i s)) ++ y z)
    ∙ ap (λ (l : List ℕ). l ++ drop m d) (sym (take-add i k s) ∙ ap (λ (n : ℕ). take n s) e)
