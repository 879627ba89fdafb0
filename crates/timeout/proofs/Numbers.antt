-- What is decided on plain numbers. Assumes nothing.
use mathlib.Core.Path.{◌≡◌, sym, ◌∙◌}
use mathlib.Core.Bool.{Bool, true, false}
use mathlib.Core.List.{[], ◌∷◌}
use mathlib.Core.Logic.{◌⊎◌, inl, inr}
use Prim.Native.Nat.{ℕ, ◌+◌, ◌-◌, ◌≤◌, ◌<◌}
use lib.Dec.{eqb, ltb, leb}
use lib.IntN.{ℤ, pos}
use borrow.Author.Tests.{ltb-true, leb-true, lt-ltb, le-ltb, le-leb, lt-leb, ne_eqb}
use Rattle.seq.proofs.Order.{clash, cond_same, both_true}
use Rattle.thread.specs.Code.{ok, einval}
use Rattle.store.specs.Store.{refuse, accept}
use Rattle.store.proofs.Laws.{either, less}
use Rattle.timeout.specs.Timeout.{never, later, fires, right, add_decide, absolute, announces, announce_decide, until}

-- a sum that would reach never, and any other
module _ (c n : ℕ) where
  module _ (k : never ≤ c + n) where
    pub too_late : (a : ℤ) → later a c n ≡ refuse einval
    too_late a = rw (le-ltb (c + n) never k)

    pub add-late : add_decide c n ≡ refuse einval
    add-late = rw (le-ltb (c + n) never k)

  module _ (k : c + n < never) where
    pub in_time : (a : ℤ) → later a c n ≡ accept (c + n) a []
    in_time a = rw (lt-ltb (c + n) never k)

    pub add_in_time : add_decide c n ≡ accept (c + n) ok ((c + n) ∷ [])
    add_in_time = rw (lt-ltb (c + n) never k)

module _ (b : Bool) (d n : ℕ) where
  pub fires-idle : b ≡ false → fires b d n ≡ false
  fires-idle e = rw e

  pub fires_early : n < d → fires b d n ≡ false
  fires_early k = rw (lt-leb d n k, cond_same (ltb d never) false) (cond_same b false)

  pub fires-due : b ≡ true → d < never → d ≤ n → fires b d n ≡ true
  fires-due e f k = rw (e, lt-ltb d never f, le-leb d n k)

  pub fires-is : fires b d n ≡ true → (b ≡ true) × (d < never) × (d ≤ n)
  fires-is e =
      let x = both_true b _ e in
      let y = both_true (ltb d never) (leb d n) x.1 in
      (x.0, ltb-true d never y.0, leb-true d n y.1)

  pub fires-not : fires b d n ≡ false → (b ≡ false) ⊎ ((never ≤ d) ⊎ (n < d))
  fires-not e =
      either b
      (λ p. less d never (λ q. less n d (λ r. inr (inr r)) (λ r. clash (sym (fires-due p q r) ∙ e))) (λ q. inr (inl q)))
      (λ p. inl p)

-- numbers of a timeout
module _ (d c : ℕ) where
  module _ (k : c < never) where
    pub right-idle : (b : Bool) → b ≡ false → right b d c ≡ true
    right-idle b e = rw (lt-ltb c never k, e)

    pub right-at-once : (b : Bool) → d ≡ 0 → right b d c ≡ true
    right-at-once b e = rw (lt-ltb c never k, e) (cond_same b true)

    pub right-ahead : (b : Bool) → c ≤ d → right b d c ≡ true
    right-ahead b f = rw (lt-ltb c never k, le-leb c d f, cond_same (eqb d 0) true) (cond_same b true)

  pub absolute-behind : d < c → absolute d c ≡ refuse einval
  absolute-behind e = rw (lt-leb c d e)

  pub absolute_far : never ≤ d → absolute d c ≡ refuse einval
  absolute_far e = rw (le-ltb d never e) (cond_same (leb c d) (refuse einval))

  pub absolute-is : c ≤ d → d < never → absolute d c ≡ accept d ok []
  absolute-is e g = rw (le-leb c d e, lt-ltb d never g)

-- an announcement
module _ (b : Bool) (d c n : ℕ) where
  pub announces-none : never ≤ c + n → announces b d c n ≡ refuse einval
  announces-none k = too_late c n k _

  module _ (k : c + n < never) where
    pub announces-quiet : fires b d (c + n) ≡ false → announces b d c n ≡ accept (c + n) ok []
    announces-quiet e = rw (lt-ltb (c + n) never k, e)

    pub announces-fires : fires b d (c + n) ≡ true → announces b d c n ≡ accept (c + n) (pos 1) []
    announces-fires e = rw (lt-ltb (c + n) never k, e)

  pub decides-wrong : right b d c ≡ false → announce_decide b d c n ≡ refuse einval
  decides-wrong e = rw e

  pub decides-right : right b d c ≡ true → announce_decide b d c n ≡ announces b d c n
  decides-right e = rw e

-- the ticks to a tick
module _ (x c : ℕ) where
  pub until-never : x ≡ never → until x c ≡ never
  until-never e = rw e

  pub until-is : (x ≡ never → ⊥) → until x c ≡ x - c
  until-is e = rw (ne_eqb x never e)
