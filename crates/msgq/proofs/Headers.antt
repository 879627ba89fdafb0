-- A queue's header and buffer: what is tested, and what then holds. Assumes nothing.
use mathlib.Core.Path.{◌≡◌, refl, ◌∙◌}
use mathlib.Core.Bool.{Bool, true, false, cond}
use mathlib.Core.List.{List}
use Prim.Native.Nat.{ℕ, ◌*◌, ◌≤◌, ◌<◌}
use borrow.Author.Tests.{lt-ltb, le-leb, leb-true, ltb-true, eq-eqb}
use lib.Dec.{ltb, leb, eqb}
use lib.ListN.{length, get_or}
use Rattle.seq.proofs.Order.{both_true}
use Rattle.ring_buf.specs.Bytes.{numbers}
use Rattle.msgq.specs.Post.{room, sound, sane}

pub by_both : {P : Type 0} (w : Bool) → (w ≡ true → P) → (w ≡ false → P) → P
by_both true f g = f refl
by_both false f g = g refl

-- ---- numbers

pub record Within (c i n : ℕ) : Type 0 where
  pub idx : i < c
  pub used : n ≤ c

pub within : (c i n : ℕ) → numbers c i n ≡ true → Within c i n
within c i n e = let x = both_true (ltb i c) (leb n c) e in record { idx = ltb-true i c x.0; used = leb-true n c x.1 }

pub is_within : (c i n : ℕ) → Within c i n → numbers c i n ≡ true
is_within c i n w = rw (lt-ltb i c w.idx, le-leb n c w.used)

-- and somebody waits only with m messages
module _ (i n c : ℕ) (w : Bool) (m : ℕ) where
  pub sane-within : sane i n c w m ≡ true → Within c i n
  sane-within e = within c i n (both_true (numbers c i n) (cond w (eqb n m) true) e).0

  pub is-sane : Within c i n → (w ≡ true → n ≡ m) → sane i n c w m ≡ true
  is-sane x f = by_both w (λ e. rw (is_within c i n x, e, eq-eqb n m (f e))) (λ e. rw (is_within c i n x, e))

-- ---- room

module _ (z c : ℕ) (b : List ℕ) where
  pub record Room : Type 0 where
    pub some : 0 < z
    pub small : c * z ≤ 4294967295
    pub long : c * z ≤ length b

  pub roomy : room z c b ≡ true → Room
  roomy e =
      let x = both_true (ltb 0 z) _ e in
      let y = both_true (leb (c * z) 4294967295) _ x.1 in
      record { some = ltb-true 0 z x.0; small = leb-true (c * z) 4294967295 y.0; long = leb-true (c * z) (length b) y.1 }

  pub room_is : 0 < z → c * z ≤ 4294967295 → room z c b ≡ leb (c * z) (length b)
  room_is f g = rw (lt-ltb 0 z f, le-leb (c * z) 4294967295 g)

  pub is-roomy : Room → room z c b ≡ true
  is-roomy r = room_is r.some r.small ∙ le-leb (c * z) (length b) r.long

-- ---- the header

module _ (h b : List ℕ) where
  pub record Sound : Type 0 where
    pub words : 4 ≤ length h
    pub within : Within (get_or h 0 0) (get_or h 1 0) (get_or h 2 0)
    pub room : Room (get_or h 3 0) (get_or h 0 0) b

  pub is-sound : Sound → sound h b ≡ true
  is-sound s =
      rw (le-leb 4 (length h) s.words)
      (λ i. cond (is_within (get_or h 0 0) (get_or h 1 0) (get_or h 2 0) s.within i) (is-roomy (get_or h 3 0) (get_or h 0 0) b s.room i) false)

  pub from-sound : sound h b ≡ true → Sound
  from-sound e =
      let x = both_true (leb 4 (length h)) _ e in
      let y = both_true (numbers (get_or h 0 0) (get_or h 1 0) (get_or h 2 0)) _ x.1 in
      record {
        words = leb-true 4 (length h) x.0;
        within = within (get_or h 0 0) (get_or h 1 0) (get_or h 2 0) y.0;
        room = roomy (get_or h 3 0) (get_or h 0 0) b y.1;
      }
