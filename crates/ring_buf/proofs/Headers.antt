-- A ring's header and buffer: what is tested, and what then holds. Assumes nothing.
use mathlib.Core.Path.{◌≡◌, ◌∙◌}
use mathlib.Core.Bool.{true, false, cond}
use mathlib.Core.List.{List}
use Prim.Native.Nat.{ℕ, ◌≤◌, ◌<◌}
use borrow.Author.Tests.{lt-ltb, le-leb, leb-true, ltb-true}
use lib.Dec.{ltb, leb}
use lib.ListN.{length, get_or}
use Rattle.store.proofs.Laws.{both_true}
use native.Mathlib.Omega.{arith}
use Rattle.ring_buf.specs.Bytes.{sound}
use Rattle.ring_buf.specs.Post.{Words}
use Rattle.ring_buf.specs.declared.header.RingBuf.{RingBuf}

module _ (h b : List ℕ) where
  pub record Sound : Type 0 where
    pub words : 3 ≤ length h
    pub start : get_or h 1 0 < get_or h 0 0
    pub size : get_or h 2 0 ≤ get_or h 0 0
    pub room : get_or h 0 0 ≤ length b

  pub is-room : 3 ≤ length h → get_or h 1 0 < get_or h 0 0 → get_or h 2 0 ≤ get_or h 0 0 → sound h b ≡ leb (get_or h 0 0) (length b)
  is-room w s f = rw (le-leb 3 (length h) w, lt-ltb (get_or h 1 0) (get_or h 0 0) s, le-leb (get_or h 2 0) (get_or h 0 0) f)

  -- a test is passed, or failed
  pub from-sound : sound h b ≡ true → Sound
  from-sound e =
      let x = both_true (leb 3 (length h)) _ e in
      let y = both_true (cond (ltb (get_or h 1 0) (get_or h 0 0)) (leb (get_or h 2 0) (get_or h 0 0)) false) _ x.1 in
      let z = both_true (ltb (get_or h 1 0) (get_or h 0 0)) _ y.0 in
      record {
        words = leb-true 3 (length h) x.0;
        start = ltb-true (get_or h 1 0) (get_or h 0 0) z.0;
        size = leb-true (get_or h 2 0) (get_or h 0 0) z.1;
        room = leb-true (get_or h 0 0) (length b) y.1;
      }

  pub is-sound : Sound → sound h b ≡ true
  is-sound s = is-room s.words s.start s.size ∙ le-leb (get_or h 0 0) (length b) s.room

-- the words that were read
pub read-sound : {h b : List ℕ} {r : RingBuf} → Words h b r → Sound h b
read-sound {r = r} w = record { words = w.words; start = omega (arith, r.start); size = omega (arith, r.within); room = omega arith }
