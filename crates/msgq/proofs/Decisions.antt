-- What each answer of a decision means. Assumes nothing.
use mathlib.Core.Path.{◌≡◌}
use mathlib.Core.Bool.{Bool, true, false}
use mathlib.Core.List.{[]}
use Prim.Native.Nat.{ℕ, ◌+◌, ◌-◌, ◌≤◌, ◌<◌}
use native.Mathlib.Omega.{arith}
use borrow.Author.Tests.{lt-ltb, le-ltb}
use Rattle.thread.specs.Code.{ok, einval, enomsg}
use Rattle.store.specs.Store.{accept, refuse}
use Rattle.ring_buf.specs.Ring.{wrap}
use Rattle.ring_buf.specs.Bytes.{numbers}
use Rattle.msgq.specs.Msgq.{counts, stored, wakes_reader, is_read, wakes_writer, pends}
use Rattle.msgq.specs.Post.{sane, put_decision, get_decision, put_front_decision, peek_decision}
use Rattle.msgq.proofs.Headers.{within, sane-within}

module _ (i n c : ℕ) (reader k : Bool) where
  module _ (s : sane i n c reader 0 ≡ true) where
    pub put-refuses : n ≡ c → k ≡ true → put_decision i n c reader k ≡ refuse enomsg
    put-refuses e f = rw (s, le-ltb n c (omega arith), f)

    pub put-pends : n ≡ c → k ≡ false → put_decision i n c reader k ≡ accept (counts i n) pends []
    put-pends e f = rw (s, le-ltb n c (omega arith), f)

    pub put-wakes : (n ≡ c → ⊥) → reader ≡ true → put_decision i n c reader k ≡ accept (counts i n) wakes_reader []
    put-wakes e f = rw (s, lt-ltb n c (omega (arith, (sane-within i n c reader 0 s).used)), f)

    pub put-stores : (a : ℕ) → (n ≡ c → ⊥) → reader ≡ false → a ≡ wrap (i + 1) c → put_decision i n c reader k ≡ accept (counts a (n + 1)) stored []
    put-stores a e f v = rw (s, lt-ltb n c (omega (arith, (sane-within i n c reader 0 s).used)), f, v)

  module _ (s : sane i n c reader c ≡ true) where
    pub get-refuses : n ≡ 0 → k ≡ true → get_decision i n c reader k ≡ refuse enomsg
    get-refuses e f = rw (s, le-ltb 0 n (omega arith), f)

    pub get-pends : n ≡ 0 → k ≡ false → get_decision i n c reader k ≡ accept (counts i n) pends []
    get-pends e f = rw (s, le-ltb 0 n (omega arith), f)

    pub get-wakes : (a : ℕ) → (n ≡ 0 → ⊥) → reader ≡ true → a ≡ wrap (i + 1) c → get_decision i n c reader k ≡ accept (counts a (n - 1)) wakes_writer []
    get-wakes a e f v = rw (s, lt-ltb 0 n (omega arith), f, v)

    pub get-reads : (a : ℕ) → (n ≡ 0 → ⊥) → reader ≡ false → a ≡ wrap (i + 1) c → get_decision i n c reader k ≡ accept (counts a (n - 1)) is_read []
    get-reads a e f v = rw (s, lt-ltb 0 n (omega arith), f, v)

module _ (t n c : ℕ) where
  pub lead-refuses : numbers c t n ≡ true → n ≡ c → put_front_decision t n c ≡ refuse enomsg
  lead-refuses s e = rw (s, le-ltb n c (omega arith))

  pub lead-stores : (a : ℕ) → numbers c t n ≡ true → (n ≡ c → ⊥) → a ≡ wrap (t + (c - 1)) c → put_front_decision t n c ≡ accept (counts a (n + 1)) ok []
  lead-stores a s e v = rw (s, lt-ltb n c (omega (arith, (within c t n s).used)), v)

  module _ (i : ℕ) where
    pub peek_insane : numbers c t n ≡ false → peek_decision t n c i ≡ refuse einval
    peek_insane e = rw e

    pub peek-past : numbers c t n ≡ true → n ≤ i → peek_decision t n c i ≡ refuse enomsg
    peek-past s e = rw (s, le-ltb i n e)

    pub peek_finds : (a : ℕ) → numbers c t n ≡ true → i < n → a ≡ wrap (t + i) c → peek_decision t n c i ≡ accept a ok []
    peek_finds a s e v = rw (s, lt-ltb i n e, v)
