-- All or nothing: what a write of l and a read of n bytes do that take all or none, beside the ordinary ones.
use Rattle.std.specs.Prelude.{◌≡◌, true, false, List, ℕ, ◌-◌, ◌≤◌, ◌<◌, length}
use Rattle.thread.specs.Code.{eagain, einval, epipe}
use Rattle.store.specs.Store.{refuse}
use Rattle.pipe.specs.Pipe.{Pipe, write, write_all, read, read_all}
use Rattle.pipe.specs.HandOver.{used}

pub record AllOrNothing (l : List ℕ) (n : ℕ) (p : Pipe) : Type 0 where
  -- all have room: the ordinary write
  pub write_fits : length l ≤ p.ring.capacity - used p → write_all l p ≡ write l p
  -- closed or resetting: the ordinary refusal
  pub write_closed : p.opened ≡ false → write_all l p ≡ write l p
  pub write_resetting : p.resetting ≡ true → write_all l p ≡ write l p
  -- there is no room for all: -11, and -22 if there never is
  pub write_later : p.opened ≡ true → p.resetting ≡ false → p.ring.capacity - used p < length l → length l ≤ p.ring.capacity → write_all l p ≡ refuse eagain
  pub write_never : p.opened ≡ true → p.resetting ≡ false → p.ring.capacity < length l → write_all l p ≡ refuse einval
  -- all are there: the ordinary read
  pub read_fits : n ≤ used p → read_all n p ≡ read n p
  pub read_resetting : p.resetting ≡ true → read_all n p ≡ read n p
  -- fewer are there: -11, -22 if as many never are, and -32 if it is closed, so that none come
  pub read_later : p.opened ≡ true → p.resetting ≡ false → used p < n → n ≤ p.ring.capacity → read_all n p ≡ refuse eagain
  pub read_never : p.opened ≡ true → p.resetting ≡ false → used p < n → p.ring.capacity < n → read_all n p ≡ refuse einval
  pub read_closed : p.opened ≡ false → p.resetting ≡ false → used p < n → read_all n p ≡ refuse epipe
