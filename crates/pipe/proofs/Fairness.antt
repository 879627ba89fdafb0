-- Any events keep what is promised where threads wait. Assumes nothing.
use mathlib.Core.Path.{refl}
use mathlib.Core.Bool.{false}
use mathlib.Core.List.{List, [], ◌∷◌}
use Prim.Native.Nat.{ℕ, ◌<◌}
use native.Mathlib.Omega.{arith}
use Rattle.store.specs.History.{after}
use Rattle.pipe.specs.Post.{new}
use Rattle.pipe.specs.Waiting.{fresh, waited, Waited, Event, writing, reading, entering, tries, resets, closes, clears, happens}
use Rattle.pipe.specs.Fair.{Fair}
use Rattle.pipe.proofs.Writing.{write_fair, enter_fair}
use Rattle.pipe.proofs.Reading.{read_fair}
use Rattle.pipe.proofs.Orders.{cut-close, fed-close}

module _ (c : ℕ) (some : 0 < c) where
  pub next_fair : (e : Event) (s : Waited) → Fair c s → Fair c (happens s e)
  next_fair (tries (writing l k)) s f = write_fair c some s.pipe s.letting s.books s.readers s.writers l k f
  next_fair (tries (reading n k)) s f = read_fair c some s.pipe s.letting s.books s.readers s.writers n k f
  next_fair (tries entering) s f = enter_fair c some s.pipe s.letting s.books s.readers s.writers f
  next_fair resets s f =
      record {
        size = f.size;
        under = omega arith;
        live = λ d. absurd (omega
            arith);
        asks = tt;
        offers = tt;
        no_byte = λ d. refl;
        no_room = λ d y. absurd (omega arith);
        line = refl;
        order = tt;
        turns = refl;
      }
  next_fair closes s f =
      record {
        size = f.size;
        under = f.under;
        live = λ d. absurd (omega arith);
        asks = tt;
        offers = tt;
        no_byte = λ d. absurd (omega arith);
        no_room = λ d y. absurd (omega arith);
        line = f.line;
        order = cut-close s.books.went s.writers s.books.called f.order;
        turns = fed-close s.books.fed s.readers s.books.begged f.turns;
      }
  next_fair clears s f =
      record {
        size = f.size;
        under = f.under;
        live = λ d. ((f.live d).0, refl);
        asks = f.asks;
        offers = f.offers;
        no_byte = f.no_byte;
        no_room = f.no_room;
        line = f.line;
        order = f.order;
        turns = f.turns;
      }

  pub fair : (es : List Event) (s : Waited) → Fair c s → Fair c (after happens s es)
  fair [] s f = f
  fair (e ∷ es) s f = next_fair e (after happens s es) (fair es s f)

  -- of a new pipe, where nobody waits
  pub always_fair : (b : List ℕ) (es : List Event) → Fair c (after happens (waited (new c b) [] [] false fresh) es)
  always_fair b es =
      fair es (waited (new c b) [] [] false fresh)
      (record {
        size = refl;
        under = omega arith;
        live = λ d. (refl, refl);
        asks = tt;
        offers = tt;
        no_byte = λ d. refl;
        no_room = λ d y. absurd (omega
            arith);
        line = refl;
        order = tt;
        turns = refl;
      })
