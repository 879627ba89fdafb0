-- Bytes go into an open pipe where threads wait, or to a reader, or their writer waits. Assumes nothing.
use mathlib.Core.Path.{◌≡◌, refl, sym, ap, subst, ◌∙◌}
use mathlib.Core.Bool.{Bool, true, false}
use mathlib.Core.List.{List, [], ◌∷◌, ◌++◌}
use Prim.Native.Nat.{ℕ, ◌+◌, ◌-◌, ◌≤◌, ◌<◌, min}
use native.Mathlib.Omega.{arith}
use lib.ListN.{length, take, drop, length-append, length-take, drop_of_length-le}
use Rattle.seq.specs.List.{All}
use Rattle.store.specs.Store.{Reply, out}
use Rattle.pipe.specs.Pipe.{Pipe, more, less, read}
use Rattle.pipe.specs.Post.{Moves}
use Rattle.pipe.specs.HandOver.{used}
use Rattle.pipe.specs.Waiting.{Books, enters, feeds, waited, Waited, Try, tries, wanted, decision, filled, drained, wrote, queued, told, happens}
use Rattle.pipe.specs.Fair.{Cut, Fair}
use Rattle.pipe.proofs.Turns.{fills, drains, takes}
use Rattle.pipe.proofs.Orders.{line_in, line-out, cut-wait, all_snoc, fed_first}

-- other writes were called
abbrev pub recalled : List (List ℕ) → Books → Books
recalled cs k = record { called = cs; went = k.went; got = k.got; begged = k.begged; fed = k.fed }

pub none-wanted : (r : List ℕ) → wanted r [] ≡ 0
none-wanted [] = refl
none-wanted (n ∷ r) = omega arith

pub by_flags : (p : Pipe) {A : Type 0} → (p.resetting ≡ true → A) → (p.resetting ≡ false → p.opened ≡ false → A)
    → (p.resetting ≡ false → p.opened ≡ true → A) → A
by_flags p {A} x y z = go p.resetting p.opened refl refl
  where
    go : (r o : Bool) → p.resetting ≡ r → p.opened ≡ o → A
    go true o e d = x e
    go false false e d = y e d
    go false true e d = z e d

module _ (c : ℕ) (some : 0 < c) where
  -- the decision is carried out
  pub carried : (s : Waited) (e : Try) {d : Reply Moves} → decision e s ≡ d → Fair c (told e d s) → Fair c (happens s (tries e))
  carried s e x f = subst (λ (d : Reply Moves). Fair c (told e d s)) (sym x) f

  module _ (p : Pipe) (b : Bool) (bk : Books) where
    abbrev at : List ℕ → List (List ℕ) → Waited
    at r w = waited p r w b bk

    -- ---- an open pipe

    module _ (e : p.resetting ≡ false) (o : p.opened ≡ true) where
      module _ (l : List ℕ) (n : ℕ) (k : 0 < n) (h : n ≤ length l) (w w' cs' : List (List ℕ)) (v : All (λ (x : List ℕ). 0 < length x) w')
          (z : 0 < length w' → b ≡ false → ⊥) where
        -- n bytes of l go into the pipe
        pub into : Fair c (at [] w) → n ≤ p.ring.capacity - used p → Cut ((bk.went ++ take n l ∷ []) ++ w') cs'
            → Fair c (wrote 0 l n w' (recalled cs' bk) (at [] w))
        into f m t =
            let q = more l p n in
            let u : used q ≡ used p + n = length-append p.ring.held (take n l) ∙ omega (arith, length-take n l) in
            subst (λ (y : Pipe). Fair c (waited y [] w' b (enters (take n l) (recalled cs' bk)))) (sym (fills p o e l n k h m))
            (record {
              size = f.size;
              under = omega arith;
              live = λ d. (o, e);
              asks = tt;
              offers = v;
              no_byte = λ y. absurd (omega arith);
              no_room = λ x y. absurd (z x y);
              line = line_in bk.got p.ring.held bk.went f.line (take n l);
              order = t;
              turns = f.turns;
            })

        -- they go to the first reader, which asks for a
        pub hand : (a : ℕ) (r : List ℕ) → Fair c (at (a ∷ r) w) → n ≤ p.ring.capacity - used p → n ≤ a → Cut ((bk.went ++ take n l ∷ []) ++ w') cs'
            → Fair c (wrote 1 l n w' (recalled cs' bk) (at (a ∷ r) w))
        hand a r f m j t =
            let q = more l p n in
            let i : used p ≡ 0 = ap length (f.no_byte (omega arith)) in
            let u : used q ≡ n = length-append p.ring.held (take n l) ∙ omega (arith, length-take n l) in
            let x = fills p o e l n k h m in
            let y : drained a (filled l n p) ≡ less q (min a (used q)) = ap (drained a) x ∙ drains q e a (omega arith) (omega arith) in
            let d : out (read a (filled l n p)) ≡ take (min a (used q)) q.ring.held =
            ap (λ (q : Pipe). out (read a q)) x ∙ takes q e a (omega arith) (omega arith) in
            let v' = length-take (min a (used q)) q.ring.held in
            let gone : drop (min a (used q)) q.ring.held ≡ [] = drop_of_length-le q.ring.held {i = min a (used q)} (omega arith) in
            subst (Fair c) (sym (λ i. waited (y i) r w' b (feeds (d i) (enters (take n l) (recalled cs' bk)))))
            (record {
              size = f.size;
              under = omega (arith, ap length gone);
              live = λ d. (o, e);
              asks = f.asks.1;
              offers = v;
              no_byte = λ d. gone;
              no_room = λ d y. absurd (z d y);
              line =
                  line-out bk.got q.ring.held (bk.went ++ take n l ∷ []) (line_in bk.got p.ring.held bk.went f.line (take n l))
                  (min a (used q));
              order = t;
              turns = fed_first bk.fed a r bk.begged (length (take (min a (used q)) q.ring.held)) (omega (arith, v')) (omega (arith, v')) f.turns;
            })

      -- a write behind the writers that wait
      pub waits : (r : List ℕ) (w : List (List ℕ)) (l : List ℕ) (k : Bool) → 0 < length l → (b ≡ false → used p ≡ c) → Fair c (at r w)
          → Fair c (queued k l (at r w))
      waits r w l true h z f = f
      waits r w l false h z f =
          record {
            size = f.size;
            under = f.under;
            live = λ d. (o, e);
            asks = f.asks;
            offers = all_snoc (λ (x : List ℕ). 0 < length x) w l f.offers h;
            no_byte = f.no_byte;
            no_room = λ d y. z y;
            line = f.line;
            order = cut-wait bk.went w bk.called l h f.order;
            turns = f.turns;
          }
