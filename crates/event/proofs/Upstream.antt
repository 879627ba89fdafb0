-- Our contracts imply those of Gale's event.rs. Assumes nothing.
use mathlib.Core.Path.{◌≡◌, refl, sym, ap, ◌∙◌}
use mathlib.Core.Bool.{Bool}
use mathlib.Core.Logic.{inl, inr}
use mathlib.Core.List.{List, []}
use Prim.Native.Nat.{ℕ, ◌≤◌, ◌<◌}
use native.Mathlib.Omega.{arith}
use borrow.Author.Tests.{le-leb, lt-leb, eqb-true, eqb-false}
use lib.Bits.{bit_and, bit_or, and_comm}
use lib.Dec.{eqb}
use lib.IntN.{ℤ, pos}
use lib.ListN.{length, get_or}
use Rattle.seq.proofs.Bits.{bits_lt}
use Rattle.thread.specs.Code.{ok, einval}
use Rattle.store.specs.Store.{Reply, Did, looks}
use Rattle.store.proofs.Laws.{either, kept_bad, looks-is, looks_bad}
use Rattle.store.proofs.Histories.{holds_after}
use Rattle.event.specs.Event.{width, post, set, set_masked, clear, any_there, all_there, told}
use Rattle.event.specs.Post.{Starts, Posts, Sets, SetsMasked, Clears, ChecksAny, ChecksAll, GetsEvents, place}
use Rattle.event.specs.Upstream.{Inv, Init, Post, Set, SetMasked, Clear, WaitCheckAny, WaitCheckAll, EventsGet}
use Rattle.event.proofs.Words.{or_is, and_not-is, any_is, all_is, replaced_is}
use Rattle.event.proofs.Lemmas.{post-monotonic}

module _ (h : List ℕ) (r : ℤ) (h' : List ℕ) where
  -- a header of a word: it is made
  pub event_init : 1 ≤ length h → Starts h r h' → Init r (get_or h' 0 0)
  event_init k s =
      let e : r ≡ ok = s.code ∙ rw (le-leb 1 (length h) k) in
      let z : get_or h' 0 0 ≡ 0 = (s.made e).object in
      record { done = e; inv = rw z (omega arith); events = z }

  -- none: refused, and nothing changes
  pub init-refuses : length h < 1 → Starts h r h' → (r ≡ einval) × (h' ≡ h)
  init-refuses k s = let e : r ≡ einval = s.code ∙ rw (lt-leb 1 (length h) k) in (e, (s.kept 21 e).0)

  -- what is too short for a word of flags is refused, and stays
  pub event_refuses : (f : ℕ → Reply ℕ) → length h < 1 → Did place f h [] r h' [] → (r ≡ einval) × (h' ≡ h)
  event_refuses f k d = let y = kept_bad place f h [] d (lt-leb 1 (length h) k) in (y.0, y.1)

  pub get-refuses : (f : ℕ → ℤ) → length h < 1 → r ≡ looks place f h [] → r ≡ einval
  get-refuses f k d = d ∙ looks_bad place h [] f (lt-leb 1 (length h) k)

  module _ (k : 1 ≤ length h) where
    pub event_set : (x : ℕ) → Inv x → Sets x h r h' → Set x (get_or h 0 0) r (get_or h' 0 0)
    event_set x i d = holds_after place (set x) h [] (Set x (get_or h 0 0)) (le-leb 1 (length h) k) d (record { inv = i; events = refl; result = refl })

    pub event_events-get : GetsEvents h r → EventsGet (get_or h 0 0) r
    event_events-get e = e ∙ looks-is place h [] (λ e. pos e) (le-leb 1 (length h) k)

    module _ (x : ℕ) (he : Inv (get_or h 0 0)) (hx : Inv x) where
      pub event_post : Posts x h r h' → Post x (get_or h 0 0) r (get_or h' 0 0)
      event_post d =
          let p = sym (or_is x (get_or h 0 0) hx he) in
          holds_after place (post x) h [] (Post x (get_or h 0 0)) (le-leb 1 (length h) k) d
          (record {
            inv = bits_lt width _;
            events = p;
            result = refl;
            monotonic = ap (bit_and (get_or h 0 0)) p ∙ and_comm (get_or h 0 0) (bit_or (get_or h 0 0) x) ∙ (post-monotonic (get_or h 0 0) x he hx).words;
          })

      pub event_clear : Clears x h r h' → Clear x (get_or h 0 0) r (get_or h' 0 0)
      event_clear d =
          holds_after place (clear x) h [] (Clear x (get_or h 0 0)) (le-leb 1 (length h) k) d
          (record { inv = bits_lt width _; events = sym (and_not-is x (get_or h 0 0) hx he); result = refl })

      pub event_set-masked : (m : ℕ) → Inv m → SetsMasked x m h r h' → SetMasked x m (get_or h 0 0) r (get_or h' 0 0)
      event_set-masked m hm d =
          holds_after place (set_masked x m) h [] (SetMasked x m (get_or h 0 0)) (le-leb 1 (length h) k) d
          (record { inv = bits_lt width _; events = sym (replaced_is x m (get_or h 0 0) hx hm he); result = refl })

      -- a test on memory is the test on words
      tells : (f : ℕ → Bool) (b : Bool) → b ≡ f (get_or h 0 0) → r ≡ looks place (λ e. told (f e)) h [] → r ≡ told b
      tells f b p e = e ∙ looks-is place h [] (λ e. told (f e)) (le-leb 1 (length h) k) ∙ ap told (sym p)

      pub event_wait_check_any : ChecksAny x h r → WaitCheckAny x (get_or h 0 0) r
      event_wait_check_any e =
          let q = tells (any_there x) _ (any_is x (get_or h 0 0) hx he) e in
          either (eqb (bit_and (get_or h 0 0) x) 0) (λ p. inr (rw p at q, λ n. n (eqb-true _ 0 p))) (λ p. inl (rw p at q, eqb-false _ 0 p))

      pub event_wait_check_all : ChecksAll x h r → WaitCheckAll x (get_or h 0 0) r
      event_wait_check_all e =
          let q = tells (all_there x) _ (all_is x (get_or h 0 0) hx he) e in
          either (eqb (bit_and (get_or h 0 0) x) x) (λ p. inl (rw p at q, eqb-true _ x p)) (λ p. inr (rw p at q, eqb-false _ x p))
