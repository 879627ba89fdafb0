-- The flags in memory: h = the word of flags, and no buffer. Every word is fine. What each function does.
use Rattle.std.specs.Prelude.{◌≡◌, Bool, true, List, [], ℕ, ◌<◌, ◌≤◌, leb, ℤ, pos, length, get_or, slice_index_or, slice_set, Result, MatchResult}
use Rattle.thread.specs.declared.Errno.{Errno}
use Rattle.thread.specs.declared.Errno.TheVariants.{EINVAL}
use Rattle.store.specs.Store.{Decided, Place, Did, looks, Started}
use Rattle.event.specs.Event.{masked, post, set, set_masked, clear, any_there, all_there, told, waits}

abbrev pub place : Place ℕ
place = record { words = 1; size = λ h. 0; object = λ h b. get_or h 0 0; formed = λ h b. leb 1 (length h) }

-- no flag is there
abbrev pub Starts : List ℕ → ℤ → List ℕ → Type 0
Starts h r h' = Started place true 0 h [] r h' []

-- these flags are there too
abbrev pub Posts : ℕ → List ℕ → ℤ → List ℕ → Type 0
Posts new h r h' = Did place (post new) h [] r h' []

-- these are there, and no others
abbrev pub Sets : ℕ → List ℕ → ℤ → List ℕ → Type 0
Sets new h r h' = Did place (set new) h [] r h' []

-- of the flags of the mask these are there, and the others stay
abbrev pub SetsMasked : ℕ → ℕ → List ℕ → ℤ → List ℕ → Type 0
SetsMasked new mask h r h' = Did place (set_masked new mask) h [] r h' []

-- these are gone
abbrev pub Clears : ℕ → List ℕ → ℤ → List ℕ → Type 0
Clears gone h r h' = Did place (clear gone) h [] r h' []

-- the flags before a change and after it, which the change P allows
abbrev pub Changed : (ℕ → ℕ → Type 0) → List ℕ → Result (ℕ × ℕ) Errno → List ℕ → Type 0
Changed P h r h' =
    MatchResult r (λ e. (1 ≤ length h) × (e.0 ≡ slice_index_or h 0 0) × P e.0 e.1 × (h' ≡ slice_set h 0 e.1)) (λ x. (length h < 1) × (x ≡ EINVAL) × (h' ≡ h))

-- whether one desired flag is there, and whether each is
abbrev pub ChecksAny : ℕ → List ℕ → ℤ → Type 0
ChecksAny desired h r = r ≡ looks place (λ e. told (any_there desired e)) h []

abbrev pub ChecksAll : ℕ → List ℕ → ℤ → Type 0
ChecksAll desired h r = r ≡ looks place (λ e. told (all_there desired e)) h []

abbrev pub GetsEvents : List ℕ → ℤ → Type 0
GetsEvents h r = r ≡ looks place (λ e. pos e) h []

-- ---- on plain numbers

-- whether a wait is over, and the flags for which it is
abbrev pub WaitDecided : ℕ → ℕ → ℕ → Bool → ℕ → ℤ → ℕ → Type 0
WaitDecided e desired type no_wait n r n' = Decided (waits e desired type no_wait) n r n'

-- the flags after a post
abbrev pub PostDecided : ℕ → ℕ → ℕ → ℕ → Type 0
PostDecided e new mask r = r ≡ masked new mask e
