-- What holds of a pipe where threads wait, after any events: nobody is overtaken, and nobody waits for ever.
use Rattle.std.specs.Prelude.{◌≡◌, Bool, true, false, List, [], ◌∷◌, ◌++◌, ℕ, zero, suc, ◌+◌, ◌≤◌, ◌<◌, length, take}
use Rattle.seq.specs.List.{All}
use Rattle.thread.specs.Code.{epipe, ecanceled}
use Rattle.store.specs.Store.{refuse, left, settled}
use Rattle.pipe.specs.Pipe.{Pipe, reset, close}
use Rattle.pipe.specs.HandOver.{used}
use Rattle.pipe.specs.Waiting.{Waited, Try, writing, reading, entering, tries, decides_write, decides_read, decision, happens}

abbrev pub joined : List (List ℕ) → List ℕ
joined [] = []
joined (l ∷ ls) = l ++ joined ls

-- as many writes, and of each the first bytes: one at least
abbrev pub Cut : List (List ℕ) → List (List ℕ) → Type 0
Cut [] [] = Unit {0}
Cut [] (y ∷ ys) = ⊥
Cut (x ∷ xs) [] = ⊥
Cut (x ∷ xs) (y ∷ ys) = ((x ≡ take (length x) y) × (0 < length x)) × Cut xs ys

-- of the reads b, those that were handed bytes, each some and no more than it asked for, and then those that wait, w
abbrev pub Fed : List ℕ → List ℕ → List ℕ → Type 0
Fed [] w b = w ≡ b
Fed (n ∷ ns) w [] = ⊥
Fed (n ∷ ns) w (a ∷ b) = ((0 < n) × (n ≤ a)) × Fed ns w b

pub record Fair (c : ℕ) (s : Waited) : Type 0 where
  pub size : s.pipe.ring.capacity ≡ c
  pub under : used s.pipe ≤ c
  -- nobody waits at a pipe that is closed or resetting
  pub live : 0 < length s.readers + length s.writers → (s.pipe.opened ≡ true) × (s.pipe.resetting ≡ false)
  -- whoever waits wants something
  pub asks : All (λ (n : ℕ). 0 < n) s.readers
  pub offers : All (λ (l : List ℕ). 0 < length l) s.writers
  -- a reader waits only if nothing is held; a writer only if there is no room, or writers are being let in
  pub no_byte : 0 < length s.readers → s.pipe.ring.held ≡ []
  pub no_room : 0 < length s.writers → s.letting ≡ false → used s.pipe ≡ c
  -- what came out, then what is held, is what went in, each byte once, in order
  pub line : s.books.got ++ s.pipe.ring.held ≡ joined s.books.went
  -- what went in, then what the writers still offer, are the writes in the order in which they were called, each with the bytes that it was told
  pub order : Cut (s.books.went ++ s.writers) s.books.called
  -- readers that wait are served in the order in which they came
  pub turns : Fed s.books.fed s.readers s.books.begged

-- a write while no writer waits, or another try: the pipe then holds as many bytes as the decision says, and as many as before if it is refused
abbrev pub Counts : Try → Waited → Type 0
Counts e s = used (happens s (tries e)).pipe ≡ settled (λ m. m.used) (decision e s) (used s.pipe)

pub record Counted (s : Waited) : Type 0 where
  pub writing : (l : List ℕ) (k : Bool) → s.writers ≡ [] → Counts (writing l k) s
  pub reading : (n : ℕ) (k : Bool) → Counts (reading n k) s
  pub entering : Counts entering s

-- whoever waited at a pipe that is reset or closed is refused: this is what each would be told if it asked again, whoever waits
pub record Ended (p : Pipe) : Type 0 where
  pub reset_write : (n : ℕ) (w : Bool) → decides_write (left (reset p) p) n w ≡ refuse ecanceled
  pub reset_read : (n : ℕ) (w : Bool) → decides_read (left (reset p) p) n w ≡ refuse ecanceled
  pub close_write : (n : ℕ) (w : Bool) → decides_write (left (close p) p) n w ≡ refuse epipe
  pub close_read : (n : ℕ) (w : Bool) → 0 < n → p.ring.held ≡ [] → decides_read (left (close p) p) n w ≡ refuse epipe

-- ---- nobody waits for ever

-- a reader and a writer wait together only while writers are let in: neither waits for the other
abbrev pub NotBoth : Waited → Type 0
NotBoth s = 0 < length s.readers → 0 < length s.writers → s.letting ≡ true

-- if a reader waits and no writer does, the next write serves the first: it is handed a byte at least, and no more than it asks for
pub record Serves (s : Waited) (l : List ℕ) (a : ℕ) (r : List ℕ) : Type 0 where
  pub told : ℕ
  pub some : 0 < told
  pub few : told ≤ a
  pub readers : (k : Bool) → (happens s (tries (writing l k))).readers ≡ r
  pub went : (k : Bool) → (happens s (tries (writing l k))).books.went ≡ s.books.went ++ take told l ∷ []

-- if a writer waits and there is room, the next try lets the first in, with a byte at least
pub record Enters (s : Waited) (w : List ℕ) (ws : List (List ℕ)) : Type 0 where
  pub told : ℕ
  pub some : 0 < told
  pub few : told ≤ length w
  pub writers : (happens s (tries entering)).writers ≡ ws
  pub went : (happens s (tries entering)).books.went ≡ s.books.went ++ take told w ∷ []

-- a whole read: then writers are let in, as often as one waits
abbrev pub lets : ℕ → Waited → Waited
lets zero s = s
lets (suc n) s = lets n (happens s (tries entering))

-- then a writer waits only if there is no room
abbrev pub Settled : ℕ → Waited → Type 0
Settled c s = 0 < length s.writers → used s.pipe ≡ c
