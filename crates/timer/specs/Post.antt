-- The timer in memory: h = how often it expired, its period, whether it runs. There is no buffer, and only a header that is too short is malformed.
-- What each function does.
use Rattle.std.specs.Prelude.{◌≡◌, true, List, [], ℕ, leb, ℤ, length, get_or}
use Rattle.store.specs.Store.{Decided, Place, Did, looks, Started}
use Rattle.timer.specs.Timer.{Timer, timer, expire_decide, start, stop, expire, status_get, count, ticks, runs, fresh}

abbrev pub place : Place Timer
place =
    record {
      words = 3;
      size = λ h. 0;
      object = λ h b. timer (get_or h 0 0) (get_or h 1 0) (get_or h 2 0);
      formed = λ h b. leb 3 (length h);
    }

-- ---- what each function does

-- a new timer of this period; it does not run
abbrev pub Starts : ℕ → List ℕ → ℤ → List ℕ → Type 0
Starts period h r h' = Started place true (fresh period) h [] r h' []

-- it runs, and has not expired
abbrev pub StartsRunning : List ℕ → ℤ → List ℕ → Type 0
StartsRunning h r h' = Did place start h [] r h' []

-- it does not run
abbrev pub Stops : List ℕ → ℤ → List ℕ → Type 0
Stops h r h' = Did place stop h [] r h' []

-- it expired once more
abbrev pub Expires : List ℕ → ℤ → List ℕ → Type 0
Expires h r h' = Did place expire h [] r h' []

-- how often it expired is told, and is 0 then
abbrev pub GetsStatus : List ℕ → ℤ → List ℕ → Type 0
GetsStatus h r h' = Did place status_get h [] r h' []

-- a number of a timer
abbrev pub PeeksStatus : List ℕ → ℤ → Type 0
PeeksStatus h r = r ≡ looks place count h []

abbrev pub GetsPeriod : List ℕ → ℤ → Type 0
GetsPeriod h r = r ≡ looks place ticks h []

abbrev pub SaysRunning : List ℕ → ℤ → Type 0
SaysRunning h r = r ≡ looks place runs h []

-- on plain numbers: how often it expired then, and whether it will again
abbrev pub ExpireDecided : ℕ → ℕ → ℕ → ℤ → ℕ → Type 0
ExpireDecided status period n r n' = Decided (expire_decide status period) n r n'
