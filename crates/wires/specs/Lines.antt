-- What a wire means. Assumes nothing.
use Rattle.std.specs.Prelude.{◌≡◌, ℕ, ◌≤◌, List, [], length}
use Rattle.protocol.specs.Limits.{line_places, max_stations}

-- the number of stations, and the frames that wait for each of them, oldest first
pub record Lines (T : Type 0) : Type 0 where
  pub roll : ℕ
  pub at : ℕ → List T

-- what holds of every wire: 1 to 8 stations, at most 32 frames in a line, and none for a station that is not on the roll
pub record Sound {T : Type 0} (w : Lines T) : Type 0 where
  pub some : 1 ≤ w.roll
  pub few : w.roll ≤ max_stations
  pub short : (s : ℕ) → length (w.at s) ≤ line_places
  pub off : (s : ℕ) → w.roll ≤ s → w.at s ≡ []

-- no frame waits for any station
abbrev pub silent : {T : Type 0} → ℕ → Lines T
silent n = record { roll = n; at = λ _. [] }
