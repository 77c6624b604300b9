-- The lines that a pool of frames stands for. Assumes nothing.
use Rattle.std.specs.Prelude.{◌≡◌, ℕ, ◌^◌, ◌<◌, ◌≤◌, Bool, true, cond, not, ◌&&◌, List, [], ◌∷◌, length, take, ◌==◌, nat_lt, slice_index_or}
use Rattle.std.specs.List.{All}
use Rattle.protocol.specs.Limits.{line_places}
use Rattle.vote.specs.Mask.{has}
use Rattle.pool.specs.declared.place.Place.{Place}

-- the frames that wait for station s
abbrev pub line_of : {T : Type 0} → ℕ → List (Place T) → List T
line_of s [] = []
line_of s (p ∷ ps) = cond (has p.waits s) (p.frame ∷ line_of s ps) (line_of s ps)

-- the frame at i waits for station s, and none before it does
pub record First {T : Type 0} (s : ℕ) (ps : List (Place T)) (i : ℕ) : Type 0 where
  pub within : i < length ps
  pub waits : (d : Place T) → has (slice_index_or ps i d).waits s ≡ true
  pub before : line_of s (take i ps) ≡ []

-- what holds of a pool: each place waits for a station, and for none that is not on the roll, and no line has more than 32 frames
abbrev pub Busy : {T : Type 0} → List (Place T) → Type 0
Busy ps = All (λ p. 0 < p.waits) ps

abbrev pub Listed : {T : Type 0} → ℕ → List (Place T) → Type 0
Listed roll ps = All (λ p. p.waits < 2 ^ roll) ps

abbrev pub Short : {T : Type 0} → List (Place T) → Type 0
Short ps = (s : ℕ) → length (line_of s ps) ≤ line_places

-- whether a frame of this sender is put in line for station t, of the stations below k
abbrev pub receives : {T : Type 0} → ℕ → List (Place T) → ℕ → ℕ → Bool
receives k ps sender t = (nat_lt t k && not (t == sender)) && nat_lt (length (line_of t ps)) line_places
