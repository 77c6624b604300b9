-- When a wire is not made, and why. Assumes nothing.
use Rattle.std.specs.Prelude.{ℕ, ◌*◌, cond, Some, None, Option, nat_lt}
use Rattle.protocol.specs.Limits.{roll_fits, line_places, pool_places}
use Rattle.protocol.specs.declared.refusal.Refusal.{Refusal}
use Rattle.protocol.specs.declared.refusal.Refusal.TheVariants.{RollSize, TooFewPlaces}

-- the refusal of a wire for n stations that needs so many places and is lent so many, if any
abbrev pub wire_refused : ℕ → ℕ → ℕ → Option Refusal
wire_refused n needed lent = cond (roll_fits n) (cond (nat_lt lent needed) (Some TooFewPlaces) None) (Some RollSize)

-- a wire that keeps a line for each station needs the places of n lines
abbrev pub lines_refused : ℕ → ℕ → Option Refusal
lines_refused n lent = wire_refused n (n * line_places) lent

-- a wire that keeps each frame once needs the places of a pool
abbrev pub pool_refused : ℕ → ℕ → Option Refusal
pool_refused n lent = wire_refused n pool_places lent
