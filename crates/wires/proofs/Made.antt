-- What a wire that is not refused may count on. Assumes nothing.
use Rattle.std.proofs.Common.{◌≡◌, ℕ, ◌*◌, ◌≤◌, None, arith}
use Rattle.std.proofs.lemmas.Bool.Decides.{nat_tests}
use Rattle.protocol.specs.Limits.{line_places, max_stations, pool_places}
use Rattle.wires.specs.Making.{wire_refused, lines_refused, pool_refused}

wire_made : (n needed lent : ℕ) → wire_refused n needed lent ≡ None → (1 ≤ n) × (n ≤ max_stations) × (needed ≤ lent)
wire_made n needed lent e = (grind (arith, nat_tests), grind (arith, nat_tests), grind (arith, nat_tests))

pub lines_made : (n lent : ℕ) → lines_refused n lent ≡ None → (1 ≤ n) × (n ≤ max_stations) × (n * line_places ≤ lent)
lines_made n lent e = wire_made n (n * line_places) lent e

pub pool_made : (n lent : ℕ) → pool_refused n lent ≡ None → (1 ≤ n) × (n ≤ max_stations) × (pool_places ≤ lent)
pool_made n lent e = wire_made n pool_places lent e
