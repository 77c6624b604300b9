-- A frame put in line for the stations that receive it: the place that it takes, and the lines after it. Assumes nothing.
use Rattle.std.proofs.Common.{◌≡◌, ℕ, ◌^◌, ◌<◌, ◌≤◌, cond, not, ◌&&◌, eqb, ltb, List, [], ◌∷◌, ◌++◌, length, arith}
use Rattle.std.proofs.lemmas.Bool.Decides.{nat_tests}
use Rattle.std.proofs.lemmas.List.{append-nil}
use Rattle.protocol.specs.Limits.{line_places, max_stations, pool_places}
use Rattle.vote.specs.Mask.{has}
use Rattle.vote.specs.Masks.{has_none, has_some}
use Rattle.wires.specs.Calls.{offering}
use Rattle.wires.proofs.Calls.{offering_short}
use Rattle.pool.specs.Pool.{line_of, receives, Busy, Listed, Short}
use Rattle.pool.specs.declared.place.Place.{Place}
use Rattle.pool.specs.Pools.{line_append}
use Rattle.pool.proofs.Room.{room_left}

module _ {T : Type 0} (roll sender : ℕ) (ps : List (Place T)) (set : ℕ) (each : (t : ℕ) → has set t ≡ receives roll ps sender t) where
  -- a place is left where some station receives the frame
  pub place_left : roll ≤ max_stations → Busy ps → Listed roll ps → Short ps → set < 2 ^ roll → 0 < set → length ps < pool_places
  place_left few busy listed short below some =
      let m = has_some roll set below some in
      let room : length (line_of m.0 ps) < line_places = grind (arith, nat_tests, each m.0, m.2) in
      room_left roll m.0 ps few busy listed short m.1 room

  -- no station has room
  pub pool_same : (f : T) → set ≡ 0 → (t : ℕ) → line_of t ps ≡ cond (ltb t roll && not (eqb t sender)) (offering f (line_of t ps)) (line_of t ps)
  pool_same f none t = grind (arith, nat_tests, each t, has_none t)

  -- the pool with the frame at its end
  module _ (f : T) (qs : List (Place T)) (is : qs ≡ ps ++ record { frame = f; waits = set } ∷ []) where
    pub pool_posted : (t : ℕ) → line_of t qs ≡ cond (ltb t roll && not (eqb t sender)) (offering f (line_of t ps)) (line_of t ps)
    pool_posted t = grind (arith, nat_tests, is, each t, line_append t ps (record { frame = f; waits = set } ∷ []), append-nil (line_of t ps))

    pub posted_short : Short ps → Short qs
    posted_short short t = grind (arith, nat_tests, pool_posted t, short t, offering_short f (line_of t ps))
