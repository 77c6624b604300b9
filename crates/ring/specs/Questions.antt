-- What a ring answers about its stations. Assumes nothing.
use Rattle.std.specs.Prelude.{ℕ, length, Some, None, Ok, Err, Option, Result}
use Rattle.std.specs.List.{slice_get}
use Rattle.protocol.specs.declared.refusal.Refusal.{Refusal}
use Rattle.protocol.specs.declared.refusal.Refusal.TheVariants.{NotOnRoll}
use Rattle.station.specs.Model.{Model}
use Rattle.runs.specs.Rings.{Ring, line}

module _ {S A : Type 0} where
  -- f of a station, or the refusal of one that is not on the roll
  abbrev pub of_station : (Model S → A) → Option (Model S) → Result A Refusal
  of_station f None = Err NotOnRoll
  of_station f (Some x) = Ok (f x)

  -- f of station s
  abbrev pub asked : Ring S → ℕ → (Model S → A) → Result A Refusal
  asked r s f = of_station f (slice_get r.stations s)

module _ {S : Type 0} where
  -- how many frames wait for station s
  abbrev pub frames_for : Ring S → ℕ → Model S → ℕ
  frames_for r s x = length (line r s)
