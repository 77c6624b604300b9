-- When a ring is not made over a wire and a voting rule. Assumes nothing.
use Rattle.std.specs.Prelude.{ℕ, cond, Some, None, Option, ◌==◌}
use Rattle.protocol.specs.declared.refusal.Refusal.{Refusal}
use Rattle.protocol.specs.declared.refusal.Refusal.TheVariants.{RollSize}

-- the refusal of a wire for so many stations and a rule for so many, if any: both speak of one roll
abbrev pub ring_refused : ℕ → ℕ → Option Refusal
ring_refused wired voting = cond (wired == voting) None (Some RollSize)
