-- When a voting rule is not made, and why. Assumes nothing.
use Rattle.std.specs.Prelude.{ℕ, Bool, true, cond, ◌&&◌, List, [], ◌∷◌, length, Some, None, Option, nat_le, nat_lt}
use Rattle.protocol.specs.declared.refusal.Refusal.{Refusal}
use Rattle.protocol.specs.declared.refusal.Refusal.TheVariants.{RollSize, WeightRange}
use Rattle.protocol.specs.Limits.{roll_fits, max_weight}
use Rattle.vote.specs.Majority.{total}

-- no weight is over 100
abbrev pub each_fits : List ℕ → Bool
each_fits [] = true
each_fits (w ∷ ws) = nat_le w max_weight && each_fits ws

-- no weight is over 100, and not all are 0
abbrev pub weights_fit : List ℕ → Bool
weights_fit ws = each_fits ws && nat_lt 0 (total ws)

-- the refusal of a rule by heads over n stations, if any
unfoldable pub heads_refused : ℕ → Option Refusal
heads_refused n = cond (roll_fits n) None (Some RollSize)

-- the refusal of a rule by these weights, one for each station, if any: the roll's size comes before the weights
unfoldable pub weights_refused : List ℕ → Option Refusal
weights_refused ws = cond (roll_fits (length ws)) (cond (weights_fit ws) None (Some WeightRange)) (Some RollSize)
