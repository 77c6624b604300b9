use Rattle.std.proofs.Common.{◌≡◌, ◌+◌, drop}
use Rattle.vote.specs.Majority.{weight}
use Rattle.vote.proofs.weights.weigh.Given as goal

abbrev pub invariant-loop-w : goal.invariant-loop-w
invariant-loop-w l = l.sum + weight (drop l.w-index l.weights) l.rest ≡ weight l.weights l.mask
