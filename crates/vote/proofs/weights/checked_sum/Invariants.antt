use Rattle.std.proofs.Common.{◌≡◌, ◌+◌, ◌*◌, ◌≤◌, drop}
use Rattle.vote.specs.Majority.{total}
use Rattle.vote.specs.Refused.{each_fits}
use Rattle.vote.proofs.weights.checked_sum.Given as goal

abbrev pub invariant-loop-w : goal.invariant-loop-w
invariant-loop-w l =
    (l.sum + total (drop l.w-index l.weights) ≡ total l.weights)
    × (each_fits (drop l.w-index l.weights) ≡ each_fits l.weights)
    × (l.sum ≤ 100 * l.w-index)
