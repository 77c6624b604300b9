use Rattle.std.proofs.Common.{ap, ◌∙◌, take, arith}
use Rattle.std.proofs.lemmas.Bool.Decides.{nat_tests}
use Rattle.vote.specs.Refused.{weights_refused}
use Rattle.vote.proofs.weights.Weights.new.Goals as goal

pub returns-in_err-stations : goal.returns-in_err-stations
unfolding weights_refused
returns-in_err-stations c = let h = c.in_err-stations.ensures in let k = c.from_residual.ensures in grind (arith, nat_tests)

pub returns-in-Some : goal.returns-in-Some
unfolding weights_refused
returns-in-Some c =
    let n = c.in_ok-stations.ensures in
    let h = c.checked_sum.ensures in
    (grind (arith, nat_tests), ap (λ k. take k c.padded.result) (omega (arith, n.1)) ∙ c.padded.ensures)

pub returns-in_default : goal.returns-in_default
unfolding weights_refused
returns-in_default c = let n = c.in_ok-stations.ensures in let h = c.checked_sum.ensures in grind (arith, nat_tests)

pub returns-in_default-2 : goal.returns-in_default-2
unfolding weights_refused
returns-in_default-2 c = let n = c.in_ok-stations.ensures in let h = c.checked_sum.ensures in grind (arith, nat_tests)
