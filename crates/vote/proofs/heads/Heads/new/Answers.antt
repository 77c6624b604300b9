use Rattle.std.proofs.Common.{arith}
use Rattle.std.proofs.lemmas.Bool.Decides.{nat_tests}
use Rattle.vote.specs.Refused.{heads_refused}
use Rattle.vote.proofs.heads.Heads.new.Goals as goal

pub returns-in_err-stations : goal.returns-in_err-stations
unfolding heads_refused
returns-in_err-stations c = let h = c.in_err-stations.ensures in let k = c.from_residual.ensures in grind (arith, nat_tests)

pub returns : goal.returns
unfolding heads_refused
returns c = let h = c.in_ok-stations.ensures in (grind (arith, nat_tests), omega (arith, h.1))
