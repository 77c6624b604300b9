use Rattle.std.proofs.Common.{rules}
use Rattle.turning.specs.Round.{around}
use Rattle.turning.proofs.ring.station_after.Goals as goal

pub returns : goal.returns
unfolding around
returns c = search rules
