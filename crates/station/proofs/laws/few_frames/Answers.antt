use Rattle.station.proofs.Counting.{few_turn}
use Rattle.station.proofs.laws.few_frames.Goals as goal

pub returns : goal.returns
returns c = few_turn
