use Rattle.station.proofs.ByCalls.{by_calls}
use Rattle.station.proofs.laws.turn_by_calls.Goals as goal

pub returns : goal.returns
returns c = by_calls
