use Rattle.journal.specs.declared.state.State.TheVariants.{Out}
use Rattle.journal.specs.declared.state.Cause.TheVariants.{Stopped}
use Rattle.station.proofs.Growth.{restated}
use Rattle.station.proofs.TakingGrows.{grown_taken, grown_entered}
use Rattle.station.proofs.TurningGrows.{grown_open_call, grown_said, grown_pass, grown_turn}
use Rattle.station.proofs.laws.calls_grow.Goals as goal

pub returns : goal.returns
returns c = record {
  by_taking = grown_taken;
  by_opening = grown_open_call;
  by_saying = grown_said;
  by_passing = grown_pass;
  by_turning = grown_turn;
  by_entering = grown_entered;
  by_stopping = restated (Out Stopped);
}
