use Rattle.std.proofs.lemmas.Bool.{true≢false}
use Rattle.journal.specs.declared.state.State.TheVariants.{Joining}
use Rattle.journal.specs.Core.{new_core, with_state, with_peers}
use Rattle.journal.specs.Settle.{view}
use Rattle.journal.specs.Peers.{new_peers, unwished}
use Rattle.taking.specs.Take.{received}
use Rattle.station.proofs.Knowing.{least_le}
use Rattle.station.proofs.Settling.{settled_now, settled_on, settled_turn}
use Rattle.station.proofs.laws.calls_settle.Goals as goal

pub returns : goal.returns
returns c = record {
  at_first = λ me roll _. least_le me (view (new_core me roll)) 0 new_peers 0;
  by_taking = λ vote f m. settled_on (received vote f m);
  by_turning = settled_turn;
  by_stopping = λ m e. absurd (true≢false e);
  by_entering = λ m. settled_now (with_state Joining (with_peers (unwished m.peers) m));
}
