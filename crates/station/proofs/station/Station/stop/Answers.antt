use Rattle.journal.specs.declared.state.State.TheVariants.{Out}
use Rattle.journal.specs.declared.state.Cause.TheVariants.{Stopped}
use Rattle.journal.specs.Members.{member_core}
use Rattle.station.proofs.Growth.{restated}
use Rattle.station.proofs.station.Station.stop.Goals as goal

pub invariant_of-self : goal.invariant_of-self
invariant_of-self g c =
    let s = c.args.self.now in
    let m = s.member in
    ((m.status.on_roll, (m.status.few, tt)), (m.settled, tt), ((restated (Out Stopped) (member_core m)).sound s.sound, tt))
