use Rattle.station.specs.Meaning.{core}
use Rattle.station.proofs.Soundness.{known_sound}
use Rattle.station.proofs.station.Station.peer.Goals as goal

pub returns-clause-bound : goal.returns-clause-bound
returns-clause-bound g c =
    let s = c.args.self.now in
    known_sound (core s) s.sound c.args.s
