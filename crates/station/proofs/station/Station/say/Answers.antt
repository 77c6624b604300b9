use Rattle.journal.specs.Members.{member_core}
use Rattle.turning.specs.Calls.{waiting}
use Rattle.station.proofs.Growth.{stays_sound}
use Rattle.station.proofs.TurningGrows.{grown_said}
use Rattle.station.proofs.station.Station.say.Goals as goal

pub invariant_of-self : goal.invariant_of-self
invariant_of-self g c =
    let s = c.args.self.now in
    let m = member_core s.member in
    record { sound = stays_sound m _ _ (grown_said c.args.token (waiting s.outbox) m) c.say.ensures.turn.done.station s.sound }
