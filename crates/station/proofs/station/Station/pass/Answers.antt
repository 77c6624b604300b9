use Rattle.journal.specs.Members.{member_core}
use Rattle.station.proofs.Growth.{stays_sound}
use Rattle.station.proofs.TurningGrows.{grown_pass}
use Rattle.station.proofs.station.Station.pass.Goals as goal

pub invariant_of-self : goal.invariant_of-self
invariant_of-self g c =
    let s = c.args.self.now in
    let m = member_core s.member in
    record { sound = stays_sound m _ _ (grown_pass c.args.token m) c.pass.ensures.turn.done.station s.sound }
