use Rattle.journal.specs.Members.{member_core}
use Rattle.station.proofs.Growth.{stays_sound}
use Rattle.station.proofs.TakingGrows.{grown_taken}
use Rattle.station.proofs.station.Station.take.Goals as goal

pub invariant_of-self : goal.invariant_of-self
invariant_of-self g c =
    let s = c.args.self.now in
    let m = member_core s.member in
    record { sound = stays_sound m _ _ (grown_taken (g.R.VotingRule.votes c.args.rule.now) c.args.frame.now m) c.take.ensures.member.core s.sound }
