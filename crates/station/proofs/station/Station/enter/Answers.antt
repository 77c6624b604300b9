use Rattle.std.proofs.Common.{List, ap, ◌∙◌}
use Rattle.journal.specs.declared.peer.Peer.{Peer}
use Rattle.journal.specs.declared.state.State.TheVariants.{Joining}
use Rattle.journal.specs.Core.{with_state, with_peers}
use Rattle.journal.specs.Members.{member_core}
use Rattle.journal.specs.Settle.{settle}
use Rattle.station.proofs.Growth.{stays_sound}
use Rattle.station.proofs.TakingGrows.{grown_entered}
use Rattle.station.proofs.station.Station.enter.Goals as goal

pub invariant_of-self-3 : goal.invariant_of-self-3
invariant_of-self-3 g c =
    let s = c.args.self.now in
    let m = member_core s.member in
    record {
      sound = stays_sound m _ _ (grown_entered m)
          (c.settle.ensures.station ∙ ap (λ (ps : List Peer). settle (with_state Joining (with_peers ps m))) c.clear_wishes.ensures) s.sound;
    }
