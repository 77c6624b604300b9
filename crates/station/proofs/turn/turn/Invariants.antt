use Rattle.std.proofs.Common.{◌≡◌}
use Rattle.journal.specs.Members.{member_core}
use Rattle.turning.specs.Calls.{waiting}
use Rattle.station.proofs.Sayings.{ends}
use Rattle.station.proofs.turn.turn.Given as goal

-- what is left to say comes to the same, at the same station
abbrev pub invariant-loop-more : goal.invariant-loop-more
invariant-loop-more g l =
    let L = g.W.Wire.lines in
    let H = g.J.Journal.home in
    let s = l.initial.member.status.me in record {
      me : l.member.status.me ≡ s;
      firm : l.member.status.firm ≡ l.initial.member.status.firm;
      home : H l.member.journal ≡ H l.initial.member.journal;
      rest : ends s l.token (waiting l.outbox) (member_core l.member) (L l.wire)
          ≡ ends s l.initial.token (waiting l.initial.outbox) (member_core l.initial.member) (L l.initial.wire);
    }

abbrev pub decreases-loop-more : goal.decreases-loop-more
decreases-loop-more g l = l.token.left
