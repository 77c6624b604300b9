use Rattle.std.proofs.Common.{ℕ, List, refl, ap, ◌∙◌}
use Rattle.protocol.specs.declared.frame.Frame.TheVariants.{Heartbeat, Join}
use Rattle.journal.specs.Core.{with_peers}
use Rattle.journal.specs.Members.{member_core}
use Rattle.journal.specs.Settle.{settle}
use Rattle.journal.specs.declared.peer.Peer.{Peer}
use Rattle.journal.specs.declared.state.State.{State}
use Rattle.turning.specs.Calls.{pass_as}
use Rattle.turning.proofs.Posting.{unsaid, ruled}
use Rattle.turning.proofs.Calling.{posted_frame}
use Rattle.turning.proofs.token.passing.pass_on.Goals as goal

pub returns-in-Running-clause-turn : goal.returns-in-Running-clause-turn
returns-in-Running-clause-turn g c =
    let m = member_core c.args.member.now in
    let E = g.J.Journal in
    ruled (ap (λ (s : State). pass_as s m) c.in-Running.is) (record {
      done = record {
        station = c.settle.ensures.station ∙ ap (λ (ps : List Peer). settle (with_peers ps m)) c.clear_marks.ensures;
        lines = posted_frame m.me _ _ (g.W.Wire.lines c.args.wire.now) _ (ap (λ (i : ℕ × ℕ). Heartbeat m.me i) c.end-end.ensures) c.post.ensures.after;
      };
      home = ap E.home c.settle.ensures.journal;
    })

pub returns-in-Joining-clause-turn : goal.returns-in-Joining-clause-turn
returns-in-Joining-clause-turn g c =
    let m = member_core c.args.member.now in
    let E = g.J.Journal in
    ruled (ap (λ (s : State). pass_as s m) c.in-Joining.is) (record {
      done = record {
        station = c.settle-in-Joining.ensures.station;
        lines = posted_frame m.me _ _ (g.W.Wire.lines c.args.wire.now) _ (ap (λ (i : ℕ × ℕ). Join m.me i) c.end-end.ensures) c.post-in-Joining.ensures.after;
      };
      home = ap E.home c.settle-in-Joining.ensures.journal;
    })

pub returns-in-Out-clause-turn : goal.returns-in-Out-clause-turn
returns-in-Out-clause-turn g c =
    let m = member_core c.args.member.now in
    ruled (ap (λ (s : State). pass_as s m) c.in-Out.is) (record { done = unsaid _ m _; home = refl })
