use Rattle.std.proofs.Common.{ap, ◌∙◌}
use Rattle.wires.specs.Lines.{Lines}
use Rattle.wires.specs.Calls.{changed, offering}
use Rattle.lines.specs.LineWire.{line_lines}
use Rattle.lines.proofs.Posts.{below_more, below_sender}
use Rattle.lines.proofs.line_wire.calls.LineWireWire.post.Goals as goal
use Rattle.lines.proofs.line_wire.calls.LineWireWire.post.Goals.{then-station-sender, else-station-sender}

pub loop-station-preserved : goal.loop-station-preserved
loop-station-preserved g c =
    let start : Lines g.row.T.Denot = line_lines c.args.self.now in
    elim c.if-station-sender.branch [
      | then-station-sender w ↦ ap line_lines w.self-is ∙ w.offer.ensures
          ∙ ap (λ (v : Lines g.row.T.Denot). changed v c.loop-station.station (offering c.args.frame)) c.loop-station.invariant
          ∙ below_more start c.args.sender c.args.frame c.loop-station.station w.if-station-sender.true
      | else-station-sender w ↦ ap line_lines w.self-is ∙ c.loop-station.invariant
          ∙ below_sender start c.args.sender c.args.frame c.loop-station.station w.if-station-sender.false
    ]
