use Rattle.std.proofs.Common.{◌≡◌}
use Rattle.wires.specs.Calls.{offered_below}
use Rattle.lines.specs.LineWire.{line_lines}
use Rattle.lines.proofs.line_wire.calls.LineWireWire.post.Given as goal

abbrev pub invariant-loop-station : goal.invariant-loop-station
invariant-loop-station g l = line_lines l.self ≡ offered_below (line_lines l.initial.self) l.station l.sender l.frame
