use Rattle.std.proofs.Common.{◌≡◌, ◌+◌, [], length}
use Rattle.wires.specs.Calls.{cleared}
use Rattle.wire_laws.proofs.drain.Given as goal

-- emptying the line now comes to the same as at the start, the frames taken and those left are all, and an empty line leaves the wire as it was
abbrev pub invariant-loop-frames : goal.invariant-loop-frames
invariant-loop-frames g l = record {
  roll : (g.W.Wire.lines l.wire).roll ≡ (g.W.Wire.lines l.initial.wire).roll;
  all : cleared (g.W.Wire.lines l.wire) l.station ≡ cleared (g.W.Wire.lines l.initial.wire) l.station;
  many : l.frames + length ((g.W.Wire.lines l.wire).at l.station) ≡ length ((g.W.Wire.lines l.initial.wire).at l.station);
  same : (g.W.Wire.lines l.initial.wire).at l.station ≡ [] → l.wire ≡ l.initial.wire;
}

abbrev pub decreases-loop-frames : goal.decreases-loop-frames
decreases-loop-frames g l = length ((g.W.Wire.lines l.wire).at l.station)
