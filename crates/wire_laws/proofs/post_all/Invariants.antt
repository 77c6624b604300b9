use Rattle.std.proofs.Common.{◌≡◌, drop}
use Rattle.wires.specs.Calls.{posted_all}
use Rattle.wire_laws.proofs.post_all.Given as goal

-- the roll is as it was, and what is left to post gives the whole
abbrev pub invariant-loop-frame : goal.invariant-loop-frame
invariant-loop-frame g l = record {
  roll : (g.W.Wire.lines l.wire).roll ≡ (g.W.Wire.lines l.initial.wire).roll;
  all : posted_all (g.W.Wire.lines l.wire) l.sender (drop l.frame-index l.frames) ≡ posted_all (g.W.Wire.lines l.initial.wire) l.sender l.frames;
}
