use Rattle.std.proofs.Common.{arith}
use Rattle.std.proofs.lemmas.Grind.{common_steps}
use Rattle.wires.proofs.Calls.{taken_roll, cleared_taken, taken_empty, one_less, none_left}
use Rattle.wire_laws.proofs.drain.Goals as goal

pub loop-frames-preserved : goal.loop-frames-preserved
loop-frames-preserved g c = grind (arith, common_steps, taken_roll, cleared_taken, one_less)

pub returns-clause-after : goal.returns-clause-after
returns-clause-after g c = grind (arith, common_steps, taken_empty, none_left)
