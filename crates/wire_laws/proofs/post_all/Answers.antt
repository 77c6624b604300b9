use Rattle.std.proofs.Common.{arith}
use Rattle.std.proofs.lemmas.Grind.{common_steps}
use Rattle.std.proofs.lemmas.List.{drop_more, drop_all}
use Rattle.wires.specs.Calls.{posted_all}
use Rattle.wires.proofs.Calls.{posted_roll}
use Rattle.wire_laws.proofs.Sequences.{posted_all_off, posted_order}
use Rattle.wire_laws.proofs.post_all.Goals as goal

pub returns-in_err-count-clause-after : goal.returns-in_err-count-clause-after
returns-in_err-count-clause-after g c = grind (arith, common_steps, posted_all_off)

pub loop-frame-preserved : goal.loop-frame-preserved
unfolding posted_all
loop-frame-preserved g c = record { roll = grind (arith, common_steps, posted_roll); all = grind (arith, common_steps, drop_more) }

pub returns-clause-after : goal.returns-clause-after
unfolding posted_all
returns-clause-after g c = grind (arith, common_steps, drop_all)

pub returns-clause-order : goal.returns-clause-order
returns-clause-order g c = λ on t in_roll apart.
    let order = posted_order c.args.frames.now (g.W.Wire.lines c.args.wire.now) c.args.sender t on in_roll apart ((g.met.W.Wire.sound c.args.wire.now).short t) in
    grind (arith, common_steps, returns-clause-after g c, order)
