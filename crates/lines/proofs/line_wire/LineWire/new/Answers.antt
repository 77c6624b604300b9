use Rattle.std.proofs.Common.{arith, vec_items}
use Rattle.std.proofs.lemmas.Grind.{common_steps}
use Rattle.wires.proofs.Made.{lines_made}
use Rattle.lines.proofs.Queues.{line_silent}
use Rattle.lines.proofs.line_wire.LineWire.new.Goals as goal

pub overflow_cast-result : goal.overflow_cast-result
overflow_cast-result g c = grind (arith, common_steps, lines_made)

pub invariant_of-result : goal.invariant_of-result
invariant_of-result g c = grind (arith, common_steps, lines_made)

pub returns : goal.returns
returns g c =
    let h = c.in_ok-places.ensures in
    (grind (arith, common_steps), line_silent c.args.roll c.new.result (vec_items c.in_ok-places.places) c.new.ensures)
