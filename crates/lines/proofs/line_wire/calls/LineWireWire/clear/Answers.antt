use Rattle.std.proofs.Common.{[], refl, arith}
use Rattle.std.proofs.lemmas.Bool.{cond_below}
use Rattle.queue.proofs.Turns.{contents_cleared}
use Rattle.wires.proofs.Calls.{accepted}
use Rattle.lines.specs.LineWire.{places_of}
use Rattle.lines.proofs.Queues.{line_changed}
use Rattle.lines.proofs.line_wire.calls.LineWireWire.clear.Goals as goal

pub returns-clause-after : goal.returns-clause-after
returns-clause-after g c =
    let w = c.args.self.now in
    let s = c.args.station in
    let on = accepted w.roll s s c.in_ok-at.at c.in_ok-at.ensures in
    let none = contents_cleared c.clear.new.self (places_of w.places.items s) c.clear.ensures in
    grind (arith, cond_below, line_changed w.roll w.queues w.places.items w.places.items s c.clear.new.self (λ _. []) on.0 (omega (arith, w.few)) none (λ _ _. refl))
