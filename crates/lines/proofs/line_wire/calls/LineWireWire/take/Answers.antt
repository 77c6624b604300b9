use Rattle.std.proofs.Common.{◌≡◌, get_or, refl, arith}
use Rattle.std.proofs.lemmas.Bool.{cond_below}
use Rattle.queue.specs.Contents.{contents, rest, vacant}
use Rattle.wires.proofs.Calls.{accepted}
use Rattle.lines.specs.LineWire.{places_of}
use Rattle.lines.proofs.Queues.{line_changed}
use Rattle.lines.proofs.line_wire.calls.LineWireWire.take.Goals as goal

pub returns-clause-after : goal.returns-clause-after
returns-clause-after g c =
    let w = c.args.self.now in
    let s = c.args.station in
    let on = accepted w.roll s s c.in_ok-at.at c.in_ok-at.ensures in
    let less : contents c.pop.new.self (places_of w.places.items s) ≡ rest (contents (get_or w.queues s vacant) (places_of w.places.items s)) =
    cc (c.deref.ensures.value, c.part.ensures.start, c.part.ensures.end, c.pop.ensures.after, on.1) in
    grind (arith, cond_below, line_changed w.roll w.queues w.places.items w.places.items s c.pop.new.self rest on.0 (omega (arith, w.few)) less (λ _ _. refl))
