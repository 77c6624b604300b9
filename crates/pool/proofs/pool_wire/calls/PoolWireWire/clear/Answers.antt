use Rattle.std.proofs.Common.{◌≡◌, ◌+◌, ◌<◌, length, is_some, ap, ◌∙◌, sym, arith}
use Rattle.queue.specs.Contents.{rest}
use Rattle.wires.specs.Lines.{Lines}
use Rattle.wires.specs.Calls.{cleared}
use Rattle.wires.proofs.Calls.{accepted, taken_here, taken_roll, cleared_taken, taken_empty, one_less, none_left}
use Rattle.pool.specs.PoolWire.{pool_lines}
use Rattle.pool.proofs.pool_wire.calls.PoolWireWire.clear.Goals as goal

pub loop-smaller : goal.loop-smaller
loop-smaller g c =
    let v = pool_lines c.loop.self in
    let s = c.args.station in
    let known = accepted c.args.self.now.roll s s c.in_ok-on_roll.field-0 c.in_ok-on_roll.ensures in
    let on : s < v.roll = omega (arith, known.0, c.loop.invariant.roll) in
    let left = ap (λ (u : Lines g.row.T.Denot). length (u.at s)) c.remove_oldest.ensures.after ∙ ap length (taken_here v s on) in
    let less : length (rest (v.at s)) + 1 ≡ length (v.at s) = one_less (v.at s) (ap is_some (sym c.remove_oldest.ensures.value) ∙ sym c.is_some.ensures ∙ c.loop-test.true) in
    omega (arith, left, less)

pub loop-preserved : goal.loop-preserved
loop-preserved g c =
    let v = pool_lines c.loop.self in
    let s = c.args.station in
    record {
      roll = ap (λ (u : Lines g.row.T.Denot). u.roll) c.remove_oldest.ensures.after ∙ taken_roll v s ∙ c.loop.invariant.roll;
      all = ap (λ (u : Lines g.row.T.Denot). cleared u s) c.remove_oldest.ensures.after ∙ cleared_taken v s ∙ c.loop.invariant.all;
    }

pub returns-clause-after : goal.returns-clause-after
returns-clause-after g c =
    let v = pool_lines c.loop.self in
    let s = c.args.station in
    let none = none_left (v.at s) (ap is_some (sym c.remove_oldest.ensures.value) ∙ sym c.is_some.ensures ∙ c.loop-test.false) in
    c.remove_oldest.ensures.after ∙ taken_empty v s none ∙ c.loop.invariant.all
