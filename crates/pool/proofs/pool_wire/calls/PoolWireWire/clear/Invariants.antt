use Rattle.std.proofs.Common.{◌≡◌, length}
use Rattle.wires.specs.Calls.{cleared}
use Rattle.pool.specs.PoolWire.{pool_lines}
use Rattle.pool.proofs.pool_wire.calls.PoolWireWire.clear.Given as goal

-- emptying the line now comes to the same as emptying it at the start
abbrev pub invariant-loop : goal.invariant-loop
invariant-loop g l = record { roll : l.self.roll ≡ l.initial.self.roll; all : cleared (pool_lines l.self) l.station ≡ cleared (pool_lines l.initial.self) l.station }

abbrev pub decreases-loop : goal.decreases-loop
decreases-loop g l = length ((pool_lines l.self).at l.station)
