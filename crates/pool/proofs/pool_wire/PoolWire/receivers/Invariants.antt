use Rattle.std.proofs.Common.{◌≡◌, ℕ, ◌^◌, ◌<◌}
use Rattle.vote.specs.Mask.{has}
use Rattle.pool.specs.Pool.{receives}
use Rattle.pool.proofs.pool_wire.PoolWire.receivers.Given as goal

-- the stations looked at so far that receive the frame
abbrev pub invariant-loop-station : goal.invariant-loop-station
invariant-loop-station g l = record { each : (t : ℕ) → has l.set t ≡ receives l.station l.self.pool.items l.sender t; bound : l.set < 2 ^ l.self.roll }
