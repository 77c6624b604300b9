use Rattle.std.proofs.Common.{arith}
use Rattle.pool.proofs.Room.{never_more, room_left}
use Rattle.pool.proofs.pool_wire.PoolWire.used.Goals as goal

pub returns : goal.returns
returns g c =
    let w = c.args.self.now in
    record {
      value = omega (arith, w.pool.ok.0);
      most = omega (arith, w.pool.ok.0, never_more w.roll w.pool.items w.few w.busy w.listed w.short);
      free = λ s on room. omega (arith, w.pool.ok.0, room_left w.roll s w.pool.items w.few w.busy w.listed w.short on room);
    }
