use Rattle.std.proofs.Common.{arith, pow_pos}
use Rattle.std.proofs.lemmas.Grind.{common_steps}
use Rattle.std.proofs.lemmas.Bool.Decides.{nat_tests}
use Rattle.vote.specs.Masks.{has_none, has_adding, adding_below}
use Rattle.pool.proofs.pool_wire.PoolWire.receivers.Goals as goal

pub loop-station-init : goal.loop-station-init
loop-station-init g c = record { each = λ t. grind (arith, nat_tests, has_none t); bound = pow_pos c.args.self.now.roll }

pub loop-station-preserved : goal.loop-station-preserved
loop-station-preserved g c =
    let k = c.loop-station.station in
    record {
      each = λ t. grind (arith, common_steps, nat_tests, c.loop-station.invariant.each t, has_adding c.loop-station.set k t);
      bound = grind (arith, common_steps, adding_below c.args.self.now.roll c.loop-station.set k);
    }
