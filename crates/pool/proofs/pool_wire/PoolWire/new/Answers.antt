use Rattle.std.proofs.Common.{ap, arith}
use Rattle.std.proofs.lemmas.Grind.{common_steps}
use Rattle.wires.proofs.Changes.{with_at}
use Rattle.wires.proofs.Made.{pool_made}
use Rattle.pool.specs.Pool.{line_of}
use Rattle.pool.proofs.pool_wire.PoolWire.new.Goals as goal

pub overflow_cast-result : goal.overflow_cast-result
overflow_cast-result g c = grind (arith, common_steps, pool_made)

pub invariant_of-result : goal.invariant_of-result
invariant_of-result g c = grind (arith, common_steps, pool_made)

pub returns : goal.returns
returns g c =
    let h = c.in_ok-places.ensures in
    (grind (arith, common_steps), with_at c.args.roll (λ s. ap (line_of s) c.clear.ensures.items))
