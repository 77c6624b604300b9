use Rattle.std.proofs.Common.{◌*◌}
use Rattle.protocol.specs.Limits.{line_places, pool_places}
use Rattle.wires.specs.Look.{memory_refused, rule_refused}
use Rattle.wires.proofs.Looks.{heads_agree, least_none, least_some, least_smallest}
use Rattle.wires.proofs.installer.look_agrees.Goals as goal

pub returns : goal.returns
returns c = record {
  lines = λ n lent. heads_agree n (n * line_places) lent;
  pool = λ n lent. heads_agree n pool_places lent;
  clear = λ n m ws. least_none (memory_refused n m) (rule_refused n ws);
  told = λ n m ws. least_some (memory_refused n m) (rule_refused n ws);
  smallest = λ n m ws. least_smallest (memory_refused n m) (rule_refused n ws);
}
