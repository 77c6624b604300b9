use Rattle.std.proofs.Common.{arith}
use Rattle.queue.proofs.Turns.{contents_length}
use Rattle.turning.proofs.outbox.Outbox.len.Goals as goal

pub returns-clause-bound : goal.returns-clause-bound
returns-clause-bound c = omega (arith, c.len.ensures, contents_length c.args.self.now.queue c.args.self.now.notes)
