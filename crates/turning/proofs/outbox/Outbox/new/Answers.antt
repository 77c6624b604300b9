use Rattle.queue.proofs.Turns.{contents_cleared}
use Rattle.turning.proofs.outbox.Outbox.new.Goals as goal

pub returns : goal.returns
returns c = contents_cleared c.new.result _ c.new.ensures
