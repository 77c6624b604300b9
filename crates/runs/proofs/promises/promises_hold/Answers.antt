use Rattle.runs.proofs.promises.promises_hold.Goals as goal
use Rattle.runs.proofs.Promised.{promises}

pub returns : goal.returns
returns g c = promises _
