use Rattle.runs.proofs.examples.calm_example.Goals as goal
use Rattle.runs.proofs.Computed.{calm_example}

pub returns : goal.returns
returns c = calm_example
