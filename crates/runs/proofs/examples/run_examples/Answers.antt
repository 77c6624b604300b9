use Rattle.runs.proofs.examples.run_examples.Goals as goal
use Rattle.runs.proofs.Computed.{run_examples}

pub returns : goal.returns
returns c = run_examples
