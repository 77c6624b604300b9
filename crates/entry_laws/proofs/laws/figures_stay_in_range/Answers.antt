-- That figures stay in range.
use Rattle.entry_laws.proofs.Keeping.{always_in_range}
use Rattle.entry_laws.proofs.laws.figures_stay_in_range.Goals as goal

pub returns : goal.returns
returns c = always_in_range
