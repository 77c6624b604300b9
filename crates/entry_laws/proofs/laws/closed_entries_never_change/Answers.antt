-- That closed entries never change.
use Rattle.entry_laws.proofs.Keeping.{closed_never_change}
use Rattle.entry_laws.proofs.laws.closed_entries_never_change.Goals as goal

pub returns : goal.returns
returns c = closed_never_change
