-- That duties are due.
use Rattle.entry_laws.proofs.Keeping.{always_due}
use Rattle.entry_laws.proofs.laws.duties_are_due.Goals as goal

pub returns : goal.returns
returns c = always_due
