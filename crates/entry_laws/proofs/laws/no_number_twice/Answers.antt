-- That no number stands twice.
use Rattle.entry_laws.proofs.Keeping.{never_twice}
use Rattle.entry_laws.proofs.laws.no_number_twice.Goals as goal

pub returns : goal.returns
returns c = never_twice
