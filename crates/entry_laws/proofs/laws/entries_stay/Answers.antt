-- That entries stay.
use Rattle.entry_laws.proofs.Keeping.{all_stay}
use Rattle.entry_laws.proofs.laws.entries_stay.Goals as goal

pub returns : goal.returns
returns c = all_stay
