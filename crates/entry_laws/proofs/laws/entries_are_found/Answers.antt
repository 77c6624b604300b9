-- That each entry is found by its number.
use Rattle.entry_laws.proofs.Keeping.{all_found}
use Rattle.entry_laws.proofs.laws.entries_are_found.Goals as goal

pub returns : goal.returns
returns c = all_found
