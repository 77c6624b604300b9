-- That a book never holds more entries than it has places.
use Rattle.entry_laws.proofs.Keeping.{never_full}
use Rattle.entry_laws.proofs.laws.never_over_full.Goals as goal

pub returns : goal.returns
returns c = never_full
