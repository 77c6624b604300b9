-- That freed places are used again.
use Rattle.claims.proofs.Keeping.{used_again}
use Rattle.claims.proofs.laws.freed_places_are_used_again.Goals as goal

pub returns : goal.returns
returns c = used_again
