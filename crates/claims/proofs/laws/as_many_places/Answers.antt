-- That the number of places stays.
use Rattle.claims.proofs.Keeping.{always_as_many}
use Rattle.claims.proofs.laws.as_many_places.Goals as goal

pub returns : goal.returns
returns c = always_as_many
