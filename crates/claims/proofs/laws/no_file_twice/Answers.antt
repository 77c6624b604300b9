-- That no file is claimed twice.
use Rattle.claims.proofs.Keeping.{never_twice}
use Rattle.claims.proofs.laws.no_file_twice.Goals as goal

pub returns : goal.returns
returns c = never_twice
