use Rattle.std.proofs.Common.{sym, refl, ◌∙◌, arith}
use Rattle.std.proofs.lemmas.Bool.{le-ltb}
use Rattle.vote.specs.Mask.{has}
use Rattle.vote.specs.Masks.{has_off}
use Rattle.vote.proofs.mask.contains.Goals as goal

pub returns-then-station-lt-MAX_STATIONS : goal.returns-then-station-lt-MAX_STATIONS
unfolding has
returns-then-station-lt-MAX_STATIONS c = refl

pub returns-else-station-lt-MAX_STATIONS : goal.returns-else-station-lt-MAX_STATIONS
returns-else-station-lt-MAX_STATIONS c =
    le-ltb _ _ (omega arith) ∙ sym (has_off 8 c.args.mask c.args.station (omega arith) (omega arith))
