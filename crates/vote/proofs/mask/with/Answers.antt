use Rattle.std.proofs.Common.{ltb, sym, ap, ◌∙◌, arith}
use lib.Bits.{bit_or}
use Rattle.std.proofs.lemmas.Nat.{one_shl}
use Rattle.std.proofs.lemmas.Bool.{lt-ltb, le-ltb, cond-true, cond-false}
use Rattle.vote.specs.Mask.{adding}
use Rattle.vote.proofs.mask.with.Goals as goal

pub returns-then-station-lt-MAX_STATIONS : goal.returns-then-station-lt-MAX_STATIONS
unfolding adding
returns-then-station-lt-MAX_STATIONS c =
    ap (bit_or c.args.mask) (one_shl c.args.station 8 (omega arith))
    ∙ sym (cond-true (ltb c.args.station 8) _ _ (lt-ltb _ 8 (omega arith)))

pub returns-else-station-lt-MAX_STATIONS : goal.returns-else-station-lt-MAX_STATIONS
unfolding adding
returns-else-station-lt-MAX_STATIONS c = sym (cond-false (ltb c.args.station 8) _ _ (le-ltb _ 8 (omega arith)))
