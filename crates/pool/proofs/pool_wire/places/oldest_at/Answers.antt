use Rattle.std.proofs.Common.{◌≡◌, true, false, rules, tests}
use Rattle.std.proofs.lemmas.Iterator.{YieldsList-from_slice, IsFirst-from_position}
use Rattle.vote.specs.Mask.{has}
use Rattle.pool.specs.declared.place.Place.{Place}
use Rattle.pool.proofs.Searches.{oldest_found}
use Rattle.pool.proofs.pool_wire.places.oldest_at.Goals as goal

pub returns : goal.returns
returns g c =
    oldest_found c.args.station c.args.pool.now c.position.result
    (IsFirst-from_position _ _ _ (λ (p : Place g.row.T.Denot). has p.waits c.args.station ≡ true) (λ p. has p.waits c.args.station ≡ false) c.position.ensures.ran (YieldsList-from_slice c.args.pool.now cc)
    (λ x q k. search (rules, tests)) (λ x q k. search (rules, tests)))
