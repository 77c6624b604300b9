-- That the places that wait for the station are counted, and that their number fits.
use Rattle.std.proofs.Common.{ℕ, ◌^◌, cond, rules, tests, sym, ◌∙◌, arith}
use Rattle.std.proofs.lemmas.Iterator.{YieldsList-from_slice, YieldsList-from_map}
use Rattle.std.proofs.lemmas.Iterator.Consumers.{sum_by_from_yields_List, fits_by_from_yields_list}
use Rattle.std.proofs.lemmas.List.Sums.{length-filter, count_by-le-length}
use Rattle.vote.specs.Mask.{has}
use Rattle.pool.specs.declared.place.Place.{Place}
use Rattle.pool.proofs.Searches.{line_length}
use Rattle.pool.proofs.pool_wire.places.line_len.Goals as goal

pub sum-requires-clause-fits : goal.sum-requires-clause-fits
sum-requires-clause-fits g c =
    let one : Place g.row.T.Denot → ℕ = λ p. cond (has p.waits c.args.station) 1 0 in
    let few = count_by-le-length (λ (p : Place g.row.T.Denot). has p.waits c.args.station) c.args.pool.now in
    fits_by_from_yields_list one c.args.pool.now c.map.result (2 ^ 64)
    (YieldsList-from_map _ one (YieldsList-from_slice c.args.pool.now cc) c.map.ensures.closure (λ x r q k. search (rules, tests)))
    (omega (arith, few, c.iter.ensures.bound))

pub returns : goal.returns
returns g c =
    let one : Place g.row.T.Denot → ℕ = λ p. cond (has p.waits c.args.station) 1 0 in
    sum_by_from_yields_List one c.args.pool.now c.map.result _ c.sum.ensures.ran
    (YieldsList-from_map _ one (YieldsList-from_slice c.args.pool.now cc) c.map.ensures.closure (λ x r q k. search (rules, tests)))
    ∙ sym (length-filter (λ (p : Place g.row.T.Denot). has p.waits c.args.station) c.args.pool.now)
    ∙ line_length c.args.station c.args.pool.now
