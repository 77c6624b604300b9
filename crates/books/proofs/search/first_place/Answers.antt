-- That the search finds the first place.
use Rattle.std.proofs.Common.{arith}
use Rattle.std.proofs.lemmas.Iterator.{YieldsList-from_slice}
use Rattle.std.proofs.lemmas.Iterator.Search.{position_from_yields_List}
use Rattle.books.proofs.Searches.{told}
use Rattle.books.proofs.search.first_place.Goals as goal

pub returns : goal.returns
returns g c =
    λ p tells.
    let e = position_from_yields_List p _ _ _ c.position.ensures.ran (YieldsList-from_slice c.args.items.now cc) (λ x b q k. told g.F.Fn g.met.F.FnMut.1 g.met.F.Fn.1 _ p tells x b q k.met) in
    grind (arith, e)
