-- That an element counts by what the test says of it.
use Rattle.std.proofs.Common.{refl, rules, tests}
use Rattle.std.proofs.lemmas.Fn.{says_at}
use Rattle.books.proofs.search.fn.count_where.map.Goals as goal

pub returns : goal.returns
returns g c = (c.test.result, says_at g.F.Fn c.test.ensures refl, search (rules, tests))
