-- That what stands at the first place is the first element.
use Rattle.std.proofs.Common.{◌≡◌, ◌∙◌, sym, arith}
use Rattle.std.proofs.lemmas.Grind.{common_steps}
use Rattle.std.proofs.lemmas.Option.{gets}
use Rattle.std.specs.List.{slice_get}
use Rattle.books.proofs.Searches.{first_read, first_none}
use Rattle.books.proofs.search.find_first.Goals as goal

pub returns-in_err-place : goal.returns-in_err-place
returns-in_err-place g c = λ p tells. c.from_residual.ensures ∙ first_none p c.args.items.now (sym c.in_err-place.was ∙ c.first_place.ensures p tells)

pub returns : goal.returns
returns g c =
    λ p tells.
    let read : c.copied.result ≡ slice_get c.args.items.now c.in_ok-place.place = grind (arith, common_steps, gets) in
    read ∙ first_read p c.args.items.now c.in_ok-place.place (sym c.in_ok-place.was ∙ c.first_place.ensures p tells)
