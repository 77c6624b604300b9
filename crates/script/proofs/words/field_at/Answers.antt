-- A field and the place of the next one.
use Rattle.std.proofs.Common.{refl, rules}
use Rattle.std.proofs.lemmas.Option.{MatchOption-at_some}
use Rattle.std.proofs.Common.{◌∙◌, sym}
use Rattle.std.proofs.lemmas.List.{take_rest}
use Rattle.script.proofs.Cuts.{joined}
use Rattle.script.proofs.words.field_at.Goals as goal

pub returns : goal.returns
returns c =
    let part = MatchOption-at_some _ _ c.in_ok-get.field-0 c.in_ok-get.was c.get.ensures.lookup.0 in
    let cuts = MatchOption-at_some _ _ c.in_ok-after.field-0 c.in_ok-after.was c.cut.ensures.whole in
    (refl, refl, c.cut.ensures.free, c.cut-2.ensures.free, joined c.args.line.now _ _ c.in_ok-after.field-0.now c.args.at c.cut-2.result.1 c.map-next.result (sym (take_rest c.args.line.now c.args.at) ∙ sym part.2 ∙ cuts) c.cut-2.ensures.whole (search rules))
