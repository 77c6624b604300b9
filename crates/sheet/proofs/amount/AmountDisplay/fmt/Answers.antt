use Rattle.std.proofs.Common.{◌/◌, ◌%◌, ◌++◌, ◌∷◌, ap, ◌∙◌, subst, arith}
use Rattle.std.specs.Fmt.{HasWritten, styled_decimal}
use Rattle.sheet.specs.Amounts.{units}
use Rattle.sheet.proofs.Padding.{amount_written}
use Rattle.sheet.proofs.amount.AmountDisplay.fmt.Goals as goal

pub returns-clause-writes : goal.returns-clause-writes
returns-clause-writes g c =
    λ plain ok.
    let n = c.args.self.now.0 in
    subst (λ bs. HasWritten g.W.Write.write_str_gives c.args.f.now bs c.write.new.self)
    (ap (λ k. units (n / 100) ++ (46 ∷ styled_decimal c.laid_out.result k)) (omega arith)
    ∙ ap (λ s. units (n / 100) ++ (46 ∷ styled_decimal s (n % 100))) c.laid_out.ensures ∙ amount_written n) (c.write.ensures.writes plain ok)
