use Rattle.std.proofs.Common.{◌/◌, ◌%◌, ◌^◌, ◌-◌, ◌++◌, ◌∷◌, decimal, ap, ◌∙◌, subst, arith}
use Rattle.std.specs.Fmt.{HasWritten, format_spec, styled_decimal}
use Rattle.sheet.proofs.Padding.{thousands_written, millions_written}
use Rattle.sheet.proofs.amount.UnitsDisplay.fmt.Goals as goal

pub returns-then-millions-eq0-clause-writes : goal.returns-then-millions-eq0-clause-writes
returns-then-millions-eq0-clause-writes g c =
    λ plain ok.
    let n = c.args.self.now.0 in
    subst (λ bs. HasWritten g.W.Write.write_str_gives c.args.f.now bs c.write-then-millions-eq0.new.self)
    (ap (λ s. decimal (n / 1000) ++ (44 ∷ styled_decimal s (n % 1000))) c.laid_out.ensures ∙ thousands_written n (omega (arith, c.if-thousands-eq0.false)) (omega (arith, c.if-millions-eq0.true)))
    (c.write-then-millions-eq0.ensures.writes plain ok)

pub returns-else-millions-eq0-clause-writes : goal.returns-else-millions-eq0-clause-writes
returns-else-millions-eq0-clause-writes g c =
    λ plain ok.
    let n = c.args.self.now.0 in
    subst (λ bs. HasWritten g.W.Write.write_str_gives c.args.f.now bs c.write-else-millions-eq0.new.self)
    (ap (λ s. decimal (n / 1000 / 1000) ++ (44 ∷ (styled_decimal s (n / 1000 % 1000) ++ (44 ∷ styled_decimal c.laid_out-else-millions-eq0-2.result (n % 1000))))) c.laid_out-else-millions-eq0.ensures
    ∙ ap (λ s. decimal (n / 1000 / 1000) ++ (44 ∷ (styled_decimal (format_spec 32 0 4 3 (2 ^ 64 - 1)) (n / 1000 % 1000) ++ (44 ∷ styled_decimal s (n % 1000))))) c.laid_out-else-millions-eq0-2.ensures
    ∙ millions_written n (omega (arith, c.if-millions-eq0.false)))
    (c.write-else-millions-eq0.ensures.writes plain ok)
